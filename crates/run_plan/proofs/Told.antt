-- Pins that are told what comes by wires.
use Rattle.std.proofs.Common.{◌≡◌, ◌≢◌, ℕ, zero, suc, ◌<◌, true, false, eqb, List, [], ◌∷◌, length, get_or, refl, sym, ap, ◌∙◌, subst, arith, inl, inr}
use mathlib.Core.Logic.{◌⊎◌}
use Rattle.std.specs.Prelude.{slice_set}
use Rattle.std.specs.List.{AllByRecursion, AllZip}
use Rattle.std.proofs.lemmas.Bool.{cases_Bool, eqb-true, eqb-false}
use Rattle.std.proofs.lemmas.List.{get_or-map, get_or-set_same, get_or-set_other, map-set, length-map, length-set}
use Rattle.xs_base.specs.Numbers.{Slot, Word, Position, PortNumber}
use Rattle.xs_model.specs.Record.{CoreRec}
use Rattle.sys_plan.specs.Plan.{AreDistinct}
use Rattle.node_seats.specs.declared.pins.Pins.{Pins}
use Rattle.node_seats.specs.declared.seat.Seat.{Seat}
use Rattle.node_seats.specs.Shown.{IsShown}
use Rattle.run_plan.specs.declared.wire.Wire.{Wire}
use Rattle.run_plan.specs.declared.station.Station.{Station}
use Rattle.run_plan.specs.Wires.{HasCome, WireGoesOn, target, targets}
use Rattle.run_plan.specs.Passes.{SameButCome, IsShownAt, WireAdvances, cores_of, driven_by, levels_of}
use Rattle.run_plan.proofs.Through.{all-zip}

-- ---- One pin

same-come : (slot : Slot) (station : Station) → SameButCome slot station station
same-come slot station = record { seat = refl; incoming = refl; due = refl; script = refl; number = refl; wired = refl; shown = λ h. h; noted = λ h. h }

pub none-told : (slot : Slot) (stations : List Station) → AllZip (SameButCome slot) stations stations
none-told slot [] = tt
none-told slot (station ∷ stations) = (same-come slot station, none-told slot stations)

pub one-told : (slot : Slot) (stations : List Station) (k : ℕ) (d after : Station) → k < length stations → SameButCome slot (get_or stations k d) after → AllZip (SameButCome slot) stations (slice_set stations k after)
one-told slot [] k d after inside told = absurd (omega arith)
one-told slot (station ∷ stations) zero d after inside told = (told, none-told slot stations)
one-told slot (station ∷ stations) (suc k) d after inside told = (same-come slot station, one-told slot stations k d after (omega arith) told)

pub told-twice : (slot : Slot) (a b c : List Station) → AllZip (SameButCome slot) a b → AllZip (SameButCome slot) b c → AllZip (SameButCome slot) a c
told-twice slot [] [] [] p q = tt
told-twice slot [] [] (z ∷ c) p q = absurd q
told-twice slot [] (y ∷ b) c p q = absurd p
told-twice slot (x ∷ a) [] c p q = absurd p
told-twice slot (x ∷ a) (y ∷ b) [] p q = absurd q
told-twice slot (x ∷ a) (y ∷ b) (z ∷ c) p q =
    let s = p.0 in
    let t = q.0 in (
      record {
        seat = t.seat ∙ s.seat;
        incoming = t.incoming ∙ s.incoming;
        due = t.due ∙ s.due;
        script = t.script ∙ s.script;
        number = t.number ∙ s.number;
        wired = t.wired ∙ s.wired;
        shown = λ h. t.shown (s.shown h);
        noted = λ h. t.noted (s.noted h);
      },
      told-twice slot a b c p.1 q.1,
    )

pub told-shown : (slot : Slot) (stations after : List Station) → AllZip (SameButCome slot) stations after → AllByRecursion (IsShownAt slot) stations → AllByRecursion (IsShownAt slot) after
told-shown slot stations after = all-zip (SameButCome slot) (IsShownAt slot) (IsShownAt slot) (λ x y s h. s.shown h) stations after

-- the cores stay
pub cores-told : (slot : Slot) (stations after : List Station) → AllZip (SameButCome slot) stations after → cores_of after ≡ cores_of stations
cores-told slot [] [] same = refl
cores-told slot [] (y ∷ after) same = absurd same
cores-told slot (x ∷ stations) [] same = absurd same
cores-told slot (x ∷ stations) (y ∷ after) same =
    let here = ap (λ (s : Seat). s.core.core) same.0.seat in
    let rest = cores-told slot stations after same.1 in
    λ i. here i ∷ rest i

-- a level that comes to one pin
module _ (levels : List (List Word)) (k : Position) (port : PortNumber) (level : Word) (mine : List Word) (inside : k < length levels) (there : port < length (get_or levels k []))
    (put : mine ≡ slice_set (get_or levels k []) port level) where
  pub come-now : (wire : Wire) → wire.to ≡ k → wire.to_port ≡ port → wire.level ≡ level → HasCome (slice_set levels k mine) wire
  come-now wire to to_port is =
      (λ i. get_or (get_or (slice_set levels k mine) (to i) []) (to_port i) 0)
      ∙ ap (λ (ls : List Word). get_or ls port 0) (get_or-set_same levels k mine [] inside ∙ put)
      ∙ get_or-set_same (get_or levels k []) port level 0 there
      ∙ sym is

  -- at the others the levels stay
  pub come-others : (other : Wire) → (target other ≡ (k, port) → ⊥) → HasCome levels other → HasCome (slice_set levels k mine) other
  come-others other apart come = by_test (cases_Bool (eqb other.to k))
    where
      by_test : (eqb other.to k ≡ true) ⊎ (eqb other.to k ≡ false) → HasCome (slice_set levels k mine) other
      by_test (inr elsewhere) =
          ap (λ (ls : List Word). get_or ls other.to_port 0) (get_or-set_other levels k other.to mine [] (eqb-false other.to k elsewhere)) ∙ come
      by_test (inl same) =
          let to = eqb-true other.to k same in
          ap (λ n. get_or (get_or (slice_set levels k mine) n []) other.to_port 0) to
          ∙ ap (λ (ls : List Word). get_or ls other.to_port 0) (get_or-set_same levels k mine [] inside ∙ put)
          ∙ get_or-set_other (get_or levels k []) port other.to_port level 0 (λ p. apart (λ i. (to i, p i)))
          ∙ ap (λ n. get_or (get_or levels n []) other.to_port 0) (sym to)
          ∙ come

-- ---- All wires

pub rest-told : (levels after : List (List Word)) (t : ℕ × ℕ) → ((other : Wire) → (target other ≡ t → ⊥) → HasCome levels other → HasCome after other) → (wires : List Wire)
    → AllByRecursion (λ y. t ≢ y) (targets wires) → AllByRecursion (HasCome levels) wires → AllByRecursion (HasCome after) wires
rest-told levels after t others [] apart come = tt
rest-told levels after t others (w ∷ wires) apart come = (others w (λ same. apart.0 (sym same)) come.0, rest-told levels after t others wires apart.1 come.1)

pub apart-at : (t : ℕ × ℕ) (wires : List Wire) (i : ℕ) (d : Wire) → AllByRecursion (λ y. t ≢ y) (targets wires) → i < length wires → t ≡ target (get_or wires i d) → ⊥
apart-at t [] i d apart inside same = omega arith
apart-at t (w ∷ wires) zero d apart inside same = apart.0 same
apart-at t (w ∷ wires) (suc i) d apart inside same = apart-at t wires i d apart.1 (omega arith) same

-- the wire at a place has told its pin, and the others show what they showed
pub all-told : (levels after : List (List Word)) (wires : List Wire) (i : ℕ) (d now : Wire) → ((other : Wire) → (target other ≡ target (get_or wires i d) → ⊥) → HasCome levels other → HasCome after other)
    → HasCome after now → i < length wires → AreDistinct (targets wires) → AllByRecursion (HasCome levels) wires → AllByRecursion (HasCome after) (slice_set wires i now)
all-told levels after [] i d now others here inside apart come = absurd (omega arith)
all-told levels after (w ∷ wires) zero d now others here inside apart come = (here, rest-told levels after (target w) others wires apart.0 come.1)
all-told levels after (w ∷ wires) (suc i) d now others here inside apart come = (
  others w (apart-at (target w) wires i d apart.0 (omega arith)) come.0,
  all-told levels after wires i d now others here (omega arith) apart.1 come.1,
)

-- what the nodes drive makes this of a wire
abbrev pub GoesBy : Slot → List CoreRec → Wire → Wire → Type 0
GoesBy slot cores before after = WireGoesOn slot (driven_by cores before.from before.from_port) before after

pub advances-all : (slot : Slot) (cores : List CoreRec) (levels : List (List Word)) (wires after : List Wire) → AllZip (GoesBy slot cores) wires after → AllByRecursion (HasCome levels) after
    → AllZip (WireAdvances slot cores levels) wires after
advances-all slot cores levels [] [] on come = tt
advances-all slot cores levels [] (y ∷ after) on come = absurd on
advances-all slot cores levels (x ∷ wires) [] on come = absurd on
advances-all slot cores levels (x ∷ wires) (y ∷ after) on come = (record { on = on.0; come = come.0 }, advances-all slot cores levels wires after on.1 come.1)

-- ---- One wire

-- what a wire that goes on makes of the pins at its second end
pub record TellsPin (slot : Slot) (stations stations_after : List Station) (before after : Wire) : Type 0 where
  pub come : HasCome (levels_of stations_after) after
  pub others : (other : Wire) → (target other ≡ target before → ⊥) → HasCome (levels_of stations) other → HasCome (levels_of stations_after) other
  pub same : AllZip (SameButCome slot) stations stations_after

module _ (slot : Slot) (stations : List Station) (before after : Wire) (to : after.to ≡ before.to) (to_port : after.to_port ≡ before.to_port) where
  -- nothing comes
  pub tells-nothing : after.level ≡ before.level → HasCome (levels_of stations) before → TellsPin slot stations stations before after
  tells-nothing level come = record {
    come = (λ i. get_or (get_or (levels_of stations) (to i) []) (to_port i) 0) ∙ come ∙ sym level;
    others = λ other apart h. h;
    same = none-told slot stations;
  }

  -- a level comes, and these are the pins then
  module _ (d : Station) (pins : Pins) (inside : after.to < length stations) (port : after.to_port < 29) (script : pins.script ≡ (get_or stations after.to d).pins.script)
      (number : pins.number ≡ (get_or stations after.to d).pins.number) (wired : pins.wired ≡ (get_or stations after.to d).pins.wired)
      (levels : pins.levels ≡ slice_set (get_or stations after.to d).pins.levels after.to_port after.level) (ports : length pins.levels ≡ 29) (shown : IsShown slot pins) (due : pins.next ≡ slot) where
    pub tells-level : TellsPin slot stations (slice_set stations after.to (record (get_or stations after.to d) { pins = pins })) before after
    tells-level =
        let k = after.to in
        let station = get_or stations k d in
        let now = record station { pins = pins } in
        let all = levels_of stations in
        let set = map-set (λ (s : Station). s.pins.levels) stations k now in
        let within : k < length all = omega (arith, inside, length-map stations (λ (s : Station). s.pins.levels)) in
        let at = get_or-map (λ (s : Station). s.pins.levels) stations k d [] inside in
        let put = levels ∙ ap (λ (ls : List Word). slice_set ls after.to_port after.level) (sym at) in
        let there : after.to_port < length (get_or all k []) =
        omega (arith, port, ports, ap (λ (ls : List Word). length ls) put, length-set (get_or all k []) after.to_port after.level) in
        record {
          come = subst (λ (ls : List (List Word)). HasCome ls after) (sym set) (come-now all k after.to_port after.level pins.levels within there put after refl refl refl);
          others = λ other apart h.
              subst (λ (ls : List (List Word)). HasCome ls other) (sym set)
              (come-others all k after.to_port after.level pins.levels within there put other (λ same. apart (same ∙ (λ i. (to i, to_port i)))) h);
          same =
              one-told slot stations k d now inside
              (record { seat = refl; incoming = refl; due = refl; script = script; number = number; wired = wired; shown = λ _. shown; noted = λ _ less. absurd (omega (arith, less, due)) });
        }
