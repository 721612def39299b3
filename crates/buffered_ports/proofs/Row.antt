-- The ports in their places, beside their masks: one of them is replaced.
use Rattle.std.proofs.Common.{ℕ, ◌≡◌, ◌≢◌, ◌<◌, ◌≤◌, Bool, true, false, cond, eqb, not, ◌&&◌, Option, None, ◌^◌, List, ◌+◌, ◌++◌, length, get_or, set, map, take, drop, refl, ap, sym, subst, ◌∙◌, inl, inr, arith}
use Rattle.std.specs.Prelude.{◌==◌, ◌||◌, nat_lt, is_some, IfSome}
use mathlib.Core.Logic.{◌⊎◌}
use Rattle.std.proofs.lemmas.Bool.{cases_Bool, cond-true, cond-false, cases_lt, cases_eq, eq-eqb, ne_eqb}
use Rattle.std.proofs.lemmas.List.{append-nil, length-append, length-take, length-drop, take_all, drop_all, length-set, length-map, map-set, get_or-map, get_or_past, get_or_default, get_or-set_same, get_or-set_other}
use Rattle.std.proofs.lemmas.List.Edits.{map_over_more}
use Rattle.xs_base.specs.Ids.{port_width}
use Rattle.xs_model.specs.Masks.{in_mask}
use Rattle.xs_model.specs.Choices.{port_is_ready}
use Rattle.xs_model.specs.PortActions.{restarted}
use Rattle.xs_model.specs.Record.{PortRec, off_port}
use Rattle.xs_model.specs.Ports.{rises}
use Rattle.quiet_model.specs.Still.{port_is_still}
use Rattle.buffered_ports.specs.Asks.{port_at}
use Rattle.buffered_ports.specs.Keeps.{IsEdged}
use Rattle.single_port.specs.Keeps.{PortOf, IsPlaced, IsPlain, ServesAs, KeepsRole}
use Rattle.buffered_ports.specs.Row.{no_place, place_at, ports_in, row, IsRow}
use Rattle.buffered_ports.specs.declared.ports.Ports.TheInside.{Inside}

-- ---- What stands in a place

pub at_place : (places : List PortOf) (p : ℕ) → port_at (ports_in places) p ≡ (place_at places p).port
at_place places p =
    elim (cases_lt p (length places)) [
      | inl within ↦ get_or-map (λ that. that.port) places p no_place off_port within
      | inr past ↦ get_or_past (ports_in places) p off_port (omega (arith, past, length-map places (λ (that : PortOf). that.port))) ∙ ap (λ (that : PortOf). that.port) (sym (get_or_past places p no_place past))
    ]

-- what was read of a place, at any default
pub read : (places : List PortOf) (now : List PortRec) (p : ℕ) (r : PortOf) → ports_in places ≡ now → p < length places → (get_or places p r).port ≡ port_at now p
read places now p r is within =
    ap (λ (that : PortOf). that.port) (get_or_default places p r no_place within) ∙ sym (at_place places p) ∙ ap (λ ports. port_at ports p) is

-- by its width too, where it is on
pub read_on : {A : Type 0} (f : ℕ → PortRec → A) (places : List PortOf) (now : List PortRec) (p : ℕ) (r : PortOf) → ports_in places ≡ now → p < length places → IsPlaced p (place_at places p) → (port_at now p).on ≡ true → f (get_or places p r).width (get_or places p r).port ≡ f (port_width p) (port_at now p)
read_on f places now p r is within placed on =
    let here : get_or places p r ≡ place_at places p = get_or_default places p r no_place within in
    let port : (get_or places p r).port ≡ port_at now p = read places now p r is within in
    let is_on : (place_at places p).port.on ≡ true = ap (λ (q : PortRec). q.on) (sym (ap (λ (that : PortOf). that.port) here) ∙ port) ∙ on in
    let width : (get_or places p r).width ≡ port_width p = ap (λ (that : PortOf). that.width) here ∙ placed is_on in
    ap (λ w. f w (get_or places p r).port) width ∙ ap (f (port_width p)) port

-- what a port drives fits the port of its number, since one that is off drives nothing
pub drives_here : (driven : Option ℕ) (places : List PortOf) (now : List PortRec) (p : ℕ) (r : PortOf) → p < length places → IsPlaced p (place_at places p)
    → IfSome driven (λ v. v < 2 ^ (get_or places p r).width) → ((get_or places p r).port.on ≡ false → driven ≡ None) → IfSome driven (λ v. v < 2 ^ port_width p)
drives_here driven places now p r within placed fits off = by (cases_Bool (get_or places p r).port.on)
  where
    here : get_or places p r ≡ place_at places p
    here = get_or_default places p r no_place within

    by : ((get_or places p r).port.on ≡ true) ⊎ ((get_or places p r).port.on ≡ false) → IfSome driven (λ v. v < 2 ^ port_width p)
    by (inl on) =
        let width : (get_or places p r).width ≡ port_width p = ap (λ (that : PortOf). that.width) here ∙ placed (ap (λ (that : PortOf). that.port.on) (sym here) ∙ on) in
        subst (λ w. IfSome driven (λ v. v < 2 ^ w)) width fits
    by (inr is) = subst (λ o. IfSome o (λ v. v < 2 ^ port_width p)) (sym (off is)) tt

-- ---- One is replaced

pub replaced : (places : List PortOf) (now : List PortRec) (p : ℕ) (that : PortOf) (port : PortRec) → ports_in places ≡ now → that.port ≡ port → ports_in (set places p that) ≡ set now p port
replaced places now p that port is e =
    map-set (λ (t : PortOf). t.port) places p that ∙ ap (λ ports. set ports p that.port) is ∙ ap (set now p) e

pub port_here : (places : List PortOf) (p : ℕ) (that : PortOf) → p < length places → port_at (ports_in (set places p that)) p ≡ that.port
port_here places p that within =
    at_place (set places p that) p ∙ ap (λ (t : PortOf). t.port) (get_or-set_same places p that no_place within)

pub port_there : (places : List PortOf) (p q : ℕ) (that : PortOf) → q ≢ p → port_at (ports_in (set places p that)) q ≡ port_at (ports_in places) q
port_there places p q that other =
    at_place (set places p that) q ∙ ap (λ (t : PortOf). t.port) (get_or-set_other places p q that no_place other) ∙ sym (at_place places q)

-- ---- Masks

-- a mask says this of port p, and of others what it said
pub record IsNoted (new old p : ℕ) (holds : Bool) : Type 0 where
  pub its : in_mask new p ≡ holds
  pub others : (k : ℕ) → k < 32 → k ≢ p → in_mask new k ≡ in_mask old k

pub by_bit : (new old p : ℕ) (holds : Bool) → p < 32 → ((k : ℕ) → k < 32 → in_mask new k ≡ cond (k == p) holds (in_mask old k)) → IsNoted new old p holds
by_bit new old p holds within written = record {
  its = written p within ∙ cond-true (eqb p p) _ _ (eq-eqb p p refl);
  others = λ k below other. written k below ∙ cond-false (eqb k p) _ _ (ne_eqb k p other);
}

pub as_it_was : (mask p : ℕ) (holds : Bool) → in_mask mask p ≡ holds → IsNoted mask mask p holds
as_it_was mask p holds is = record { its = is; others = λ k below other. refl }

-- where nothing differs for threads, a port is ready where it was
still_ready : (before after : PortRec) → ServesAs before after → port_is_ready before ≡ port_is_ready after
still_ready before after same =
    ap (λ output. not output && is_some before.transfer) (sym same.output) ∙ ap (λ full. not after.output && full) (sym same.transfer)

pub where_it_differs : (differs : Bool) (new old p : ℕ) (before after : PortRec) (holds : Bool) → holds ≡ port_is_ready after → in_mask old p ≡ port_is_ready before → (differs ≡ false → ServesAs before after) → (differs ≡ true → in_mask new p ≡ holds) → (differs ≡ false → new ≡ old) → ((k : ℕ) → k < 32 → k ≢ p → in_mask new k ≡ in_mask old k) → IsNoted new old p (port_is_ready after)
where_it_differs true new old p before after holds is was same its unchanged others = record { its = its refl ∙ is; others = others }
where_it_differs false new old p before after holds is was same its unchanged others = record {
  its = ap (λ mask. in_mask mask p) (unchanged refl) ∙ was ∙ still_ready before after (same refl);
  others = others;
}

still_exact : (new old p : ℕ) (f : PortRec → Bool) (places : List PortOf) (that : PortOf) → p < length places → IsNoted new old p (f that.port) → ((k : ℕ) → k < 32 → in_mask old k ≡ f (port_at (ports_in places) k)) → (k : ℕ) → k < 32 → in_mask new k ≡ f (port_at (ports_in (set places p that)) k)
still_exact new old p f places that within noted exact k below =
    elim (cases_eq k p) [
      | inl e ↦ ap (in_mask new) e ∙ noted.its ∙ ap f (sym (port_here places p that within)) ∙ ap (λ i. f (port_at (ports_in (set places p that)) i)) (sym e)
      | inr other ↦ noted.others k below other ∙ exact k below ∙ ap f (sym (port_there places p k that other))
    ]

still_plain : (new old p : ℕ) (places : List PortOf) (that : PortOf) → p < length places → ((k : ℕ) → k < 32 → k ≢ p → in_mask new k ≡ in_mask old k) → (in_mask new p ≡ true → IsPlain that.port) → ((k : ℕ) → k < 32 → in_mask old k ≡ true → IsPlain (port_at (ports_in places) k)) → (k : ℕ) → k < 32 → in_mask new k ≡ true → IsPlain (port_at (ports_in (set places p that)) k)
still_plain new old p places that within others its plain k below is =
    elim (cases_eq k p) [
      | inl e ↦ subst IsPlain (sym (port_here places p that within) ∙ ap (port_at (ports_in (set places p that))) (sym e)) (its (sym (ap (in_mask new) e) ∙ is))
      | inr other ↦ subst IsPlain (sym (port_there places p k that other)) (plain k below (sym (others k below other) ∙ is))
    ]

still_placed : (places : List PortOf) (p : ℕ) (that : PortOf) → p < length places → IsPlaced p that → ((q : ℕ) → IsPlaced q (place_at places q)) → (q : ℕ) → IsPlaced q (place_at (set places p that) q)
still_placed places p that within placed all q =
    elim (cases_eq q p) [
      | inl e ↦ subst (λ i. IsPlaced i (place_at (set places p that) i)) (sym e) (subst (IsPlaced p) (sym (get_or-set_same places p that no_place within)) placed)
      | inr other ↦ subst (IsPlaced q) (sym (get_or-set_other places p q that no_place other)) (all q)
    ]

-- it is not still
abbrev pub moves : PortRec → Bool
moves port = not (port_is_still port)

-- the row with port p replaced, and masks that have it
pub row_replaced : (c : Inside) (p : ℕ) (that : PortOf) (on ready strobed moving plain : ℕ) → IsRow c → p < 29 → IsPlaced p that
    → IsNoted on c.on p that.port.on → IsNoted ready c.ready p (port_is_ready that.port) → IsNoted strobed c.strobed p (is_some that.port.strobe)
    → IsNoted moving c.moving p (moves that.port) → ((k : ℕ) → k < 32 → k ≢ p → in_mask plain k ≡ in_mask c.plain k)
    → (in_mask plain p ≡ true → IsPlain that.port)
    → IsRow (record { ports = set c.ports p that; on = on; ready = ready; strobed = strobed; moving = moving; plain = plain })
row_replaced c p that on ready strobed moving plain is within placed on_noted ready_noted strobed_noted moving_noted others is_plain =
    let inside : p < length c.ports = omega (arith, within, is.count) in
    record {
      count = length-set c.ports p that ∙ is.count;
      placed = still_placed c.ports p that inside placed is.placed;
      masks = record {
        on = still_exact on c.on p (λ (port : PortRec). port.on) c.ports that inside on_noted is.masks.on;
        ready = still_exact ready c.ready p port_is_ready c.ports that inside ready_noted is.masks.ready;
        strobed = still_exact strobed c.strobed p (λ (port : PortRec). is_some port.strobe) c.ports that inside strobed_noted is.masks.strobed;
        moving = still_exact moving c.moving p moves c.ports that inside moving_noted is.masks.moving;
        plain = still_plain plain c.plain p c.ports that inside others is_plain is.masks.plain;
      };
    }

-- the port that stands in the place of one that is replaced
pub port_now : (now : List PortRec) (p : ℕ) (port : PortRec) → p < length now → port_at (set now p port) p ≡ port
port_now now p port within = get_or-set_same now p port off_port within

-- where one port was put in its place, the others are as before
pub is_edged : (p : ℕ) (differs : Bool) (old new : List PortRec) (port : PortRec) → new ≡ set old p port → (differs ≡ false → ServesAs (port_at old p) (port_at new p)) → IsEdged p differs old new
is_edged p differs old new port is serves = record {
  others = λ k other. ap (λ ports. port_at ports k) is ∙ get_or-set_other old p k port off_port other;
  count = λ long. ap length is ∙ length-set old p port ∙ long;
  same = serves;
}

-- ---- Whether a port moves

-- an edge after which it serves threads as before leaves it still where it was
pub still_moves : (before after : PortRec) → KeepsRole before after → ServesAs before after → moves after ≡ moves before
still_moves before after role same =
    ap (λ on. not (not on || (after.output && not (nat_lt 0 (length after.shift))))) role.on
    ∙ ap (λ output. not (not before.on || (output && not (nat_lt 0 (length after.shift))))) role.output
    ∙ ap (λ bits. not (not before.on || (before.output && not bits))) same.shift

-- in direction input it moves
pub input_moves : (port : PortRec) → port.on ≡ true → port.output ≡ false → moves port ≡ true
input_moves port on output =
    ap (λ on. not (not on || (port.output && not (nat_lt 0 (length port.shift))))) on
    ∙ ap (λ output. not (output && not (nat_lt 0 (length port.shift)))) output

-- and a rising edge of the others does nothing
pub rise_moves : (width level : ℕ) (high output : Bool) (before after : PortRec) → before.on ≡ true → before.output ≡ output
    → after ≡ rises width level high before → KeepsRole before after → moves after ≡ moves before
rise_moves width level high true before after on output is role = ap moves (is ∙ cond-true before.output _ _ output)
rise_moves width level high false before after on output is role =
    input_moves after (role.on ∙ on) (role.output ∙ output) ∙ sym (input_moves before on output)

was_moving : (c : Inside) (p : ℕ) (r : PortOf) → IsRow c → p < 29 → in_mask c.moving p ≡ moves (get_or c.ports p r).port
was_moving c p r is within =
    is.masks.moving p (omega (arith, within)) ∙ ap moves (sym (read c.ports (row c) p r refl (omega (arith, within, is.count))))

pub moving_stays : (c : Inside) (p : ℕ) (r that : PortOf) → IsRow c → p < 29 → moves that.port ≡ moves (get_or c.ports p r).port → IsNoted c.moving c.moving p (moves that.port)
moving_stays c p r that is within same = as_it_was c.moving p (moves that.port) (was_moving c p r is within ∙ sym same)

pub moving_differs : (c : Inside) (p moving : ℕ) (r that : PortOf) (differs still : Bool) → IsRow c → p < 29 → still ≡ port_is_still that.port
    → (differs ≡ false → moves that.port ≡ moves (get_or c.ports p r).port) → (differs ≡ true → in_mask moving p ≡ not still)
    → (differs ≡ false → moving ≡ c.moving) → ((k : ℕ) → k < 32 → k ≢ p → in_mask moving k ≡ in_mask c.moving k)
    → IsNoted moving c.moving p (moves that.port)
moving_differs c p moving r that true still is within its same noted unchanged others = record { its = noted refl ∙ ap not its; others = others }
moving_differs c p moving r that false still is within its same noted unchanged others = record {
  its = ap (λ mask. in_mask mask p) (unchanged refl) ∙ was_moving c p r is within ∙ sym (same refl);
  others = others;
}

-- ---- An edge at port p

-- the row after it, where only whether the port is ready, and whether it moves, may be noted anew
pub row_edged : (c : Inside) (p ready moving : ℕ) (r that : PortOf) (differs holds : Bool) → IsRow c → p < 29
    → that.width ≡ (get_or c.ports p r).width → KeepsRole (get_or c.ports p r).port that.port
    → (differs ≡ false → ServesAs (get_or c.ports p r).port that.port) → holds ≡ port_is_ready that.port → (differs ≡ true → in_mask ready p ≡ holds)
    → (differs ≡ false → ready ≡ c.ready) → ((k : ℕ) → k < 32 → k ≢ p → in_mask ready k ≡ in_mask c.ready k)
    → (IsPlain (get_or c.ports p r).port → IsPlain that.port) → IsNoted moving c.moving p (moves that.port)
    → IsRow (record { ports = set c.ports p that; on = c.on; ready = ready; strobed = c.strobed; moving = moving; plain = c.plain })
row_edged c p ready moving r that differs holds is within width role same its_ready noted unchanged others plain moving_noted =
    let inside : p < length c.ports = omega (arith, within, is.count) in
    let below : p < 32 = omega (arith, within) in
    let was : (get_or c.ports p r).port ≡ port_at (row c) p = read c.ports (row c) p r refl inside in
    let here : get_or c.ports p r ≡ place_at c.ports p = get_or_default c.ports p r no_place inside in
    row_replaced c p that c.on ready c.strobed moving c.plain is within (λ on.
    width ∙ ap (λ (t : PortOf). t.width) here ∙ is.placed p (ap (λ (t : PortOf). t.port.on) (sym here) ∙ sym role.on ∙ on)) (as_it_was c.on p that.port.on (is.masks.on p below ∙ ap (λ (port : PortRec). port.on) (sym was) ∙ sym role.on)) (where_it_differs differs ready c.ready p (get_or c.ports p r).port that.port holds its_ready (is.masks.ready p below ∙ ap port_is_ready (sym was)) same noted unchanged others) (as_it_was c.strobed p (is_some that.port.strobe) (is.masks.strobed p below ∙ ap (λ (port : PortRec). is_some port.strobe) (sym was) ∙ ap (λ strobe. is_some strobe) (sym role.strobe)))
    moving_noted
    (λ k below other. refl)
    (λ noted. plain (subst IsPlain (sym was) (is.masks.plain p below noted)))

pub serves_now : (places : List PortOf) (now : List PortRec) (p : ℕ) (r that : PortOf) → ports_in places ≡ now → p < length places → ServesAs (get_or places p r).port that.port → ServesAs (port_at now p) (port_at (ports_in (set places p that)) p)
serves_now places now p r that is within same =
    subst (λ before. ServesAs before (port_at (ports_in (set places p that)) p)) (read places now p r is within) (subst (ServesAs (get_or places p r).port) (sym (port_here places p that within)) same)

-- ---- All of them

pub row_length : (c : Inside) (now : List PortRec) → row c ≡ now → IsRow c → length now ≡ 29
row_length c now view is = ap (length {A = PortRec}) (sym view) ∙ length-map c.ports (λ (that : PortOf). that.port) ∙ is.count

pub restarted_more : (k p : ℕ) (old now : List PortRec) → p < length old → now ≡ map (restarted k) (take p old) ++ drop p old → set now p (restarted k (port_at now p)) ≡ map (restarted k) (take (p + 1) old) ++ drop (p + 1) old
restarted_more k p old now within is =
    let all : length now ≡ length old = ap (length {A = PortRec}) is ∙ omega (arith, within, length-append (map (restarted k) (take p old)) (drop p old), length-map (take p old) (restarted k), length-take p old, length-drop p old) in
    map_over_more (restarted k) old now p (port_at now p) within is (get_or_default now p off_port (port_at now p) (omega (arith, within, all)))

pub all_restarted : (k p : ℕ) (old now : List PortRec) → length old ≤ p → now ≡ map (restarted k) (take p old) ++ drop p old → now ≡ map (restarted k) old
all_restarted k p old now all is =
    is ∙ ap (λ (below : List PortRec). map (restarted k) below ++ drop p old) (take_all p old all) ∙ ap (λ (rest : List PortRec). map (restarted k) old ++ rest) (drop_all p old all) ∙ append-nil (map (restarted k) old)
