-- The edges of a slot, port by port.
use Rattle.std.proofs.Common.{ℕ, zero, suc, ◌≡◌, ◌≢◌, ◌+◌, ◌-◌, ◌*◌, ◌/◌, ◌%◌, ◌^◌, ◌<◌, ◌≤◌, Bool, true, false, cond, eqb, List, [], ◌∷◌, ◌++◌, length, get_or, set, map, take, drop, refl, ap, sym, subst, ◌∙◌, inl, inr, arith}
use Rattle.std.proofs.lemmas.Bool.{cases_lt, false≢true, cond-true, cond-false, cases_eq, eq-eqb, ne_eqb}
use Rattle.std.proofs.lemmas.Nat.{div-add-mod'}
use Rattle.std.proofs.lemmas.Nat.Bits.{bit_at-zero}
use Rattle.std.proofs.lemmas.List.{get_or_past, append-nil, append_assoc, map-append, set-get_or, drop_more, drop_all, take_all, take_more_set, drop-set-lt}
use Rattle.xs_base.specs.Ids.{port_width}
use Rattle.xs_model.specs.declared.clock.Clock.{Clock}
use Rattle.xs_model.specs.declared.clock.Clock.TheVariants.{Reference, Block}
use Rattle.xs_model.specs.declared.clock.Edge.{Edge}
use Rattle.xs_model.specs.declared.clock.Edge.TheVariants as edge
use Rattle.xs_model.specs.declared.event.Event.{Event}
use Rattle.xs_model.specs.Masks.{in_mask}
use Rattle.xs_model.specs.Outside.{Emitted, in_slot, LevelsFit, LevelsFitFrom}
use Rattle.xs_model.specs.Record.{PortRec, ClockRec, off_port, off_clock}
use Rattle.xs_model.specs.Time.{edge_at, edge_in_period, period}
use Rattle.xs_model.specs.Ports.{Edged, unchanged, at_edge, port_edge, edge_in_slot, edges_from, edged_before, PortsEdged, pin_happens, level_of, is_high}
use Rattle.buffered_ports.specs.Asks.{port_at}
use Rattle.single_port.specs.Keeps.{ServesAs}
use Rattle.buffered_ports.specs.Keeps.{HighAre, IsEdged, TellsOne}

-- ---- The levels of pins

level_fits_from : (p : ℕ) (levels : List ℕ) (i : ℕ) → i < length levels → LevelsFitFrom p levels → get_or levels i 0 < 2 ^ port_width (p + i)
level_fits_from p [] i within fit = absurd (omega arith)
level_fits_from p (level ∷ levels) zero within fit =
    let same : p ≡ p + 0 = omega arith in
    subst (λ q. level < 2 ^ port_width q) same fit.0
level_fits_from p (level ∷ levels) (suc i) within fit =
    let same : p + 1 + i ≡ p + suc i = omega arith in
    subst (λ q. get_or levels i 0 < 2 ^ port_width q) same (level_fits_from (p + 1) levels i (omega arith) fit.1)

pub level_fits : (levels : List ℕ) (p : ℕ) → p < length levels → LevelsFit levels → get_or levels p 0 < 2 ^ port_width p
level_fits levels p within fit =
    let same : 0 + p ≡ p = omega arith in
    subst (λ q. get_or levels p 0 < 2 ^ port_width q) same (level_fits_from 0 levels p within fit)

-- ---- Port by port

-- the edges of the ports below p were done: with those of the rest, what they left is all that the edges leave, and what
-- happened is all that happens
pub record Reached (slot : ℕ) (clocks : List ClockRec) (before levels : List ℕ) (old now : List PortRec) (first events : List Event) (p : ℕ) : Type 0 where
  pub ports : take p now ++ (edges_from slot clocks before p (drop p now) (drop p levels)).ports ≡ (edges_from slot clocks before 0 old levels).ports
  pub happened : events ++ map (in_slot slot) (edges_from slot clocks before p (drop p now) (drop p levels)).happened ≡ first ++ map (in_slot slot) (edges_from slot clocks before 0 old levels).happened

module _ (slot : ℕ) (clocks : List ClockRec) (before levels : List ℕ) (old : List PortRec) (first : List Event) where
  pub reached_none : Reached slot clocks before levels old old first first 0
  reached_none = record { ports = refl; happened = refl }

  -- the edge of port p, and those of the rest
  next_edge : (now : List PortRec) (p : ℕ) → p < length now → p < length levels → edges_from slot clocks before p (drop p now) (drop p levels) ≡ edged_before p (edge_in_slot slot clocks before p (port_at now p) (get_or levels p 0)) (edges_from slot clocks before (p + 1) (drop (p + 1) now) (drop (p + 1) levels))
  unfolding edges_from
  next_edge now p within known =
      ap (λ ports. edges_from slot clocks before p ports (drop p levels)) (drop_more now p off_port within)
      ∙ ap (edges_from slot clocks before p (port_at now p ∷ drop (p + 1) now)) (drop_more levels p 0 known)

  -- it is done
  pub reached_more : (now : List PortRec) (events : List Event) (p : ℕ) (edged : Edged) → p < length now → p < length levels → edged ≡ edge_in_slot slot clocks before p (port_at now p) (get_or levels p 0) → Reached slot clocks before levels old now first events p → Reached slot clocks before levels old (set now p edged.port) first (events ++ map (in_slot slot) (pin_happens p edged.change)) (p + 1)
  reached_more now events p edged within known is so_far =
      let rest : PortsEdged = edges_from slot clocks before (p + 1) (drop (p + 1) now) (drop (p + 1) levels) in
      let next : edges_from slot clocks before p (drop p now) (drop p levels) ≡ edged_before p edged rest =
      next_edge now p within known ∙ ap (λ e. edged_before p e rest) (sym is)
      in
      let same_rest : edges_from slot clocks before (p + 1) (drop (p + 1) (set now p edged.port)) (drop (p + 1) levels) ≡ rest =
      ap (λ ports. edges_from slot clocks before (p + 1) ports (drop (p + 1) levels)) (drop-set-lt (p + 1) now p edged.port (omega arith))
      in
      record {
        ports = ap (λ (r : PortsEdged). take (p + 1) (set now p edged.port) ++ r.ports) same_rest
            ∙ ap (λ done. done ++ rest.ports) (take_more_set now p edged.port within)
            ∙ append_assoc (take p now) (edged.port ∷ []) rest.ports
            ∙ ap (λ (r : PortsEdged). take p now ++ r.ports) (sym next)
            ∙ so_far.ports;
        happened = ap (λ (r : PortsEdged). (events ++ map (in_slot slot) (pin_happens p edged.change)) ++ map (in_slot slot) r.happened) same_rest
            ∙ append_assoc events (map (in_slot slot) (pin_happens p edged.change)) (map (in_slot slot) rest.happened)
            ∙ ap (λ more. events ++ more) (sym (map-append (in_slot slot) (pin_happens p edged.change) rest.happened))
            ∙ ap (λ (r : PortsEdged). events ++ map (in_slot slot) r.happened) (sym next)
            ∙ so_far.happened;
      }

  -- a port that has no edge is passed
  pub reached_past : (now : List PortRec) (events : List Event) (p : ℕ) → p < length now → p < length levels → edge_in_slot slot clocks before p (port_at now p) (get_or levels p 0) ≡ unchanged (port_at now p) → Reached slot clocks before levels old now first events p → Reached slot clocks before levels old now first events (p + 1)
  reached_past now events p within known idle so_far =
      let more : Reached slot clocks before levels old (set now p (port_at now p)) first (events ++ []) (p + 1) = reached_more now events p (unchanged (port_at now p)) within known (sym idle) so_far in
      subst (λ ports. Reached slot clocks before levels old ports first events (p + 1)) (set-get_or now p off_port) (subst (λ all. Reached slot clocks before levels old (set now p (port_at now p)) first all (p + 1)) (append-nil events) more)

  -- and so are some in a row
  pub reached_on : (n : ℕ) (now : List PortRec) (events : List Event) (p : ℕ) → p + n ≤ length now → p + n ≤ length levels → ((k : ℕ) → p ≤ k → k < p + n → edge_in_slot slot clocks before k (port_at now k) (get_or levels k 0) ≡ unchanged (port_at now k)) → Reached slot clocks before levels old now first events p → Reached slot clocks before levels old now first events (p + n)
  reached_on zero now events p within known idle so_far = subst (Reached slot clocks before levels old now first events) (omega arith) so_far
  reached_on (suc n) now events p within known idle so_far =
      subst (Reached slot clocks before levels old now first events) (omega arith)
      (reached_on n now events (p + 1) (omega (arith, within)) (omega (arith, known)) (λ k above below. idle k (omega (arith, above)) (omega (arith, below)))
      (reached_past now events p (omega (arith, within)) (omega (arith, known)) (idle p (omega arith) (omega arith)) so_far))

  pub reached_to : (now : List PortRec) (events : List Event) (p q : ℕ) → p ≤ q → q ≤ length now → q ≤ length levels → ((k : ℕ) → p ≤ k → k < q → edge_in_slot slot clocks before k (port_at now k) (get_or levels k 0) ≡ unchanged (port_at now k)) → Reached slot clocks before levels old now first events p → Reached slot clocks before levels old now first events q
  reached_to now events p q upward within known idle so_far =
      let there : p + (q - p) ≡ q = omega (arith, upward) in
      subst (Reached slot clocks before levels old now first events) there (reached_on (q - p) now events p (omega (arith, there, within)) (omega (arith, there, known)) (λ k above below. idle k above (omega (arith, below, there))) so_far)

  -- until all are done
  none_left : (p : ℕ) (rest : List ℕ) → edges_from slot clocks before p [] rest ≡ record { ports = []; happened = [] }
  unfolding edges_from
  none_left p rest = refl

  pub all_ports : (now : List PortRec) (events : List Event) (p : ℕ) → length now ≤ p → Reached slot clocks before levels old now first events p → now ≡ (edges_from slot clocks before 0 old levels).ports
  all_ports now events p all so_far =
      let none : edges_from slot clocks before p (drop p now) (drop p levels) ≡ record { ports = []; happened = [] } =
      ap (λ ports. edges_from slot clocks before p ports (drop p levels)) (drop_all p now all) ∙ none_left p (drop p levels)
      in
      sym (append-nil now) ∙ ap (λ done. done ++ []) (sym (take_all p now all)) ∙ ap (λ (r : PortsEdged). take p now ++ r.ports) (sym none) ∙ so_far.ports

  pub all_events : (now : List PortRec) (events : List Event) (p : ℕ) → length now ≤ p → Reached slot clocks before levels old now first events p → events ≡ first ++ map (in_slot slot) (edges_from slot clocks before 0 old levels).happened
  all_events now events p all so_far =
      let none : edges_from slot clocks before p (drop p now) (drop p levels) ≡ record { ports = []; happened = [] } =
      ap (λ ports. edges_from slot clocks before p ports (drop p levels)) (drop_all p now all) ∙ none_left p (drop p levels)
      in
      sym (append-nil events) ∙ ap (λ (r : PortsEdged). events ++ map (in_slot slot) r.happened) (sym none) ∙ so_far.happened

-- ---- Ports without an edge, and one with an edge

pub off_is_idle : (slot : ℕ) (clocks : List ClockRec) (before : List ℕ) (p : ℕ) (port : PortRec) (outside : ℕ) → port.on ≡ false → edge_in_slot slot clocks before p port outside ≡ unchanged port
off_is_idle slot clocks before p port outside off = cond-false port.on _ _ off

pub on_has_edge : (slot : ℕ) (clocks : List ClockRec) (before : List ℕ) (p : ℕ) (port : PortRec) (outside : ℕ) → port.on ≡ true → at_edge (port_width p) (edge_at clocks port.clock slot) (level_of port.driven outside) (is_high before port.strobe) port ≡ edge_in_slot slot clocks before p port outside
on_has_edge slot clocks before p port outside on = sym (cond-true port.on _ _ on)

pub one_edge : (slot : ℕ) (clocks : List ClockRec) (before levels : List ℕ) (old now new : List PortRec) (first events told : List Event) (p : ℕ) (e : Edge) → p < length now → p < length levels → (port_at now p).on ≡ true → e ≡ edge_at clocks (port_at now p).clock slot → new ≡ set now p (at_edge (port_width p) e (level_of (port_at now p).driven (get_or levels p 0)) (is_high before (port_at now p).strobe) (port_at now p)).port → told ≡ events ++ map (in_slot slot) (pin_happens p (at_edge (port_width p) e (level_of (port_at now p).driven (get_or levels p 0)) (is_high before (port_at now p).strobe) (port_at now p)).change) → Reached slot clocks before levels old now first events p → Reached slot clocks before levels old new first told (p + 1)
one_edge slot clocks before levels old now new first events told p e within known on is left happened so_far =
    let edged : Edged = at_edge (port_width p) e (level_of (port_at now p).driven (get_or levels p 0)) (is_high before (port_at now p).strobe) (port_at now p) in
    let its : edged ≡ edge_in_slot slot clocks before p (port_at now p) (get_or levels p 0) =
    ap (λ e. at_edge (port_width p) e (level_of (port_at now p).driven (get_or levels p 0)) (is_high before (port_at now p).strobe) (port_at now p)) is ∙ on_has_edge slot clocks before p (port_at now p) (get_or levels p 0) on
    in
    let more : Reached slot clocks before levels old (set now p edged.port) first (events ++ map (in_slot slot) (pin_happens p edged.change)) (p + 1) =
    reached_more slot clocks before levels old first now events p edged within known its so_far
    in
    subst (λ ports. Reached slot clocks before levels old ports first told (p + 1)) (sym left) (subst (λ all. Reached slot clocks before levels old (set now p edged.port) first all (p + 1)) (sym happened) more)

-- in odd slots no clock has an edge
odd_period : (half slot : ℕ) → slot % 2 ≡ 1 → edge_in_period (4 * half) slot ≡ edge.None
odd_period half slot odd =
    let split : slot / (4 * half) * (4 * half) + slot % (4 * half) ≡ slot = div-add-mod' slot (4 * half) in
    let even : slot / (4 * half) * (4 * half) ≡ 4 * (slot / (4 * half) * half) = omega arith in
    let no_rise : slot % (4 * half) ≢ 0 = λ e. omega (arith, odd, split, even, e) in
    let no_fall : slot % (4 * half) ≢ 4 * half / 2 = λ e. omega (arith, odd, split, even, e) in
    cond-false _ _ _ (ne_eqb _ _ no_rise) ∙ cond-false _ _ _ (ne_eqb _ _ no_fall)

odd_block : (running : Bool) (divider slot : ℕ) → slot % 2 ≡ 1 → cond running (edge_in_period (period divider) slot) edge.None ≡ edge.None
odd_block false divider slot odd = refl
odd_block true divider slot odd =
    elim (cases_eq divider 0) [
      | inl none ↦ ap (λ p. edge_in_period p slot) (cond-true (eqb divider 0) 4 (8 * divider) (eq-eqb divider 0 none)) ∙ odd_period 1 slot odd
      | inr some ↦
          let twice : 8 * divider ≡ 4 * (2 * divider) = omega arith in
          ap (λ p. edge_in_period p slot) (cond-false (eqb divider 0) 4 (8 * divider) (ne_eqb divider 0 some) ∙ twice) ∙ odd_period (2 * divider) slot odd
    ]

pub odd_edge : (clocks : List ClockRec) (clock : Clock) (slot : ℕ) → slot % 2 ≡ 1 → edge_at clocks clock slot ≡ edge.None
odd_edge clocks Reference slot odd = odd_period 1 slot odd
odd_edge clocks (Block k) slot odd = odd_block (get_or clocks k off_clock).running (get_or clocks k off_clock).divider slot odd

either : {A : Type 0} (b : Bool) (x : A) → cond b x x ≡ x
either true x = refl
either false x = refl

pub odd_is_idle : (slot : ℕ) (clocks : List ClockRec) (before : List ℕ) (p : ℕ) (port : PortRec) (outside : ℕ) → slot % 2 ≡ 1 → edge_in_slot slot clocks before p port outside ≡ unchanged port
odd_is_idle slot clocks before p port outside odd =
    ap (λ e. port_edge (port_width p) e (level_of port.driven outside) (is_high before port.strobe) port) (odd_edge clocks port.clock slot odd)
    ∙ either port.on (unchanged port)

-- ---- Serving threads

pub serves_as_itself : (port : PortRec) → ServesAs port port
serves_as_itself port = record { output = refl; transfer = refl; shift = refl }

-- no edge is as one that changes nothing
pub not_edged : (p : ℕ) (ports : List PortRec) → IsEdged p false ports ports
not_edged p ports = record { others = λ k other. refl; count = λ long. long; same = λ same. serves_as_itself (port_at ports p) }

pub tells_nothing : (out : Emitted) → TellsOne out out
tells_nothing out = record { rest = refl; room = omega arith }

pub tells_one : (old new : Emitted) → new ≡ record old { events = new.events } → length new.events ≤ length old.events + 1 → TellsOne old new
tells_one old new rest room = record { rest = rest; room = room }

-- port p may serve them otherwise after its edge, and the others as before
pub still_serve : (old now new : List PortRec) (p : ℕ) → port_at now p ≡ port_at old p → ServesAs (port_at now p) (port_at new p) → ((k : ℕ) → k ≢ p → port_at new k ≡ port_at now k) → ((k : ℕ) → ServesAs (port_at old k) (port_at now k)) → (k : ℕ) → ServesAs (port_at old k) (port_at new k)
still_serve old now new p was here there all k =
    elim (cases_eq k p) [
      | inl e ↦ subst (λ i. ServesAs (port_at old i) (port_at new i)) (sym e) (subst (λ before. ServesAs before (port_at new p)) was here)
      | inr other ↦ subst (ServesAs (port_at old k)) (sym (there k other)) (all k)
    ]

-- ---- All ports that are on, the lowest first

pub on_is_port : (ports : List PortRec) (p : ℕ) → (port_at ports p).on ≡ true → p < length ports
on_is_port ports p on =
    elim (cases_lt p (length ports)) [
      | inl within ↦ within
      | inr past ↦ absurd (false≢true (sym (ap (λ (port : PortRec). port.on) (get_or_past ports p off_port past)) ∙ on))
    ]

-- the ports below one number had their edges, and those from it on that are on are the bits of a mask
pub record Going (slot : ℕ) (clocks : List ClockRec) (levels : List ℕ) (high : ℕ) (old now : List PortRec) (first : Emitted) (out : Emitted) (rest : ℕ) (differs : Bool) : Type 0 where
  pub done : ℕ
  pub most : done ≤ 29
  pub count : length now ≡ 29
  pub on : (k : ℕ) → k < 32 → done ≤ k → in_mask rest k ≡ (port_at now k).on
  pub passed : (k : ℕ) → k < done → in_mask rest k ≡ false
  pub others : (k : ℕ) → done ≤ k → port_at now k ≡ port_at old k
  pub reached : (before : List ℕ) → HighAre high old before → Reached slot clocks before levels old now first.events out.events done
  pub kept : out ≡ record first { events = out.events }
  pub room : length out.events ≤ length first.events + done
  pub serve : differs ≡ false → (k : ℕ) → ServesAs (port_at old k) (port_at now k)

-- the lowest bit of the mask is the next port that is on: up to it the edges were done
pub record IsNextOn (slot : ℕ) (clocks : List ClockRec) (levels : List ℕ) (high : ℕ) (old now : List PortRec) (first out : Emitted) (p : ℕ) : Type 0 where
  pub port : p < 29
  pub on : (port_at now p).on ≡ true
  pub reached : (before : List ℕ) → HighAre high old before → Reached slot clocks before levels old now first.events out.events p

pub not_passed : (mask n p : ℕ) → in_mask mask p ≡ true → ((k : ℕ) → k < n → in_mask mask k ≡ false) → n ≤ p
not_passed mask n p is passed =
    elim (cases_lt p n) [
      | inl below ↦ absurd (false≢true (sym (passed p below) ∙ is))
      | inr above ↦ above
    ]

pub next_on : (slot : ℕ) (clocks : List ClockRec) (levels : List ℕ) (high : ℕ) (old now : List PortRec) (first out : Emitted) (rest : ℕ) (differs : Bool) (p : ℕ) → length levels ≡ 29 → p < 32 → in_mask rest p ≡ true → ((k : ℕ) → k < p → in_mask rest k ≡ false) → Going slot clocks levels high old now first out rest differs → IsNextOn slot clocks levels high old now first out p
next_on slot clocks levels high old now first out rest differs p known below is least going =
    let above : going.done ≤ p = not_passed rest going.done p is going.passed in
    let on : (port_at now p).on ≡ true = sym (going.on p below above) ∙ is in
    let port : p < length now = on_is_port now p on in
    record {
      port = omega (arith, port, going.count);
      on = on;
      reached = λ before its. reached_to slot clocks before levels old first.events now out.events going.done p above (omega (arith, port)) (omega (arith, port, going.count, known))
          (λ k from to. off_is_idle slot clocks before k (port_at now k) (get_or levels k 0) (sym (going.on k (omega (arith, to, below)) from) ∙ least k to)) (going.reached before its);
    }

-- ---- Where no port has an edge

-- what is there is what the edges leave, and nothing happens
pub record NoneEdged (slot : ℕ) (clocks : List ClockRec) (before levels : List ℕ) (ports : List PortRec) (events : List Event) : Type 0 where
  pub ports_stay : ports ≡ (edges_from slot clocks before 0 ports levels).ports
  pub nothing : events ≡ events ++ map (in_slot slot) (edges_from slot clocks before 0 ports levels).happened

pub none_edged : (slot : ℕ) (clocks : List ClockRec) (before levels : List ℕ) (ports : List PortRec) (events : List Event) → length ports ≡ 29 → length levels ≡ 29
    → ((p : ℕ) (outside : ℕ) → p < 29 → edge_in_slot slot clocks before p (port_at ports p) outside ≡ unchanged (port_at ports p)) → NoneEdged slot clocks before levels ports events
none_edged slot clocks before levels ports events count known idle =
    let done : Reached slot clocks before levels ports ports events events 29 =
    reached_to slot clocks before levels ports events ports events 0 29 (omega arith) (omega (arith, count)) (omega (arith, known)) (λ k above below. idle k (get_or levels k 0) below) (reached_none slot clocks before levels ports events)
    in
    record {
      ports_stay = all_ports slot clocks before levels ports events ports events 29 (omega (arith, count)) done;
      nothing = all_events slot clocks before levels ports events ports events 29 (omega (arith, count)) done;
    }

-- where the mask is empty, all edges were done
pub all_reached : (slot : ℕ) (clocks : List ClockRec) (before levels : List ℕ) (high : ℕ) (old now : List PortRec) (first out : Emitted) (rest : ℕ) (differs : Bool) → length levels ≡ 29 → HighAre high old before → rest ≡ 0 → Going slot clocks levels high old now first out rest differs → Reached slot clocks before levels old now first.events out.events 29
all_reached slot clocks before levels high old now first out rest differs known its none going =
    reached_to slot clocks before levels old first.events now out.events going.done 29 going.most (omega (arith, going.count)) (omega (arith, known))
    (λ k from to. off_is_idle slot clocks before k (port_at now k) (get_or levels k 0) (sym (going.on k (omega (arith, to)) from) ∙ ap (λ mask. in_mask mask k) none ∙ ap (λ b. eqb b 1) (bit_at-zero k))) (going.reached before its)

-- what is left of the mask after the edge of port p
pub mask_left : (rest less p : ℕ) (now new : List PortRec) → ((k : ℕ) → k < 32 → in_mask less k ≡ cond (eqb k p) false (in_mask rest k)) → ((k : ℕ) → k ≢ p → port_at new k ≡ port_at now k) → ((k : ℕ) → k < 32 → p ≤ k → in_mask rest k ≡ (port_at now k).on) → (k : ℕ) → k < 32 → p + 1 ≤ k → in_mask less k ≡ (port_at new k).on
mask_left rest less p now new written others on k below above =
    let other : k ≢ p = λ e. omega (arith, e, above) in
    written k below ∙ cond-false (eqb k p) _ _ (ne_eqb k p other) ∙ on k below (omega (arith, above)) ∙ ap (λ (port : PortRec). port.on) (sym (others k other))

pub none_below : (rest less p : ℕ) → p < 32 → ((k : ℕ) → k < 32 → in_mask less k ≡ cond (eqb k p) false (in_mask rest k)) → ((k : ℕ) → k < p → in_mask rest k ≡ false) → (k : ℕ) → k < p + 1 → in_mask less k ≡ false
none_below rest less p within written least k below =
    elim (cases_eq k p) [
      | inl e ↦ written k (omega (arith, below, within)) ∙ cond-true (eqb k p) _ _ (eq-eqb k p e)
      | inr other ↦ written k (omega (arith, below, within)) ∙ cond-false (eqb k p) _ _ (ne_eqb k p other) ∙ least k (omega (arith, below, other))
    ]
