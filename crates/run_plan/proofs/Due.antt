-- Nodes that are due: at the others nothing arrives.
use Rattle.std.proofs.Common.{◌≡◌, ℕ, zero, suc, ◌+◌, ◌<◌, Bool, true, false, cond, Option, Some, None, List, [], ◌∷◌, length, map, get_or, slice_get, refl, sym, ap, ◌∙◌, subst, arith}
use Rattle.std.specs.Prelude.{slice_set}
use Rattle.std.specs.List.{AllByRecursion, AllZip}
use Rattle.std.proofs.lemmas.Option.{same_Some}
use Rattle.xs_base.specs.declared.entry.Entry.{Entry}
use Rattle.node_seats.specs.declared.seat.Seat.{Seat}
use Rattle.serial_model.specs.Serial.{sent_by}
use Rattle.sys_plan.specs.Plan.{PlanRec, Arc, link_arcs, incoming}
use Rattle.crossings.specs.declared.crossing.Crossing.{Crossing}
use Rattle.crossings.specs.Crossings.{no_crossing}
use Rattle.run_plan.specs.declared.track.Track.{Track}
use Rattle.run_plan.specs.declared.station.Station.{Station}
use Rattle.run_plan.specs.declared.inbound.TheConstants.{NOTHING}
use Rattle.run_plan.specs.Inbound.{incoming_of, arrived_of, arrived_by, arrivals_by}
use Rattle.run_plan.specs.Stations.{taken_by}
use Rattle.run_plan.specs.Tracks.{GoesOn}
use Rattle.run_plan.specs.Passes.{Through, Advances, SameStation, SameTrack, SameButDue, given_at, due_at, IsHeeded}
use Rattle.run_plan.specs.Run.{AllCarry}
use Rattle.run_plan.proofs.Through.{all-zip, through-to, through-more}
use Rattle.run_plan.proofs.Ends.{link-leads, map-ends}

-- what arrives by a directed link makes the node that it leads to due
heeded-at : (stations : List Station) (ds : List Arc) (tracks : List Track) (histories : List (List Entry)) (k : ℕ) (d : Arc) → AllCarry ds tracks histories → AllByRecursion (IsHeeded stations) tracks
    → slice_get ds k ≡ Some d → due_at stations d.to ≡ false → get_or (arrived_of tracks) k no_crossing ≡ no_crossing
heeded-at stations [] [] [] k d carry all h not = refl
heeded-at stations (x ∷ ds) (t ∷ ts) (hist ∷ hists) zero d carry all h not =
    all.0 (ap (due_at stations) (carry.0.to ∙ ap (λ (y : Arc). y.to) (same_Some x d h)) ∙ not)
heeded-at stations (x ∷ ds) (t ∷ ts) (hist ∷ hists) (suc k) d carry all h not = heeded-at stations ds ts hists k d carry.1 all.1 h not
heeded-at stations _ _ _ k d carry all h not = absurd carry

module _ (plan : PlanRec) (tracks : List Track) where
  -- nothing arrives at the node at a position
  abbrev pub IsQuiet : ℕ → Type 0
  IsQuiet n = (end : ℕ) → end < 8 → arrived_by tracks (incoming plan n end) ≡ no_crossing

  -- that is so of those of these nodes that are not due, the first of which stands at position n
  abbrev pub AllQuiet : ℕ → List Station → Type 0
  AllQuiet n [] = Unit {0}
  AllQuiet n (station ∷ stations) = (station.due ≡ false → IsQuiet n) × AllQuiet (n + 1) stations

  quiet-takes : (n : ℕ) → IsQuiet n → arrivals_by tracks (incoming_of plan n) ≡ NOTHING
  quiet-takes n quiet =
      let tokens = map-ends (λ end. (arrived_by tracks (incoming plan n end)).token) (λ end. None) (λ end below. ap (λ (c : Crossing). c.token) (quiet end below)) in
      let credits = map-ends (λ end. (arrived_by tracks (incoming plan n end)).credit) (λ end. false) (λ end below. ap (λ (c : Crossing). c.credit) (quiet end below)) in
      λ i. record { tokens = tokens i; credits = credits i }

  -- a node takes what arrives at it
  pub taken-is : (n : ℕ) (station : Station) → station.incoming.links ≡ incoming_of plan n → (station.due ≡ false → IsQuiet n) → taken_by tracks station ≡ arrivals_by tracks (incoming_of plan n)
  taken-is n station links quiet = by_due station.due refl
    where
      by_due : (b : Bool) → station.due ≡ b → cond b (arrivals_by tracks station.incoming.links) NOTHING ≡ arrivals_by tracks (incoming_of plan n)
      by_due true is = ap (arrivals_by tracks) links
      by_due false not = sym (quiet-takes n (quiet not))

  all-quiet-from : (n : ℕ) (stations : List Station) → ((k : ℕ) → due_at stations k ≡ false → IsQuiet (n + k)) → AllQuiet n stations
  all-quiet-from n [] h = tt
  all-quiet-from n (station ∷ stations) h =
      let first : n + 0 ≡ n = omega arith in (
        λ not. subst IsQuiet first (h 0 not),
        all-quiet-from (n + 1) stations (λ k not. let next : n + suc k ≡ n + 1 + k = omega arith in subst IsQuiet next (h (suc k) not)),
      )

  module _ (stations : List Station) (histories : List (List Entry)) (carry : AllCarry (link_arcs plan.links) tracks histories) (heeded : AllByRecursion (IsHeeded stations) tracks) where
    quiet-at : (n : ℕ) → due_at stations n ≡ false → IsQuiet n
    quiet-at n not = λ end below. by_link end below (incoming plan n end) refl
      where
        by_link : (end : ℕ) → end < 8 → (link : Option ℕ) → incoming plan n end ≡ link → arrived_by tracks link ≡ no_crossing
        by_link end below None e = refl
        by_link end below (Some k) e =
            let leads = link-leads plan n end below k e in
            heeded-at stations (link_arcs plan.links) tracks histories k leads.0 carry heeded leads.1 (ap (due_at stations) leads.2 ∙ not)

    pub all-quiet : AllQuiet 0 stations
    all-quiet = all-quiet-from 0 stations (λ k not. let here : k ≡ 0 + k = omega arith in subst IsQuiet here (quiet-at k not))

-- ---- Where room is made

dues-same : (stations after : List Station) → AllZip SameStation stations after → map (λ (s : Station). s.due) after ≡ map (λ (s : Station). s.due) stations
dues-same [] [] zip = refl
dues-same [] (a ∷ afters) zip = absurd zip
dues-same (s ∷ stations) [] zip = absurd zip
dues-same (s ∷ stations) (a ∷ afters) zip = λ i. zip.0.due i ∷ dues-same stations afters zip.1 i

pub heeded-same : (stations after : List Station) (tracks tracks_after : List Track) → AllZip SameStation stations after → AllZip SameTrack tracks tracks_after → AllByRecursion (IsHeeded stations) tracks → AllByRecursion (IsHeeded after) tracks_after
heeded-same stations after tracks tracks_after zip =
    all-zip SameTrack (IsHeeded stations) (IsHeeded after)
    (λ x y s h.
    let k = subst (IsHeeded stations) (sym s) h in
    λ not. k (ap (λ dues. get_or dues y.to false) (sym (dues-same stations after zip)) ∙ not))
    tracks tracks_after

-- ---- Where a node becomes due

-- it is then
pub due-now : (stations : List Station) (n : ℕ) (station : Station) → n < length stations → due_at (slice_set stations n station) n ≡ station.due
due-now [] n station h = absurd (omega arith)
due-now (s ∷ stations) zero station h = refl
due-now (s ∷ stations) (suc n) station h = due-now stations n station (omega arith)

-- what is not due then was not before
pub due-before : (stations : List Station) (n : ℕ) (station : Station) (m : ℕ) → station.due ≡ true → due_at (slice_set stations n station) m ≡ false → due_at stations m ≡ false
due-before [] n station m due not = not
due-before (s ∷ stations) zero station zero due not = absurd (cc)
due-before (s ∷ stations) zero station (suc m) due not = not
due-before (s ∷ stations) (suc n) station zero due not = not
due-before (s ∷ stations) (suc n) station (suc m) due not = due-before stations n station m due not

true-false : true ≡ false → ⊥
true-false e = cc

-- nothing else changes
pub same-but-due : (before stations : List Station) (n : ℕ) (d : Station) → AllZip SameButDue before stations → AllZip SameButDue before (slice_set stations n (record (get_or stations n d) { due = true }))
same-but-due [] [] n d zip = tt
same-but-due [] (s ∷ stations) n d zip = absurd zip
same-but-due (b ∷ before) [] n d zip = absurd zip
same-but-due (b ∷ before) (s ∷ stations) zero d zip = (record { seat = zip.0.seat; pins = zip.0.pins; incoming = zip.0.incoming }, zip.1)
same-but-due (b ∷ before) (s ∷ stations) (suc n) d zip = (zip.0, same-but-due before stations n d zip.1)

-- what a node gave stays
pub sender-gave : (nodes stations : List Station) (n : ℕ) (d : Station) → AllZip SameButDue nodes stations → n < length stations → (get_or stations n d).seat.given ≡ given_at nodes n
sender-gave [] [] n d zip h = absurd (omega arith)
sender-gave [] (s ∷ stations) n d zip h = absurd zip
sender-gave (x ∷ nodes) [] n d zip h = absurd zip
sender-gave (x ∷ nodes) (s ∷ stations) zero d zip h = ap (λ (seat : Seat). seat.given) zip.0.seat
sender-gave (x ∷ nodes) (s ∷ stations) (suc n) d zip h = sender-gave nodes stations n d zip.1 (omega arith)

-- one more directed link goes on, with something that arrives by it then or not
module _ (slot : ℕ) (nodes stations : List Station) (i : ℕ) (tracks now : List Track) (d after : Track) (so_far : Through (Advances slot nodes stations) i tracks now) (inside : i < length now)
    (on : GoesOn slot (sent_by slot (given_at nodes (get_or now i d).from) (get_or now i d).from_end) (get_or now i d) after) where
  pub on-with-nothing : after.arrived ≡ no_crossing → Through (Advances slot nodes stations) (i + 1) tracks (slice_set now i after)
  on-with-nothing none = through-more (Advances slot nodes stations) i tracks now d after so_far inside (record { on = on; heeded = λ _. none })

  pub on-to-due : (station : Station) → station.due ≡ true → after.to < length stations → Through (Advances slot nodes (slice_set stations after.to station)) (i + 1) tracks (slice_set now i after)
  on-to-due station due there =
      let R = Advances slot nodes (slice_set stations after.to station) in
      let is : due_at (slice_set stations after.to station) after.to ≡ true = due-now stations after.to station there ∙ due in
      let before = through-to (Advances slot nodes stations) R (λ x y a. record { on = a.on; heeded = λ not. a.heeded (due-before stations after.to station y.to due not) }) i tracks now so_far in
      through-more R i tracks now d after before inside (record { on = on; heeded = λ not. absurd (true-false (sym is ∙ not)) })
