-- What came by wires to the pins of nodes is what the wires of the plan show there.
use Rattle.std.proofs.Common.{◌≡◌, ℕ, suc, ◌+◌, true, false, cond, Some, List, [], ◌∷◌, ◌++◌, length, map, get_or, refl, sym, ap, ◌∙◌, subst, arith, inl, inr}
use mathlib.Core.Logic.{◌⊎◌}
use Rattle.std.specs.Prelude.{◌==◌}
use Rattle.std.specs.List.{AllByRecursion}
use Rattle.std.proofs.lemmas.Bool.{cases_Bool, eqb-true, and_right, and_parts}
use Rattle.std.proofs.lemmas.Option.{none-some, same_Some}
use Rattle.xs_base.specs.Numbers.{Slot, Word, Position, PortNumber}
use Rattle.xs_base.specs.declared.entry.Entry.{Entry}
use Rattle.xs_model.specs.Record.{NodeRec}
use Rattle.sys_plan.specs.declared.LinkPlan.{LinkPlan}
use Rattle.sys_plan.specs.declared.WirePlan.{WirePlan}
use Rattle.sys_plan.specs.Plan.{PlanRec, Arc, forth, back, link_arcs, wire_arcs, along, first_arc, comes_to_pin, joins_to}
use Rattle.sys_plan.proofs.Told.{delay-of-wire}
use Rattle.serial_model.specs.Serial.{level_on, shown_of}
use Rattle.node_seats.specs.Shown.{HaveComeOn}
use Rattle.run_plan.specs.declared.wire.Wire.{Wire}
use Rattle.run_plan.specs.declared.station.Station.{Station}
use Rattle.run_plan.specs.Wires.{HasCome}
use Rattle.run_plan.specs.Passes.{levels_of}
use Rattle.run_plan.specs.Run.{Tells, AllTell}
use Rattle.run_plan.proofs.Ends.{back-at}

-- none of the arcs of links comes to a pin
past-links : (n : Position) (port : PortNumber) (links : List LinkPlan) (ds : List Arc) (m : ℕ)
    → first_arc (comes_to_pin n port) m (link_arcs links ++ ds) ≡ first_arc (comes_to_pin n port) (m + length (link_arcs links)) ds
past-links n port [] ds m = ap (λ i. first_arc (comes_to_pin n port) i ds) (omega arith)
past-links n port (link ∷ links) ds m =
    let there : comes_to_pin n port (forth link) ≡ false = and_right (link.b == n) false refl in
    let here : comes_to_pin n port (back link) ≡ false = and_right (link.a == n) false refl in
    let on : m + 1 + 1 + length (link_arcs links) ≡ m + length (link_arcs (link ∷ links)) = omega arith in
    rw (there, here) (past-links n port links ds (m + 1 + 1) ∙ ap (λ i. first_arc (comes_to_pin n port) i ds) on)

-- a wire shows in a slot what of it has come by then
abbrev pub ShowsIn : Slot → Wire → Type 0
ShowsIn slot wire = wire.level ≡ level_on wire.shown.value slot wire.delay wire.history.entries

-- what came to the pin to which the wire with a number comes, counted from c
pub record CameBy (shown : List Word) (here : Slot) (level : Word) (ds : List Arc) (histories : List (List Entry)) (c number : ℕ) : Type 0 where
  pub place : ℕ
  pub at : number ≡ c + place
  pub shows : level ≡ level_on (shown_of shown number) here (get_or (map (λ (d : Arc). d.delay) ds) place 0) (get_or histories place [])

module _ (shown : List Word) (nodes : List NodeRec) (here : Slot) (levels : List (List Word)) (n : Position) (port : PortNumber) where
  abbrev mine : Word
  mine = get_or (get_or levels n []) port 0

  at-first : (before : Word) (d : Arc) (wire : Wire) (history : List Entry) → Tells nodes before d wire history → ShowsIn here wire → HasCome levels wire → comes_to_pin n port d ≡ true
      → mine ≡ level_on before here d.delay history
  at-first before d wire history tells shows come is =
      let parts = and_parts (d.to == n) (joins_to port d.joins) is in
      let to : wire.to ≡ n = tells.to ∙ eqb-true d.to n parts.0 in
      let to_port : wire.to_port ≡ port = eqb-true wire.to_port port (sym (ap (joins_to port) tells.joins) ∙ parts.1) in
      (λ i. get_or (get_or levels (sym to i) []) (sym to_port i) 0) ∙ come ∙ shows ∙ (λ i. level_on (tells.shown i) here (tells.delay i) (tells.entries i))

  pub by-wire : (earlier ws : List WirePlan) (wires : List Wire) (histories : List (List Entry)) (c number : ℕ) → AllTell shown nodes c (wire_arcs earlier ws) wires histories → AllByRecursion (ShowsIn here) wires
      → AllByRecursion (HasCome levels) wires → first_arc (comes_to_pin n port) c (wire_arcs earlier ws) ≡ Some number → CameBy shown here mine (wire_arcs earlier ws) histories c number
  by-wire earlier [] [] [] c number tell shows come is = absurd (none-some number is)
  by-wire earlier (w ∷ ws) (wire ∷ wires) (history ∷ histories) c number tell shows come is =
      by_test (cases_Bool (comes_to_pin n port (along earlier w))) is (λ e. by-wire (w ∷ earlier) ws wires histories (c + 1) number tell.1 shows.1 come.1 e)
    where
      by_test : (comes_to_pin n port (along earlier w) ≡ true) ⊎ (comes_to_pin n port (along earlier w) ≡ false) → first_arc (comes_to_pin n port) c (wire_arcs earlier (w ∷ ws)) ≡ Some number
          → (first_arc (comes_to_pin n port) (c + 1) (wire_arcs (w ∷ earlier) ws) ≡ Some number → CameBy shown here mine (wire_arcs (w ∷ earlier) ws) histories (c + 1) number)
          → CameBy shown here mine (wire_arcs earlier (w ∷ ws)) (history ∷ histories) c number
      by_test (inl hit) e further =
          let first : c ≡ number = same_Some c number (ap (λ b. cond b (Some c) (first_arc (comes_to_pin n port) (c + 1) (wire_arcs (w ∷ earlier) ws))) (sym hit) ∙ e) in
          let shows_c = at-first (shown_of shown c) (along earlier w) wire history tell.0 shows.0 come.0 hit in
          record { place = 0; at = omega (arith, first); shows = shows_c ∙ ap (λ m. level_on (shown_of shown m) here (along earlier w).delay history) first }
      by_test (inr miss) e further =
          let more = further (ap (λ b. cond b (Some c) (first_arc (comes_to_pin n port) (c + 1) (wire_arcs (w ∷ earlier) ws))) (sym miss) ∙ e) in
          record { place = suc more.place; at = omega (arith, more.at); shows = more.shows }
  by-wire earlier _ _ _ c number tell shows come is = absurd tell

-- what came to the pins of these nodes, the first of which stands at position n, is what wires show in a slot
abbrev pub AllCame : List Word → PlanRec → List (List Entry) → Slot → Position → List Station → Type 0
AllCame shown plan histories here n [] = Unit {0}
AllCame shown plan histories here n (station ∷ stations) = HaveComeOn shown plan histories n here station.pins.levels × AllCame shown plan histories here (n + 1) stations

module _ (shown : List Word) (plan : PlanRec) (nodes : List NodeRec) (here : Slot) (levels : List (List Word)) (wires : List Wire) (link_histories wire_histories histories : List (List Entry))
    (split : histories ≡ link_histories ++ wire_histories) (long : length link_histories ≡ length (link_arcs plan.links))
    (tell : AllTell shown nodes (length (link_arcs plan.links)) (wire_arcs [] plan.wires) wires wire_histories) (shows : AllByRecursion (ShowsIn here) wires) (come : AllByRecursion (HasCome levels) wires) where
  pub come-at : (n : Position) → HaveComeOn shown plan histories n here (get_or levels n [])
  come-at n = λ port number within is.
      let count : length (link_arcs plan.links) ≡ 0 + length (link_arcs plan.links) = omega arith in
      let told = subst (λ k. AllTell shown nodes k (wire_arcs [] plan.wires) wires wire_histories) count tell in
      let came = by-wire shown nodes here levels n port [] plan.wires wires wire_histories (0 + length (link_arcs plan.links)) number told shows come (sym (past-links n port plan.links (wire_arcs [] plan.wires) 0) ∙ is) in
      let at : number ≡ length (link_arcs plan.links) + came.place = omega (arith, came.at) in
      let history = sym (ap (λ (hs : List (List Entry)). get_or hs number []) split ∙ back-at link_histories wire_histories number came.place [] (omega (arith, at, long))) in
      let delay = delay-of-wire plan number came.place at in
      came.shows ∙ (λ i. level_on (shown_of shown number) here (delay i) (history i))

  came-from : (n : Position) (stations : List Station) → ((k : ℕ) → HaveComeOn shown plan histories (n + k) here (get_or (levels_of stations) k [])) → AllCame shown plan histories here n stations
  came-from n [] h = tt
  came-from n (station ∷ stations) h =
      let first : n + 0 ≡ n = omega arith in (
        subst (λ m. HaveComeOn shown plan histories m here station.pins.levels) first (h 0),
        came-from (n + 1) stations (λ k. let next : n + suc k ≡ n + 1 + k = omega arith in subst (λ m. HaveComeOn shown plan histories m here (get_or (levels_of stations) k [])) next (h (suc k))),
      )

  pub all-came : (stations : List Station) → levels ≡ levels_of stations → AllCame shown plan histories here 0 stations
  all-came stations are =
      came-from 0 stations (λ k. let here_k : k ≡ 0 + k = omega arith in
      subst (λ m. HaveComeOn shown plan histories m here (get_or (levels_of stations) k [])) here_k
      (subst (λ (ls : List (List Word)). HaveComeOn shown plan histories k here (get_or ls k [])) are (come-at k)))
