-- The ends of one more cell are with their nodes where those before it are, and the other way about.
use Rattle.std.proofs.Common.{◌≡◌, ℕ, ◌+◌, ◌<◌, Bool, eqb, Some, List, [], ◌∷◌, ◌++◌, length, map, replicate, take, get_or, slice_get, refl, sym, ap, ◌∙◌, subst, arith, inl, inr}
use mathlib.Core.Logic.{◌⊎◌}
use Rattle.std.proofs.lemmas.Bool.{cases_eq, eq-eqb, ne_eqb}
use Rattle.std.proofs.lemmas.Option.{same_Some, get_or_from_slice_get, slice_get_within}
use Rattle.std.proofs.lemmas.List.{map-append, length-map, length-set, length-take, length-replicate, length_push, get_or-replicate, get_or-set_same, get_or-set_other, take_more}
use Rattle.atomic_table.specs.Seated.{TableId}
use Rattle.xs_base.specs.Numbers.{EndNumber, Position, LinkNumber}
use Rattle.sys_plan.specs.Plan.{PlanRec, Arc, arcs}
use Rattle.log_cells.specs.Ends.{CellRec}
use Rattle.plan_cells.specs.declared.ends.Outgoing.{Outgoing}
use Rattle.plan_cells.specs.declared.ends.Incoming.{Incoming}
use Rattle.plan_cells.specs.declared.ends.Ends.{Ends}
use Rattle.plan_cells.specs.Ends.{CellsRec, LinkAt, links_by, leaves_at, comes_at, AreNewEnds}
use Rattle.plan_cells.specs.Inside.{Lies, AllLie, OutgoingLie, IncomingLie, from_of, to_of, from_end_of, to_end_of, handed, tables_of, cells_of, outgoing_items, incoming_items, outgoing_of, incoming_of, outgoing_end, incoming_end, Deals, IsDealtOutgoing, IsDealtIncoming, AreDealt, IsCellOf}
use Rattle.plan_cells.proofs.Lists.{some_at, before_push, at_push, same_last, all_give, all_push, all_but_last, map_or_at}
use Rattle.plan_cells.proofs.Links.{one_more, no_more}

-- ---- Of ends of either kind

module _ {X : Type 0} (at : X → LinkAt) (site : Arc → Position) (end : Arc → EndNumber) where
  abbrev here : Position → Arc → Bool
  here n d = eqb (site d) n

  -- before the first arc
  pub none_lie : (Fit : X → Type 0) (count : ℕ) (lists : List (List X)) → lists ≡ replicate count [] → AllLie at site end Fit [] lists
  none_lie Fit count lists are n below =
      let none : List X = [] in
      let inside : n < count = omega (arith, ap (length {A = List X}) are, length-replicate count none) in
      let is : get_or lists n none ≡ none = ap (λ (ls : List (List X)). get_or ls n none) are ∙ get_or-replicate count n none none inside in
      subst (Lies at site end Fit [] n) (sym is) (record { places = refl; fit = tt })

  -- one more arc, whose end is handed to its node
  module _ (Fit Then : X → Type 0) (stays : (y : X) → Fit y → Then y) (ds : List Arc) (d : Arc) (lists : List (List X)) (x : X)
      (all : AllLie at site end Fit ds lists) (at_is : at x ≡ (end d, length ds)) (fit : Then x) (inside : site d < length lists) where
    more_at : (n : Position) → n < length lists → (n ≡ site d) ⊎ (n ≡ site d → ⊥) → Lies at site end Then (ds ++ d ∷ []) n (get_or (handed lists (site d) x) n [])
    more_at n below (inl same) =
        let xs = get_or lists (site d) [] in
        let old = subst (λ j. Lies at site end Fit ds n (get_or lists j [])) same (all n below) in
        let is : get_or (handed lists (site d) x) n [] ≡ xs ++ x ∷ [] = ap (λ j. get_or (handed lists (site d) x) j []) same ∙ get_or-set_same lists (site d) (xs ++ x ∷ []) [] inside in
        let none : length ds ≡ 0 + length ds = omega arith in
        subst (Lies at site end Then (ds ++ d ∷ []) n) (sym is) (record {
          places =
              map-append at xs (x ∷ [])
              ∙ (λ i. old.places i ++ at_is i ∷ [])
              ∙ (λ i. links_by (here n) end 0 ds ++ (end d, none i) ∷ [])
              ∙ sym (one_more (here n) end ds d 0 (eq-eqb (site d) n (sym same)));
          fit = all_push Then xs x (all_give stays xs old.fit) fit;
        })
    more_at n below (inr other) =
        let xs = get_or lists n [] in
        let old = all n below in
        let is : get_or (handed lists (site d) x) n [] ≡ xs = get_or-set_other lists (site d) n (get_or lists (site d) [] ++ x ∷ []) [] other in
        subst (Lies at site end Then (ds ++ d ∷ []) n) (sym is) (record {
          places = old.places ∙ sym (no_more (here n) end ds d 0 (ne_eqb (site d) n (λ (s : site d ≡ n). other (sym s))));
          fit = all_give stays xs old.fit;
        })

    pub more_lie : AllLie at site end Then (ds ++ d ∷ []) (handed lists (site d) x)
    more_lie n below = more_at n (omega (arith, length-set lists (site d) (get_or lists (site d) [] ++ x ∷ []))) (cases_eq n (site d))

  -- a node with an arc has an end
  pub some_lie : (Fit : X → Type 0) (ds : List Arc) (d : Arc) (lists : List (List X)) → AllLie at site end Fit (ds ++ d ∷ []) lists → site d < length lists → 0 < length (get_or lists (site d) [])
  some_lie Fit ds d lists all inside =
      let n = site d in
      let xs = get_or lists n [] in
      let whole = (all n inside).places ∙ one_more (here n) end ds d 0 (eq-eqb n n refl) in
      omega (arith, length-map xs at, ap (length {A = LinkAt}) whole, length_push (links_by (here n) end 0 ds) (end d, 0 + length ds))

  -- the last arc, whose end is taken back from its node
  module _ (Fit : X → Type 0) (ds : List Arc) (d : Arc) (lists : List (List X)) (x : X)
      (all : AllLie at site end Fit (ds ++ d ∷ []) (handed lists (site d) x)) (inside : site d < length lists) where
    abbrev n : Position
    n = site d

    abbrev xs : List X
    xs = get_or lists n []

    last : Lies at site end Fit (ds ++ d ∷ []) n (xs ++ x ∷ [])
    last =
        subst (Lies at site end Fit (ds ++ d ∷ []) n) (get_or-set_same lists n (xs ++ x ∷ []) [] inside)
        (all n (omega (arith, length-set lists n (xs ++ x ∷ []), inside)))

    parts : (map at xs ≡ links_by (here n) end 0 ds) × (at x ≡ (end d, 0 + length ds))
    parts =
        same_last (map at xs) (links_by (here n) end 0 ds) (at x) (end d, 0 + length ds)
        (sym (map-append at xs (x ∷ [])) ∙ last.places ∙ one_more (here n) end ds d 0 (eq-eqb n n refl))

    pub last_at : at x ≡ (end d, length ds)
    last_at = let none : 0 + length ds ≡ length ds = omega arith in parts.1 ∙ (λ i. (end d, none i))

    pub last_fit : Fit x
    last_fit = (all_but_last Fit xs x last.fit).1

    fewer_at : (m : Position) → m < length lists → (m ≡ n) ⊎ (m ≡ n → ⊥) → Lies at site end Fit ds m (get_or lists m [])
    fewer_at m below (inl same) =
        subst (λ (j : Position). Lies at site end Fit ds j (get_or lists j [])) (sym same) (record { places = parts.0; fit = (all_but_last Fit xs x last.fit).0 })
    fewer_at m below (inr other) =
        let old = subst (Lies at site end Fit (ds ++ d ∷ []) m) (get_or-set_other lists n m (xs ++ x ∷ []) [] other) (all m (omega (arith, length-set lists n (xs ++ x ∷ []), below))) in
        record { places = old.places ∙ no_more (here m) end ds d 0 (ne_eqb n m (λ (s : n ≡ m). other (sym s))); fit = old.fit }

    pub fewer_lie : AllLie at site end Fit ds lists
    fewer_lie m below = fewer_at m below (cases_eq m n)

-- ---- The first arcs of a plan

pub take_next : (ds : List Arc) (k : ℕ) (d : Arc) → slice_get ds k ≡ Some d → take (k + 1) ds ≡ take k ds ++ d ∷ []
take_next ds k d h = take_more ds k d (slice_get_within ds k d h) ∙ ap (λ (x : Arc). take k ds ++ x ∷ []) (get_or_from_slice_get ds k d d h)

pub length_first : (ds : List Arc) (k : ℕ) → k < length ds → length (take k ds) ≡ k
length_first ds k below = omega (arith, length-take k ds)

-- one more cell is dealt
module _ (plan : PlanRec) (cells : List (CellRec PlanRec)) (cell : CellRec PlanRec) (link : LinkNumber) (count : length cells ≡ link) where
  abbrev ds : List Arc
  ds = arcs plan

  abbrev tables_then : List TableId
  tables_then = tables_of (cells ++ cell ∷ [])

  tables_are : tables_then ≡ tables_of cells ++ cell.table ∷ []
  tables_are = map-append (λ (c : CellRec PlanRec). c.table) cells (cell ∷ [])

  table_stays : (k : LinkNumber) (t : TableId) → slice_get (tables_of cells) k ≡ Some t → slice_get tables_then k ≡ Some t
  table_stays k t h = ap (λ (ts : List TableId). slice_get ts k) tables_are ∙ before_push (tables_of cells) cell.table t k h

  table_here : slice_get tables_then link ≡ Some cell.table
  table_here =
      let last : link ≡ length (tables_of cells) = sym count ∙ sym (length-map cells (λ (c : CellRec PlanRec). c.table)) in
      ap (λ (ts : List TableId). slice_get ts link) tables_are ∙ at_push (tables_of cells) cell.table link last

  stays_outgoing : (o : Outgoing) → IsDealtOutgoing (cells_of plan cells) o → IsDealtOutgoing (cells_of plan (cells ++ cell ∷ [])) o
  stays_outgoing o is = (record { table = table_stays o.link o.w.table is.0.table; run = is.0.run; number = is.0.number }, is.1)

  stays_incoming : (i : Incoming) → IsDealtIncoming (cells_of plan cells) i → IsDealtIncoming (cells_of plan (cells ++ cell ∷ [])) i
  stays_incoming i is = (record { table = table_stays i.link i.r.table is.0.table; run = is.0.run; number = is.0.number }, is.1)

  pub deal_more : (before after : List Ends) → length before ≡ length plan.nodes → AreDealt (cells_of plan cells) (take link ds) before → Deals plan link cell before after
      → AreDealt (cells_of plan (cells ++ cell ∷ [])) (take (link + 1) ds) after
  deal_more before after nodes dealt one =
      let d = one.arc in
      let first = length_first ds link (slice_get_within ds link d one.here) in
      let outgoing_inside : d.from < length (outgoing_of before) = omega (arith, length-map before outgoing_items, nodes, one.from_there) in
      let incoming_inside : d.to < length (incoming_of before) = omega (arith, length-map before incoming_items, nodes, one.to_there) in
      let outgoing_then = more_lie leaves_at from_of from_end_of (IsDealtOutgoing (cells_of plan cells)) (IsDealtOutgoing (cells_of plan (cells ++ cell ∷ [])))
      stays_outgoing (take link ds) d (outgoing_of before) (outgoing_end d link plan cell.table) dealt.outgoing (λ i. (d.from_end, sym first i))
      (record { table = table_here; run = refl; number = refl }, refl) outgoing_inside in
      let incoming_then = more_lie comes_at to_of to_end_of (IsDealtIncoming (cells_of plan cells)) (IsDealtIncoming (cells_of plan (cells ++ cell ∷ [])))
      stays_incoming (take link ds) d (incoming_of before) (incoming_end d link plan cell.table) dealt.incoming (λ i. (d.to_end, sym first i))
      (record { table = table_here; run = refl; number = refl }, record { end = refl; none_in_hand = refl }) incoming_inside in
      let next = sym (take_next ds link d one.here) in
      record {
        outgoing =
            subst (λ (l : List Arc). OutgoingLie (IsDealtOutgoing (cells_of plan (cells ++ cell ∷ []))) l (outgoing_of after)) next
            (subst (OutgoingLie (IsDealtOutgoing (cells_of plan (cells ++ cell ∷ []))) (take link ds ++ d ∷ [])) (sym one.outgoing) outgoing_then);
        incoming =
            subst (λ (l : List Arc). IncomingLie (IsDealtIncoming (cells_of plan (cells ++ cell ∷ []))) l (incoming_of after)) next
            (subst (IncomingLie (IsDealtIncoming (cells_of plan (cells ++ cell ∷ []))) (take link ds ++ d ∷ [])) (sym one.incoming) incoming_then);
      }

  -- it stands behind the others
  pub push_cell : ((k : LinkNumber) (x : CellRec PlanRec) → slice_get cells k ≡ Some x → IsCellOf plan k x) → IsCellOf plan link cell
      → (k : LinkNumber) (x : CellRec PlanRec) → slice_get (cells ++ cell ∷ []) k ≡ Some x → IsCellOf plan k x
  push_cell each is k x h = by_place (cases_eq k (length cells))
    where
      by_place : (k ≡ length cells) ⊎ (k ≡ length cells → ⊥) → IsCellOf plan k x
      by_place (inl same) =
          let last : cell ≡ x = same_Some cell x (sym (at_push cells cell k same) ∙ h) in
          subst (λ (c : CellRec PlanRec). IsCellOf plan k c) last (subst (λ (l : LinkNumber). IsCellOf plan l cell) (sym (same ∙ count)) is)
      by_place (inr other) =
          let within : k < length cells = omega (arith, slice_get_within (cells ++ cell ∷ []) k x h, length_push cells cell) in
          let old = some_at cells k within in
          let same : old.0 ≡ x = same_Some old.0 x (sym (before_push cells cell old.0 k old.1) ∙ h) in
          each k x (old.1 ∙ ap (λ (c : CellRec PlanRec). Some c) same)

-- the nodes stay
pub deals_nodes : (plan : PlanRec) (link : LinkNumber) (cell : CellRec PlanRec) (before after : List Ends) → Deals plan link cell before after → length after ≡ length before
deals_nodes plan link cell before after one =
    let d = one.arc in
    let x = outgoing_end d link plan cell.table in
    omega (
      arith,
      length-map before outgoing_items,
      length-map after outgoing_items,
      ap (length {A = List Outgoing}) one.outgoing,
      length-set (outgoing_of before) d.from (get_or (outgoing_of before) d.from [] ++ x ∷ []),
    )

-- all are dealt
pub new_ends : (cells : CellsRec) (all : List Ends) → AreDealt cells (arcs cells.plan) all → (n : Position) (ends : Ends) → slice_get all n ≡ Some ends → AreNewEnds cells n ends
new_ends cells all dealt n ends h =
    let ds = arcs cells.plan in
    let within = slice_get_within all n ends h in
    let out = subst (Lies leaves_at from_of from_end_of (IsDealtOutgoing cells) ds n) (map_or_at outgoing_items all n ends [] h)
    (dealt.outgoing n (omega (arith, length-map all outgoing_items, within))) in
    let come = subst (Lies comes_at to_of to_end_of (IsDealtIncoming cells) ds n) (map_or_at incoming_items all n ends [] h)
    (dealt.incoming n (omega (arith, length-map all incoming_items, within))) in
    record {
      are_ends = record {
        outgoing_at = out.places;
        incoming_at = come.places;
        outgoing_fit = all_give (λ (o : Outgoing) (f : IsDealtOutgoing cells o). f.0) ends.outgoing.items out.fit;
        incoming_fit = all_give (λ (i : Incoming) (f : IsDealtIncoming cells i). f.0) ends.incoming.items come.fit;
      };
      outgoing_new = all_give (λ (o : Outgoing) (f : IsDealtOutgoing cells o). f.1) ends.outgoing.items out.fit;
      incoming_new = all_give (λ (i : Incoming) (f : IsDealtIncoming cells i). f.1) ends.incoming.items come.fit;
    }
