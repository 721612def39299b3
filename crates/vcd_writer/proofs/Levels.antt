-- The levels that were seen last, node by node.
use Rattle.std.proofs.Common.{◌≡◌, ℕ, zero, suc, ◌+◌, ◌<◌, List, [], ◌∷◌, ◌++◌, length, get_or, set, take, drop, refl, ap, sym, subst, ◌∙◌, arith, append_assoc, append-nil}
use Rattle.std.specs.List.{refill}
use Rattle.std.proofs.Math.Seq.{drop-cons}
use Rattle.std.proofs.lemmas.List.{get_or-map, length-map, take_more, take_more_set, take_all, take-append-le, drop-set-lt}
use Rattle.xs_base.specs.Numbers.{Slot, Word, Position}
use Rattle.xs_base.specs.declared.entry.Entry.{Entry}
use Rattle.xs_model.specs.Record.{NodeRec, first_node}
use Rattle.sys_plan.specs.declared.NodePlan.{NodePlan}
use Rattle.sys_plan.specs.Plan.{PlanRec}
use Rattle.serial_model.specs.Serial.{nodes_at_start, serial, steps_from, steps_of, node_by}
use Rattle.wave_model.specs.Runs.{port_changes, node_changes, changes_in, changes_before}
use Rattle.vcd_writer.specs.Tells.{TextRec, Tells, levels_of}
use Rattle.vcd_writer.proofs.Told.{tells_none, tells_more}

-- ---- There is a record of each node

start_count : (plan : PlanRec) (n : Position) (nodes : List NodePlan) → length (nodes_at_start plan n nodes) ≡ length nodes
start_count plan n [] = refl
start_count plan n (node ∷ nodes) = ap suc (start_count plan (n + 1) nodes)

steps_count : (plan : PlanRec) (histories : List (List Entry)) (slot : Slot) (n : Position) (nodes : List NodePlan) (recs : List NodeRec)
    → length recs ≡ length nodes → length (steps_from plan histories slot n nodes recs) ≡ length nodes
steps_count plan histories slot n [] recs e = refl
steps_count plan histories slot n (node ∷ nodes) [] e = absurd (omega (arith, e))
steps_count plan histories slot n (node ∷ nodes) (rec ∷ recs) e = ap suc (steps_count plan histories slot (n + 1) nodes recs (omega (arith, e)))

pub nodes_count : (plan : PlanRec) (slot : Slot) → length (serial plan slot).nodes ≡ length plan.nodes
unfolding serial
nodes_count plan zero = start_count plan 0 plan.nodes
nodes_count plan (suc slot) =
    length-map (steps_of plan slot (serial plan slot)) _
    ∙ steps_count plan (serial plan slot).histories slot 0 plan.nodes (serial plan slot).nodes (nodes_count plan slot)

pub levels_count : (plan : PlanRec) (slot : Slot) → length (levels_of (serial plan slot).nodes) ≡ length plan.nodes
levels_count plan slot = length-map (serial plan slot).nodes (λ (node : NodeRec). node.levels) ∙ nodes_count plan slot

-- ---- One node more

level_at : (nodes : List NodeRec) (n : ℕ) (d : List Word) → n < length nodes → get_or (levels_of nodes) n d ≡ (node_by nodes n).levels
level_at nodes n d here = get_or-map (λ (node : NodeRec). node.levels) nodes n (first_node 0 0 []) d here

pub levels_more : (nodes : List NodeRec) (n : ℕ) → n < length nodes
    → take (n + 1) (levels_of nodes) ≡ take n (levels_of nodes) ++ (node_by nodes n).levels ∷ []
levels_more nodes n here =
    take_more (levels_of nodes) n [] (omega (arith, length-map nodes (λ (node : NodeRec). node.levels)))
    ∙ (λ i. take n (levels_of nodes) ++ level_at nodes n [] here i ∷ [])

module _ (nodes : List NodeRec) (n : ℕ) (seen : List (List Word)) (inside : n < length seen) (here : n < length nodes) where
  -- the levels of these nodes are those seen last, up to a node
  pub seen_more : (levels : List Word) → levels ≡ (node_by nodes n).levels → take n seen ≡ take n (levels_of nodes)
      → take (n + 1) (set seen n levels) ≡ take (n + 1) (levels_of nodes)
  seen_more levels is known = take_more_set seen n levels inside ∙ (λ i. known i ++ is i ∷ []) ∙ sym (levels_more nodes n here)

  -- they are so from a node on
  pub seen_here : (d : List Word) → drop n seen ≡ drop n (levels_of nodes) → get_or seen n d ≡ (node_by nodes n).levels
  seen_here d known =
      let also : n < length (levels_of nodes) = omega (arith, length-map nodes (λ (node : NodeRec). node.levels), here) in
      ap (λ rest. get_or rest 0 d) (sym (drop-cons seen n d inside) ∙ known ∙ drop-cons (levels_of nodes) n d also) ∙ level_at nodes n d here

  pub seen_later : (levels : List Word) → drop n seen ≡ drop n (levels_of nodes) → drop (n + 1) (set seen n levels) ≡ drop (n + 1) (levels_of nodes)
  seen_later levels known =
      let also : n < length (levels_of nodes) = omega (arith, length-map nodes (λ (node : NodeRec). node.levels), here) in
      let next : n + 1 ≡ suc n = omega arith in
      drop-set-lt (n + 1) seen n levels (omega arith)
      ∙ (λ i. drop (next i) seen)
      ∙ ap (drop 1) (sym (drop-cons seen n [] inside) ∙ known ∙ drop-cons (levels_of nodes) n [] also)
      ∙ (λ i. drop (sym next i) (levels_of nodes))

-- ---- The changes of all nodes

node_more : (slot : Slot) (at n : Position) (before after : List NodeRec) → n < length before → n < length after
    → node_changes slot at (take (n + 1) before) (take (n + 1) after)
    ≡ node_changes slot at (take n before) (take n after) ++ port_changes slot (at + n) 0 (node_by before n).levels (node_by after n).levels
node_more slot at n [] after here also = absurd (omega arith)
node_more slot at n (b ∷ before) [] here also = absurd (omega arith)
node_more slot at zero (b ∷ before) (a ∷ after) here also =
    let same : at + 0 ≡ at = omega arith in
    append-nil (port_changes slot at 0 b.levels a.levels) ∙ (λ i. port_changes slot (sym same i) 0 b.levels a.levels)
node_more slot at (suc n) (b ∷ before) (a ∷ after) here also =
    let next : suc n + 1 ≡ suc (n + 1) = omega arith in
    let same : at + 1 + n ≡ at + suc n = omega arith in
    let more = node_more slot (at + 1) n before after (omega arith) (omega arith) in
    let first = port_changes slot at 0 b.levels a.levels in
    let others = node_changes slot (at + 1) (take n before) (take n after) in
    (λ i. node_changes slot at (take (next i) (b ∷ before)) (take (next i) (a ∷ after)))
    ∙ (λ i. first ++ more i)
    ∙ sym (append_assoc first others (port_changes slot (at + 1 + n) 0 (node_by before n).levels (node_by after n).levels))
    ∙ (λ i. (first ++ others) ++ port_changes slot (same i) 0 (node_by before n).levels (node_by after n).levels)

-- with one node more, whose levels were these and are now those
pub one_node : (slot : Slot) (n : Position) (before after : List NodeRec) (was is : List Word) (text between then : TextRec)
    → n < length before → n < length after → was ≡ (node_by before n).levels → is ≡ (node_by after n).levels
    → Tells text between (node_changes slot 0 (take n before) (take n after)) → Tells between then (port_changes slot n 0 was is)
    → Tells text then (node_changes slot 0 (take (n + 1) before) (take (n + 1) after))
one_node slot n before after was is text between then here also old new first more =
    let same : 0 + n ≡ n = omega arith in
    let changes = node_more slot 0 n before after here also
    ∙ (λ i. node_changes slot 0 (take n before) (take n after) ++ port_changes slot (same i) 0 (sym old i) (sym new i)) in
    subst (Tells text then) (sym changes) (tells_more text between then _ _ first more)

-- ---- Slots

pub told_no_slot : (plan : PlanRec) (text out : TextRec) → out ≡ text → Tells text out (changes_before plan 0)
unfolding changes_before
told_no_slot plan text out is = subst (λ (t : TextRec). Tells text t []) (sym is) (tells_none text)

pub slot_more : (plan : PlanRec) (slot : Slot) → changes_before plan (slot + 1) ≡ changes_before plan slot ++ changes_in plan slot
unfolding changes_before
slot_more plan slot = ap (changes_before plan) {x = slot + 1} {y = suc slot} (omega arith)

-- with the changes of one slot more
pub one_slot : (plan : PlanRec) (slot : Slot) (text between then : TextRec)
    → Tells text between (changes_before plan slot) → Tells between then (changes_in plan slot) → Tells text then (changes_before plan (slot + 1))
one_slot plan slot text between then first more =
    subst (Tells text then) (sym (slot_more plan slot)) (tells_more text between then (changes_before plan slot) (changes_in plan slot) first more)

-- what was written through a slice is what is there
pub refilled : {X : Type 0} (n : ℕ) (was is : List X) → length was ≡ n → length is ≡ n → refill n was is ≡ is
refilled n was is old new = take-append-le n is (drop (length is) was) (omega (arith, new)) ∙ take_all n is (omega (arith, new))
