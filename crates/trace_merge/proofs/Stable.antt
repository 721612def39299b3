-- What a stable sort by slot leaves.
use Rattle.std.proofs.Common.{ℕ, zero, suc, ◌≡◌, ◌<◌, ◌≤◌, eqb, List, [], ◌∷◌, length, get_or, filter, nat_cmp, is_lt, sym, ap, ◌∙◌, arith, suc-le-suc, zero-le}
use Rattle.std.proofs.lemmas.Bool.Decides.{nat_tests}
use Rattle.std.specs.List.Sorted.{ties, IsNonDecreasingBy, IsStableByKey}
use Rattle.xs_model.specs.declared.event.Event.{Event}
use Rattle.xs_model.specs.declared.event.Happen.TheVariants as happen
use Rattle.trace_model.specs.EventOrder.{Placed, node_after_node, RiseFrom, of_slot, AreInOrder}

abbrev pub slot_of : Placed → ℕ
slot_of e = e.1.slot

rise-from : (b : ℕ) (d : Placed) (ys : List Placed) → (0 < length ys → b ≤ (get_or ys 0 d).1.slot) → IsNonDecreasingBy slot_of ys → RiseFrom b ys
rise-from b d [] first h = tt
rise-from b d (y ∷ ys) first h = (
  first (suc-le-suc zero-le),
  rise-from y.1.slot d ys (λ inside. h zero (suc zero) d zero-le (suc-le-suc inside)) (λ i j d' le lt. h (suc i) (suc j) d' (suc-le-suc le) (suc-le-suc lt)),
)

-- an event of a slot
abbrev event_in : ℕ → Placed
event_in slot = (0, record { slot = slot; what = happen.Halt 0 })

tie-is : (m n : ℕ) → ties (λ x y. is_lt (nat_cmp x y)) m n ≡ eqb n m
tie-is m n = grind (arith, nat_tests)

ties-are : (slot : ℕ) (zs : List Placed) → filter (ties (λ x y. is_lt (nat_cmp (slot_of x) (slot_of y))) (event_in slot)) zs ≡ of_slot slot zs
ties-are slot zs = λ i. filter (λ (z : Placed). tie-is slot z.1.slot i) zs

-- so sorted events of nodes are in order
pub sorted-in_order : (nodes : List (List Event)) (xs ys : List Placed) → xs ≡ node_after_node 0 nodes → IsNonDecreasingBy slot_of ys → IsStableByKey slot_of nat_cmp xs ys → AreInOrder nodes ys
sorted-in_order nodes xs ys told sorted stable = record {
  rise = rise-from 0 (event_in 0) ys (λ inside. zero-le) sorted;
  by_node = λ slot. sym (ties-are slot ys) ∙ (stable (event_in slot) ∙ (ties-are slot xs ∙ ap (of_slot slot) told));
}
