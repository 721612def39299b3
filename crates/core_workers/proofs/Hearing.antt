-- A node hears at one end: what holds of all its ends goes on to hold.
use Rattle.std.proofs.Common.{◌≡◌, ◌≢◌, ℕ, Some, List, map, set, slice_get, sym, ap, ◌∙◌, subst, inl, inr}
use mathlib.Core.Logic.{◌⊎◌}
use Rattle.std.specs.List.{All}
use Rattle.std.proofs.lemmas.Bool.{cases_eq}
use Rattle.std.proofs.lemmas.List.{map-set, set-get_or, get_or-map}
use Rattle.std.proofs.lemmas.List.Elements.{All-from_recursion, recursion_from_All, All-set, All-get_or}
use Rattle.std.proofs.lemmas.Option.{slice_get_within, get_or_from_slice_get}
use Rattle.xs_base.specs.Numbers.{EndNumber, LinkNumber}
use Rattle.sys_plan.specs.Plan.{IsPlan, incoming}
use Rattle.ahead_limits.specs.declared.horizon.Seen.{Seen}
use Rattle.ahead_limits.specs.Horizon.{Sees}
use Rattle.node_runners.specs.Runner.{RunnerRec}
use Rattle.plan_cells.specs.declared.ends.Incoming.{Incoming}
use Rattle.plan_cells.specs.Ends.{CellsRec, coming, comes_at, IsIncoming}
use Rattle.core_workers.specs.Worker.{IsHeard, Listens, StaysIncoming}
use Rattle.core_workers.specs.Steps.{HearsAt}
use Rattle.core_workers.proofs.Passes.{all_at_set}
use Rattle.core_workers.proofs.Routes.{comes_by, comes_apart}

-- what stands at a place of a list in which all fit
pub fits_at : {X : Type 0} (P : X → Type 0) (xs : List X) (k : ℕ) (x : X) → slice_get xs k ≡ Some x → All P xs → P x
fits_at P xs k x at all = subst P (get_or_from_slice_get xs k x x at) (All-get_or P xs k x (slice_get_within xs k x at) all)

-- a place changes, and what is told of each stays
pub same_told : {X Y : Type 0} (f : X → Y) (xs : List X) (k : ℕ) (x y : X) → slice_get xs k ≡ Some x → f y ≡ f x → map f (set xs k y) ≡ map f xs
same_told f xs k x y at same =
    map-set f xs k y
    ∙ ap (λ v. set (map f xs) k v) (same ∙ ap f (sym (get_or_from_slice_get xs k x x at)) ∙ sym (get_or-map f xs k x (f x) (slice_get_within xs k x at)))
    ∙ set-get_or (map f xs) k (f x)

-- an end stays that of its cell
pub incoming_fits : (cells : CellsRec) (old new : Incoming) → StaysIncoming old new → IsIncoming cells old → IsIncoming cells new
incoming_fits cells old new s is = record {
  table = ap (λ k. slice_get cells.tables k) s.link ∙ is.table ∙ ap (λ t. Some t) (sym s.table);
  run = s.run ∙ is.run;
  number = s.number ∙ is.number ∙ sym s.link;
}

module _ (cells : CellsRec) (is : IsPlan cells.plan) (before after : RunnerRec) (ends : List Incoming) (listens : Listens cells before ends)
    (k : ℕ) (old new : Incoming) (at : slice_get ends k ≡ Some old) (hears : HearsAt old.end before after) (stays : StaysIncoming old new)
    (heard : IsHeard cells.plan after.horizon new) where
  same_node : after.node ≡ before.node
  same_node = ap (λ (r : RunnerRec). r.node) hears.rest

  still_heard : (j : ℕ) (i : Incoming) → j ≢ k → slice_get ends j ≡ Some i → IsHeard cells.plan before.horizon i → IsHeard cells.plan after.horizon i
  still_heard j i apart there h = record {
    seen = h.seen;
    there = hears.others i.end (comes_apart cells.plan is before.node ends listens.places j k i old there at apart) ∙ h.there;
    delay = h.delay;
    in_hand = h.in_hand;
  }

  no_others : (end : EndNumber) (s : Seen) → Sees after.horizon end s → (end ≡ old.end) ⊎ (end ≡ old.end → ⊥) → (link : LinkNumber) × (incoming cells.plan before.node end ≡ Some link)
  no_others end s sees (inl same) = (old.link, ap (λ e. incoming cells.plan before.node e) same ∙ comes_by cells.plan is before.node ends listens.places k old at)
  no_others end s sees (inr other) = listens.no_others end s (sym (hears.others end other) ∙ sees)

  pub listens_on : Listens cells after (set ends k new)
  listens_on = record {
    places = same_told comes_at ends k old new at (λ i. (stays.end i, stays.link i)) ∙ listens.places ∙ ap (λ n. coming cells.plan n) (sym same_node);
    fit =
        let old_fits = fits_at (IsIncoming cells) ends k old at (All-from_recursion (IsIncoming cells) ends listens.fit) in
        recursion_from_All (IsIncoming cells) (set ends k new)
        (All-set (IsIncoming cells) ends k new (incoming_fits cells old new stays old_fits) (All-from_recursion (IsIncoming cells) ends listens.fit));
    heard = all_at_set (IsHeard cells.plan before.horizon) (IsHeard cells.plan after.horizon) ends k new (slice_get_within ends k old at) listens.heard heard still_heard;
    no_others = λ end s sees.
        let there = no_others end s sees (cases_eq end old.end) in
        (there.0, ap (λ n. incoming cells.plan n end) same_node ∙ there.1);
  }
