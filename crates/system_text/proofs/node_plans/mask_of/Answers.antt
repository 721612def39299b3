use Rattle.std.proofs.Common.{ℕ, Bool, List, ◌==◌, sym, ◌∙◌}
use Rattle.std.specs.List.{list_any}
use Rattle.system_text.proofs.Masks.{mask_where-zero, next_set, next_clear}
use Rattle.system_text.proofs.node_plans.mask_of.Goals as goal
use Rattle.system_text.proofs.node_plans.mask_of.Goals.{then-is_among, else-is_among}

-- whether a link end is among these
abbrev among : List ℕ → ℕ → Bool
among ends end = list_any (λ e. e == end) ends

pub loop-end-init : goal.loop-end-init
loop-end-init c = sym (mask_where-zero (among c.args.ends.now))

pub loop-end-preserved : goal.loop-end-preserved
loop-end-preserved c = elim c.if-is_among.branch [
  | then-is_among w ↦ next_set (among c.args.ends.now) _ _ _ c.loop-end-test.true c.loop-end.invariant (sym c.is_among.ensures ∙ w.if-is_among.true) w.mask-is
  | else-is_among w ↦ next_clear (among c.args.ends.now) _ _ _ c.loop-end.invariant (sym c.is_among.ensures ∙ w.if-is_among.false) w.mask-is
]
