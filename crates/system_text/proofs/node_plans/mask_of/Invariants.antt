use Rattle.std.proofs.Common.{◌≡◌, ◌==◌}
use Rattle.std.specs.List.{list_any}
use Rattle.system_model.specs.System.{mask_where}
use Rattle.system_text.proofs.node_plans.mask_of.Given as goal

abbrev pub invariant-loop-end : goal.invariant-loop-end
invariant-loop-end l = l.mask ≡ mask_where (λ end. list_any (λ e. e == end) l.ends) l.end
