use Rattle.std.proofs.Common.{refl, sym, ◌∙◌}
use Rattle.switch_routes.proofs.Marks.{idle-fit, idle-at, none-in}
use Rattle.switch_routes.proofs.inputs.Inputs.new.Goals as goal

pub invariant_of-result : goal.invariant_of-result
invariant_of-result c = record { count = refl; fit = idle-fit 40; marked = λ i h. none-in i ∙ sym (idle-at 40 i) }
