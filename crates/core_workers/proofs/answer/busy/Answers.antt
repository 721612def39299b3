use Rattle.std.proofs.Common.{Option, ◌++◌, sym, ◌∙◌, subst}
use Rattle.xs_base.specs.Numbers.{EndNumber}
use Rattle.core_workers.specs.Worker.{unheard_ends}
use Rattle.core_workers.specs.Steps.{IsLeastOf}
use Rattle.core_workers.proofs.Leasts.{least_join}
use Rattle.core_workers.proofs.answer.busy.Goals as goal

pub returns : goal.returns
returns c ends least =
    subst (λ (o : Option EndNumber). IsLeastOf o (unheard_ends c.args.readers.now ++ ends)) (sym c.least_end.ensures ∙ c.in-Some.is)
    (least_join c.least_unheard.result c.args.untold (unheard_ends c.args.readers.now) ends c.least_unheard.ensures least)
