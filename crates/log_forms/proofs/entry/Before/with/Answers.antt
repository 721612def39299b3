use Rattle.log_forms.proofs.Pushes.{before_more}
use Rattle.log_forms.proofs.entry.Before.with.Goals as goal

pub returns : goal.returns
returns c =
    record { value = λ entries h lt. before_more c.args.self entries c.args.e c.with.result h lt (rw c.kind_and_value.ensures.kind at c.with.ensures.value) }
