use Rattle.std.proofs.Common.{sym, ◌∙◌}
use Rattle.xs_text.specs.Tokens.{tokens_of}
use Rattle.source_model.specs.Statement.{labels_first}
use Rattle.xs_assembler.proofs.LabelSteps.{defined_next, defined_end, labels_some}
use Rattle.xs_assembler.proofs.sofar.define_all.Goals as goal

pub loop-name-preserved : goal.loop-name-preserved
loop-name-preserved c =
    let before = labels_first (tokens_of c.loop-name.rest.now) in
    let after = labels_first (tokens_of c.in-Some.after.now) in (
      defined_next c.args.place c.in-Some.name.now before after c.loop-name.names.labels c.define.new.self.labels _ c.in-Some.ensures.label c.in_ok-define.ensures.defined c.loop-name.invariant.0,
      sym c.in-Some.ensures.after ∙ c.loop-name.invariant.1,
      c.in_ok-define.ensures.keyed ∙ c.loop-name.invariant.2,
      λ _. c.loop-name.invariant.3 (labels_some _ before after c.in-Some.ensures.label),
    )

pub returns-clause-defined : goal.returns-clause-defined
returns-clause-defined c = defined_end c.args.place _ c.loop-name.names.labels _ c.in_default.ensures.label c.loop-name.invariant.0
