use Rattle.std.proofs.Common.{take, refl, sym, ◌∙◌}
use Rattle.xs_text.specs.Tokens.{tokens_of}
use Rattle.xs_instructions.specs.Image.{is_reserved}
use Rattle.source_model.specs.Statement.{labels_first}
use Rattle.source_model.specs.Layout.{here}
use Rattle.xs_assembler.proofs.LabelSteps.{any_next, defined_end, twice_end}
use Rattle.xs_assembler.proofs.Fronts.{step_front_at, defined_next_at, twice_next_at}
use Rattle.xs_assembler.proofs.before.Before.pass_labels.Goals as goal

pub pass_label-twice-requires : goal.pass_label-twice-requires
pass_label-twice-requires c =
    let before = labels_first (tokens_of c.loop-name.rest.now) in
    let after = labels_first (tokens_of c.in-Some.after.now) in
    step_front_at c.loop-name.self.layout c.args.self.now.layout c.in-Some.name.now before after (take c.loop-name.self.labels c.args.names.now.labels) _ c.args.names.now.labels
    c.loop-name.invariant.layout c.in-Some.ensures.label c.loop-name.invariant.labels c.requires

pub loop-name-preserved : goal.loop-name-preserved
loop-name-preserved c =
    let name = c.in-Some.name.now in
    let before = labels_first (tokens_of c.loop-name.rest.now) in
    let after = labels_first (tokens_of c.in-Some.after.now) in
    let old = take c.loop-name.self.labels c.args.names.now.labels in
    let new = take c.pass_label-twice.new.self.labels c.args.names.now.labels in
    record {
      labels = defined_next_at c.loop-name.self.layout c.args.self.now.layout name before after old new _ c.loop-name.invariant.layout c.in-Some.ensures.label c.pass_label-twice.ensures.labels c.loop-name.invariant.labels;
      twice = twice_next_at c.loop-name.self.layout c.args.self.now.layout name before after old new c.loop-name.twice c.pass_label-twice.result _ _ c.loop-name.invariant.layout c.in-Some.ensures.label c.pass_label-twice.ensures.labels c.pass_label-twice.ensures.twice refl c.loop-name.invariant.twice;
      reserved = any_next is_reserved name before after c.loop-name.reserved c.is_reserved-reserved.result _ _ c.in-Some.ensures.label c.is_reserved-reserved.ensures.value refl c.loop-name.invariant.reserved;
      rest = sym c.in-Some.ensures.after ∙ c.loop-name.invariant.rest;
      layout = c.pass_label-twice.ensures.layout ∙ c.loop-name.invariant.layout;
    }

pub returns-clause-twice : goal.returns-clause-twice
returns-clause-twice c =
    twice_end (here c.args.self.now.layout) _ (take c.loop-name.self.labels c.args.names.now.labels) c.loop-name.twice _ c.in_default.ensures.label c.loop-name.invariant.twice

pub returns-clause-labels : goal.returns-clause-labels
returns-clause-labels c =
    defined_end (here c.args.self.now.layout) _ (take c.loop-name.self.labels c.args.names.now.labels) _ c.in_default.ensures.label c.loop-name.invariant.labels
