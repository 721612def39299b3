use Rattle.std.proofs.Common.{None, sym, ◌∙◌, arith}
use Rattle.std.proofs.lemmas.List.Folds.{list_any_at}
use Rattle.switch_routes.specs.Rest.{has_waiting}
use Rattle.switch_routes.specs.Rows.{buffer_of, counts_at}
use Rattle.switch_routes.proofs.Marks.{marks-a-place, marked-less, none_marked, none_waits, one_waits}
use Rattle.switch_routes.proofs.Places.{length-ends_in}
use Rattle.switch_routes.proofs.links.Links.some_wait.Goals as goal

pub first-requires : goal.first-requires
first-requires c = record { within = marks-a-place c.loop-left.left c.lowest-end.result c.loop-left.invariant.byte c.lowest-end.ensures.is }

pub loop-left-preserved : goal.loop-left-preserved
loop-left-preserved c = record {
  byte = omega (arith, c.without-left.ensures.less, c.loop-left.invariant.byte);
  marked =
      marked-less c.loop-left.left c.without-left.result c.lowest-end.result c.args.self.now c.loop-left.invariant.marked
      (none_waits c.first.result (buffer_of (counts_at c.args.self.now c.lowest-end.result)) c.first.ensures.cases (sym c.is_some.ensures ∙ c.if-is_some.false)) c.without-left.ensures.bits;
}

pub returns-then-is_some : goal.returns-then-is_some
returns-then-is_some c =
    let end = c.lowest-end.result in
    let long = length-ends_in c.self.inside.present c.self.inside.ends.items (omega (arith, c.self.invariant)) ∙ c.self.invariant.eight in
    let below = marks-a-place c.loop-left.left end c.loop-left.invariant.byte c.lowest-end.ensures.is in
    let waits = one_waits c.first.result (buffer_of (counts_at c.args.self.now end)) c.first.ensures.cases (sym c.is_some.ensures ∙ c.if-is_some.true) in
    record { value = sym (list_any_at has_waiting c.args.self.now end None (omega (arith, below, rw c.self.view_is at long)) waits) }

pub returns : goal.returns
returns c =
    let long = length-ends_in c.self.inside.present c.self.inside.ends.items (omega (arith, c.self.invariant)) ∙ c.self.invariant.eight in
    record { value = sym (none_marked c.loop-left.left c.args.self.now (omega arith) c.loop-left.invariant.marked (rw c.self.view_is at long)) }
