use Rattle.std.proofs.Common.{◌∙◌, sym, refl, arith}
use Rattle.net_model.specs.Switch.{is_out_by}
use Rattle.switch_routes.proofs.Held.{any_here, any_next, any_none}
use Rattle.switch_routes.proofs.inputs.Inputs.end_is_held.Goals as goal

pub loop-state-init : goal.loop-state-init
loop-state-init c = rw (← c.self.view_is) refl

pub loop-state-preserved : goal.loop-state-preserved
loop-state-preserved c =
    c.loop-state.invariant
    ∙ any_next (is_out_by c.args.end) c.self.inside.states c.loop-state.state-index _ (omega (arith, c.self.invariant.count)) (sym c.is_out_by.ensures.value ∙ c.if-is_out_by.false)

pub returns-then-is_out_by : goal.returns-then-is_out_by
returns-then-is_out_by c = record {
  value = sym (c.loop-state.invariant
      ∙ any_here (is_out_by c.args.end) c.self.inside.states c.loop-state.state-index _ (omega (arith, c.self.invariant.count)) (sym c.is_out_by.ensures.value ∙ c.if-is_out_by.true));
}

pub returns : goal.returns
returns c = record {
  value = sym (c.loop-state.invariant ∙ any_none (is_out_by c.args.end) c.self.inside.states c.loop-state.state-index (omega (arith, c.self.invariant.count)));
}
