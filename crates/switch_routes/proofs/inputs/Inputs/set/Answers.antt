use Rattle.std.proofs.Common.{◌∙◌, arith}
use Rattle.std.proofs.lemmas.List.{map-set, length-set}
use Rattle.switch_routes.specs.Inputs.{state_of, InputFits}
use Rattle.switch_routes.proofs.Marks.{alone-set}
use Rattle.switch_routes.proofs.Rows.{all-set}
use Rattle.switch_routes.proofs.inputs.Inputs.set.Goals as goal

pub returns : goal.returns
returns c = record { value = rw (← c.self.view_is) (map-set state_of c.self.inside.states c.args.input c.args.state) }

pub invariant_of-self : goal.invariant_of-self
invariant_of-self c = record {
  count = length-set c.self.inside.states c.args.input c.args.state ∙ c.self.invariant.count;
  fit = all-set InputFits c.self.inside.states c.args.input c.args.state c.self.invariant.fit c.requires.fits;
  marked =
      alone-set c.self.inside.states c.self.inside.alone _ c.args.input c.args.state _ (omega (arith, c.self.invariant.count)) c.acts_alone.ensures.value c.self.invariant.marked c.with_bit-self-inside.ensures;
}
