use Rattle.std.proofs.Common.{arith}
use Rattle.std.proofs.lemmas.List.Elements.{recursion_from_All}
use Rattle.state_bridge.proofs.fits.each_fits.Goals as goal

pub returns : goal.returns
returns g c = recursion_from_All g.T.Fits.fits c.args.elements.now (λ k d lt. c.loop-element.invariant k d (omega arith) (omega (arith, lt)))
