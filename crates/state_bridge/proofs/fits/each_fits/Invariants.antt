use Rattle.std.specs.List.{AllWithin}
use Rattle.state_bridge.proofs.fits.each_fits.Given as goal

-- those before this one fit
abbrev pub invariant-loop-element : goal.invariant-loop-element
invariant-loop-element g l = AllWithin g.T.Fits.fits l.elements 0 l.element-index
