use Rattle.std.proofs.Common.{◌≡◌, List, length, get_or, sym, ◌∙◌, subst, arith}
use Rattle.xs_model.specs.declared.outside.PinView.{PinView}
use Rattle.xs_model.specs.Outside.{LevelsFit}
use Rattle.pin_scripts.specs.declared.line.PinLine.{PinLine}
use Rattle.pin_scripts.specs.Script.{IsScript}
use Rattle.pin_scripts.specs.Facts.{IsIndex, place_of}
use Rattle.pin_scripts.proofs.Views.{keeps-at, levels-fit, shows}
use Rattle.pin_scripts.proofs.kept_script.KeptScript.view.Goals as goal

pub returns-then-place-len-clause-value : goal.returns-then-place-len-clause-value
returns-then-place-len-clause-value c =
    let script = c.args.self.now in
    let nodes = c.self.inside.nodes.items in
    let place = c.place_of-place.result in
    let node = c.index.result.now in
    let index : IsIndex script nodes = subst (λ (s : List PinLine). IsIndex s nodes) c.self.view_is c.self.invariant.1 in
    let count : c.len.result ≡ length nodes = cc in
    let at : place ≡ place_of nodes c.args.node = cc in
    let there : node ≡ get_or nodes place node = cc in
    let keeps = keeps-at script nodes c.args.node place node index at (omega (arith, count)) there in
    λ i. record { level = (c.show.ensures.value ∙ shows script c.args.node c.args.slot node keeps c.show.ensures.pins) i }

pub returns-then-place-len-clause-levels : goal.returns-then-place-len-clause-levels
returns-then-place-len-clause-levels c =
    subst (λ (v : PinView). LevelsFit v.level) (sym (returns-then-place-len-clause-value c))
    (levels-fit c.args.self.now c.args.node c.args.slot (subst IsScript c.self.view_is c.self.invariant.0))
