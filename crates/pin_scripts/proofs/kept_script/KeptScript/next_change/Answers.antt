use Rattle.std.proofs.Common.{◌≡◌, ◌≤◌, None, List, length, get_or, refl, subst, arith}
use Rattle.pin_scripts.specs.declared.line.PinLine.{PinLine}
use Rattle.pin_scripts.specs.Facts.{IsIndex, place_of}
use Rattle.pin_scripts.proofs.Views.{keeps-at, keeps-none, next-line, steady}
use Rattle.pin_scripts.proofs.kept_script.KeptScript.next_change.Goals as goal

pub returns-then-place-len-clause-next : goal.returns-then-place-len-clause-next
returns-then-place-len-clause-next c =
    let script = c.args.self.now in
    let nodes = c.self.inside.nodes.items in
    let place = c.place_of-place.result in
    let node = c.index.result.now in
    let index : IsIndex script nodes = subst (λ (s : List PinLine). IsIndex s nodes) c.self.view_is c.self.invariant.1 in
    let count : c.len.result ≡ length nodes = cc in
    let at : place ≡ place_of nodes c.args.node = cc in
    let there : node ≡ get_or nodes place node = cc in
    let keeps = keeps-at script nodes c.args.node place node index at (omega (arith, count)) there in
    next-line script c.args.node c.args.slot node c.next_after.result keeps c.next_after.ensures

pub returns-then-place-len-clause-steady : goal.returns-then-place-len-clause-steady
returns-then-place-len-clause-steady c = steady c.args.self.now c.args.node c.args.slot c.next_after.result (returns-then-place-len-clause-next c)

pub returns-else-place-len-clause-next : goal.returns-else-place-len-clause-next
returns-else-place-len-clause-next c =
    let script = c.args.self.now in
    let nodes = c.self.inside.nodes.items in
    let number = c.args.node in
    let index : IsIndex script nodes = subst (λ (s : List PinLine). IsIndex s nodes) c.self.view_is c.self.invariant.1 in
    let count : c.len.result ≡ length nodes = cc in
    let at : c.place_of-place.result ≡ place_of nodes number = cc in
    let past : length nodes ≤ place_of nodes number = omega (arith, count, at) in
    next-line script number c.args.slot _ None (keeps-none script nodes number index past) (λ later l. refl)

pub returns-else-place-len-clause-steady : goal.returns-else-place-len-clause-steady
returns-else-place-len-clause-steady c = steady c.args.self.now c.args.node c.args.slot None (returns-else-place-len-clause-next c)
