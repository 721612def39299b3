use Rattle.std.proofs.Common.{◌≡◌, ◌<◌, ◌++◌, ◌∷◌, [], List, length, set, get_or, Some, sym, ap, ◌∙◌, subst, arith}
use Rattle.std.proofs.lemmas.Grind.{common_steps}
use Rattle.pin_scripts.specs.declared.line.PinLine.{PinLine}
use Rattle.pin_scripts.specs.Facts.{IfPort, IsGiven, NodeChangesRec, place_of}
use Rattle.pin_scripts.proofs.Reading.{place-inside, pin-is-past, slots-are-past, line-is, numbers-stay, given-more}
use Rattle.pin_scripts.proofs.reader.Given.take.Goals as goal

pub index_mut-node-requires : goal.index_mut-node-requires
index_mut-node-requires c =
    let form = c.args.form.now in
    let nodes = c.args.self.now.nodes.items in
    let named : form.port ≡ Some c.in-Some.port = cc in
    let in_range : c.in-Some.port < 29 = subst IfPort named c.requires.port in
    let at : c.place_of-place.result ≡ place_of nodes form.node = cc in
    let inside : c.place_of-place.result < length nodes =
    place-inside c.args.self.now.lines.items nodes c.requires.given form c.requires.sound c.in-Some.port named in_range c.place_of-place.result at in
    grind (arith, common_steps)

pub add-requires-clause-pin : goal.add-requires-clause-pin
add-requires-clause-pin c =
    let form = c.args.form.now in
    let nodes = c.args.self.now.nodes.items in
    let place = c.place_of-place.result in
    let node = c.index_mut-node.result.now in
    let named : form.port ≡ Some c.in-Some.port = cc in
    let in_range : c.in-Some.port < 29 = subst IfPort named c.requires.port in
    let at : place ≡ place_of nodes form.node = cc in
    let there : node ≡ get_or nodes place node = cc in
    pin-is-past c.args.self.now.lines.items nodes c.requires.given form c.requires.sound c.in-Some.port named in_range place at node there

pub add-requires-clause-slots : goal.add-requires-clause-slots
add-requires-clause-slots c =
    let form = c.args.form.now in
    let nodes = c.args.self.now.nodes.items in
    let place = c.place_of-place.result in
    let node = c.index_mut-node.result.now in
    let named : form.port ≡ Some c.in-Some.port = cc in
    let in_range : c.in-Some.port < 29 = subst IfPort named c.requires.port in
    let at : place ≡ place_of nodes form.node = cc in
    let there : node ≡ get_or nodes place node = cc in
    slots-are-past c.args.self.now.lines.items nodes c.requires.given form c.requires.sound c.in-Some.port named in_range place at node there

pub returns-clause-lines : goal.returns-clause-lines
returns-clause-lines c =
    let script = c.args.self.now.lines.items in
    let form = c.args.form.now in
    let nodes = c.args.self.now.nodes.items in
    let place = c.place_of-place.result in
    let port = c.in-Some.port in
    let node = c.index_mut-node.result.now in
    let named : form.port ≡ Some port = cc in
    let in_range : port < 29 = subst IfPort named c.requires.port in
    let at : place ≡ place_of nodes form.node = cc in
    let there : node ≡ get_or nodes place node = cc in
    let line : PinLine = record { slot = form.slot; node = node.number; port = port; value = form.value } in
    let pushed : c.push.new.self.items ≡ script ++ line ∷ [] = grind (arith, common_steps) in
    pushed ∙ ap (λ (ls : List PinLine). script ++ ls) (line-is script nodes c.requires.given form c.requires.sound port named in_range place at node there)

pub returns-clause-given : goal.returns-clause-given
returns-clause-given c =
    let script = c.args.self.now.lines.items in
    let form = c.args.form.now in
    let nodes = c.args.self.now.nodes.items in
    let place = c.place_of-place.result in
    let port = c.in-Some.port in
    let node = c.index_mut-node.result.now in
    let new = c.add.new.self in
    let named : form.port ≡ Some port = cc in
    let in_range : port < 29 = subst IfPort named c.requires.port in
    let at : place ≡ place_of nodes form.node = cc in
    let there : node ≡ get_or nodes place node = cc in
    let line : PinLine = record { slot = form.slot; node = node.number; port = port; value = form.value } in
    let pushed : c.push.new.self.items ≡ script ++ line ∷ [] = grind (arith, common_steps) in
    subst (λ (ls : List PinLine). IsGiven ls (set nodes place new)) (sym pushed)
    (given-more script nodes c.requires.given form c.requires.sound port named in_range place at node there new c.in_ok-add.ensures.added c.add.ensures.pins)

pub returns-clause-numbers : goal.returns-clause-numbers
returns-clause-numbers c =
    let form = c.args.form.now in
    let nodes = c.args.self.now.nodes.items in
    let place = c.place_of-place.result in
    let node = c.index_mut-node.result.now in
    let new = c.add.new.self in
    let named : form.port ≡ Some c.in-Some.port = cc in
    let in_range : c.in-Some.port < 29 = subst IfPort named c.requires.port in
    let at : place ≡ place_of nodes form.node = cc in
    let there : node ≡ get_or nodes place node = cc in
    numbers-stay c.args.self.now.lines.items nodes c.requires.given form c.requires.sound c.in-Some.port named in_range place at node there new (ap (λ (n : NodeChangesRec). n.number) c.in_ok-add.ensures.added)
