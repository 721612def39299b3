use Rattle.std.proofs.Common.{◌≡◌, ◌<◌, ◌≤◌, [], List, length, get_or, Some, sym, ap, ◌∙◌, subst, arith}
use Rattle.std.specs.Prelude.{◌==◌}
use Rattle.std.specs.List.{list_any}
use Rattle.pin_scripts.specs.declared.line.Change.{Change}
use Rattle.pin_scripts.specs.Facts.{IfPort, IsPast, place_of, slot_of_change}
use Rattle.pin_scripts.proofs.Reading.{pin-past, twice}
use Rattle.pin_scripts.proofs.Views.{keeps-at, keeps-none}
use Rattle.pin_scripts.proofs.reader.Given.gives_pin_twice.Goals as goal

pub changes_in-requires : goal.changes_in-requires
changes_in-requires c =
    let script = c.args.self.now.lines.items in
    let nodes = c.args.self.now.nodes.items in
    let form = c.args.form.now in
    let port = c.in-Some.port in
    let named : form.port ≡ Some port = cc in
    let in_range : port < 29 = subst IfPort named c.requires.port in
    let node = c.index-node.result.now in
    let place = c.place_of-place.result in
    let count : c.len.result ≡ length nodes = cc in
    let at : place ≡ place_of nodes form.node = cc in
    let there : node ≡ get_or nodes place node = cc in
    let inside : place < length nodes = omega (arith, count) in
    let keeps = keeps-at script nodes form.node place node c.requires.given.index at inside there in
    let pin : c.pin.result.now ≡ get_or node.pins port [] = cc in
    subst (IsPast slot_of_change form.slot) (sym pin) (pin-past script form.slot form.node port node keeps in_range c.requires.given.script_is c.requires.later)

pub returns-then-place-len : goal.returns-then-place-len
returns-then-place-len c =
    let script = c.args.self.now.lines.items in
    let nodes = c.args.self.now.nodes.items in
    let form = c.args.form.now in
    let port = c.in-Some.port in
    let named : form.port ≡ Some port = cc in
    let in_range : port < 29 = subst IfPort named c.requires.port in
    let node = c.index-node.result.now in
    let place = c.place_of-place.result in
    let count : c.len.result ≡ length nodes = cc in
    let at : place ≡ place_of nodes form.node = cc in
    let there : node ≡ get_or nodes place node = cc in
    let inside : place < length nodes = omega (arith, count) in
    let keeps = keeps-at script nodes form.node place node c.requires.given.index at inside there in
    let pin : c.pin.result.now ≡ get_or node.pins port [] = cc in
    c.changes_in.ensures ∙ ap (λ (cs : List Change). list_any (λ (x : Change). x.slot == form.slot) cs) pin ∙ twice script form.slot form.node port form.port node keeps in_range named

pub returns-else-place-len : goal.returns-else-place-len
returns-else-place-len c =
    let script = c.args.self.now.lines.items in
    let nodes = c.args.self.now.nodes.items in
    let form = c.args.form.now in
    let port = c.in-Some.port in
    let named : form.port ≡ Some port = cc in
    let in_range : port < 29 = subst IfPort named c.requires.port in
    let count : c.len.result ≡ length nodes = cc in
    let at : c.place_of-place.result ≡ place_of nodes form.node = cc in
    let past : length nodes ≤ place_of nodes form.node = omega (arith, count, at) in
    twice script form.slot form.node port form.port _ (keeps-none script nodes form.node c.requires.given.index past) in_range named
