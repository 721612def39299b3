use Rattle.std.proofs.Common.{◌≡◌, length, nat_le, ◌∙◌}
use Rattle.pin_scripts.specs.Facts.{place_of}
use Rattle.pin_scripts.proofs.Reading.{not-numbered}
use Rattle.pin_scripts.proofs.reader.Given.names_no_node.Goals as goal

pub returns : goal.returns
returns c =
    let nodes = c.args.self.now.nodes.items in
    let count : c.len.result ≡ length nodes = cc in
    let at : c.place_of.result ≡ place_of nodes c.args.form.now.node = cc in
    (λ i. nat_le (count i) (at i)) ∙ not-numbered nodes c.args.form.now.node
