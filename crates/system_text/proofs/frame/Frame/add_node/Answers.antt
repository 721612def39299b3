use Rattle.std.proofs.Common.{ap, ◌∙◌, nat_lt}
use Rattle.std.specs.List.{prefix_len}
use Rattle.system_text.proofs.Judged.{node_added}
use Rattle.system_text.proofs.frame.Frame.add_node.Goals as goal

pub returns : goal.returns
returns c =
    node_added _ c.args.self.now (record { line = c.args.line; number = c.args.node.number; id = c.args.node.id }) _ c.count_lesser-place.result c.self.view_is
    (c.count_lesser-place.ensures.count ∙ ap (prefix_len (λ n. nat_lt n.number c.args.node.number)) c.deref.ensures.value) c.in_ok-insert.ensures.items
