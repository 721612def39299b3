use Rattle.std.proofs.Common.{rules, ltb, map, ap, ◌∙◌, arith}
use Rattle.made_lists.proofs.Made.{made_of}
use Rattle.snap_codec.proofs.nodes.there.Goals as goal

pub returns : goal.returns
returns c =
    made_of _ _ (λ gap. ltb 0 gap) c.gaps.result c.map.result 8 0 (omega arith) c.map.ensures.items (λ p x y q called. search rules)
    ∙ ap (map (λ gap. ltb 0 gap)) c.gaps.ensures.value
