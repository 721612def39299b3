use Rattle.std.proofs.Common.{◌≡◌, List, [], ◌++◌, map, subst}
use Rattle.std.proofs.lemmas.Result.{on_ok_weaker}
use Rattle.snap_parts.specs.declared.log.SnapLog.{SnapLog}
use Rattle.snap_parts.specs.declared.node.SnapNode.{SnapNode}
use Rattle.snap_parts.specs.Parts.{LogRec, body_of, seen}
use Rattle.byte_forms.specs.Forms.{write_chain}
use Rattle.snap_codec.specs.Body.{nodes, any_log}
use Rattle.snap_codec.proofs.Written.{body_written}
use Rattle.snap_codec.proofs.body.write_body.Goals as goal

pub returns : goal.returns
returns c = record {
  value = on_ok_weaker c.write_logs.result
      (λ e plan h.
      let b = body_of c.args.system.now in
      let two = subst (λ (ns : List SnapNode). c.write_nodes.new.out ≡ c.write_word.new.out ++ (nodes plan b.slot).write ns) c.deref.ensures.value (c.in_ok-write_nodes.ensures.value plan b.slot) in
      let three = subst (λ (ls : List SnapLog). c.write_logs.new.out ≡ c.write_nodes.new.out ++ write_chain (λ (_ : List LogRec). any_log) [] (map seen ls)) c.deref-2.ensures.value e in
      body_written plan b c.args.out.now c.write_word.new.out c.write_nodes.new.out c.write_logs.new.out h c.in_ok-write_word.ensures.value two three)
      c.write_logs.ensures.value;
}
