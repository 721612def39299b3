use Rattle.std.proofs.lemmas.Result.{on_ok_weaker}
use Rattle.snap_codec.proofs.Heads.{head_written}
use Rattle.snap_codec.proofs.head.write_head.Goals as goal

pub returns : goal.returns
returns c = record {
  value = on_ok_weaker c.write_text.result (λ e. head_written c.args.out.now c.args.text.now c.append.new.self c.write_text.new.out c.in_ok-append.ensures.ok e) c.write_text.ensures.value;
}
