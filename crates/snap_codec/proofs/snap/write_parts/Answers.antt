use Rattle.std.proofs.Common.{◌<◌, ◌^◌, ℕ, List, length, sym, ap, subst}
use Rattle.snap_parts.specs.Parts.{BodyRec, body_of}
use Rattle.snap_codec.proofs.Heads.{text_few}
use Rattle.snap_codec.proofs.ArcFacts.{AreFew, logs_few, few_seen}
use Rattle.snap_codec.proofs.Whole.{snap_written}
use Rattle.snap_codec.proofs.snap.write_parts.Goals as goal

pub write_head-requires : goal.write_head-requires
write_head-requires c = record {
  few = subst (λ (text : List ℕ). length text < 2 ^ 32) (sym c.text.ensures.value) (text_few c.args.snap.now.text c.text.ensures.snap.is.text);
}

pub write_body-requires : goal.write_body-requires
write_body-requires c =
    let s = c.system.ensures.snap in
    let same = ap (λ (b : BodyRec). b.logs) (sym c.system.ensures.value) in
    record { few = few_seen c.system.result.now.logs.items (subst AreFew same (logs_few s.plan c.args.snap.now.body s.is.body)) }

pub returns-clause-text : goal.returns-clause-text
returns-clause-text c = λ plan system.
    snap_written plan c.args.snap.now c.text.result.now c.new-out.result c.write_head.new.out c.write_body.new.out (body_of c.system.result.now) c.text.ensures.snap system
    c.text.ensures.value c.system.ensures.value c.new-out.ensures.empty c.in_ok-write_head.ensures.value c.in_ok-write_body.ensures.value
