use Rattle.std.proofs.Common.{◌≡◌, ◌-◌, sym, ap, ◌∙◌, arith}
use Rattle.snap_parts.specs.Parts.{seen}
use Rattle.snap_run.proofs.Logs.{kept_more, sum_more}
use Rattle.snap_run.proofs.keeping.saved_log.Goals as goal

pub loop-e-preserved : goal.loop-e-preserved
loop-e-preserved c =
    let slot = c.args.slot in
    let h = c.args.history.now in
    record {
      saved = λ d delay wire.
          let from : c.saturating_sub-from.result ≡ slot - d.delay = c.saturating_sub-from.ensures ∙ ap (λ n. slot - n) (sym delay) in
          kept_more slot d h c.loop-e.e-index _ c.saturating_sub-from.result c.args.wire (seen c.loop-e.log) (seen c.keep.new.log) c.in_ok-keep.ensures.kept from wire
          (c.loop-e.invariant.saved d delay wire) c.requires.before c.loop-e-test.true;
      few = omega (arith, sum_more c.saturating_sub-from.result c.args.wire (seen c.loop-e.log) (seen c.keep.new.log) _ c.in_ok-keep.ensures.kept, c.loop-e.invariant.few);
    }
