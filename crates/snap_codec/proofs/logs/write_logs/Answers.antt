use Rattle.std.proofs.Common.{[], ◌++◌, map, take, List}
use Rattle.std.proofs.lemmas.List.{drop_all}
use Rattle.snap_parts.specs.Parts.{LogRec, seen}
use Rattle.byte_forms.specs.Forms.{write_chain}
use Rattle.byte_forms.proofs.Lists.{writes_all}
use Rattle.snap_codec.specs.Body.{any_log}
use Rattle.snap_codec.proofs.Written.{log_more}
use Rattle.snap_codec.proofs.logs.write_logs.Goals as goal

pub loop-log-preserved : goal.loop-log-preserved
loop-log-preserved c =
    let logs = c.args.logs.now in
    log_more c.loop-log.out c.write_log.new.out logs c.loop-log.log-index c.log-item.result (c.args.out.now ++ write_chain (λ (_ : List LogRec). any_log) [] (map seen logs))
    c.loop-log-test.true c.log-item.is (c.in_ok-write_log.ensures.wire 0 0 0) c.loop-log.invariant

pub returns : goal.returns
returns c =
    let logs = c.args.logs.now in
    let i = c.loop-log.log-index in
    let so_far = rw (drop_all i logs c.loop-log-test.false) at c.loop-log.invariant in
    record { value = writes_all (λ (_ : List LogRec). any_log) c.loop-log.out (map seen (take i logs)) (c.args.out.now ++ write_chain (λ (_ : List LogRec). any_log) [] (map seen logs)) so_far }
