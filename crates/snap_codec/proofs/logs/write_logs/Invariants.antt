use Rattle.std.proofs.Common.{◌≡◌, ◌++◌, [], take, drop, map}
use Rattle.snap_parts.specs.Parts.{seen}
use Rattle.byte_forms.specs.Forms.{write_chain}
use Rattle.snap_codec.specs.Body.{any_log}
use Rattle.snap_codec.proofs.logs.write_logs.Given as goal

abbrev pub invariant-loop-log : goal.invariant-loop-log
invariant-loop-log l =
    l.out ++ write_chain (λ _. any_log) (map seen (take l.log-index l.logs)) (map seen (drop l.log-index l.logs)) ≡ l.fn.out ++ write_chain (λ _. any_log) [] (map seen l.logs)
