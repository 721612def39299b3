use Rattle.std.proofs.Common.{take, drop, arith, ◌∙◌}
use Rattle.std.proofs.lemmas.List.{take_rest}
use Rattle.std.specs.Io.KnownBytes.{Appends}
use Rattle.xs_edge.specs.Edge.{AppendsPart}
use Rattle.program_calls.proofs.Pieces.{Appends-more, AppendsPart-more, OnErr-held}
use Rattle.program_calls.proofs.output.write_all.Goals as goal

pub loop-done-preserved : goal.loop-done-preserved
loop-done-preserved g c =
    let text = c.args.text.now in
    let piece : Appends (g.K.Sink.written c.loop-done.sink) (g.K.Sink.written c.put.new.self) (take c.in_ok-done.field-0 (drop c.loop-done.done text)) =
    rw take_rest at c.in_ok-done.ensures.bytes in
    (omega (arith, c.in_ok-done.ensures.fits), Appends-more _ _ _ text c.loop-done.done c.in_ok-done.field-0 c.loop-done.invariant.1 piece, c.in_ok-done.ensures.calm ∙ c.loop-done.invariant.2)

pub returns-in_err-done-clause-part : goal.returns-in_err-done-clause-part
returns-in_err-done-clause-part g c =
    let text = c.args.text.now in
    let part : AppendsPart (g.K.Sink.written c.loop-done.sink) (g.K.Sink.written c.put.new.self) (drop c.loop-done.done text) =
    rw take_rest at c.in_err-done.ensures.failed_part in
    OnErr-held _ (AppendsPart-more _ _ _ text c.loop-done.done c.loop-done.invariant.1 part)
