use Rattle.std.proofs.Common.{map, string_bytes}
use Rattle.program_calls.proofs.Asks.{taken-asked, reads-asked, unread, TookInput-read}
use Rattle.program_calls.proofs.Calls.{of_bytes, form-fits, finished_call}
use Rattle.program_calls.proofs.call.respond.Goals as goal

pub returns-in-Ok-answer_with : goal.returns-in-Ok-answer_with
returns-in-Ok-answer_with g c =
    let asked = g.P.Program.asked (map string_bytes c.args.words.now) in
    let a = c.in-Ok-answer_with.answer in
    let bytes = c.in-Ok.input.items in
    let front = taken-asked asked c.args.asks (g.S.Source.left c.args.source.now) bytes c.requires.coherent c.requires.asks c.in-Ok.ensures.front in
    finished_call g.S.Source.left g.S.Source.faults g.S.Source.read_gives g.K.Sink.written g.K.Sink.faults asked _ _ _ _ _ a _
    (TookInput-read asked _ _ bytes front c.in-Ok.ensures.input.taken)
    (reads-asked g.S.Source.read_gives asked c.args.asks _ _ c.requires.coherent c.requires.asks c.in-Ok.ensures.input.reads c.in-Ok.ensures.nothing)
    c.in-Ok.ensures.input.calm
    (unread asked c.args.asks _ _ c.requires.asks c.in-Ok.ensures.nothing)
    (of_bytes asked _ bytes c.deref.result.now a c.requires.coherent front c.in-Ok-answer_with.ensures c.deref.ensures.value)
    (form-fits asked _ a c.requires.coherent c.requires.has_form c.in-Ok-answer_with.ensures)
    c.bytes.ensures.value c.finish.ensures
