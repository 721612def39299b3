use Rattle.std.proofs.Common.{refl, map, string_bytes}
use Rattle.program_calls.proofs.Asks.{nothing_read, TookInput-none}
use Rattle.program_calls.proofs.Calls.{of_any, usage-fits, finished_call}
use Rattle.program_calls.proofs.call.refuse.Goals as goal

pub returns : goal.returns
returns g c =
    let asked = g.P.Program.asked (map string_bytes c.args.words.now) in
    finished_call g.S.Source.left g.S.Source.faults g.S.Source.read_gives g.K.Sink.written g.K.Sink.faults asked _ _ _ _ _ _ _
    (TookInput-none asked _ (c.requires.coherent.nothing (c.requires.coherent.unasked c.requires.no_form)))
    (nothing_read g.S.Source.read_gives asked _ c.requires.coherent) refl (λ _. refl)
    (of_any asked _ _ (c.requires.coherent.refused c.requires.no_form)) (usage-fits asked c.requires.no_form) c.requires.line c.finish.ensures
