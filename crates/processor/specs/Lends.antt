-- What a processor ends as, where the channel ends are lent.
use Rattle.std.specs.Prelude.{List}
use Rattle.std.specs.Borrow.{Lends, Fml, MutBor}
use Rattle.xs_model.specs.Record.{CoreRec, ChanRec}
use Rattle.chan_ends.specs.contracts.ends.ChanEnds.{the_row as chans_row}
use Rattle.processor.specs.contracts.processor.Processor.{the_row}

-- once the borrow r ends, the channel ends are the last ones written through r
abbrev pub LendsChans : MutBor CoreRec → MutBor (List ChanRec) → Fml
LendsChans processor r = Lends the_row chans_row processor r (λ (chans : List ChanRec). record processor.now { chans = chans })
