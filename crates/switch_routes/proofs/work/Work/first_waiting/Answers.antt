use Rattle.std.proofs.Common.{◌-◌}
use Rattle.std.proofs.lemmas.Bool.{le-ltb}
use Rattle.chan_ends.specs.Ends.{chan_at}
use Rattle.switch_routes.proofs.GoesBy.{first_cases}
use Rattle.switch_routes.proofs.work.Work.first_waiting.Goals as goal

pub returns-else-input-lt-LINK_ENDS : goal.returns-else-input-lt-LINK_ENDS
returns-else-input-lt-LINK_ENDS c =
    rw (le-ltb c.args.input 8 c.if-input-lt-LINK_ENDS.false)
    (record { cases = first_cases c.first_out.result (chan_at c.args.self.now.chans.now (c.args.input - 8)).output c.first_out.ensures.value })
