use Rattle.std.proofs.Common.{◌∙◌}
use Rattle.run_plan.proofs.InFlight.{track-begins}
use Rattle.run_plan.proofs.begun.track_by.Goals as goal

pub returns : goal.returns
returns c =
    let log = c.args.log.now in
    let same = c.in_ok-history.ensures.entries ∙ c.entries.ensures.value in
    record {
      begins =
          track-begins c.args.slot c.args.from c.args.from_end c.args.to c.args.delay log.entries.entries c.in_ok-history.history c.see.new.self c.requires.end c.requires.delayed c.requires.log same
          c.see.ensures.seen;
    }
