use Rattle.locality_laws.proofs.Shown.{shown_levels_fit}
use Rattle.range_laws.proofs.Runs.{runs_carry_bytes}
use Rattle.range_laws.proofs.Numbers.{numbers_of_runs_fit, runs_have_byte_dests}
use Rattle.range_laws.proofs.numbers_of_runs_fit.Goals as goal

pub returns : goal.returns
returns c =
    let kept = c.nodes_of_runs_may_be_kept.ensures.run in
    record {
      numbers = numbers_of_runs_fit shown_levels_fit kept;
      tokens = runs_carry_bytes shown_levels_fit kept;
      dests = runs_have_byte_dests shown_levels_fit kept;
    }
