use Rattle.std.proofs.Common.{ℕ, ◌+◌, List, [], length, ap, ◌∙◌, subst}
use Rattle.std.specs.Prelude.{slice_index_or}
use Rattle.xs_instructions.specs.declared.instr.Instr.{Instr}
use Rattle.run_counts.specs.Tallies.{at, HasPlaces}
use Rattle.run_counts.proofs.Start.{zero-rows}
use Rattle.run_counts.proofs.nodes.NodeCounts.new.Goals as goal

pub returns : goal.returns
returns c = record {
  none = record {
    threads = λ k char within. ap (λ (threads : List (List ℕ)). at (slice_index_or threads k []) char) c.no_threads.ensures ∙ zero-rows k char within;
    places = subst (λ (code : List Instr). HasPlaces c.in_ok-new.field-0 (length code + 1)) c.code.ensures.value c.in_ok-new.ensures.places;
    none = c.in_ok-new.ensures.none;
    tokens = c.new-2.ensures.tokens;
    full = c.new-2.ensures.full;
  };
}
