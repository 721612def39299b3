use Rattle.std.proofs.Common.{◌==◌}
use Rattle.std.specs.Prelude.{slice_index_or}
use Rattle.xs_base.specs.declared.numbers.TheConstants.{BUFFER_TOKENS}
use Rattle.link_ends.specs.States.{absent_end}
use Rattle.profile_model.specs.Counts.{is_slot}
use Rattle.run_counts.proofs.More.{IsCountedTo}
use Rattle.run_counts.proofs.links.LinkCounts.count.Given as goal

abbrev pub invariant-loop-e : goal.invariant-loop-e
invariant-loop-e l = record {
  tokens : IsCountedTo (λ e. is_slot l.slot (slice_index_or l.ends e absent_end).last) l.e l.initial.self.tokens l.self.tokens;
  full : IsCountedTo (λ e. (slice_index_or l.ends e absent_end).window == BUFFER_TOKENS) l.e l.initial.self.full l.self.full;
}
