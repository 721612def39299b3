use Rattle.std.proofs.Common.{ℕ, ◌≡◌, ◌<◌, length, map, Vec, Global}
use Rattle.std.specs.Prelude.{slice_index_or}
use Rattle.issue_model.specs.Seen.{node_after}
use Rattle.issue_text.specs.declared.words.Word.{Word}
use Rattle.issue_text.specs.Words.{word_of}
use Rattle.issue_text.proofs.watch_run.keep_all.Given as goal

abbrev pub invariant-loop-n : goal.invariant-loop-n
invariant-loop-n l = record {
  long : length l.words ≡ length l.initial.words;
  kept : (k : ℕ) (none : Vec Word Global) → k < l.n
      → (slice_index_or l.words k none).items ≡ map (word_of (node_after l.run.plan l.run.now k).core.memory) l.addresses;
}
