use Rattle.std.proofs.Common.{◌≡◌, length}
use Rattle.issue_text.proofs.watch_run.no_words.Given as goal

abbrev pub invariant-loop : goal.invariant-loop
invariant-loop l = length l.words.items ≡ l.counter
