use Rattle.std.proofs.Common.{◌≡◌, map, drop}
use Rattle.explain_model.specs.Wants.{word_text}
use Rattle.explain_model.specs.Near.{near_from}
use Rattle.marked_lines.specs.Near.{near_of_kept}
use Rattle.marked_lines.proofs.near.add_words.Given as goal

abbrev pub invariant-loop-word : goal.invariant-loop-word
invariant-loop-word l =
    near_from l.name (map near_of_kept l.found.items) (map word_text (drop l.word-index l.words)) ≡ near_from l.name (map near_of_kept l.initial.found.items) (map word_text l.words)
