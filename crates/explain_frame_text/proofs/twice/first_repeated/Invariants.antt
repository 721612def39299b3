use Rattle.std.proofs.Common.{◌≡◌, [], map, take, drop}
use Rattle.explain_frame_model.specs.FrameWords.{first_repeated}
use Rattle.explain_frame_text.specs.LineWords.{word_of}
use Rattle.explain_frame_text.proofs.twice.first_repeated.Given as goal

abbrev pub invariant-loop-k : goal.invariant-loop-k
invariant-loop-k l = first_repeated (map word_of (take l.k l.words)) (map word_of (drop l.k l.words)) ≡ first_repeated [] (map word_of l.words)
