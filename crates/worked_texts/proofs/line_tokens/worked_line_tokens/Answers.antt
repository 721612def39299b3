use Rattle.std.proofs.Common.{refl}
use Rattle.worked_texts.proofs.Computes.{computes}
use Rattle.worked_texts.proofs.line_tokens.worked_line_tokens.Goals as goal

pub returns-clause-lines : goal.returns-clause-lines
unfolding computes
returns-clause-lines c = record { returns = refl; empty_text = refl; lone_feed = refl }

pub returns-clause-tokens : goal.returns-clause-tokens
unfolding computes
returns-clause-tokens c = record { words = refl; malformed = refl; parted = refl; bases = refl; comment_in_word = refl; slash = refl }
