use Rattle.std.proofs.Common.{length}
use Rattle.word_forms.proofs.forms.+stop_of_words.Given as goal

abbrev pub decreases-stop_of_words : goal.decreases-stop_of_words
decreases-stop_of_words l = length l.form.now
