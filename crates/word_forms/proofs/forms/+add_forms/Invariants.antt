use Rattle.std.proofs.Common.{length}
use Rattle.word_forms.proofs.forms.+add_forms.Given as goal

abbrev pub decreases-add_forms : goal.decreases-add_forms
decreases-add_forms l = length l.forms.now
