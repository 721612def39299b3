use Rattle.std.proofs.Common.{length}
use Rattle.explain_text.proofs.forms.+stop_of_parts.Given as goal

abbrev pub decreases-stop_of_parts : goal.decreases-stop_of_parts
decreases-stop_of_parts l = length l.parts.now
