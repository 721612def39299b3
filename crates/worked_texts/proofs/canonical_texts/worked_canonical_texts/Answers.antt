use Rattle.std.proofs.Common.{refl}
use Rattle.worked_texts.proofs.Computes.{computes}
use Rattle.worked_texts.proofs.canonical_texts.worked_canonical_texts.Goals as goal

pub returns-clause-texts : goal.returns-clause-texts
unfolding computes
returns-clause-texts c = record { nothing = refl; labels = refl; constants = refl; constants_alone = refl; full_data = refl; end_of_code = refl }

pub returns-clause-spellings : goal.returns-clause-spellings
unfolding computes
returns-clause-spellings c = record { words = refl; memory = refl; flow = refl; kernel = refl; threads = refl; resources = refl }

pub returns-clause-rewriting : goal.returns-clause-rewriting
unfolding computes
returns-clause-rewriting c = record { source = refl; nothing = refl; names = refl }
