use Rattle.system_model.proofs.CutText.{cut_refused}
use Rattle.system_model.proofs.cut_text.cut_texts_are_refused.Goals as goal

pub returns : goal.returns
returns c = record { cut = cut_refused }
