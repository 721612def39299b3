use Rattle.source_laws.proofs.Labelled.{labelled_within}
use Rattle.source_laws.proofs.LabelValues.{has_labels, in_range_parts}
use Rattle.source_laws.proofs.written.labels_stand_in_their_parts.Goals as goal

pub returns-clause-labels : goal.returns-clause-labels
returns-clause-labels c = has_labels

pub returns-clause-values : goal.returns-clause-values
returns-clause-values c = in_range_parts

pub returns-clause-within : goal.returns-clause-within
returns-clause-within c image place h = labelled_within _ _ _ place image.symbols h.places
