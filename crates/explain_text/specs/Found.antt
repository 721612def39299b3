-- Names that were found, as they are kept.
use Rattle.explain_model.specs.Spots.{Use}
use Rattle.explain_model.specs.Labels.{Twice}
use Rattle.placed_tokens.specs.Tokens.{placed_of}
use Rattle.explain_text.specs.declared.uses.Use as kept_use
use Rattle.explain_text.specs.declared.labels.Twice as kept_twice

abbrev pub use_of_kept : kept_use.Use → Use
use_of_kept found = record { label = placed_of found.label; want = found.want }

abbrev pub twice_of_kept : kept_twice.Twice → Twice
twice_of_kept twice = record { label = placed_of twice.label; line = twice.line }
