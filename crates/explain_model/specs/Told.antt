-- All that is told of a faulty line of a source, below the line that refuses the text.
use Rattle.std.specs.Prelude.{ℕ, List, ◌++◌}
use Rattle.source_model.specs.declared.AsmKind.{AsmKind}
use Rattle.explain_model.specs.Spots.{SourceLine, number_of_line, bytes_of_line, spot_of}
use Rattle.explain_model.specs.Meant.{meant_line}
use Rattle.explain_model.specs.Quote.{quote_text, accepted_text}

unfoldable pub source_told : AsmKind → SourceLine → List ℕ
source_told kind at =
    quote_text (number_of_line at) (bytes_of_line at) (spot_of kind at).at ++ (accepted_text (spot_of kind at).wants ++ meant_line kind at)
