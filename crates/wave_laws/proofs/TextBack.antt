-- The text of lines of allowed bytes has these lines.
use Rattle.std.proofs.Common.{◌≡◌, ℕ, true, List, [], ◌∷◌, ap, ◌∙◌, append_assoc}
use Rattle.std.specs.List.{AllByRecursion}
use Rattle.xs_text.specs.Bytes.{all_allowed}
use Rattle.xs_text.specs.Lines.{lines_of}
use Rattle.wave_model.specs.Waves.{text_of_lines}
use Rattle.source_laws.proofs.TextLines.{lines_of-line, lines_of-none}

abbrev pub IsAllowedLine : List ℕ → Type 0
IsAllowedLine line = all_allowed line ≡ true

-- the lines of the text of lines
pub lines_back : (lines : List (List ℕ)) → AllByRecursion IsAllowedLine lines → lines_of (text_of_lines lines) ≡ lines
lines_back [] h = lines_of-none
lines_back (line ∷ lines) h =
    ap (λ t. lines_of t) (append_assoc line (10 ∷ []) (text_of_lines lines))
    ∙ (lines_of-line line (text_of_lines lines) h.0 ∙ ap (λ l. line ∷ l) (lines_back lines h.1))
