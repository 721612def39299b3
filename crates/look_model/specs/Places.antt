-- Where a thread is: the line of its source, the label before it, and the instruction.
use Rattle.std.specs.Prelude.{ℕ, ◌-◌, ◌/◌, ◌==◌, Bool, ◌&&◌, nat_le, nat_lt, if◌then◌else◌, Option, Some, None, List, [], ◌∷◌, ◌++◌, slice_index_or, codes, decimal}
use Rattle.xs_base.specs.Numbers.{Word}
use Rattle.xs_instructions.specs.declared.instr.Instr.{Instr}
use Rattle.xs_instructions.specs.Code.{code_start, code_at}
use Rattle.xs_instructions.specs.Image.{ImageRec, Symbol}
use Rattle.xs_instructions.specs.Spelling.{spelling}
use Rattle.source_model.specs.Canonical.{statement_text}
use Rattle.trace_model.specs.EventLines.{hex_word}

-- whether a label stands in the code, at an address or before it
abbrev pub is_up_to : Word → Symbol → Bool
is_up_to pc label = nat_le code_start label.1 && nat_le label.1 pc

-- of the labels up to an address the later one, and of two at one address the first
abbrev pub later_label : Word → Option Symbol → Symbol → Option Symbol
later_label pc None label = if is_up_to pc label then Some label else None
later_label pc (Some best) label = if is_up_to pc label && nat_lt best.1 label.1 then Some label else Some best

abbrev pub last_label_from : Option Symbol → Word → List Symbol → Option Symbol
last_label_from best pc [] = best
last_label_from best pc (label ∷ labels) = last_label_from (later_label pc best label) pc labels

-- the last label of the code up to an address
abbrev pub last_label : Word → List Symbol → Option Symbol
last_label pc labels = last_label_from None pc labels

-- `+D`, so many bytes past a label
abbrev pub distance_text : ℕ → List ℕ
distance_text d = if d == 0 then [] else codes "+" ++ decimal d

-- ` LABEL+D`
abbrev pub label_text : Word → Option Symbol → List ℕ
label_text pc None = []
label_text pc (Some label) = codes " " ++ (label.0 ++ distance_text (pc - label.1))

-- the line of the instruction at an address, by the lines of all instructions
abbrev pub line_at : List ℕ → Word → ℕ
line_at lines pc = slice_index_or lines ((pc - code_start) / 4) 0

-- ` line L LABEL+D: INSTRUCTION`, or ` LABEL+D: no instruction`
abbrev pub standing_text : List ℕ → ImageRec → Word → Option Instr → List ℕ
standing_text lines image pc None = label_text pc (last_label pc image.symbols) ++ codes ": no instruction"
standing_text lines image pc (Some ins) =
    codes " line " ++ (decimal (line_at lines pc) ++ (label_text pc (last_label pc image.symbols) ++ (codes ": " ++ statement_text image.symbols (spelling ins))))

-- ` at PC`, and what stands there, where the instructions of the image are of these lines
abbrev pub place_text : List ℕ → ImageRec → Word → List ℕ
place_text lines image pc = codes " at " ++ (hex_word pc ++ standing_text lines image pc (code_at image.code pc))
