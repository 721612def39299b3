-- The lines that refuse a system text.
use Rattle.std.specs.Prelude.{ℕ, List, [], ◌∷◌, ◌++◌, codes, decimal}
use Rattle.source_model.specs.declared.AsmKind.{AsmKind}
use Rattle.source_model.specs.declared.AsmKind.TheVariants as asm
use Rattle.pin_scripts.specs.declared.pin_error.PinKind.{PinKind}
use Rattle.pin_scripts.specs.declared.pin_error.PinKind.TheVariants as pin
use Rattle.system_model.specs.declared.SysKind.{SysKind}
use Rattle.system_model.specs.declared.SysKind.TheVariants as sys

abbrev pub text_of_sys_kind : SysKind → List ℕ
text_of_sys_kind sys.FirstLine = codes "S1 first line is not xs1 1 or xs1 2"
text_of_sys_kind sys.BadLine = codes "S2 bad line"
text_of_sys_kind sys.GivenTwice = codes "S3 given twice"
text_of_sys_kind sys.IdTwice = codes "S4 id twice"
text_of_sys_kind sys.LinkEndTwice = codes "S5 link end twice"
text_of_sys_kind sys.LinkToItself = codes "S6 link from a node to itself"
text_of_sys_kind sys.NumberOutOfRange = codes "S7 number out of range"
text_of_sys_kind sys.NodeWithoutSource = codes "S8 node without source"
text_of_sys_kind sys.SectionNotEnded = codes "S9 section not ended"
text_of_sys_kind sys.TooLong = codes "S10 input too long"
text_of_sys_kind sys.BitTwice = codes "S11 bit twice"
text_of_sys_kind sys.NoSuchNode = codes "S12 no such node or link end"
text_of_sys_kind sys.TooMany = codes "S13 too many nodes or links"
text_of_sys_kind sys.WireWithinNode = codes "S14 wire within one node"
text_of_sys_kind sys.WidthsDiffer = codes "S15 widths differ"
text_of_sys_kind sys.PinWiredTwice = codes "S16 pin wired twice"
text_of_sys_kind sys.TooManyWires = codes "S17 too many wires"

abbrev pub text_of_asm_kind : AsmKind → List ℕ
text_of_asm_kind asm.BadByte = codes "A1 bad byte"
text_of_asm_kind asm.UnknownName = codes "A2 unknown name"
text_of_asm_kind asm.WrongOperands = codes "A3 wrong operands"
text_of_asm_kind asm.NumberOutOfRange = codes "A4 number out of range"
text_of_asm_kind asm.LabelTwice = codes "A5 label defined twice"
text_of_asm_kind asm.LabelMissing = codes "A6 label missing"
text_of_asm_kind asm.DirectiveNotAllowed = codes "A7 directive not allowed"
text_of_asm_kind asm.TooManyInstructions = codes "A8 too many instructions"
text_of_asm_kind asm.TooManyBytes = codes "A9 too many bytes"

abbrev pub text_of_pin_kind : PinKind → List ℕ
text_of_pin_kind pin.BadLine = codes "P1 bad line"
text_of_pin_kind pin.SlotFalls = codes "P2 slot falls"
text_of_pin_kind pin.NoSuchPort = codes "P3 no such port"
text_of_pin_kind pin.ValueTooWide = codes "P4 value too wide"
text_of_pin_kind pin.NoSuchNode = codes "P5 no such node"
text_of_pin_kind pin.PinGivenTwice = codes "P6 pin given twice"

-- `system line L: KIND TEXT`
abbrev pub frame_text : ℕ → SysKind → List ℕ
frame_text line kind = codes "system line " ++ (decimal line ++ (codes ": " ++ (text_of_sys_kind kind ++ (10 ∷ []))))

-- `source N line L: KIND TEXT`
abbrev pub source_text : ℕ → ℕ → AsmKind → List ℕ
source_text node line kind =
    codes "source " ++ (decimal node ++ (codes " line " ++ (decimal line ++ (codes ": " ++ (text_of_asm_kind kind ++ (10 ∷ []))))))

-- `pins line L: KIND TEXT`
abbrev pub pins_text : ℕ → PinKind → List ℕ
pins_text line kind = codes "pins line " ++ (decimal line ++ (codes ": " ++ (text_of_pin_kind kind ++ (10 ∷ []))))
