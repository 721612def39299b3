-- What the assembler returns for a source.
use Rattle.std.specs.Prelude.{ℕ, ◌≡◌, Option, Some, Result, Ok, Err}
use Rattle.xs_instructions.specs.Image.{ImageRec}
use Rattle.source_model.specs.declared.AsmKind.{AsmKind}
use Rattle.source_model.specs.Source.{Assembled, Image, Fault}
use Rattle.xs_assembler.specs.declared.asm_error.AsmError.{AsmError}
use Rattle.xs_assembler.specs.declared.asm_error.AsmError.TheVariants as error

-- The image that the source stands for, or its fault; unless memory was wanting.
abbrev pub Assembles : Assembled → Result ImageRec AsmError → Type 0
Assembles stands (Ok image) = stands ≡ Image image
Assembles stands (Err (error.Fault line kind)) = stands ≡ Fault line kind
Assembles stands (Err error.Memory) = Unit {0}

-- this image, unless memory was wanting
abbrev pub GivesImage : ImageRec → Result ImageRec AsmError → Type 0
GivesImage image (Ok given) = given ≡ image
GivesImage image (Err e) = e ≡ error.Memory

-- this fault, unless memory was wanting
abbrev pub GivesFault : ℕ → AsmKind → Result ImageRec AsmError → Type 0
GivesFault line kind (Ok image) = ⊥
GivesFault line kind (Err (error.Fault at why)) = (at ≡ line) × (why ≡ kind)
GivesFault line kind (Err error.Memory) = Unit {0}

-- an error for want of memory, or the fault, where the source stands for it
abbrev pub FaultOf : Assembled → AsmError → Type 0
FaultOf stands (error.Fault line kind) = stands ≡ Fault line kind
FaultOf stands error.Memory = Unit {0}

-- the first fault of lines, unless memory was wanting
abbrev pub FirstFault : Option (ℕ × AsmKind) → AsmError → Type 0
FirstFault first (error.Fault line kind) = first ≡ Some (line, kind)
FirstFault first error.Memory = Unit {0}
