-- Where code stands: the instruction at place k has the address 0x00040000 + 4k.
use Rattle.std.specs.Prelude.{ℕ, ◌+◌, ◌-◌, ◌*◌, ◌/◌, ◌%◌, Bool, ◌&&◌, ◌==◌, nat_le, nat_lt, if◌then◌else◌, Option, None, List, length, slice_get}
use Rattle.xs_base.specs.declared.numbers.TheConstants.{CODE_START}
use Rattle.xs_instructions.specs.declared.instr.Instr.{Instr}

abbrev pub code_start : ℕ
code_start = CODE_START

-- the address of the instruction at a place, counted from 0
abbrev pub place_address : ℕ → ℕ
place_address place = code_start + 4 * place

-- whether an instruction stands at an address
abbrev pub is_code_place : List Instr → ℕ → Bool
is_code_place code pc = nat_le code_start pc && ((pc - code_start) % 4 == 0) && nat_lt ((pc - code_start) / 4) (length code)

-- the instruction at an address, if one stands there
abbrev pub code_at : List Instr → ℕ → Option Instr
code_at code pc = if is_code_place code pc then slice_get code ((pc - code_start) / 4) else None
