-- What sources stand for, worked out by hand.
use Rattle.std.specs.Prelude.{ℕ, ◌≡◌, true, false, Option, Some, None, List, [], ◌∷◌, ◌++◌, map, take, codes, replicate, flat_map}
use Rattle.xs_text.specs.Lines.{lines_of}
use Rattle.xs_text.specs.Tokens.{tokens_of}
use Rattle.xs_instructions.specs.Image.{ImageRec, Symbol}
use Rattle.xs_instructions.specs.declared.instr.Instr.{Instr}
use Rattle.xs_instructions.specs.declared.instr.Instr.TheVariants.{Words, Memory, Flow, Kernel, Resources}
use Rattle.xs_instructions.specs.declared.instr.WordIns.TheVariants.{AddImm, ShlImm, Mul, Ldc, Nop}
use Rattle.xs_instructions.specs.declared.instr.MemIns.TheVariants.{LdwDp, LdwCp, StwDp, LdawBack}
use Rattle.xs_instructions.specs.declared.instr.FlowIns.TheVariants.{Bu, Bt, Bl}
use Rattle.xs_instructions.specs.declared.instr.KernelIns.TheVariants.{KcallImm, LdwSpc}
use Rattle.xs_instructions.specs.declared.instr.ResIns.TheVariants.{Outct, OutctImm, Inpw, Outpw, Inshr, Outshr, Setclk}
use Rattle.xs_instructions.specs.declared.rows.Row.TheVariants as row
use Rattle.source_model.specs.declared.AsmKind.TheVariants.{BadByte, UnknownName, WrongOperands, NumberOutOfRange, LabelTwice, LabelMissing, DirectiveNotAllowed, TooManyInstructions, TooManyBytes}
use Rattle.source_model.specs.declared.layout.Section.TheVariants.{Data, Constants}
use Rattle.source_model.specs.Operands.{Amount, Known, Offset, operands_of, amounts_of}
use Rattle.source_model.specs.Statement.{line_of}
use Rattle.source_model.specs.Layout.{Sofar, whole_of}
use Rattle.source_model.specs.Source.{Assembled, Image, Fault, assembled, is_missing, instruction_in}

abbrev pub of_source : {A : Type 0} → (ImageRec → A) → Assembled → Option A
of_source part (Image image) = Some (part image)
of_source part (Fault line kind) = None

abbrev pub code_of_source : List ℕ → Option (List Instr)
code_of_source text = of_source (λ image. image.code) (assembled text)

abbrev pub bytes_of_source : List ℕ → Option (List ℕ)
bytes_of_source text = of_source (λ image. image.bytes) (assembled text)

abbrev pub symbols_of_source : List ℕ → Option (List Symbol)
symbols_of_source text = of_source (λ image. image.symbols) (assembled text)

abbrev pub constants_of_source : List ℕ → Option ℕ
constants_of_source text = of_source (λ image. image.cp_at) (assembled text)

abbrev pub nop : Instr
nop = Words Nop

-- bytes: tab and space to `~` alone, in comments too
pub record WorkedBadBytes : Type 0 where
  pub tab : code_of_source (codes "\tnop\t# x") ≡ Some (nop ∷ [])
  pub in_a_comment : assembled (codes "nop // " ++ (127 ∷ [])) ≡ Fault 1 BadByte
  pub returns : code_of_source (codes "nop\r\nnop\r\n") ≡ Some (nop ∷ nop ∷ [])
  pub two_returns : assembled (codes "nop\r\r\n") ≡ Fault 1 BadByte
  pub return_at_the_end : assembled (codes "nop\nnop\r") ≡ Fault 2 BadByte
  -- the line defines no label, adds nothing and begins no section
  pub no_label : assembled (codes "bu x\nx: # " ++ (1 ∷ codes "\n")) ≡ Fault 1 LabelMissing
  pub no_bytes : assembled (codes "ldw r0, dp[x]\n.data\n.byte 1 # " ++ (1 ∷ codes "\nx:")) ≡ Fault 3 BadByte
  pub no_section : assembled (codes "bu x\n.data # " ++ (200 ∷ codes "\nx:")) ≡ Fault 2 BadByte
  pub before_all : assembled (codes "a: a: foo " ++ (0 ∷ [])) ≡ Fault 1 BadByte

-- names of instructions
pub record WorkedUnknownNames : Type 0 where
  pub no_row : assembled (codes "foo r0\na: a:") ≡ Fault 1 UnknownName
  pub capitals : assembled (codes "nop\nADD r0, r1, r2") ≡ Fault 2 UnknownName
  pub register : assembled (codes "r0 r1") ≡ Fault 1 UnknownName
  pub status_register : assembled (codes "sr") ≡ Fault 1 UnknownName
  pub label : assembled (codes "main: main") ≡ Fault 1 UnknownName
  pub after_a_reserved_label : assembled (codes "r0: foo") ≡ Fault 1 UnknownName
  pub malformed_number : assembled (codes "foo 12ab") ≡ Fault 1 UnknownName
  pub after_a_row : assembled (codes "setclk res[r0], r1\nsetclock res[r0], r1") ≡ Fault 2 UnknownName
  -- of two rows with a name both are found
  pub two_rows : code_of_source (codes "outct res[r0], 1\noutct res[r0], r1") ≡ Some (Resources (OutctImm 0 1) ∷ Resources (Outct 0 1) ∷ [])
  -- the rows on ports alone, in which a register stands before the resource or after it
  pub port_rows : code_of_source (codes "inshr r1, res[r0]\noutshr res[r2], r3\nsetclk res[r4], r5") ≡ Some (Resources (Inshr 1 0) ∷ Resources (Outshr 2 3) ∷ Resources (Setclk 4 5) ∷ [])

-- shapes
pub record WorkedShapes : Type 0 where
  pub operand_missing : assembled (codes "add r0, r1") ≡ Fault 1 WrongOperands
  pub operand_more : assembled (codes "add r0, r1, r2 r3") ≡ Fault 1 WrongOperands
  pub operand_missing_in_a_product : assembled (codes "mul r0, r1") ≡ Fault 1 WrongOperands
  pub resource_missing : assembled (codes "inpw r0") ≡ Fault 1 WrongOperands
  pub bits_missing : assembled (codes "inpw r0, res[r1]") ≡ Fault 1 WrongOperands
  pub register_for_bits : assembled (codes "outpw res[r0], r1, r2") ≡ Fault 1 WrongOperands
  pub register_before_resource : assembled (codes "outshr r1, res[r0]") ≡ Fault 1 WrongOperands
  pub number_for_clock : assembled (codes "setclk res[r0], 1") ≡ Fault 1 WrongOperands
  pub product : code_of_source (codes "mul r0, r1, r2") ≡ Some (Words (Mul 0 1 2) ∷ [])
  pub commas_missing : assembled (codes "add r0 r1 r2") ≡ Fault 1 WrongOperands
  pub no_name : assembled (codes "5") ≡ Fault 1 WrongOperands
  pub no_label_name : assembled (codes ": nop") ≡ Fault 1 WrongOperands
  pub bracket : assembled (codes "[") ≡ Fault 1 WrongOperands
  pub sign : assembled (codes "-1") ≡ Fault 1 WrongOperands
  pub slash : assembled (codes "nop / nop") ≡ Fault 1 WrongOperands
  pub malformed_number : assembled (codes "ldc r0, 12ab") ≡ Fault 1 WrongOperands
  pub capital_base : assembled (codes "ldc r0, 0X10") ≡ Fault 1 WrongOperands
  pub no_digits : assembled (codes "ldc r0, 0x") ≡ Fault 1 WrongOperands
  pub two_tokens : assembled (codes "ldc r0, 1_0") ≡ Fault 1 WrongOperands
  pub signed_number : assembled (codes "ldc r0, -1") ≡ Fault 1 WrongOperands
  pub register_outside : assembled (codes "ldc sp, 1") ≡ Fault 1 WrongOperands
  pub other_register : assembled (codes "set kep, r10") ≡ Fault 1 WrongOperands
  pub no_register : assembled (codes "ldc r12, 1") ≡ Fault 1 WrongOperands
  pub status_register : assembled (codes "bu sr") ≡ Fault 1 WrongOperands
  pub word_for_label : assembled (codes "bu pc") ≡ Fault 1 WrongOperands
  pub register_for_label : assembled (codes "bu r0") ≡ Fault 1 WrongOperands
  pub number_for_label : assembled (codes "bu 4") ≡ Fault 1 WrongOperands
  pub name_in_register : assembled (codes "x: ldw r0, r1[x]") ≡ Fault 1 WrongOperands
  pub name_in_stack : assembled (codes "x: ldw r0, sp[x]") ≡ Fault 1 WrongOperands
  pub reserved_in_brackets : assembled (codes "ldw r0, dp[sr]") ≡ Fault 1 WrongOperands
  pub register_in_brackets : assembled (codes "ldw r0, dp[r1]") ≡ Fault 1 WrongOperands
  pub sign_in_brackets : code_of_source (codes "ldaw r0, r1[-r2]") ≡ Some (Memory (LdawBack 0 1 2) ∷ [])
  pub blanks : code_of_source (codes "x : ldw r0 , dp [ 1 ]") ≡ Some (Memory (LdwDp 0 1) ∷ [])
  pub reserved_label : assembled (codes "r0: nop") ≡ Fault 1 WrongOperands
  pub reserved_label_twice : assembled (codes "r0: r0:") ≡ Fault 1 WrongOperands
  pub data_with_operand : assembled (codes ".data 5") ≡ Fault 1 WrongOperands
  pub constants_with_operand : assembled (codes ".cp x") ≡ Fault 1 WrongOperands
  pub text_with_operand : assembled (codes ".text 5") ≡ Fault 1 WrongOperands
  pub global_missing : assembled (codes ".globl") ≡ Fault 1 WrongOperands
  pub global_number : assembled (codes ".globl 5") ≡ Fault 1 WrongOperands
  pub globals : assembled (codes ".globl a, b") ≡ Fault 1 WrongOperands
  pub align_name : assembled (codes ".align x") ≡ Fault 1 WrongOperands
  pub space_signed : assembled (codes ".data\n.space -1") ≡ Fault 2 WrongOperands
  pub two_signs : assembled (codes ".data\n.word --5") ≡ Fault 2 WrongOperands
  pub signed_name : assembled (codes "a:\n.data\n.word -a") ≡ Fault 3 WrongOperands
  pub sum : assembled (codes "a:\n.data\n.word a+1") ≡ Fault 3 WrongOperands
  pub no_value : assembled (codes ".data\n.byte") ≡ Fault 2 WrongOperands
  pub comma_more : assembled (codes ".data\n.byte 1,") ≡ Fault 2 WrongOperands
  pub comma_missing : assembled (codes ".data\n.byte 1 2") ≡ Fault 2 WrongOperands
  pub comma_first : assembled (codes ".data\n.byte ,1") ≡ Fault 2 WrongOperands
  pub short_of_label : assembled (codes "a:\n.data\n.short a") ≡ Fault 3 WrongOperands
  pub byte_of_label : assembled (codes "a:\n.data\n.byte a") ≡ Fault 3 WrongOperands
  pub word_of_register : assembled (codes ".data\n.word r0") ≡ Fault 2 WrongOperands

-- ranges
pub record WorkedRanges : Type 0 where
  pub short_last : code_of_source (codes "ldc r11, 65535") ≡ Some (Words (Ldc 11 65535) ∷ [])
  pub short_past : assembled (codes "ldc r11, 65536") ≡ Fault 1 NumberOutOfRange
  pub short_wide : assembled (codes "ldc r0, 0x100000000000000000000000000000005") ≡ Fault 1 NumberOutOfRange
  pub zeros_in_front : code_of_source (codes "ldc r0, 0b00000000000000000000000000000000000000000000000101") ≡ Some (Words (Ldc 0 5) ∷ [])
  pub small_last : code_of_source (codes "outct res[r0], 0xB") ≡ Some (Resources (OutctImm 0 11) ∷ [])
  pub small_past : assembled (codes "outct res[r0], 12") ≡ Fault 1 NumberOutOfRange
  pub addend_last : code_of_source (codes "add r0, r1, 11") ≡ Some (Words (AddImm 0 1 11) ∷ [])
  pub addend_past : assembled (codes "add r0, r1, 12") ≡ Fault 1 NumberOutOfRange
  pub bits_last : code_of_source (codes "shl r0, r1, 32") ≡ Some (Words (ShlImm 0 1 32) ∷ [])
  pub bits_between : assembled (codes "shl r0, r1, 9") ≡ Fault 1 NumberOutOfRange
  pub bits_none : assembled (codes "shl r0, r1, 0") ≡ Fault 1 NumberOutOfRange
  pub transfer_bits : code_of_source (codes "inpw r1, res[r0], 32\noutpw res[r2], r3, 0x18") ≡ Some (Resources (Inpw 1 0 32) ∷ Resources (Outpw 2 3 24) ∷ [])
  pub transfer_bits_between : assembled (codes "inpw r1, res[r0], 9") ≡ Fault 1 NumberOutOfRange
  pub transfer_bits_none : assembled (codes "nop\noutpw res[r0], r1, 0") ≡ Fault 2 NumberOutOfRange
  pub fixed_number : code_of_source (codes "ldw spc, sp[1]") ≡ Some (Kernel LdwSpc ∷ [])
  pub other_fixed_number : assembled (codes "ldw spc, sp[2]") ≡ Fault 1 NumberOutOfRange
  pub call_last : code_of_source (codes "kcall 65535") ≡ Some (Kernel (KcallImm 65535) ∷ [])
  pub call_past : assembled (codes "kcall 65536") ≡ Fault 1 NumberOutOfRange
  pub offset_past : assembled (codes "ldw r0, dp[65536]") ≡ Fault 1 NumberOutOfRange
  pub align_0 : assembled (codes ".align 0") ≡ Fault 1 NumberOutOfRange
  pub align_1025 : assembled (codes ".align 1025") ≡ Fault 1 NumberOutOfRange
  pub space_past : assembled (codes ".data\n.space 65537") ≡ Fault 2 NumberOutOfRange
  pub word_edges : bytes_of_source (codes ".data\n.word 4294967295, -2147483648, - 5, -0, 0x12345678")
      ≡ Some (255 ∷ 255 ∷ 255 ∷ 255 ∷ 0 ∷ 0 ∷ 0 ∷ 128 ∷ 251 ∷ 255 ∷ 255 ∷ 255 ∷ 0 ∷ 0 ∷ 0 ∷ 0 ∷ 120 ∷ 86 ∷ 52 ∷ 18 ∷ [])
  pub word_past : assembled (codes ".data\n.word 4294967296") ≡ Fault 2 NumberOutOfRange
  pub word_below : assembled (codes ".data\n.word -2147483649") ≡ Fault 2 NumberOutOfRange
  pub short_edges : bytes_of_source (codes ".data\n.short 65535, -32768, 258") ≡ Some (255 ∷ 255 ∷ 0 ∷ 128 ∷ 2 ∷ 1 ∷ [])
  pub short_value_past : assembled (codes ".data\n.short 65536") ≡ Fault 2 NumberOutOfRange
  pub short_value_below : assembled (codes ".data\n.short -32769") ≡ Fault 2 NumberOutOfRange
  pub byte_edges : bytes_of_source (codes ".data\n.byte 255, -128, -1") ≡ Some (255 ∷ 128 ∷ 255 ∷ [])
  pub byte_past : assembled (codes ".data\n.byte 256") ≡ Fault 2 NumberOutOfRange
  pub byte_below : assembled (codes ".data\n.byte -129") ≡ Fault 2 NumberOutOfRange
  pub before_missing : assembled (codes ".data\n.word 99999999999, gone") ≡ Fault 2 NumberOutOfRange
  -- a label of the data is no place of the code
  pub data_target : assembled (codes "bu x\n.data\nx:") ≡ Fault 1 NumberOutOfRange
  pub data_address : assembled (codes "ldap r11, x\n.data\nx:") ≡ Fault 1 NumberOutOfRange
  pub code_offset : code_of_source (codes "main: ldw r0, dp[main]") ≡ Some (Memory (LdwDp 0 49152) ∷ [])
  pub offsets : code_of_source (codes "ldw r0, dp[y]\nstw lr, dp[z]\n.data\n.word 1\ny: .byte 1, 2\n.cp\nz:") ≡ Some (Memory (LdwDp 0 1) ∷ Memory (StwDp 15 2) ∷ [])
  pub offset_uneven : assembled (codes "ldw r0, dp[y]\n.data\n.byte 1\ny:") ≡ Fault 1 NumberOutOfRange

-- labels
pub record WorkedLabels : Type 0 where
  pub twice : assembled (codes "a: nop\na: nop") ≡ Fault 2 LabelTwice
  pub twice_in_a_line : assembled (codes "nop\na: b: a: nop") ≡ Fault 2 LabelTwice
  pub twice_before_unknown : assembled (codes "a: a: foo") ≡ Fault 1 LabelTwice
  pub missing : assembled (codes "bu gone") ≡ Fault 1 LabelMissing
  pub missing_earlier : assembled (codes "bu gone\nfoo") ≡ Fault 1 LabelMissing
  pub missing_offset : assembled (codes "ldw r0, dp[gone]") ≡ Fault 1 LabelMissing
  pub missing_word : assembled (codes ".data\n.word 1, gone") ≡ Fault 2 LabelMissing
  pub many : symbols_of_source (codes "a: b:\nc: nop\nd:") ≡ Some ((codes "a", 262144) ∷ (codes "b", 262144) ∷ (codes "c", 262144) ∷ (codes "d", 262148) ∷ [])
  pub names_of_statements : symbols_of_source (codes "add: nop\n.word: nop") ≡ Some ((codes "add", 262144) ∷ (codes ".word", 262148) ∷ [])
  pub at_the_end : code_of_source (codes "bu end\nend:") ≡ Some (Flow (Bu 1) ∷ [])
  pub call_at_the_end : code_of_source (codes "nop\nbl end\nend:") ≡ Some (nop ∷ Flow (Bl 2) ∷ [])
  pub reserved_between : assembled (codes "bu y\nx: r0: y: nop") ≡ Fault 2 WrongOperands
  -- a faulty line defines the labels before its statement
  pub before_a_fault : assembled (codes "bu x\nx: 5 y: nop") ≡ Fault 2 WrongOperands
  pub after_a_fault : assembled (codes "bu y\nx: 5 y: nop") ≡ Fault 1 LabelMissing
  pub first_of_two : assembled (codes "bu x\nx:\n.data\nx:") ≡ Fault 4 LabelTwice
  pub global : code_of_source (codes ".globl r0\n.globl gone\nnop") ≡ Some (nop ∷ [])

-- what faulty lines add to addresses
pub record WorkedSizes : Type 0 where
  pub value_out_of_range : assembled (codes "ldw r0, dp[x]\n.data\n.byte 256\nx:") ≡ Fault 1 NumberOutOfRange
  pub misshapen : assembled (codes "ldw r0, dp[x]\n.data\n.byte 1 2\nx:") ≡ Fault 3 WrongOperands
  pub unknown : assembled (codes "ldw r0, dp[x]\n.data\n.bytes 1\nx:") ≡ Fault 3 DirectiveNotAllowed
  pub misplaced : assembled (codes "ldw r0, dp[x]\n.byte 1\n.data\nx:") ≡ Fault 2 DirectiveNotAllowed
  pub space_out_of_range : assembled (codes "ldw r0, dp[x]\n.data\n.space 65537\nx:") ≡ Fault 3 NumberOutOfRange
  pub reserved_label : assembled (codes "ldw r0, dp[x]\n.data\nr0: .byte 1\nx:") ≡ Fault 1 NumberOutOfRange
  pub data_with_operand : assembled (codes "bu x\n.data 5\nx:") ≡ Fault 1 NumberOutOfRange
  pub data_with_label_twice : assembled (codes "a: bu x\na: .data\nx:") ≡ Fault 1 NumberOutOfRange

-- sections
pub record WorkedSections : Type 0 where
  pub nothing : assembled [] ≡ Image (record { code = []; bytes = []; cp_at = 65536; symbols = [] })
  pub text : code_of_source (codes ".text\nnop\n.text") ≡ Some (nop ∷ [])
  pub all : assembled (codes "main: bt r0, main\nend:\n.data\nx: .byte 1\ny:\n.cp\nz: .word x\nlast:") ≡ Image (record {
    code = Flow (Bt 0 0) ∷ [];
    bytes = 1 ∷ 0 ∷ 0 ∷ 0 ∷ 0 ∷ 0 ∷ 1 ∷ 0 ∷ [];
    cp_at = 65540;
    symbols = (codes "main", 262144) ∷ (codes "end", 262148) ∷ (codes "x", 65536) ∷ (codes "y", 65537) ∷ (codes "z", 65540) ∷ (codes "last", 65544) ∷ [];
  })
  -- without constants no zeros are added
  pub no_constants : bytes_of_source (codes ".data\n.byte 1\n.cp\n.space 0\n") ≡ Some (1 ∷ [])
  pub constants_start : constants_of_source (codes ".data\n.byte 1\n.cp\n") ≡ Some 65540
  pub constants_start_without : constants_of_source (codes ".data\n.space 4") ≡ Some 65540
  pub constants_alone : bytes_of_source (codes ".cp\n.byte 7") ≡ Some (7 ∷ [])
  pub label_on_data : symbols_of_source (codes "nop\nx: .data\ny: .cp\nz:") ≡ Some ((codes "x", 262148) ∷ (codes "y", 65536) ∷ (codes "z", 65536) ∷ [])
  pub instruction_in_data : assembled (codes ".data\nfoo 1") ≡ Fault 2 DirectiveNotAllowed
  pub instruction_in_constants : assembled (codes ".cp\nnop") ≡ Fault 2 DirectiveNotAllowed
  pub no_name_in_data : assembled (codes ".data\n5") ≡ Fault 2 WrongOperands
  pub word_in_text : assembled (codes ".word") ≡ Fault 1 DirectiveNotAllowed
  pub text_in_data : assembled (codes ".data\n.text 5") ≡ Fault 2 DirectiveNotAllowed
  pub global_in_data : assembled (codes ".data\n.globl") ≡ Fault 2 DirectiveNotAllowed
  pub data_twice : assembled (codes ".data\n.data") ≡ Fault 2 DirectiveNotAllowed
  pub constants_twice : assembled (codes ".cp\n.cp") ≡ Fault 2 DirectiveNotAllowed
  pub data_after_constants : assembled (codes ".cp\n.data") ≡ Fault 2 DirectiveNotAllowed
  pub unknown_directive : assembled (codes ".set 12ab") ≡ Fault 1 DirectiveNotAllowed
  pub capitals : assembled (codes ".DATA") ≡ Fault 1 DirectiveNotAllowed

-- padding
pub record WorkedPadding : Type 0 where
  pub code : code_of_source (codes "freet\n.align 3") ≡ code_of_source (codes "freet\nnop\nnop")
  pub code_even : code_of_source (codes "nop\nnop\n.align 2") ≡ Some (nop ∷ nop ∷ [])
  pub code_empty : code_of_source (codes ".align 1024") ≡ Some []
  pub bytes : bytes_of_source (codes ".data\n.byte 9\nx: .align 4\n.byte 8") ≡ Some (9 ∷ 0 ∷ 0 ∷ 0 ∷ 8 ∷ [])
  pub label_before : symbols_of_source (codes ".data\n.byte 9\nx: .align 4\ny: .space 3\nz:") ≡ Some ((codes "x", 65537) ∷ (codes "y", 65540) ∷ (codes "z", 65543) ∷ [])
  -- by the length of the section itself
  pub own_length : bytes_of_source (codes ".data\n.byte 1, 2, 3, 4, 5\n.cp\n.byte 6\n.align 3\n") ≡ Some (1 ∷ 2 ∷ 3 ∷ 4 ∷ 5 ∷ 0 ∷ 0 ∷ 0 ∷ 6 ∷ 0 ∷ 0 ∷ [])

-- `.align 1024` and an instruction, so many times
abbrev pub blocks : ℕ → List ℕ
blocks n = flat_map (λ block. block) (replicate n (codes ".align 1024\nnop\n"))

-- 16,384 instructions in 32 lines, the first of which is given
abbrev pub full_from : List ℕ → List ℕ
full_from line = line ++ (10 ∷ (blocks 15 ++ codes ".align 1024\n"))

abbrev pub full : List ℕ
full = full_from (codes "nop")

-- which kind comes first where a line has faults of two
pub record WorkedOrder : Type 0 where
  pub byte_label_twice : assembled (codes "a:\na: # " ++ (1 ∷ [])) ≡ Fault 2 BadByte
  pub label_twice_directive : assembled (codes "a: nop\na: .word 1") ≡ Fault 2 LabelTwice
  pub label_twice_no_directive : assembled (codes "a: a: .foo") ≡ Fault 1 LabelTwice
  pub label_twice_instruction : assembled (codes ".data\na:\na: nop") ≡ Fault 3 LabelTwice
  pub label_twice_section : assembled (codes ".data\na: .byte 1\na: .data") ≡ Fault 3 LabelTwice
  pub directive_reserved : assembled (codes "r0: .foo") ≡ Fault 1 DirectiveNotAllowed
  -- a reserved name as a label
  pub reserved_range : assembled (codes "r0: ldc r1, 65536") ≡ Fault 1 WrongOperands
  pub reserved_missing : assembled (codes "r0: bu gone") ≡ Fault 1 WrongOperands
  pub reserved_instructions : assembled (full ++ codes "r0: nop") ≡ Fault 33 WrongOperands
  pub reserved_bytes : assembled (codes ".data\n.space 65536\nr0: .byte 1") ≡ Fault 3 WrongOperands
  -- at the 16,385th instruction
  pub label_twice_instructions : assembled (full ++ codes "a: a: nop") ≡ Fault 33 LabelTwice
  pub range_instructions : assembled (full ++ codes "ldc r0, 65536") ≡ Fault 33 NumberOutOfRange
  pub missing_instructions : assembled (full ++ codes "bu gone") ≡ Fault 33 LabelMissing
  -- at the 65,537th byte
  pub range_bytes : assembled (codes ".cp\n.space 65536\n.byte 256") ≡ Fault 3 NumberOutOfRange
  pub missing_bytes : assembled (codes ".cp\n.space 65536\n.word gone") ≡ Fault 3 LabelMissing

-- what the lines of a text say together
abbrev pub said_by : List ℕ → Sofar
said_by text = whole_of (map line_of (lines_of text))

-- the amounts of operands of `ldw d, cp[u]`, and the instruction in a text
abbrev pub constant_amounts : List ℕ → List Amount
constant_amounts operands = amounts_of row.LdwCp (operands_of (tokens_of operands))

abbrev pub constant_load : List ℕ → List ℕ → Option Instr
constant_load text operands = instruction_in (said_by text) row.LdwCp (constant_amounts operands)

-- a byte of data, two words of constants with zeros before them, and labels: `cp_at` is 0x00010004
abbrev pub with_constants : List ℕ
with_constants = codes "main: nop\n.data\nd: .byte 1\ne:\n.cp\nx: .word 1\ny: .byte 2, 3, 4\nz: .byte 5\nw:"

-- `dp[name]` and `cp[name]`: words from the first address of the data, and from `cp_at`
pub record WorkedOffsets : Type 0 where
  pub by_dp : amounts_of row.LdwDp (operands_of (tokens_of (codes "r3, dp[x]"))) ≡ Known (Some 3) ∷ Offset Data (codes "x") ∷ []
  pub by_cp : constant_amounts (codes "r3 , cp [ x ]") ≡ Known (Some 3) ∷ Offset Constants (codes "x") ∷ []
  pub number : constant_amounts (codes "r3, cp[65535]") ≡ Known (Some 3) ∷ Known (Some 65535) ∷ []
  pub first : constant_load with_constants (codes "r3, cp[x]") ≡ Some (Memory (LdwCp 3 0))
  pub second : constant_load with_constants (codes "r3, cp[y]") ≡ Some (Memory (LdwCp 3 1))
  pub end : constant_load with_constants (codes "r3, cp[w]") ≡ Some (Memory (LdwCp 3 2))
  -- code begins at 0x00040000, which is 0x0002fffc past `cp_at`
  pub code : constant_load with_constants (codes "r3, cp[main]") ≡ Some (Memory (LdwCp 3 49151))
  pub uneven : constant_load with_constants (codes "r3, cp[z]") ≡ None
  pub below : constant_load with_constants (codes "r3, cp[d]") ≡ None
  pub in_the_zeros : constant_load with_constants (codes "r3, cp[e]") ≡ None
  pub number_past : constant_load with_constants (codes "r3, cp[65536]") ≡ None
  pub missing : map (is_missing (said_by with_constants)) (constant_amounts (codes "r3, cp[gone]")) ≡ false ∷ true ∷ []
  pub not_missing : map (is_missing (said_by with_constants)) (constant_amounts (codes "r3, cp[x]")) ≡ false ∷ false ∷ []
  -- in whole sources: without data `cp_at` is 0x00010000, and the instruction after the first is 0x00030004 past it
  pub whole : code_of_source (codes "ldw r3, cp[x]\nx:") ≡ Some (Memory (LdwCp 3 49153) ∷ [])
  pub whole_missing : assembled (codes "ldw r3, cp[gone]") ≡ Fault 1 LabelMissing
  pub whole_uneven : assembled (codes "ldw r3, cp[z]\n.cp\n.byte 1\nz:") ≡ Fault 1 NumberOutOfRange
  pub whole_below : assembled (codes "ldw r3, cp[d]\n.data\nd: .byte 1") ≡ Fault 1 NumberOutOfRange
  pub reserved : assembled (codes "ldw r3, cp[sr]") ≡ Fault 1 WrongOperands
  -- the last word that a name may stand for, and the first that is too far
  pub last_word : of_source (λ image. take 1 image.code)
      (assembled (codes "ldw r0, dp[x]\n" ++ (blocks 15 ++ codes ".align 381\nnop\n.align 381\nnop\n.align 381\nx:"))) ≡ Some (Memory (LdwDp 0 65535) ∷ [])
  pub too_far : assembled (full_from (codes "ldw r0, dp[x]") ++ codes "x:") ≡ Fault 1 NumberOutOfRange

-- limits
pub record WorkedLimits : Type 0 where
  -- 16,384 instructions and 65,536 bytes are taken
  pub most_instructions : constants_of_source full ≡ Some 65536
  pub most_bytes : constants_of_source (codes ".data\n.space 65536") ≡ Some 131072
  pub most_with_zeros : constants_of_source (codes ".data\n.space 65529\n.cp\n.byte 1, 2, 3, 4") ≡ Some 131068
  pub instructions : assembled (codes "nop\n" ++ blocks 16) ≡ Fault 33 TooManyInstructions
  pub padding : assembled (codes "nop\n" ++ (blocks 15 ++ codes ".align 1023\nfoo")) ≡ Fault 33 UnknownName
  pub padding_past : assembled (codes "nop\n" ++ (blocks 15 ++ codes "nop\n.align 1023\n.align 1023\n.align 1024\nnop")) ≡ Fault 36 TooManyInstructions
  -- a label past the last instruction is no number out of range
  pub target : assembled (codes "bu x\n" ++ (blocks 80 ++ codes "x:")) ≡ Fault 33 TooManyInstructions
  pub bytes : assembled (codes ".data\n.space 65536\n.byte 1") ≡ Fault 3 TooManyBytes
  pub zeros_of_constants : assembled (codes ".data\n.space 65533\n.cp\n.byte 1") ≡ Fault 4 TooManyBytes
  pub constants : assembled (codes ".data\n.space 65532\n.cp\n.byte 1, 2, 3, 4, 5") ≡ Fault 4 TooManyBytes
  pub out_of_range_first : assembled (codes ".data\n.space 65536\n.byte 256") ≡ Fault 3 NumberOutOfRange
  -- a label of the data stays one past any length
  pub far_target : assembled (codes "bu x\n.data\n.space 65536\n.space 65536\n.space 65536\nx:") ≡ Fault 1 NumberOutOfRange
