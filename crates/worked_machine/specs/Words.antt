-- The rows on words, worked out by hand.
use Rattle.std.specs.Prelude.{ℕ, ◌≡◌, List, [], ◌∷◌, replicate}
use Rattle.xs_model.specs.declared.thread.Thread.{Thread}
use Rattle.xs_model.specs.declared.event.Event.{Event}
use Rattle.xs_instructions.specs.declared.instr.Instr.TheVariants.{Words}
use Rattle.xs_instructions.specs.declared.instr.WordIns.{WordIns}
use Rattle.xs_instructions.specs.declared.instr.WordIns.TheVariants as words
use Rattle.step_model.specs.Effect.{Leaving, Leaves, Traps}
use Rattle.step_model.specs.WordRows.{words_row}
use Rattle.worked_machine.specs.Slots.{first, with_three, start_as, thread_after, events_of, halted, trap_and_halt}

-- what a row makes of thread 0, which has these in r0 to r2
abbrev pub row : WordIns → ℕ → ℕ → ℕ → Leaving Thread
row ins a b c = words_row (with_three a b c) ins

-- thread 0 with these in r0 to r2, and all else as before
abbrev pub leaves : ℕ → ℕ → ℕ → Leaving Thread
leaves a b c = Leaves (with_three a b c)

pub record WorkedSums : Type 0 where
  pub add : row (words.Add 2 0 1) 5 7 9 ≡ leaves 5 7 12
  pub add_wraps : row (words.Add 2 0 1) 0xffffffff 3 9 ≡ leaves 0xffffffff 3 2
  pub add_to_itself : row (words.Add 0 0 0) 0x80000001 7 9 ≡ leaves 2 7 9
  -- the last operand is a number, and no register
  pub add_number : row (words.AddImm 2 0 1) 5 7 9 ≡ leaves 5 7 6
  pub add_greatest_number : row (words.AddImm 0 0 11) 0xfffffff5 7 9 ≡ leaves 0 7 9
  pub add_zero : row (words.AddImm 1 0 0) 0xffffffff 7 9 ≡ leaves 0xffffffff 0xffffffff 9
  pub sub : row (words.Sub 2 0 1) 7 5 9 ≡ leaves 7 5 2
  pub sub_wraps : row (words.Sub 2 0 1) 0 1 9 ≡ leaves 0 1 0xffffffff
  pub sub_of_zero : row (words.Sub 0 1 2) 9 7 0 ≡ leaves 7 7 0
  pub sub_from_itself : row (words.Sub 0 0 0) 0xffffffff 7 9 ≡ leaves 0 7 9
  pub sub_number : row (words.SubImm 2 0 11) 5 7 9 ≡ leaves 5 7 0xfffffffa
  pub sub_equal_number : row (words.SubImm 0 0 5) 5 7 9 ≡ leaves 0 7 9
  pub neg : row (words.Neg 1 0) 5 7 9 ≡ leaves 5 0xfffffffb 9
  pub neg_of_zero : row (words.Neg 1 0) 0 7 9 ≡ leaves 0 0 9
  pub neg_of_least : row (words.Neg 0 0) 0x80000000 7 9 ≡ leaves 0x80000000 7 9
  -- 0x10000 times 0x10001 is 0x1_0001_0000
  pub mul : row (words.Mul 2 0 1) 0x10000 0x10001 9 ≡ leaves 0x10000 0x10001 0x10000
  pub mul_of_minus_one : row (words.Mul 2 0 1) 0xffffffff 0xffffffff 9 ≡ leaves 0xffffffff 0xffffffff 1
  pub square : row (words.Mul 0 0 0) 3 7 9 ≡ leaves 9 7 9
  pub greatest_constant : row (words.Ldc 1 65535) 5 0x12345678 9 ≡ leaves 5 65535 9
  pub constant_zero : row (words.Ldc 0 0) 0xffffffff 7 9 ≡ leaves 0 7 9
  pub nop : row words.Nop 5 7 9 ≡ leaves 5 7 9

pub record WorkedBits : Type 0 where
  pub inverted : row (words.Not 1 0) 0x0f0f00ff 7 9 ≡ leaves 0x0f0f00ff 0xf0f0ff00 9
  pub inverted_zero : row (words.Not 0 0) 0 7 9 ≡ leaves 0xffffffff 7 9
  pub both : row (words.And 2 0 1) 0xf0f0f00c 0xff00ff0a 9 ≡ leaves 0xf0f0f00c 0xff00ff0a 0xf000f008
  pub either : row (words.Or 2 0 1) 0xf0f0f00c 0xff00ff0a 9 ≡ leaves 0xf0f0f00c 0xff00ff0a 0xfff0ff0e
  pub differing : row (words.Xor 2 0 1) 0xf0f0f00c 0xff00ff0a 9 ≡ leaves 0xf0f0f00c 0xff00ff0a 0x0ff00f06
  pub xor_with_itself : row (words.Xor 0 0 0) 0xffffffff 7 9 ≡ leaves 0 7 9
  -- d keeps the bits that x has not
  pub andnot : row (words.AndNot 0 1) 0xff00ff0c 0x0ff00f0a 9 ≡ leaves 0xf000f004 0x0ff00f0a 9
  pub andnot_itself : row (words.AndNot 0 0) 0xffffffff 7 9 ≡ leaves 0 7 9
  pub bits_reversed : row (words.Bitrev 1 0) 0x0000000d 7 9 ≡ leaves 0x0000000d 0xb0000000 9
  pub bits_reversed_in_place : row (words.Bitrev 0 0) 0xc0000002 7 9 ≡ leaves 0x40000003 7 9
  pub bytes_reversed : row (words.Byterev 1 0) 0x01020384 7 9 ≡ leaves 0x01020384 0x84030201 9
  pub zeros_of_zero : row (words.Clz 1 0) 0 7 9 ≡ leaves 0 32 9
  pub zeros_of_one : row (words.Clz 1 0) 1 7 9 ≡ leaves 1 31 9
  pub zeros_of_a_byte_less : row (words.Clz 1 0) 0x00ffffff 7 9 ≡ leaves 0x00ffffff 8 9
  pub zeros_of_negative : row (words.Clz 0 0) 0x80000000 7 9 ≡ leaves 0 7 9

pub record WorkedTests : Type 0 where
  pub equal : row (words.Eq 2 0 1) 7 7 9 ≡ leaves 7 7 1
  pub not_equal : row (words.Eq 2 0 1) 7 0x80000007 9 ≡ leaves 7 0x80000007 0
  pub equal_to_number : row (words.EqImm 2 0 11) 11 7 9 ≡ leaves 11 7 1
  pub not_equal_to_number : row (words.EqImm 2 0 1) 7 7 9 ≡ leaves 7 7 0
  pub equal_to_zero : row (words.EqImm 0 0 0) 0 7 9 ≡ leaves 1 7 9
  pub signed_less : row (words.Lss 2 0 1) 0xffffffff 0 9 ≡ leaves 0xffffffff 0 1
  pub signed_more : row (words.Lss 2 0 1) 0 0xffffffff 9 ≡ leaves 0 0xffffffff 0
  pub least_and_greatest : row (words.Lss 2 0 1) 0x80000000 0x7fffffff 9 ≡ leaves 0x80000000 0x7fffffff 1
  pub greatest_and_least : row (words.Lss 2 0 1) 0x7fffffff 0x80000000 9 ≡ leaves 0x7fffffff 0x80000000 0
  pub both_negative : row (words.Lss 2 0 1) 0xfffffffe 0xffffffff 9 ≡ leaves 0xfffffffe 0xffffffff 1
  pub signed_equal : row (words.Lss 2 0 1) 0xfffffffe 0xfffffffe 9 ≡ leaves 0xfffffffe 0xfffffffe 0
  pub unsigned_less : row (words.Lsu 2 0 1) 0x7fffffff 0x80000000 9 ≡ leaves 0x7fffffff 0x80000000 1
  pub unsigned_more : row (words.Lsu 2 0 1) 0xffffffff 0 9 ≡ leaves 0xffffffff 0 0
  pub unsigned_equal : row (words.Lsu 0 0 1) 7 7 9 ≡ leaves 0 7 9

pub record WorkedShifts : Type 0 where
  pub shl_by_0 : row (words.Shl 2 0 1) 0x80000003 0 9 ≡ leaves 0x80000003 0 0x80000003
  pub shl_by_1 : row (words.Shl 2 0 1) 0x80000003 1 9 ≡ leaves 0x80000003 1 6
  pub shl_by_31 : row (words.Shl 2 0 1) 0x80000003 31 9 ≡ leaves 0x80000003 31 0x80000000
  pub shl_by_32 : row (words.Shl 2 0 1) 0x80000003 32 9 ≡ leaves 0x80000003 32 0
  pub shl_by_33 : row (words.Shl 2 0 1) 0x80000003 33 9 ≡ leaves 0x80000003 33 0
  pub shl_by_most : row (words.Shl 2 0 1) 0x80000003 0xffffffff 9 ≡ leaves 0x80000003 0xffffffff 0
  pub shl_by_itself : row (words.Shl 0 0 0) 3 7 9 ≡ leaves 24 7 9
  pub shl_by_8_bits : row (words.ShlImm 1 0 8) 0x01020304 7 9 ≡ leaves 0x01020304 0x02030400 9
  pub shl_by_32_bits : row (words.ShlImm 1 0 32) 0x01020304 7 9 ≡ leaves 0x01020304 0 9
  pub shr_by_0 : row (words.Shr 2 0 1) 0x80000003 0 9 ≡ leaves 0x80000003 0 0x80000003
  pub shr_by_1 : row (words.Shr 2 0 1) 0x80000003 1 9 ≡ leaves 0x80000003 1 0x40000001
  pub shr_by_31 : row (words.Shr 2 0 1) 0x80000003 31 9 ≡ leaves 0x80000003 31 1
  pub shr_by_32 : row (words.Shr 2 0 1) 0x80000003 32 9 ≡ leaves 0x80000003 32 0
  pub shr_by_33 : row (words.Shr 2 0 1) 0x80000003 33 9 ≡ leaves 0x80000003 33 0
  pub shr_by_24_bits : row (words.ShrImm 1 0 24) 0x81020304 7 9 ≡ leaves 0x81020304 0x81 9
  pub shr_by_32_bits : row (words.ShrImm 1 0 32) 0x81020304 7 9 ≡ leaves 0x81020304 0 9
  pub ashr_by_0 : row (words.Ashr 2 0 1) 0x80000003 0 9 ≡ leaves 0x80000003 0 0x80000003
  pub ashr_by_1 : row (words.Ashr 2 0 1) 0x80000003 1 9 ≡ leaves 0x80000003 1 0xc0000001
  pub ashr_by_31 : row (words.Ashr 2 0 1) 0x80000003 31 9 ≡ leaves 0x80000003 31 0xffffffff
  pub ashr_by_32 : row (words.Ashr 2 0 1) 0x80000003 32 9 ≡ leaves 0x80000003 32 0xffffffff
  pub ashr_by_most : row (words.Ashr 2 0 1) 0x80000003 0xffffffff 9 ≡ leaves 0x80000003 0xffffffff 0xffffffff
  pub ashr_of_positive : row (words.Ashr 2 0 1) 0x7fffffff 30 9 ≡ leaves 0x7fffffff 30 1
  pub ashr_of_positive_by_40 : row (words.Ashr 2 0 1) 0x7fffffff 40 9 ≡ leaves 0x7fffffff 40 0
  pub ashr_by_8_bits : row (words.AshrImm 1 0 8) 0x80ff0000 7 9 ≡ leaves 0x80ff0000 0xff80ff00 9
  pub ashr_by_32_bits : row (words.AshrImm 1 0 32) 0x80000000 7 9 ≡ leaves 0x80000000 0xffffffff 9
  pub ashr_of_positive_by_32_bits : row (words.AshrImm 1 0 32) 0x7fffffff 7 9 ≡ leaves 0x7fffffff 0 9

-- masks, and the low bits of a word extended
pub record WorkedParts : Type 0 where
  pub mask_0 : row (words.Mkmsk 1 0) 0 7 9 ≡ leaves 0 0 9
  pub mask_1 : row (words.Mkmsk 1 0) 1 7 9 ≡ leaves 1 1 9
  pub mask_31 : row (words.Mkmsk 1 0) 31 7 9 ≡ leaves 31 0x7fffffff 9
  pub mask_32 : row (words.Mkmsk 1 0) 32 7 9 ≡ leaves 32 0xffffffff 9
  pub mask_33 : row (words.Mkmsk 0 0) 33 7 9 ≡ leaves 0xffffffff 7 9
  pub mask_24_bits : row (words.MkmskImm 0 24) 5 7 9 ≡ leaves 0x00ffffff 7 9
  pub mask_32_bits : row (words.MkmskImm 0 32) 5 7 9 ≡ leaves 0xffffffff 7 9
  pub sext_negative : row (words.Sext 0 1) 0x12345680 8 9 ≡ leaves 0xffffff80 8 9
  pub sext_positive : row (words.Sext 0 1) 0x1234567f 8 9 ≡ leaves 0x0000007f 8 9
  pub sext_1 : row (words.Sext 0 1) 3 1 9 ≡ leaves 0xffffffff 1 9
  pub sext_31 : row (words.Sext 0 1) 0x40000001 31 9 ≡ leaves 0xc0000001 31 9
  pub sext_0 : row (words.Sext 0 1) 0x12345680 0 9 ≡ leaves 0x12345680 0 9
  pub sext_32 : row (words.Sext 0 1) 0x12345680 32 9 ≡ leaves 0x12345680 32 9
  pub sext_33 : row (words.Sext 0 1) 0x12345681 33 9 ≡ leaves 0x12345681 33 9
  pub sext_by_itself : row (words.Sext 0 0) 2 7 9 ≡ leaves 0xfffffffe 7 9
  pub sext_16_bits : row (words.SextImm 0 16) 0x12348001 7 9 ≡ leaves 0xffff8001 7 9
  pub sext_32_bits : row (words.SextImm 0 32) 0x80000001 7 9 ≡ leaves 0x80000001 7 9
  pub zext : row (words.Zext 0 1) 0x123456ff 8 9 ≡ leaves 0x000000ff 8 9
  pub zext_1 : row (words.Zext 0 1) 2 1 9 ≡ leaves 0 1 9
  pub zext_31 : row (words.Zext 0 1) 0xffffffff 31 9 ≡ leaves 0x7fffffff 31 9
  pub zext_0 : row (words.Zext 0 1) 0x123456ff 0 9 ≡ leaves 0x123456ff 0 9
  pub zext_32 : row (words.Zext 0 1) 0x923456ff 32 9 ≡ leaves 0x923456ff 32 9
  pub zext_33 : row (words.Zext 0 1) 0x123456ff 33 9 ≡ leaves 0x123456ff 33 9
  pub zext_16_bits : row (words.ZextImm 0 16) 0x12348001 7 9 ≡ leaves 0x00008001 7 9
  pub zext_32_bits : row (words.ZextImm 0 32) 0x80000001 7 9 ≡ leaves 0x80000001 7 9

pub record WorkedDivisions : Type 0 where
  pub divu : row (words.Divu 2 0 1) 7 2 9 ≡ leaves 7 2 3
  pub divu_of_greatest : row (words.Divu 2 0 1) 0xffffffff 2 9 ≡ leaves 0xffffffff 2 0x7fffffff
  pub divu_by_greater : row (words.Divu 2 0 1) 5 0xffffffff 9 ≡ leaves 5 0xffffffff 0
  pub divu_by_0 : row (words.Divu 2 0 1) 5 0 9 ≡ Traps 7 0
  pub remu : row (words.Remu 2 0 1) 7 2 9 ≡ leaves 7 2 1
  pub remu_of_greatest : row (words.Remu 2 0 1) 0xffffffff 16 9 ≡ leaves 0xffffffff 16 15
  pub remu_by_0 : row (words.Remu 2 0 1) 5 0 9 ≡ Traps 7 0
  -- quotients are cut towards zero
  pub divs_of_negative : row (words.Divs 2 0 1) 0xfffffff9 2 9 ≡ leaves 0xfffffff9 2 0xfffffffd
  pub divs_by_negative : row (words.Divs 2 0 1) 7 0xfffffffe 9 ≡ leaves 7 0xfffffffe 0xfffffffd
  pub divs_of_two_negative : row (words.Divs 2 0 1) 0xfffffff9 0xfffffffe 9 ≡ leaves 0xfffffff9 0xfffffffe 3
  pub divs_below_one : row (words.Divs 2 0 1) 0xffffffff 2 9 ≡ leaves 0xffffffff 2 0
  pub divs_of_least : row (words.Divs 2 0 1) 0x80000000 1 9 ≡ leaves 0x80000000 1 0x80000000
  pub divs_by_minus_one : row (words.Divs 2 0 1) 0x80000001 0xffffffff 9 ≡ leaves 0x80000001 0xffffffff 0x7fffffff
  pub divs_of_least_by_minus_one : row (words.Divs 2 0 1) 0x80000000 0xffffffff 9 ≡ Traps 7 0
  pub divs_by_0 : row (words.Divs 2 0 1) 5 0 9 ≡ Traps 7 0
  -- the remainder has the sign of what is divided
  pub rems_of_negative : row (words.Rems 2 0 1) 0xfffffff9 2 9 ≡ leaves 0xfffffff9 2 0xffffffff
  pub rems_by_negative : row (words.Rems 2 0 1) 7 0xfffffffe 9 ≡ leaves 7 0xfffffffe 1
  pub rems_of_two_negative : row (words.Rems 2 0 1) 0xfffffff9 0xfffffffe 9 ≡ leaves 0xfffffff9 0xfffffffe 0xffffffff
  pub rems_of_least : row (words.Rems 2 0 1) 0x80000000 3 9 ≡ leaves 0x80000000 3 0xfffffffe
  pub rems_without_rest : row (words.Rems 2 0 1) 0xfffffffa 2 9 ≡ leaves 0xfffffffa 2 0
  pub rems_of_least_by_minus_one : row (words.Rems 2 0 1) 0x80000000 0xffffffff 9 ≡ Traps 7 0
  pub rems_by_0 : row (words.Rems 2 0 1) 0x80000000 0 9 ≡ Traps 7 0

-- thread 0 with these in r0 to r5
abbrev pub with_six : ℕ → ℕ → ℕ → ℕ → ℕ → ℕ → Thread
with_six a b c d e f = record first { r = a ∷ b ∷ c ∷ d ∷ e ∷ f ∷ replicate 6 0 }

abbrev pub six : WordIns → ℕ → ℕ → ℕ → ℕ → ℕ → ℕ → Leaving Thread
six ins a b c d e f = words_row (with_six a b c d e f) ins

-- The rows that set two registers. Most facts read the registers that they set too: all is read before anything is written.
pub record WorkedLongSums : Type 0 where
  -- of v the lowest bit counts
  pub ladd : row (words.Ladd 0 1 0 1 2) 5 7 3 ≡ leaves 0 13 3
  pub ladd_without_carry_in : row (words.Ladd 0 1 0 1 2) 5 7 0xfffffffe ≡ leaves 0 12 0xfffffffe
  pub ladd_of_greatest : row (words.Ladd 0 1 0 1 2) 0xffffffff 0xffffffff 1 ≡ leaves 1 0xffffffff 1
  pub ladd_carry_by_carry_in : row (words.Ladd 0 1 0 1 2) 0xffffffff 0 1 ≡ leaves 1 0 1
  pub ladd_in_order : six (words.Ladd 0 1 2 3 4) 8 9 5 7 1 0 ≡ Leaves (with_six 0 13 5 7 1 0)
  -- the right one of two equal registers stays
  pub ladd_same : row (words.Ladd 2 2 0 1 2) 0xffffffff 6 0 ≡ leaves 0xffffffff 6 5
  pub lsub : row (words.Lsub 0 1 0 1 2) 7 5 1 ≡ leaves 0 1 1
  pub lsub_without_borrow_in : row (words.Lsub 0 1 0 1 2) 5 5 2 ≡ leaves 0 0 2
  pub lsub_borrows : row (words.Lsub 0 1 0 1 2) 5 7 0 ≡ leaves 1 0xfffffffe 0
  pub lsub_borrows_by_borrow_in : row (words.Lsub 0 1 0 1 2) 5 5 1 ≡ leaves 1 0xffffffff 1
  -- 2 ^ 32 is taken off
  pub lsub_of_most : row (words.Lsub 0 1 0 1 2) 0 0xffffffff 1 ≡ leaves 1 0 1
  pub lsub_of_most_from_most : row (words.Lsub 0 1 0 1 2) 0xffffffff 0xffffffff 1 ≡ leaves 1 0xffffffff 1
  pub lsub_in_order : six (words.Lsub 0 1 2 3 4) 8 9 7 5 1 0 ≡ Leaves (with_six 0 1 7 5 1 0)
  pub lsub_same : row (words.Lsub 2 2 0 1 2) 5 7 0 ≡ leaves 5 7 0xfffffffe

pub record WorkedLongProducts : Type 0 where
  pub lmul : six (words.Lmul 0 1 2 3 4 5) 8 9 3 5 7 11 ≡ Leaves (with_six 0 33 3 5 7 11)
  -- 0x3_0000_0000 + 4 + 0xffffffff
  pub lmul_high : six (words.Lmul 0 1 2 3 4 5) 8 9 0x10000 0x30000 4 0xffffffff ≡ Leaves (with_six 4 3 0x10000 0x30000 4 0xffffffff)
  pub lmul_of_greatest : row (words.Lmul 0 1 2 2 2 2) 8 9 0xffffffff ≡ leaves 0xffffffff 0xffffffff 0xffffffff
  pub lmul_reads_first : row (words.Lmul 0 1 0 1 0 1) 2 3 9 ≡ leaves 0 11 9
  pub lmul_same : row (words.Lmul 2 2 0 0 1 1) 0x10000 5 9 ≡ leaves 0x10000 5 10
  -- d is the high word
  pub maccu : row (words.Maccu 0 1 2 2) 1 0xffffffff 2 ≡ leaves 2 3 2
  pub maccu_wraps : row (words.Maccu 0 1 2 2) 0xffffffff 0xffffffff 1 ≡ leaves 0 0 1
  pub maccu_unsigned : six (words.Maccu 0 1 2 3) 0 0 0xffffffff 2 0 0 ≡ Leaves (with_six 1 0xfffffffe 0xffffffff 2 0 0)
  pub maccu_reads_first : row (words.Maccu 0 1 0 1) 2 3 9 ≡ leaves 2 9 9
  -- 5 is both words, and the low one stays: 0x5_0000_0005 + 9
  pub maccu_same : row (words.Maccu 0 0 1 1) 5 3 9 ≡ leaves 14 3 9
  pub maccs_negative : six (words.Maccs 0 1 2 3) 0 0 0xffffffff 2 0 0 ≡ Leaves (with_six 0xffffffff 0xfffffffe 0xffffffff 2 0 0)
  pub maccs_two_negative : row (words.Maccs 0 1 2 2) 0 0 0xffffffff ≡ leaves 0 1 0xffffffff
  pub maccs_borrows : six (words.Maccs 0 1 2 3) 5 0 1 0xffffffff 0 0 ≡ Leaves (with_six 4 0xffffffff 1 0xffffffff 0 0)
  pub maccs_wraps : row (words.Maccs 0 1 2 2) 0xffffffff 0xffffffff 1 ≡ leaves 0 0 1
  pub maccs_of_least : row (words.Maccs 0 1 2 2) 0 0 0x80000000 ≡ leaves 0x40000000 0 0x80000000
  -- -2 ^ 31 times 2 ^ 31 - 1 is -2 ^ 62 + 2 ^ 31
  pub maccs_of_least_and_greatest : six (words.Maccs 0 1 2 3) 0 0 0x80000000 0x7fffffff 0 0 ≡ Leaves (with_six 0xc0000000 0x80000000 0x80000000 0x7fffffff 0 0)
  pub maccs_same : row (words.Maccs 0 0 1 2) 5 0xffffffff 1 ≡ leaves 4 0xffffffff 1

pub record WorkedLongDivisions : Type 0 where
  -- the number is x * 2 ^ 32 + y, d the quotient and e the remainder
  pub ldivu : row (words.Ldivu 0 1 0 1 2) 1 1 2 ≡ leaves 0x80000000 1 2
  pub ldivu_in_order : six (words.Ldivu 0 1 2 3 4) 8 9 0 17 5 0 ≡ Leaves (with_six 3 2 0 17 5 0)
  -- q * q + q - 1, where q is 2 ^ 32 - 1
  pub ldivu_of_greatest : row (words.Ldivu 0 1 0 1 2) 0xfffffffe 0xffffffff 0xffffffff ≡ leaves 0xffffffff 0xfffffffe 0xffffffff
  pub ldivu_too_great : row (words.Ldivu 0 1 0 1 2) 2 0 2 ≡ Traps 7 0
  pub ldivu_by_0 : row (words.Ldivu 0 1 0 1 2) 0 5 0 ≡ Traps 7 0
  pub ldivu_same : row (words.Ldivu 2 2 0 1 2) 0 17 5 ≡ leaves 0 17 2

-- one row on words in slot 0, at 0x00040000
abbrev pub thread_of_row : WordIns → Thread → Thread
thread_of_row ins th = thread_after (Words ins ∷ []) (start_as th) 1

abbrev pub events_of_row : WordIns → Thread → List Event
events_of_row ins th = events_of (Words ins ∷ []) (start_as th) 0

-- pc rises by 4; a trap leaves it and all else that a row sets
pub record WorkedWordSlots : Type 0 where
  pub one_register : thread_of_row (words.Eq 2 0 1) (with_three 7 7 9) ≡ record (with_three 7 7 1) { pc = 0x00040004 }
  pub two_registers : thread_of_row (words.Ladd 0 1 0 1 2) (with_three 0xffffffff 6 0) ≡ record (with_three 1 5 0) { pc = 0x00040004 }
  pub no_register : thread_of_row words.Nop (with_three 5 7 9) ≡ record (with_three 5 7 9) { pc = 0x00040004 }
  pub no_event : events_of_row (words.Divu 2 0 1) (with_three 5 2 9) ≡ []
  pub division_by_0 : thread_of_row (words.Divu 2 0 1) (with_three 5 0 9) ≡ halted (with_three 5 0 9) 7 0
  pub division_by_0_told : events_of_row (words.Divu 2 0 1) (with_three 5 0 9) ≡ trap_and_halt 7 0
  pub long_division : thread_of_row (words.Ldivu 0 1 0 1 2) (with_three 2 3 2) ≡ halted (with_three 2 3 2) 7 0
  -- its handler, at the first instruction, would return to the division itself
  pub handled_division : thread_of_row (words.Rems 2 0 1) (record (with_three 5 0 9) { kep = 0x00040000; ed = 6 }) ≡ record (with_three 5 0 9) { kep = 0x00040000; spc = 0x00040000; sed = 6; et = 7; ed = 0; sr = record { bits = 0x10 } }

pub record WorkedWords : Type 0 where
  pub sums : WorkedSums
  pub bits : WorkedBits
  pub tests : WorkedTests
  pub shifts : WorkedShifts
  pub parts : WorkedParts
  pub divisions : WorkedDivisions
  pub long_sums : WorkedLongSums
  pub long_products : WorkedLongProducts
  pub long_divisions : WorkedLongDivisions
  pub slots : WorkedWordSlots
