-- The rows on words: what they leave of the registers. The thread then goes on to its next instruction.
use Rattle.std.specs.Prelude.{Bool, ◌-◌, ◌*◌, ◌/◌, ◌%◌, ◌^◌, ◌&&◌, ◌||◌, ◌==◌, nat_lt, bit_and, bit_or, bit_xor, int_lt, int_div, int_rem, ℤ, pos, ◌+ℤ◌, ◌*ℤ◌, Option, Some, None}
use Rattle.xs_base.specs.Numbers.{Word, Register}
use Rattle.xs_base.specs.Words.{word_sum, word_difference, word_product, inverted, truth, signed, modulo, word_of, shl, shr, ashr, mkmsk, zext, sext, bitrev, byterev, clz, long, halves, add_carry, sub_borrow, mul_long, div_long}
use Rattle.xs_model.specs.declared.thread.Thread.{Thread}
use Rattle.xs_model.specs.declared.traps.TheConstants.{ARITHMETIC}
use Rattle.xs_model.specs.Threads.{register, with_register}
use Rattle.xs_instructions.specs.declared.instr.WordIns.{WordIns}
use Rattle.xs_instructions.specs.declared.instr.WordIns.TheVariants as words
use Rattle.step_model.specs.Effect.{Leaving, Leaves, Traps, traps_where}

-- a row that sets one register
abbrev pub sets : Thread → Register → Word → Leaving Thread
sets th d word = Leaves (with_register th d word)

-- a row that sets two registers, the left one first: where they are the same, the right word stays
abbrev pub sets_two : Thread → Register → Register → Word × Word → Leaving Thread
sets_two th d e both = Leaves (with_register (with_register th d both.0) e both.1)

-- a row that divides by y, of which there is no quotient where this holds
abbrev pub divides : Thread → Register → Bool → Word → Leaving Thread
divides th d fails word = traps_where fails ARITHMETIC 0 (with_register th d word)

-- a long division: none traps
abbrev pub divides_long : Thread → Register → Register → Option (Word × Word) → Leaving Thread
divides_long th d e None = Traps ARITHMETIC 0
divides_long th d e (Some both) = sets_two th d e both

-- whether x divided by y, both signed, is no word: y is 0, or x is -2^31 and y is -1
abbrev pub no_quotient : Word → Word → Bool
no_quotient x y = (y == 0) || ((x == 2 ^ 31) && (y == 2 ^ 32 - 1))

-- what is left of the two words d and e, read as one number, and a product that is added to it
abbrev pub accumulated : Word → Word → ℤ → Word × Word
accumulated d e product = halves (modulo 64 (pos (long d e) +ℤ product))

-- d and e are registers that are set, and x, y, v and w registers that are read; i is a small number, b a number of bits
abbrev pub words_row : Thread → WordIns → Leaving Thread
words_row th (words.Add d x y) = sets th d (word_sum (register th x) (register th y))
words_row th (words.AddImm d x i) = sets th d (word_sum (register th x) i)
words_row th (words.Sub d x y) = sets th d (word_difference (register th x) (register th y))
words_row th (words.SubImm d x i) = sets th d (word_difference (register th x) i)
words_row th (words.Neg d x) = sets th d (word_difference 0 (register th x))
words_row th (words.Not d x) = sets th d (inverted (register th x))
words_row th (words.And d x y) = sets th d (bit_and (register th x) (register th y))
words_row th (words.Or d x y) = sets th d (bit_or (register th x) (register th y))
words_row th (words.Xor d x y) = sets th d (bit_xor (register th x) (register th y))
words_row th (words.AndNot d x) = sets th d (bit_and (register th d) (inverted (register th x)))
words_row th (words.Eq d x y) = sets th d (truth (register th x == register th y))
words_row th (words.EqImm d x i) = sets th d (truth (register th x == i))
words_row th (words.Lss d x y) = sets th d (truth (int_lt (signed (register th x)) (signed (register th y))))
words_row th (words.Lsu d x y) = sets th d (truth (nat_lt (register th x) (register th y)))
words_row th (words.Shl d x y) = sets th d (shl (register th x) (register th y))
words_row th (words.ShlImm d x b) = sets th d (shl (register th x) b)
words_row th (words.Shr d x y) = sets th d (shr (register th x) (register th y))
words_row th (words.ShrImm d x b) = sets th d (shr (register th x) b)
words_row th (words.Ashr d x y) = sets th d (ashr (register th x) (register th y))
words_row th (words.AshrImm d x b) = sets th d (ashr (register th x) b)
words_row th (words.Mul d x y) = sets th d (word_product (register th x) (register th y))
words_row th (words.Divu d x y) = divides th d (register th y == 0) (register th x / register th y)
words_row th (words.Remu d x y) = divides th d (register th y == 0) (register th x % register th y)
words_row th (words.Divs d x y) = divides th d (no_quotient (register th x) (register th y)) (word_of (int_div (signed (register th x)) (signed (register th y))))
words_row th (words.Rems d x y) = divides th d (no_quotient (register th x) (register th y)) (word_of (int_rem (signed (register th x)) (signed (register th y))))
words_row th (words.Mkmsk d x) = sets th d (mkmsk (register th x))
words_row th (words.MkmskImm d b) = sets th d (mkmsk b)
words_row th (words.Sext d x) = sets th d (sext (register th d) (register th x))
words_row th (words.SextImm d b) = sets th d (sext (register th d) b)
words_row th (words.Zext d x) = sets th d (zext (register th d) (register th x))
words_row th (words.ZextImm d b) = sets th d (zext (register th d) b)
words_row th (words.Bitrev d x) = sets th d (bitrev (register th x))
words_row th (words.Byterev d x) = sets th d (byterev (register th x))
words_row th (words.Clz d x) = sets th d (clz (register th x))
words_row th (words.Ladd d e x y v) = sets_two th d e (add_carry (register th x) (register th y) (register th v))
words_row th (words.Lsub d e x y v) = sets_two th d e (sub_borrow (register th x) (register th y) (register th v))
words_row th (words.Lmul d e x y v w) = sets_two th d e (mul_long (register th x) (register th y) (register th v) (register th w))
words_row th (words.Ldivu d e x y v) = divides_long th d e (div_long (register th x) (register th y) (register th v))
words_row th (words.Maccu d e x y) = sets_two th d e (accumulated (register th d) (register th e) (pos (register th x * register th y)))
words_row th (words.Maccs d e x y) = sets_two th d e (accumulated (register th d) (register th e) (signed (register th x) *ℤ signed (register th y)))
words_row th (words.Ldc d u) = sets th d u
words_row th words.Nop = Leaves th
