-- The row of an instruction and the values of its operands, and back.
use Rattle.std.specs.Prelude.{ℕ, List, [], ◌∷◌, get_or}
use Rattle.xs_instructions.specs.declared.instr.Instr.{Instr}
use Rattle.xs_instructions.specs.declared.instr.Instr.TheVariants.{Words, Memory, Flow, Kernel, Threads, Resources}
use Rattle.xs_instructions.specs.declared.instr.WordIns.{WordIns}
use Rattle.xs_instructions.specs.declared.instr.WordIns.TheVariants as words
use Rattle.xs_instructions.specs.declared.instr.MemIns.{MemIns}
use Rattle.xs_instructions.specs.declared.instr.MemIns.TheVariants as memory
use Rattle.xs_instructions.specs.declared.instr.FlowIns.{FlowIns}
use Rattle.xs_instructions.specs.declared.instr.FlowIns.TheVariants as flow
use Rattle.xs_instructions.specs.declared.instr.KernelIns.{KernelIns}
use Rattle.xs_instructions.specs.declared.instr.KernelIns.TheVariants as kernel
use Rattle.xs_instructions.specs.declared.instr.ThreadIns.{ThreadIns}
use Rattle.xs_instructions.specs.declared.instr.ThreadIns.TheVariants as threads
use Rattle.xs_instructions.specs.declared.instr.ResIns.{ResIns}
use Rattle.xs_instructions.specs.declared.instr.ResIns.TheVariants as resources
use Rattle.xs_instructions.specs.declared.rows.Row.{Row}
use Rattle.xs_instructions.specs.declared.rows.Row.TheVariants as row

-- the row of an instruction and the values that are written, in order: one for each operand and for each number that the
-- row itself names
abbrev pub row_and_values_of_words : WordIns → Row × List ℕ
row_and_values_of_words (words.Add d x y) = (row.Add, d ∷ x ∷ y ∷ [])
row_and_values_of_words (words.AddImm d x i) = (row.AddImm, d ∷ x ∷ i ∷ [])
row_and_values_of_words (words.Sub d x y) = (row.Sub, d ∷ x ∷ y ∷ [])
row_and_values_of_words (words.SubImm d x i) = (row.SubImm, d ∷ x ∷ i ∷ [])
row_and_values_of_words (words.Neg d x) = (row.Neg, d ∷ x ∷ [])
row_and_values_of_words (words.Not d x) = (row.Not, d ∷ x ∷ [])
row_and_values_of_words (words.And d x y) = (row.And, d ∷ x ∷ y ∷ [])
row_and_values_of_words (words.Or d x y) = (row.Or, d ∷ x ∷ y ∷ [])
row_and_values_of_words (words.Xor d x y) = (row.Xor, d ∷ x ∷ y ∷ [])
row_and_values_of_words (words.AndNot d x) = (row.AndNot, d ∷ x ∷ [])
row_and_values_of_words (words.Eq d x y) = (row.Eq, d ∷ x ∷ y ∷ [])
row_and_values_of_words (words.EqImm d x i) = (row.EqImm, d ∷ x ∷ i ∷ [])
row_and_values_of_words (words.Lss d x y) = (row.Lss, d ∷ x ∷ y ∷ [])
row_and_values_of_words (words.Lsu d x y) = (row.Lsu, d ∷ x ∷ y ∷ [])
row_and_values_of_words (words.Shl d x y) = (row.Shl, d ∷ x ∷ y ∷ [])
row_and_values_of_words (words.ShlImm d x b) = (row.ShlImm, d ∷ x ∷ b ∷ [])
row_and_values_of_words (words.Shr d x y) = (row.Shr, d ∷ x ∷ y ∷ [])
row_and_values_of_words (words.ShrImm d x b) = (row.ShrImm, d ∷ x ∷ b ∷ [])
row_and_values_of_words (words.Ashr d x y) = (row.Ashr, d ∷ x ∷ y ∷ [])
row_and_values_of_words (words.AshrImm d x b) = (row.AshrImm, d ∷ x ∷ b ∷ [])
row_and_values_of_words (words.Mul d x y) = (row.Mul, d ∷ x ∷ y ∷ [])
row_and_values_of_words (words.Divu d x y) = (row.Divu, d ∷ x ∷ y ∷ [])
row_and_values_of_words (words.Remu d x y) = (row.Remu, d ∷ x ∷ y ∷ [])
row_and_values_of_words (words.Divs d x y) = (row.Divs, d ∷ x ∷ y ∷ [])
row_and_values_of_words (words.Rems d x y) = (row.Rems, d ∷ x ∷ y ∷ [])
row_and_values_of_words (words.Mkmsk d x) = (row.Mkmsk, d ∷ x ∷ [])
row_and_values_of_words (words.MkmskImm d b) = (row.MkmskImm, d ∷ b ∷ [])
row_and_values_of_words (words.Sext d x) = (row.Sext, d ∷ x ∷ [])
row_and_values_of_words (words.SextImm d b) = (row.SextImm, d ∷ b ∷ [])
row_and_values_of_words (words.Zext d x) = (row.Zext, d ∷ x ∷ [])
row_and_values_of_words (words.ZextImm d b) = (row.ZextImm, d ∷ b ∷ [])
row_and_values_of_words (words.Bitrev d x) = (row.Bitrev, d ∷ x ∷ [])
row_and_values_of_words (words.Byterev d x) = (row.Byterev, d ∷ x ∷ [])
row_and_values_of_words (words.Clz d x) = (row.Clz, d ∷ x ∷ [])
row_and_values_of_words (words.Ladd d e x y v) = (row.Ladd, d ∷ e ∷ x ∷ y ∷ v ∷ [])
row_and_values_of_words (words.Lsub d e x y v) = (row.Lsub, d ∷ e ∷ x ∷ y ∷ v ∷ [])
row_and_values_of_words (words.Lmul d e x y v w) = (row.Lmul, d ∷ e ∷ x ∷ y ∷ v ∷ w ∷ [])
row_and_values_of_words (words.Ldivu d e x y v) = (row.Ldivu, d ∷ e ∷ x ∷ y ∷ v ∷ [])
row_and_values_of_words (words.Maccu d e x y) = (row.Maccu, d ∷ e ∷ x ∷ y ∷ [])
row_and_values_of_words (words.Maccs d e x y) = (row.Maccs, d ∷ e ∷ x ∷ y ∷ [])
row_and_values_of_words (words.Ldc d u) = (row.Ldc, d ∷ u ∷ [])
row_and_values_of_words words.Nop = (row.Nop, [])

abbrev pub row_and_values_of_memory : MemIns → Row × List ℕ
row_and_values_of_memory (memory.LdwImm d x i) = (row.LdwImm, d ∷ x ∷ i ∷ [])
row_and_values_of_memory (memory.Ldw d x y) = (row.Ldw, d ∷ x ∷ y ∷ [])
row_and_values_of_memory (memory.LdwDp g u) = (row.LdwDp, g ∷ u ∷ [])
row_and_values_of_memory (memory.LdwSp g u) = (row.LdwSp, g ∷ u ∷ [])
row_and_values_of_memory (memory.LdwCp d u) = (row.LdwCp, d ∷ u ∷ [])
row_and_values_of_memory (memory.StwImm d x i) = (row.StwImm, d ∷ x ∷ i ∷ [])
row_and_values_of_memory (memory.Stw d x y) = (row.Stw, d ∷ x ∷ y ∷ [])
row_and_values_of_memory (memory.StwDp g u) = (row.StwDp, g ∷ u ∷ [])
row_and_values_of_memory (memory.StwSp g u) = (row.StwSp, g ∷ u ∷ [])
row_and_values_of_memory (memory.Ld16s d x y) = (row.Ld16s, d ∷ x ∷ y ∷ [])
row_and_values_of_memory (memory.Ld8u d x y) = (row.Ld8u, d ∷ x ∷ y ∷ [])
row_and_values_of_memory (memory.St16 d x y) = (row.St16, d ∷ x ∷ y ∷ [])
row_and_values_of_memory (memory.St8 d x y) = (row.St8, d ∷ x ∷ y ∷ [])
row_and_values_of_memory (memory.Ldaw d x y) = (row.Ldaw, d ∷ x ∷ y ∷ [])
row_and_values_of_memory (memory.LdawBack d x y) = (row.LdawBack, d ∷ x ∷ y ∷ [])
row_and_values_of_memory (memory.LdawImm d x i) = (row.LdawImm, d ∷ x ∷ i ∷ [])
row_and_values_of_memory (memory.LdawBackImm d x i) = (row.LdawBackImm, d ∷ x ∷ i ∷ [])
row_and_values_of_memory (memory.LdawDp d u) = (row.LdawDp, d ∷ u ∷ [])
row_and_values_of_memory (memory.LdawSp d u) = (row.LdawSp, d ∷ u ∷ [])
row_and_values_of_memory (memory.LdawCp u) = (row.LdawCp, u ∷ [])
row_and_values_of_memory (memory.Lda16 d x y) = (row.Lda16, d ∷ x ∷ y ∷ [])
row_and_values_of_memory (memory.Lda16Back d x y) = (row.Lda16Back, d ∷ x ∷ y ∷ [])
row_and_values_of_memory (memory.Ldap l) = (row.Ldap, l ∷ [])

abbrev pub row_and_values_of_flow : FlowIns → Row × List ℕ
row_and_values_of_flow (flow.Bt s l) = (row.Bt, s ∷ l ∷ [])
row_and_values_of_flow (flow.Bf s l) = (row.Bf, s ∷ l ∷ [])
row_and_values_of_flow (flow.Bu l) = (row.Bu, l ∷ [])
row_and_values_of_flow (flow.Bru s) = (row.Bru, s ∷ [])
row_and_values_of_flow (flow.Bau s) = (row.Bau, s ∷ [])
row_and_values_of_flow (flow.Bl l) = (row.Bl, l ∷ [])
row_and_values_of_flow (flow.Bla s) = (row.Bla, s ∷ [])
row_and_values_of_flow (flow.BlaCp u) = (row.BlaCp, u ∷ [])
row_and_values_of_flow (flow.Entsp u) = (row.Entsp, u ∷ [])
row_and_values_of_flow (flow.Retsp u) = (row.Retsp, u ∷ [])
row_and_values_of_flow (flow.Extsp u) = (row.Extsp, u ∷ [])
row_and_values_of_flow (flow.Extdp u) = (row.Extdp, u ∷ [])
row_and_values_of_flow (flow.SetSp s) = (row.SetSp, s ∷ [])
row_and_values_of_flow (flow.SetDp s) = (row.SetDp, s ∷ [])
row_and_values_of_flow (flow.SetCp s) = (row.SetCp, s ∷ [])

abbrev pub row_and_values_of_kernel : KernelIns → Row × List ℕ
row_and_values_of_kernel (kernel.KcallImm u) = (row.KcallImm, u ∷ [])
row_and_values_of_kernel (kernel.Kcall s) = (row.Kcall, s ∷ [])
row_and_values_of_kernel kernel.Kret = (row.Kret, [])
row_and_values_of_kernel (kernel.Kentsp u) = (row.Kentsp, u ∷ [])
row_and_values_of_kernel (kernel.Krestsp u) = (row.Krestsp, u ∷ [])
row_and_values_of_kernel (kernel.Ecallt s) = (row.Ecallt, s ∷ [])
row_and_values_of_kernel (kernel.Ecallf s) = (row.Ecallf, s ∷ [])
row_and_values_of_kernel kernel.SetKep = (row.SetKep, [])
row_and_values_of_kernel kernel.GetKep = (row.GetKep, [])
row_and_values_of_kernel kernel.GetKsp = (row.GetKsp, [])
row_and_values_of_kernel kernel.GetEd = (row.GetEd, [])
row_and_values_of_kernel kernel.GetEt = (row.GetEt, [])
row_and_values_of_kernel kernel.GetId = (row.GetId, [])
row_and_values_of_kernel (kernel.Setsr u) = (row.Setsr, u ∷ [])
row_and_values_of_kernel (kernel.Clrsr u) = (row.Clrsr, u ∷ [])
row_and_values_of_kernel (kernel.Getsr u) = (row.Getsr, u ∷ [])
row_and_values_of_kernel kernel.LdwSpc = (row.LdwSpc, 1 ∷ [])
row_and_values_of_kernel kernel.LdwSsr = (row.LdwSsr, 2 ∷ [])
row_and_values_of_kernel kernel.LdwSed = (row.LdwSed, 3 ∷ [])
row_and_values_of_kernel kernel.LdwEt = (row.LdwEt, 4 ∷ [])
row_and_values_of_kernel kernel.StwSpc = (row.StwSpc, 1 ∷ [])
row_and_values_of_kernel kernel.StwSsr = (row.StwSsr, 2 ∷ [])
row_and_values_of_kernel kernel.StwSed = (row.StwSed, 3 ∷ [])
row_and_values_of_kernel kernel.StwEt = (row.StwEt, 4 ∷ [])

abbrev pub row_and_values_of_threads : ThreadIns → Row × List ℕ
row_and_values_of_threads (threads.Getst d s) = (row.Getst, d ∷ s ∷ [])
row_and_values_of_threads (threads.InitPc s x) = (row.InitPc, s ∷ x ∷ [])
row_and_values_of_threads (threads.InitSp s x) = (row.InitSp, s ∷ x ∷ [])
row_and_values_of_threads (threads.InitDp s x) = (row.InitDp, s ∷ x ∷ [])
row_and_values_of_threads (threads.InitCp s x) = (row.InitCp, s ∷ x ∷ [])
row_and_values_of_threads (threads.InitLr s x) = (row.InitLr, s ∷ x ∷ [])
row_and_values_of_threads (threads.SetOther s d x) = (row.SetOther, s ∷ d ∷ x ∷ [])
row_and_values_of_threads (threads.Start s) = (row.Start, s ∷ [])
row_and_values_of_threads (threads.Msync s) = (row.Msync, s ∷ [])
row_and_values_of_threads (threads.Mjoin s) = (row.Mjoin, s ∷ [])
row_and_values_of_threads threads.Ssync = (row.Ssync, [])
row_and_values_of_threads threads.Freet = (row.Freet, [])

abbrev pub row_and_values_of_resources : ResIns → Row × List ℕ
row_and_values_of_resources (resources.Getr d i) = (row.Getr, d ∷ i ∷ [])
row_and_values_of_resources (resources.Freer s) = (row.Freer, s ∷ [])
row_and_values_of_resources (resources.Out s x) = (row.Out, s ∷ x ∷ [])
row_and_values_of_resources (resources.Outt s x) = (row.Outt, s ∷ x ∷ [])
row_and_values_of_resources (resources.Outct s x) = (row.Outct, s ∷ x ∷ [])
row_and_values_of_resources (resources.OutctImm s i) = (row.OutctImm, s ∷ i ∷ [])
row_and_values_of_resources (resources.In d s) = (row.In, d ∷ s ∷ [])
row_and_values_of_resources (resources.Int d s) = (row.Int, d ∷ s ∷ [])
row_and_values_of_resources (resources.Inct d s) = (row.Inct, d ∷ s ∷ [])
row_and_values_of_resources (resources.Chkct s x) = (row.Chkct, s ∷ x ∷ [])
row_and_values_of_resources (resources.ChkctImm s i) = (row.ChkctImm, s ∷ i ∷ [])
row_and_values_of_resources (resources.Testct d s) = (row.Testct, d ∷ s ∷ [])
row_and_values_of_resources (resources.Testwct d s) = (row.Testwct, d ∷ s ∷ [])
row_and_values_of_resources (resources.Setd s x) = (row.Setd, s ∷ x ∷ [])
row_and_values_of_resources (resources.Getd d s) = (row.Getd, d ∷ s ∷ [])
row_and_values_of_resources (resources.Setn s x) = (row.Setn, s ∷ x ∷ [])
row_and_values_of_resources (resources.Getn d s) = (row.Getn, d ∷ s ∷ [])
row_and_values_of_resources (resources.SetcImm s u) = (row.SetcImm, s ∷ u ∷ [])
row_and_values_of_resources (resources.Setc s x) = (row.Setc, s ∷ x ∷ [])
row_and_values_of_resources (resources.Setv s) = (row.Setv, s ∷ [])
row_and_values_of_resources (resources.Setev s) = (row.Setev, s ∷ [])
row_and_values_of_resources (resources.Eeu s) = (row.Eeu, s ∷ [])
row_and_values_of_resources (resources.Edu s) = (row.Edu, s ∷ [])
row_and_values_of_resources (resources.Eet x s) = (row.Eet, x ∷ s ∷ [])
row_and_values_of_resources (resources.Eef x s) = (row.Eef, x ∷ s ∷ [])
row_and_values_of_resources resources.Clre = (row.Clre, [])
row_and_values_of_resources resources.Waiteu = (row.Waiteu, [])
row_and_values_of_resources (resources.Waitet x) = (row.Waitet, x ∷ [])
row_and_values_of_resources (resources.Waitef x) = (row.Waitef, x ∷ [])
row_and_values_of_resources (resources.Inpw d s b) = (row.Inpw, d ∷ s ∷ b ∷ [])
row_and_values_of_resources (resources.Outpw s x b) = (row.Outpw, s ∷ x ∷ b ∷ [])
row_and_values_of_resources (resources.Inshr d s) = (row.Inshr, d ∷ s ∷ [])
row_and_values_of_resources (resources.Outshr s d) = (row.Outshr, s ∷ d ∷ [])
row_and_values_of_resources (resources.Peek d s) = (row.Peek, d ∷ s ∷ [])
row_and_values_of_resources (resources.Endin d s) = (row.Endin, d ∷ s ∷ [])
row_and_values_of_resources (resources.Syncr s) = (row.Syncr, s ∷ [])
row_and_values_of_resources (resources.Getts d s) = (row.Getts, d ∷ s ∷ [])
row_and_values_of_resources (resources.Setpt s x) = (row.Setpt, s ∷ x ∷ [])
row_and_values_of_resources (resources.Clrpt s) = (row.Clrpt, s ∷ [])
row_and_values_of_resources (resources.Setclk s x) = (row.Setclk, s ∷ x ∷ [])
row_and_values_of_resources (resources.Setrdy s x) = (row.Setrdy, s ∷ x ∷ [])
row_and_values_of_resources (resources.Settw s x) = (row.Settw, s ∷ x ∷ [])

abbrev pub row_of_words : WordIns → Row
row_of_words ins = (row_and_values_of_words ins).0

abbrev pub row_of_memory : MemIns → Row
row_of_memory ins = (row_and_values_of_memory ins).0

abbrev pub row_of_flow : FlowIns → Row
row_of_flow ins = (row_and_values_of_flow ins).0

abbrev pub row_of_kernel : KernelIns → Row
row_of_kernel ins = (row_and_values_of_kernel ins).0

abbrev pub row_of_threads : ThreadIns → Row
row_of_threads ins = (row_and_values_of_threads ins).0

abbrev pub row_of_resources : ResIns → Row
row_of_resources ins = (row_and_values_of_resources ins).0

-- the row of an instruction
abbrev pub row_of : Instr → Row
row_of (Words ins) = row_of_words ins
row_of (Memory ins) = row_of_memory ins
row_of (Flow ins) = row_of_flow ins
row_of (Kernel ins) = row_of_kernel ins
row_of (Threads ins) = row_of_threads ins
row_of (Resources ins) = row_of_resources ins

abbrev pub values_of_words : WordIns → List ℕ
values_of_words ins = (row_and_values_of_words ins).1

abbrev pub values_of_memory : MemIns → List ℕ
values_of_memory ins = (row_and_values_of_memory ins).1

abbrev pub values_of_flow : FlowIns → List ℕ
values_of_flow ins = (row_and_values_of_flow ins).1

abbrev pub values_of_kernel : KernelIns → List ℕ
values_of_kernel ins = (row_and_values_of_kernel ins).1

abbrev pub values_of_threads : ThreadIns → List ℕ
values_of_threads ins = (row_and_values_of_threads ins).1

abbrev pub values_of_resources : ResIns → List ℕ
values_of_resources ins = (row_and_values_of_resources ins).1

-- the values of an instruction
abbrev pub values_of : Instr → List ℕ
values_of (Words ins) = values_of_words ins
values_of (Memory ins) = values_of_memory ins
values_of (Flow ins) = values_of_flow ins
values_of (Kernel ins) = values_of_kernel ins
values_of (Threads ins) = values_of_threads ins
values_of (Resources ins) = values_of_resources ins

-- the value with a number in the order in which they are written, from 0
abbrev pub at : List ℕ → ℕ → ℕ
at values k = get_or values k 0

-- the instruction of a row and its values
abbrev pub made : Row → List ℕ → Instr
made row.Add values = Words (words.Add (at values 0) (at values 1) (at values 2))
made row.AddImm values = Words (words.AddImm (at values 0) (at values 1) (at values 2))
made row.Sub values = Words (words.Sub (at values 0) (at values 1) (at values 2))
made row.SubImm values = Words (words.SubImm (at values 0) (at values 1) (at values 2))
made row.Neg values = Words (words.Neg (at values 0) (at values 1))
made row.Not values = Words (words.Not (at values 0) (at values 1))
made row.And values = Words (words.And (at values 0) (at values 1) (at values 2))
made row.Or values = Words (words.Or (at values 0) (at values 1) (at values 2))
made row.Xor values = Words (words.Xor (at values 0) (at values 1) (at values 2))
made row.AndNot values = Words (words.AndNot (at values 0) (at values 1))
made row.Eq values = Words (words.Eq (at values 0) (at values 1) (at values 2))
made row.EqImm values = Words (words.EqImm (at values 0) (at values 1) (at values 2))
made row.Lss values = Words (words.Lss (at values 0) (at values 1) (at values 2))
made row.Lsu values = Words (words.Lsu (at values 0) (at values 1) (at values 2))
made row.Shl values = Words (words.Shl (at values 0) (at values 1) (at values 2))
made row.ShlImm values = Words (words.ShlImm (at values 0) (at values 1) (at values 2))
made row.Shr values = Words (words.Shr (at values 0) (at values 1) (at values 2))
made row.ShrImm values = Words (words.ShrImm (at values 0) (at values 1) (at values 2))
made row.Ashr values = Words (words.Ashr (at values 0) (at values 1) (at values 2))
made row.AshrImm values = Words (words.AshrImm (at values 0) (at values 1) (at values 2))
made row.Mul values = Words (words.Mul (at values 0) (at values 1) (at values 2))
made row.Divu values = Words (words.Divu (at values 0) (at values 1) (at values 2))
made row.Remu values = Words (words.Remu (at values 0) (at values 1) (at values 2))
made row.Divs values = Words (words.Divs (at values 0) (at values 1) (at values 2))
made row.Rems values = Words (words.Rems (at values 0) (at values 1) (at values 2))
made row.Mkmsk values = Words (words.Mkmsk (at values 0) (at values 1))
made row.MkmskImm values = Words (words.MkmskImm (at values 0) (at values 1))
made row.Sext values = Words (words.Sext (at values 0) (at values 1))
made row.SextImm values = Words (words.SextImm (at values 0) (at values 1))
made row.Zext values = Words (words.Zext (at values 0) (at values 1))
made row.ZextImm values = Words (words.ZextImm (at values 0) (at values 1))
made row.Bitrev values = Words (words.Bitrev (at values 0) (at values 1))
made row.Byterev values = Words (words.Byterev (at values 0) (at values 1))
made row.Clz values = Words (words.Clz (at values 0) (at values 1))
made row.Ladd values = Words (words.Ladd (at values 0) (at values 1) (at values 2) (at values 3) (at values 4))
made row.Lsub values = Words (words.Lsub (at values 0) (at values 1) (at values 2) (at values 3) (at values 4))
made row.Lmul values = Words (words.Lmul (at values 0) (at values 1) (at values 2) (at values 3) (at values 4) (at values 5))
made row.Ldivu values = Words (words.Ldivu (at values 0) (at values 1) (at values 2) (at values 3) (at values 4))
made row.Maccu values = Words (words.Maccu (at values 0) (at values 1) (at values 2) (at values 3))
made row.Maccs values = Words (words.Maccs (at values 0) (at values 1) (at values 2) (at values 3))
made row.Ldc values = Words (words.Ldc (at values 0) (at values 1))
made row.Nop values = Words words.Nop
made row.LdwImm values = Memory (memory.LdwImm (at values 0) (at values 1) (at values 2))
made row.Ldw values = Memory (memory.Ldw (at values 0) (at values 1) (at values 2))
made row.LdwDp values = Memory (memory.LdwDp (at values 0) (at values 1))
made row.LdwSp values = Memory (memory.LdwSp (at values 0) (at values 1))
made row.LdwCp values = Memory (memory.LdwCp (at values 0) (at values 1))
made row.StwImm values = Memory (memory.StwImm (at values 0) (at values 1) (at values 2))
made row.Stw values = Memory (memory.Stw (at values 0) (at values 1) (at values 2))
made row.StwDp values = Memory (memory.StwDp (at values 0) (at values 1))
made row.StwSp values = Memory (memory.StwSp (at values 0) (at values 1))
made row.Ld16s values = Memory (memory.Ld16s (at values 0) (at values 1) (at values 2))
made row.Ld8u values = Memory (memory.Ld8u (at values 0) (at values 1) (at values 2))
made row.St16 values = Memory (memory.St16 (at values 0) (at values 1) (at values 2))
made row.St8 values = Memory (memory.St8 (at values 0) (at values 1) (at values 2))
made row.Ldaw values = Memory (memory.Ldaw (at values 0) (at values 1) (at values 2))
made row.LdawBack values = Memory (memory.LdawBack (at values 0) (at values 1) (at values 2))
made row.LdawImm values = Memory (memory.LdawImm (at values 0) (at values 1) (at values 2))
made row.LdawBackImm values = Memory (memory.LdawBackImm (at values 0) (at values 1) (at values 2))
made row.LdawDp values = Memory (memory.LdawDp (at values 0) (at values 1))
made row.LdawSp values = Memory (memory.LdawSp (at values 0) (at values 1))
made row.LdawCp values = Memory (memory.LdawCp (at values 0))
made row.Lda16 values = Memory (memory.Lda16 (at values 0) (at values 1) (at values 2))
made row.Lda16Back values = Memory (memory.Lda16Back (at values 0) (at values 1) (at values 2))
made row.Ldap values = Memory (memory.Ldap (at values 0))
made row.Bt values = Flow (flow.Bt (at values 0) (at values 1))
made row.Bf values = Flow (flow.Bf (at values 0) (at values 1))
made row.Bu values = Flow (flow.Bu (at values 0))
made row.Bru values = Flow (flow.Bru (at values 0))
made row.Bau values = Flow (flow.Bau (at values 0))
made row.Bl values = Flow (flow.Bl (at values 0))
made row.Bla values = Flow (flow.Bla (at values 0))
made row.BlaCp values = Flow (flow.BlaCp (at values 0))
made row.Entsp values = Flow (flow.Entsp (at values 0))
made row.Retsp values = Flow (flow.Retsp (at values 0))
made row.Extsp values = Flow (flow.Extsp (at values 0))
made row.Extdp values = Flow (flow.Extdp (at values 0))
made row.SetSp values = Flow (flow.SetSp (at values 0))
made row.SetDp values = Flow (flow.SetDp (at values 0))
made row.SetCp values = Flow (flow.SetCp (at values 0))
made row.KcallImm values = Kernel (kernel.KcallImm (at values 0))
made row.Kcall values = Kernel (kernel.Kcall (at values 0))
made row.Kret values = Kernel kernel.Kret
made row.Kentsp values = Kernel (kernel.Kentsp (at values 0))
made row.Krestsp values = Kernel (kernel.Krestsp (at values 0))
made row.Ecallt values = Kernel (kernel.Ecallt (at values 0))
made row.Ecallf values = Kernel (kernel.Ecallf (at values 0))
made row.SetKep values = Kernel kernel.SetKep
made row.GetKep values = Kernel kernel.GetKep
made row.GetKsp values = Kernel kernel.GetKsp
made row.GetEd values = Kernel kernel.GetEd
made row.GetEt values = Kernel kernel.GetEt
made row.GetId values = Kernel kernel.GetId
made row.Setsr values = Kernel (kernel.Setsr (at values 0))
made row.Clrsr values = Kernel (kernel.Clrsr (at values 0))
made row.Getsr values = Kernel (kernel.Getsr (at values 0))
made row.LdwSpc values = Kernel kernel.LdwSpc
made row.LdwSsr values = Kernel kernel.LdwSsr
made row.LdwSed values = Kernel kernel.LdwSed
made row.LdwEt values = Kernel kernel.LdwEt
made row.StwSpc values = Kernel kernel.StwSpc
made row.StwSsr values = Kernel kernel.StwSsr
made row.StwSed values = Kernel kernel.StwSed
made row.StwEt values = Kernel kernel.StwEt
made row.Getst values = Threads (threads.Getst (at values 0) (at values 1))
made row.InitPc values = Threads (threads.InitPc (at values 0) (at values 1))
made row.InitSp values = Threads (threads.InitSp (at values 0) (at values 1))
made row.InitDp values = Threads (threads.InitDp (at values 0) (at values 1))
made row.InitCp values = Threads (threads.InitCp (at values 0) (at values 1))
made row.InitLr values = Threads (threads.InitLr (at values 0) (at values 1))
made row.SetOther values = Threads (threads.SetOther (at values 0) (at values 1) (at values 2))
made row.Start values = Threads (threads.Start (at values 0))
made row.Msync values = Threads (threads.Msync (at values 0))
made row.Mjoin values = Threads (threads.Mjoin (at values 0))
made row.Ssync values = Threads threads.Ssync
made row.Freet values = Threads threads.Freet
made row.Getr values = Resources (resources.Getr (at values 0) (at values 1))
made row.Freer values = Resources (resources.Freer (at values 0))
made row.Out values = Resources (resources.Out (at values 0) (at values 1))
made row.Outt values = Resources (resources.Outt (at values 0) (at values 1))
made row.Outct values = Resources (resources.Outct (at values 0) (at values 1))
made row.OutctImm values = Resources (resources.OutctImm (at values 0) (at values 1))
made row.In values = Resources (resources.In (at values 0) (at values 1))
made row.Int values = Resources (resources.Int (at values 0) (at values 1))
made row.Inct values = Resources (resources.Inct (at values 0) (at values 1))
made row.Chkct values = Resources (resources.Chkct (at values 0) (at values 1))
made row.ChkctImm values = Resources (resources.ChkctImm (at values 0) (at values 1))
made row.Testct values = Resources (resources.Testct (at values 0) (at values 1))
made row.Testwct values = Resources (resources.Testwct (at values 0) (at values 1))
made row.Setd values = Resources (resources.Setd (at values 0) (at values 1))
made row.Getd values = Resources (resources.Getd (at values 0) (at values 1))
made row.Setn values = Resources (resources.Setn (at values 0) (at values 1))
made row.Getn values = Resources (resources.Getn (at values 0) (at values 1))
made row.SetcImm values = Resources (resources.SetcImm (at values 0) (at values 1))
made row.Setc values = Resources (resources.Setc (at values 0) (at values 1))
made row.Setv values = Resources (resources.Setv (at values 0))
made row.Setev values = Resources (resources.Setev (at values 0))
made row.Eeu values = Resources (resources.Eeu (at values 0))
made row.Edu values = Resources (resources.Edu (at values 0))
made row.Eet values = Resources (resources.Eet (at values 0) (at values 1))
made row.Eef values = Resources (resources.Eef (at values 0) (at values 1))
made row.Clre values = Resources resources.Clre
made row.Waiteu values = Resources resources.Waiteu
made row.Waitet values = Resources (resources.Waitet (at values 0))
made row.Waitef values = Resources (resources.Waitef (at values 0))
made row.Inpw values = Resources (resources.Inpw (at values 0) (at values 1) (at values 2))
made row.Outpw values = Resources (resources.Outpw (at values 0) (at values 1) (at values 2))
made row.Inshr values = Resources (resources.Inshr (at values 0) (at values 1))
made row.Outshr values = Resources (resources.Outshr (at values 0) (at values 1))
made row.Peek values = Resources (resources.Peek (at values 0) (at values 1))
made row.Endin values = Resources (resources.Endin (at values 0) (at values 1))
made row.Syncr values = Resources (resources.Syncr (at values 0))
made row.Getts values = Resources (resources.Getts (at values 0) (at values 1))
made row.Setpt values = Resources (resources.Setpt (at values 0) (at values 1))
made row.Clrpt values = Resources (resources.Clrpt (at values 0))
made row.Setclk values = Resources (resources.Setclk (at values 0) (at values 1))
made row.Setrdy values = Resources (resources.Setrdy (at values 0) (at values 1))
made row.Settw values = Resources (resources.Settw (at values 0) (at values 1))
