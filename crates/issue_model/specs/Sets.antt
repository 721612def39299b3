-- Which registers of its thread an instruction sets where it is done, by their numbers.
use Rattle.std.specs.Prelude.{Bool, false, ◌&&◌, ◌||◌, ◌==◌, not}
use Rattle.xs_base.specs.Numbers.{Register}
use Rattle.xs_instructions.specs.declared.instr.Instr.{Instr}
use Rattle.xs_instructions.specs.declared.instr.Instr.TheVariants.{Words, Memory, Flow, Kernel, Threads, Resources}
use Rattle.xs_instructions.specs.declared.instr.WordIns.{WordIns}
use Rattle.xs_instructions.specs.declared.instr.WordIns.TheVariants as words
use Rattle.xs_instructions.specs.declared.instr.MemIns.{MemIns}
use Rattle.xs_instructions.specs.declared.instr.MemIns.TheVariants as memory
use Rattle.xs_instructions.specs.declared.instr.FlowIns.{FlowIns}
use Rattle.xs_instructions.specs.declared.instr.FlowIns.TheVariants as flow
use Rattle.xs_instructions.specs.declared.instr.KernelIns.{KernelIns}
use Rattle.xs_instructions.specs.declared.instr.KernelIns.TheVariants as kernel
use Rattle.xs_instructions.specs.declared.instr.ThreadIns.{ThreadIns}
use Rattle.xs_instructions.specs.declared.instr.ThreadIns.TheVariants as threads
use Rattle.xs_instructions.specs.declared.instr.ResIns.{ResIns}
use Rattle.xs_instructions.specs.declared.instr.ResIns.TheVariants as resources

abbrev pub words_set : WordIns → Register → Bool
words_set (words.Add d x y) g = g == d
words_set (words.AddImm d x i) g = g == d
words_set (words.Sub d x y) g = g == d
words_set (words.SubImm d x i) g = g == d
words_set (words.Neg d x) g = g == d
words_set (words.Not d x) g = g == d
words_set (words.And d x y) g = g == d
words_set (words.Or d x y) g = g == d
words_set (words.Xor d x y) g = g == d
words_set (words.AndNot d x) g = g == d
words_set (words.Eq d x y) g = g == d
words_set (words.EqImm d x i) g = g == d
words_set (words.Lss d x y) g = g == d
words_set (words.Lsu d x y) g = g == d
words_set (words.Shl d x y) g = g == d
words_set (words.ShlImm d x b) g = g == d
words_set (words.Shr d x y) g = g == d
words_set (words.ShrImm d x b) g = g == d
words_set (words.Ashr d x y) g = g == d
words_set (words.AshrImm d x b) g = g == d
words_set (words.Mul d x y) g = g == d
words_set (words.Divu d x y) g = g == d
words_set (words.Remu d x y) g = g == d
words_set (words.Divs d x y) g = g == d
words_set (words.Rems d x y) g = g == d
words_set (words.Mkmsk d x) g = g == d
words_set (words.MkmskImm d b) g = g == d
words_set (words.Sext d x) g = g == d
words_set (words.SextImm d b) g = g == d
words_set (words.Zext d x) g = g == d
words_set (words.ZextImm d b) g = g == d
words_set (words.Bitrev d x) g = g == d
words_set (words.Byterev d x) g = g == d
words_set (words.Clz d x) g = g == d
words_set (words.Ladd d e x y v) g = (g == d) || (g == e)
words_set (words.Lsub d e x y v) g = (g == d) || (g == e)
words_set (words.Lmul d e x y v w) g = (g == d) || (g == e)
words_set (words.Ldivu d e x y v) g = (g == d) || (g == e)
words_set (words.Maccu d e x y) g = (g == d) || (g == e)
words_set (words.Maccs d e x y) g = (g == d) || (g == e)
words_set (words.Ldc d u) g = g == d
words_set words.Nop g = false

abbrev pub memory_sets : MemIns → Register → Bool
memory_sets (memory.LdwImm d x i) g = g == d
memory_sets (memory.Ldw d x y) g = g == d
memory_sets (memory.LdwDp d u) g = g == d
memory_sets (memory.LdwSp d u) g = g == d
memory_sets (memory.LdwCp d u) g = g == d
memory_sets (memory.StwImm d x i) g = false
memory_sets (memory.Stw d x y) g = false
memory_sets (memory.StwDp d u) g = false
memory_sets (memory.StwSp d u) g = false
memory_sets (memory.Ld16s d x y) g = g == d
memory_sets (memory.Ld8u d x y) g = g == d
memory_sets (memory.St16 d x y) g = false
memory_sets (memory.St8 d x y) g = false
memory_sets (memory.Ldaw d x y) g = g == d
memory_sets (memory.LdawBack d x y) g = g == d
memory_sets (memory.LdawImm d x i) g = g == d
memory_sets (memory.LdawBackImm d x i) g = g == d
memory_sets (memory.LdawDp d u) g = g == d
memory_sets (memory.LdawSp d u) g = g == d
memory_sets (memory.LdawCp u) g = g == 11
memory_sets (memory.Lda16 d x y) g = g == d
memory_sets (memory.Lda16Back d x y) g = g == d
memory_sets (memory.Ldap p) g = g == 11

-- a frame of no words sets neither sp nor lr
abbrev pub flow_sets : FlowIns → Register → Bool
flow_sets (flow.Bl p) g = g == 15
flow_sets (flow.Bla s) g = g == 15
flow_sets (flow.BlaCp u) g = g == 15
flow_sets (flow.Entsp u) g = not (u == 0) && (g == 14)
flow_sets (flow.Retsp u) g = not (u == 0) && ((g == 14) || (g == 15))
flow_sets (flow.Extsp u) g = g == 14
flow_sets (flow.Extdp u) g = g == 13
flow_sets (flow.SetSp s) g = g == 14
flow_sets (flow.SetDp s) g = g == 13
flow_sets (flow.SetCp s) g = g == 12
flow_sets _ g = false

abbrev pub kernel_sets : KernelIns → Register → Bool
kernel_sets kernel.Kret g = (g == 20) || (g == 23)
kernel_sets (kernel.Kentsp u) g = g == 14
kernel_sets (kernel.Krestsp u) g = (g == 14) || (g == 22)
kernel_sets kernel.SetKep g = g == 21
kernel_sets kernel.GetKep g = g == 11
kernel_sets kernel.GetKsp g = g == 11
kernel_sets kernel.GetEd g = g == 11
kernel_sets kernel.GetEt g = g == 11
kernel_sets kernel.GetId g = g == 11
kernel_sets (kernel.Getsr u) g = g == 11
kernel_sets (kernel.Setsr u) g = g == 23
kernel_sets (kernel.Clrsr u) g = g == 23
kernel_sets kernel.LdwSpc g = g == 16
kernel_sets kernel.LdwSsr g = g == 17
kernel_sets kernel.LdwSed g = g == 18
kernel_sets kernel.LdwEt g = g == 19
kernel_sets _ g = false

abbrev pub threads_set : ThreadIns → Register → Bool
threads_set (threads.Getst d s) g = g == d
threads_set _ g = false

abbrev pub resources_set : ResIns → Register → Bool
resources_set (resources.Getr d i) g = g == d
resources_set (resources.In d s) g = g == d
resources_set (resources.Int d s) g = g == d
resources_set (resources.Inct d s) g = g == d
resources_set (resources.Testct d s) g = g == d
resources_set (resources.Testwct d s) g = g == d
resources_set (resources.Getd d s) g = g == d
resources_set (resources.Getn d s) g = g == d
resources_set (resources.Inpw d s b) g = g == d
resources_set (resources.Inshr d s) g = g == d
resources_set (resources.Outshr s d) g = g == d
resources_set (resources.Peek d s) g = g == d
resources_set (resources.Endin d s) g = g == d
resources_set (resources.Getts d s) g = g == d
resources_set resources.Clre g = g == 23
resources_set _ g = false

-- by the parts of the instruction table
abbrev pub sets : Instr → Register → Bool
sets (Words ins) g = words_set ins g
sets (Memory ins) g = memory_sets ins g
sets (Flow ins) g = flow_sets ins g
sets (Kernel ins) g = kernel_sets ins g
sets (Threads ins) g = threads_set ins g
sets (Resources ins) g = resources_set ins g
