-- What the rows leave of a thread: its status registers, or ones with no other bits.
use Rattle.std.proofs.Common.{ℕ, Bool, true, false, not, ◌==◌, if◌then◌else◌, Option, Some, None, List, bit_and}
use Rattle.xs_base.specs.Numbers.{Word, Register, ThreadNumber}
use Rattle.xs_model.specs.declared.status.TheConstants.{SETTABLE}
use Rattle.xs_model.specs.declared.thread.Thread.{Thread}
use Rattle.xs_model.specs.Threads.{HasKnownBits}
use Rattle.xs_instructions.specs.declared.instr.WordIns.{WordIns}
use Rattle.xs_instructions.specs.declared.instr.WordIns.TheVariants as words
use Rattle.xs_instructions.specs.declared.instr.MemIns.{MemIns}
use Rattle.xs_instructions.specs.declared.instr.MemIns.TheVariants as memory
use Rattle.xs_instructions.specs.declared.instr.FlowIns.{FlowIns}
use Rattle.xs_instructions.specs.declared.instr.FlowIns.TheVariants as flow
use Rattle.xs_instructions.specs.declared.instr.KernelIns.{KernelIns}
use Rattle.xs_instructions.specs.declared.instr.KernelIns.TheVariants as kernel
use Rattle.step_model.specs.Effect.{Leaving, Leaves, Own}
use Rattle.step_model.specs.WordRows.{words_row, sets_two, divides, divides_long}
use Rattle.step_model.specs.MemoryRows.{reg, memory_row, loads, stores}
use Rattle.step_model.specs.FlowRows.{after_branch, flow_row}
use Rattle.step_model.specs.KernelRows.{kernel_row, calls_where}
use Rattle.step_laws.proofs.Bits.{with_known, without_known, of_word_known, settable_known}
use Rattle.step_laws.proofs.Threads.{known, on_known, register_known, sets_known}

-- where a row does not trap
abbrev pub LeftKnown : Leaving Thread → Type 0
LeftKnown (Leaves th) = HasKnownBits th
LeftKnown _ = Unit {0}

abbrev pub OwnKnown : Leaving Own → Type 0
OwnKnown (Leaves l) = HasKnownBits l.thread
OwnKnown _ = Unit {0}

two_known : (th : Thread) (d e : Register) (both : Word × Word) → HasKnownBits th → LeftKnown (sets_two th d e both)
two_known th d e both h = register_known _ e both.1 (register_known th d both.0 h)

divides_known : (th : Thread) (d : Register) (fails : Bool) (word : Word) → HasKnownBits th → LeftKnown (divides th d fails word)
divides_known th d true word h = tt
divides_known th d false word h = register_known th d word h

divides_long_known : (th : Thread) (d e : Register) (found : Option (Word × Word)) → HasKnownBits th → LeftKnown (divides_long th d e found)
divides_long_known th d e None h = tt
divides_long_known th d e (Some both) h = two_known th d e both h

pub words_known : (th : Thread) (ins : WordIns) → HasKnownBits th → LeftKnown (words_row th ins)
words_known th (words.Add d x y) h = register_known th d _ h
words_known th (words.AddImm d x i) h = register_known th d _ h
words_known th (words.Sub d x y) h = register_known th d _ h
words_known th (words.SubImm d x i) h = register_known th d _ h
words_known th (words.Neg d x) h = register_known th d _ h
words_known th (words.Not d x) h = register_known th d _ h
words_known th (words.And d x y) h = register_known th d _ h
words_known th (words.Or d x y) h = register_known th d _ h
words_known th (words.Xor d x y) h = register_known th d _ h
words_known th (words.AndNot d x) h = register_known th d _ h
words_known th (words.Eq d x y) h = register_known th d _ h
words_known th (words.EqImm d x i) h = register_known th d _ h
words_known th (words.Lss d x y) h = register_known th d _ h
words_known th (words.Lsu d x y) h = register_known th d _ h
words_known th (words.Shl d x y) h = register_known th d _ h
words_known th (words.ShlImm d x b) h = register_known th d _ h
words_known th (words.Shr d x y) h = register_known th d _ h
words_known th (words.ShrImm d x b) h = register_known th d _ h
words_known th (words.Ashr d x y) h = register_known th d _ h
words_known th (words.AshrImm d x b) h = register_known th d _ h
words_known th (words.Mul d x y) h = register_known th d _ h
words_known th (words.Divu d x y) h = divides_known th d _ _ h
words_known th (words.Remu d x y) h = divides_known th d _ _ h
words_known th (words.Divs d x y) h = divides_known th d _ _ h
words_known th (words.Rems d x y) h = divides_known th d _ _ h
words_known th (words.Mkmsk d x) h = register_known th d _ h
words_known th (words.MkmskImm d b) h = register_known th d _ h
words_known th (words.Sext d x) h = register_known th d _ h
words_known th (words.SextImm d b) h = register_known th d _ h
words_known th (words.Zext d x) h = register_known th d _ h
words_known th (words.ZextImm d b) h = register_known th d _ h
words_known th (words.Bitrev d x) h = register_known th d _ h
words_known th (words.Byterev d x) h = register_known th d _ h
words_known th (words.Clz d x) h = register_known th d _ h
words_known th (words.Ladd d e x y v) h = two_known th d e _ h
words_known th (words.Lsub d e x y v) h = two_known th d e _ h
words_known th (words.Lmul d e x y v w) h = two_known th d e _ h
words_known th (words.Ldivu d e x y v) h = divides_long_known th d e _ h
words_known th (words.Maccu d e x y) h = two_known th d e _ h
words_known th (words.Maccs d e x y) h = two_known th d e _ h
words_known th (words.Ldc d u) h = register_known th d _ h
words_known th words.Nop h = h

loads_known : (l : Own) (at : Word) (found : Option Word) (after : Word → Thread) → ((word : Word) → HasKnownBits (after word)) → OwnKnown (loads l at found after)
loads_known l at None after h = tt
loads_known l at (Some word) after h = h word

stores_known : (at : Word) (found : Option (List ℕ)) (th : Thread) → HasKnownBits th → OwnKnown (stores at found th)
stores_known at None th h = tt
stores_known at (Some bytes) th h = h

pub memory_known : (l : Own) (ins : MemIns) → HasKnownBits l.thread → OwnKnown (memory_row l ins)
memory_known l (memory.LdwImm d x i) h = loads_known l _ _ _ (λ word. sets_known l.thread d word h)
memory_known l (memory.Ldw d x y) h = loads_known l _ _ _ (λ word. sets_known l.thread d word h)
memory_known l (memory.LdwDp g u) h = loads_known l _ _ _ (λ word. sets_known l.thread g word h)
memory_known l (memory.LdwSp g u) h = loads_known l _ _ _ (λ word. sets_known l.thread g word h)
memory_known l (memory.LdwCp d u) h = loads_known l _ _ _ (λ word. sets_known l.thread d word h)
memory_known l (memory.StwImm d x i) h = stores_known _ _ _ (on_known _ h)
memory_known l (memory.Stw d x y) h = stores_known _ _ _ (on_known _ h)
memory_known l (memory.StwDp g u) h = stores_known _ _ _ (on_known _ h)
memory_known l (memory.StwSp g u) h = stores_known _ _ _ (on_known _ h)
memory_known l (memory.Ld16s d x y) h = loads_known l _ _ _ (λ word. sets_known l.thread d word h)
memory_known l (memory.Ld8u d x y) h = loads_known l _ _ _ (λ word. sets_known l.thread d word h)
memory_known l (memory.St16 d x y) h = stores_known _ _ _ (on_known _ h)
memory_known l (memory.St8 d x y) h = stores_known _ _ _ (on_known _ h)
memory_known l (memory.Ldaw d x y) h = sets_known l.thread d _ h
memory_known l (memory.LdawBack d x y) h = sets_known l.thread d _ h
memory_known l (memory.LdawImm d x i) h = sets_known l.thread d _ h
memory_known l (memory.LdawBackImm d x i) h = sets_known l.thread d _ h
memory_known l (memory.LdawDp d u) h = sets_known l.thread d _ h
memory_known l (memory.LdawSp d u) h = sets_known l.thread d _ h
memory_known l (memory.LdawCp u) h = known _ h.sr h.ssr
memory_known l (memory.Lda16 d x y) h = sets_known l.thread d _ h
memory_known l (memory.Lda16Back d x y) h = sets_known l.thread d _ h
memory_known l (memory.Ldap p) h = known _ h.sr h.ssr

-- a row of two cases
branch_known : (holds : Bool) (x y : Leaving Own) → OwnKnown x → OwnKnown y → OwnKnown (if holds then x else y)
branch_known true x y one other = one
branch_known false x y one other = other

after_branch_known : (taken : Bool) (place : ℕ) (th : Thread) → HasKnownBits th → HasKnownBits (after_branch taken place th)
after_branch_known true place th h = known _ h.sr h.ssr
after_branch_known false place th h = on_known th h

pub flow_known : (l : Own) (ins : FlowIns) → HasKnownBits l.thread → OwnKnown (flow_row l ins)
flow_known l (flow.Bt s p) h = after_branch_known (not (reg l s == 0)) p l.thread h
flow_known l (flow.Bf s p) h = after_branch_known (reg l s == 0) p l.thread h
flow_known l (flow.Bu p) h = known _ h.sr h.ssr
flow_known l (flow.Bru s) h = known _ h.sr h.ssr
flow_known l (flow.Bau s) h = known _ h.sr h.ssr
flow_known l (flow.Bl p) h = known _ h.sr h.ssr
flow_known l (flow.Bla s) h = known _ h.sr h.ssr
flow_known l (flow.BlaCp u) h = loads_known l _ _ _ (λ word. known _ h.sr h.ssr)
flow_known l (flow.Entsp u) h = branch_known (u == 0) _ _ (known _ h.sr h.ssr) (stores_known _ _ _ (known _ h.sr h.ssr))
flow_known l (flow.Retsp u) h = branch_known (u == 0) _ _ (known _ h.sr h.ssr) (loads_known l _ _ _ (λ word. known _ h.sr h.ssr))
flow_known l (flow.Extsp u) h = known _ h.sr h.ssr
flow_known l (flow.Extdp u) h = known _ h.sr h.ssr
flow_known l (flow.SetSp s) h = known _ h.sr h.ssr
flow_known l (flow.SetDp s) h = known _ h.sr h.ssr
flow_known l (flow.SetCp s) h = known _ h.sr h.ssr

calls_known : (l : Own) (holds : Bool) (value : Word) → HasKnownBits l.thread → OwnKnown (calls_where l holds value)
calls_known l true value h = tt
calls_known l false value h = on_known _ h

pub kernel_known : (k : ThreadNumber) (l : Own) (ins : KernelIns) → HasKnownBits l.thread → OwnKnown (kernel_row k l ins)
kernel_known k l (kernel.KcallImm u) h = tt
kernel_known k l (kernel.Kcall s) h = tt
kernel_known k l kernel.Kret h = known _ h.ssr h.ssr
kernel_known k l (kernel.Kentsp u) h = stores_known _ _ _ (known _ h.sr h.ssr)
kernel_known k l (kernel.Krestsp u) h = loads_known l _ _ _ (λ word. known _ h.sr h.ssr)
kernel_known k l (kernel.Ecallt s) h = calls_known l _ _ h
kernel_known k l (kernel.Ecallf s) h = calls_known l _ _ h
kernel_known k l kernel.SetKep h = known _ h.sr h.ssr
kernel_known k l kernel.GetKep h = sets_known l.thread 11 _ h
kernel_known k l kernel.GetKsp h = sets_known l.thread 11 _ h
kernel_known k l kernel.GetEd h = sets_known l.thread 11 _ h
kernel_known k l kernel.GetEt h = sets_known l.thread 11 _ h
kernel_known k l kernel.GetId h = sets_known l.thread 11 _ h
kernel_known k l (kernel.Getsr u) h = sets_known l.thread 11 _ h
kernel_known k l kernel.LdwSpc h = loads_known l _ _ _ (λ word. known _ h.sr h.ssr)
kernel_known k l kernel.LdwSsr h = loads_known l _ _ _ (λ word. known _ h.sr (of_word_known word))
kernel_known k l kernel.LdwSed h = loads_known l _ _ _ (λ word. known _ h.sr h.ssr)
kernel_known k l kernel.LdwEt h = loads_known l _ _ _ (λ word. known _ h.sr h.ssr)
kernel_known k l kernel.StwSpc h = stores_known _ _ _ (known _ h.sr h.ssr)
kernel_known k l kernel.StwSsr h = stores_known _ _ _ (known _ h.sr h.ssr)
kernel_known k l kernel.StwSed h = stores_known _ _ _ (known _ h.sr h.ssr)
kernel_known k l kernel.StwEt h = stores_known _ _ _ (known _ h.sr h.ssr)
kernel_known k l (kernel.Setsr u) h = known _ (with_known l.thread.sr (bit_and u SETTABLE) h.sr (settable_known u)) h.ssr
kernel_known k l (kernel.Clrsr u) h = known _ (without_known l.thread.sr (bit_and u SETTABLE) h.sr) h.ssr
