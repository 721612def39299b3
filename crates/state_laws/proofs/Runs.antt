-- No row on words, on memory, on the flow of control or on the kernel changes what its thread does.
use Rattle.std.proofs.Common.{ℕ, ◌≡◌, Bool, true, false, not, ◌==◌, if◌then◌else◌, Option, Some, None, List, slice_set, refl, ◌∙◌}
use Rattle.xs_base.specs.Numbers.{Word, Register, ThreadNumber}
use Rattle.xs_model.specs.declared.thread.Thread.{Thread}
use Rattle.xs_instructions.specs.declared.instr.WordIns.{WordIns}
use Rattle.xs_instructions.specs.declared.instr.WordIns.TheVariants as words
use Rattle.xs_instructions.specs.declared.instr.MemIns.{MemIns}
use Rattle.xs_instructions.specs.declared.instr.MemIns.TheVariants as memory
use Rattle.xs_instructions.specs.declared.instr.FlowIns.{FlowIns}
use Rattle.xs_instructions.specs.declared.instr.FlowIns.TheVariants as flow
use Rattle.xs_instructions.specs.declared.instr.KernelIns.{KernelIns}
use Rattle.xs_instructions.specs.declared.instr.KernelIns.TheVariants as kernel
use Rattle.step_model.specs.Effect.{Leaving, Leaves, Own}
use Rattle.step_model.specs.WordRows.{words_row, sets_two, divides, divides_long}
use Rattle.step_model.specs.MemoryRows.{reg, memory_row, loads, stores}
use Rattle.step_model.specs.FlowRows.{after_branch, flow_row}
use Rattle.step_model.specs.KernelRows.{kernel_row, calls_where}
use Rattle.xs_model.specs.declared.thread.Run.{Run}
use Rattle.xs_model.specs.Threads.{with_register}
use Rattle.step_model.specs.Effect.{after_it}

-- what a thread does is not in its registers
register_run : (th : Thread) (g : Register) (v : Word) → (with_register th g v).run ≡ th.run
register_run th g v = by (g == 12) (g == 13) (g == 14) (g == 15)
  where
    by : (a b c d : Bool) → (if a then record th { cp = v } else (if b then record th { dp = v } else (if c then record th { sp = v } else (if d then record th { lr = v } else record th { r = slice_set th.r g v })))).run ≡ th.run
    by true b c d = refl
    by false true c d = refl
    by false false true d = refl
    by false false false true = refl
    by false false false false = refl

module _ (run : Run) where
  abbrev pub Does : Thread → Type 0
  Does th = th.run ≡ run

  pub register_so : (th : Thread) (g : Register) (v : Word) → Does th → Does (with_register th g v)
  register_so th g v h = register_run th g v ∙ h

  sets_so : (th : Thread) (g : Register) (v : Word) → Does th → Does (after_it (with_register th g v))
  sets_so th g v h = register_so th g v h

  -- where a row does not trap
  abbrev pub LeftDoes : Leaving Thread → Type 0
  LeftDoes (Leaves th) = Does th
  LeftDoes _ = Unit {0}

  abbrev pub OwnDoes : Leaving Own → Type 0
  OwnDoes (Leaves l) = Does l.thread
  OwnDoes _ = Unit {0}

  two_so : (th : Thread) (d e : Register) (both : Word × Word) → Does th → LeftDoes (sets_two th d e both)
  two_so th d e both h = register_so _ e both.1 (register_so th d both.0 h)

  divides_so : (th : Thread) (d : Register) (fails : Bool) (word : Word) → Does th → LeftDoes (divides th d fails word)
  divides_so th d true word h = tt
  divides_so th d false word h = register_so th d word h

  divides_long_so : (th : Thread) (d e : Register) (found : Option (Word × Word)) → Does th → LeftDoes (divides_long th d e found)
  divides_long_so th d e None h = tt
  divides_long_so th d e (Some both) h = two_so th d e both h

  pub words_so : (th : Thread) (ins : WordIns) → Does th → LeftDoes (words_row th ins)
  words_so th (words.Add d x y) h = register_so th d _ h
  words_so th (words.AddImm d x i) h = register_so th d _ h
  words_so th (words.Sub d x y) h = register_so th d _ h
  words_so th (words.SubImm d x i) h = register_so th d _ h
  words_so th (words.Neg d x) h = register_so th d _ h
  words_so th (words.Not d x) h = register_so th d _ h
  words_so th (words.And d x y) h = register_so th d _ h
  words_so th (words.Or d x y) h = register_so th d _ h
  words_so th (words.Xor d x y) h = register_so th d _ h
  words_so th (words.AndNot d x) h = register_so th d _ h
  words_so th (words.Eq d x y) h = register_so th d _ h
  words_so th (words.EqImm d x i) h = register_so th d _ h
  words_so th (words.Lss d x y) h = register_so th d _ h
  words_so th (words.Lsu d x y) h = register_so th d _ h
  words_so th (words.Shl d x y) h = register_so th d _ h
  words_so th (words.ShlImm d x b) h = register_so th d _ h
  words_so th (words.Shr d x y) h = register_so th d _ h
  words_so th (words.ShrImm d x b) h = register_so th d _ h
  words_so th (words.Ashr d x y) h = register_so th d _ h
  words_so th (words.AshrImm d x b) h = register_so th d _ h
  words_so th (words.Mul d x y) h = register_so th d _ h
  words_so th (words.Divu d x y) h = divides_so th d _ _ h
  words_so th (words.Remu d x y) h = divides_so th d _ _ h
  words_so th (words.Divs d x y) h = divides_so th d _ _ h
  words_so th (words.Rems d x y) h = divides_so th d _ _ h
  words_so th (words.Mkmsk d x) h = register_so th d _ h
  words_so th (words.MkmskImm d b) h = register_so th d _ h
  words_so th (words.Sext d x) h = register_so th d _ h
  words_so th (words.SextImm d b) h = register_so th d _ h
  words_so th (words.Zext d x) h = register_so th d _ h
  words_so th (words.ZextImm d b) h = register_so th d _ h
  words_so th (words.Bitrev d x) h = register_so th d _ h
  words_so th (words.Byterev d x) h = register_so th d _ h
  words_so th (words.Clz d x) h = register_so th d _ h
  words_so th (words.Ladd d e x y v) h = two_so th d e _ h
  words_so th (words.Lsub d e x y v) h = two_so th d e _ h
  words_so th (words.Lmul d e x y v w) h = two_so th d e _ h
  words_so th (words.Ldivu d e x y v) h = divides_long_so th d e _ h
  words_so th (words.Maccu d e x y) h = two_so th d e _ h
  words_so th (words.Maccs d e x y) h = two_so th d e _ h
  words_so th (words.Ldc d u) h = register_so th d _ h
  words_so th words.Nop h = h

  loads_so : (l : Own) (at : Word) (found : Option Word) (after : Word → Thread) → ((word : Word) → Does (after word)) → OwnDoes (loads l at found after)
  loads_so l at None after h = tt
  loads_so l at (Some word) after h = h word

  stores_so : (at : Word) (found : Option (List ℕ)) (th : Thread) → Does th → OwnDoes (stores at found th)
  stores_so at None th h = tt
  stores_so at (Some bytes) th h = h

  pub memory_so : (l : Own) (ins : MemIns) → Does l.thread → OwnDoes (memory_row l ins)
  memory_so l (memory.LdwImm d x i) h = loads_so l _ _ _ (λ word. sets_so l.thread d word h)
  memory_so l (memory.Ldw d x y) h = loads_so l _ _ _ (λ word. sets_so l.thread d word h)
  memory_so l (memory.LdwDp g u) h = loads_so l _ _ _ (λ word. sets_so l.thread g word h)
  memory_so l (memory.LdwSp g u) h = loads_so l _ _ _ (λ word. sets_so l.thread g word h)
  memory_so l (memory.LdwCp d u) h = loads_so l _ _ _ (λ word. sets_so l.thread d word h)
  memory_so l (memory.StwImm d x i) h = stores_so _ _ _ h
  memory_so l (memory.Stw d x y) h = stores_so _ _ _ h
  memory_so l (memory.StwDp g u) h = stores_so _ _ _ h
  memory_so l (memory.StwSp g u) h = stores_so _ _ _ h
  memory_so l (memory.Ld16s d x y) h = loads_so l _ _ _ (λ word. sets_so l.thread d word h)
  memory_so l (memory.Ld8u d x y) h = loads_so l _ _ _ (λ word. sets_so l.thread d word h)
  memory_so l (memory.St16 d x y) h = stores_so _ _ _ h
  memory_so l (memory.St8 d x y) h = stores_so _ _ _ h
  memory_so l (memory.Ldaw d x y) h = sets_so l.thread d _ h
  memory_so l (memory.LdawBack d x y) h = sets_so l.thread d _ h
  memory_so l (memory.LdawImm d x i) h = sets_so l.thread d _ h
  memory_so l (memory.LdawBackImm d x i) h = sets_so l.thread d _ h
  memory_so l (memory.LdawDp d u) h = sets_so l.thread d _ h
  memory_so l (memory.LdawSp d u) h = sets_so l.thread d _ h
  memory_so l (memory.LdawCp u) h = h
  memory_so l (memory.Lda16 d x y) h = sets_so l.thread d _ h
  memory_so l (memory.Lda16Back d x y) h = sets_so l.thread d _ h
  memory_so l (memory.Ldap p) h = h

  -- a row of two cases
  branch_so : (holds : Bool) (x y : Leaving Own) → OwnDoes x → OwnDoes y → OwnDoes (if holds then x else y)
  branch_so true x y one other = one
  branch_so false x y one other = other

  after_branch_so : (taken : Bool) (place : ℕ) (th : Thread) → Does th → Does (after_branch taken place th)
  after_branch_so true place th h = h
  after_branch_so false place th h = h

  pub flow_so : (l : Own) (ins : FlowIns) → Does l.thread → OwnDoes (flow_row l ins)
  flow_so l (flow.Bt s p) h = after_branch_so (not (reg l s == 0)) p l.thread h
  flow_so l (flow.Bf s p) h = after_branch_so (reg l s == 0) p l.thread h
  flow_so l (flow.Bu p) h = h
  flow_so l (flow.Bru s) h = h
  flow_so l (flow.Bau s) h = h
  flow_so l (flow.Bl p) h = h
  flow_so l (flow.Bla s) h = h
  flow_so l (flow.BlaCp u) h = loads_so l _ _ _ (λ word. h)
  flow_so l (flow.Entsp u) h = branch_so (u == 0) _ _ h (stores_so _ _ _ h)
  flow_so l (flow.Retsp u) h = branch_so (u == 0) _ _ h (loads_so l _ _ _ (λ word. h))
  flow_so l (flow.Extsp u) h = h
  flow_so l (flow.Extdp u) h = h
  flow_so l (flow.SetSp s) h = h
  flow_so l (flow.SetDp s) h = h
  flow_so l (flow.SetCp s) h = h

  calls_so : (l : Own) (holds : Bool) (value : Word) → Does l.thread → OwnDoes (calls_where l holds value)
  calls_so l true value h = tt
  calls_so l false value h = h

  pub kernel_so : (k : ThreadNumber) (l : Own) (ins : KernelIns) → Does l.thread → OwnDoes (kernel_row k l ins)
  kernel_so k l (kernel.KcallImm u) h = tt
  kernel_so k l (kernel.Kcall s) h = tt
  kernel_so k l kernel.Kret h = h
  kernel_so k l (kernel.Kentsp u) h = stores_so _ _ _ h
  kernel_so k l (kernel.Krestsp u) h = loads_so l _ _ _ (λ word. h)
  kernel_so k l (kernel.Ecallt s) h = calls_so l _ _ h
  kernel_so k l (kernel.Ecallf s) h = calls_so l _ _ h
  kernel_so k l kernel.SetKep h = h
  kernel_so k l kernel.GetKep h = h
  kernel_so k l kernel.GetKsp h = h
  kernel_so k l kernel.GetEd h = h
  kernel_so k l kernel.GetEt h = h
  kernel_so k l kernel.GetId h = h
  kernel_so k l (kernel.Getsr u) h = h
  kernel_so k l kernel.LdwSpc h = loads_so l _ _ _ (λ word. h)
  kernel_so k l kernel.LdwSsr h = loads_so l _ _ _ (λ word. h)
  kernel_so k l kernel.LdwSed h = loads_so l _ _ _ (λ word. h)
  kernel_so k l kernel.LdwEt h = loads_so l _ _ _ (λ word. h)
  kernel_so k l kernel.StwSpc h = stores_so _ _ _ h
  kernel_so k l kernel.StwSsr h = stores_so _ _ _ h
  kernel_so k l kernel.StwSed h = stores_so _ _ _ h
  kernel_so k l kernel.StwEt h = stores_so _ _ _ h
  kernel_so k l (kernel.Setsr u) h = h
  kernel_so k l (kernel.Clrsr u) h = h
