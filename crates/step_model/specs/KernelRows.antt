-- The rows on the kernel: the thread with a number issues them.
use Rattle.std.specs.Prelude.{ℕ, Bool, ◌*◌, ◌/◌, ◌==◌, not, bit_and}
use Rattle.xs_base.specs.Numbers.{Word, ThreadNumber}
use Rattle.xs_model.specs.declared.status.Status.{Status}
use Rattle.xs_model.specs.declared.status.TheConstants.{SETTABLE}
use Rattle.xs_model.specs.declared.thread.Thread.{Thread}
use Rattle.xs_model.specs.declared.traps.TheConstants.{ECALL, KERNEL_CALL}
use Rattle.xs_model.specs.Status.{status_of, with_bits, without_bits}
use Rattle.xs_model.specs.Memory.{load_word, store_word}
use Rattle.xs_model.specs.Entry.{returned}
use Rattle.xs_instructions.specs.declared.instr.KernelIns.{KernelIns}
use Rattle.xs_instructions.specs.declared.instr.KernelIns.TheVariants as kernel
use Rattle.step_model.specs.Effect.{Leaving, Traps, traps_where, Own, after_it}
use Rattle.step_model.specs.MemoryRows.{up, down, becomes, reg, loads, stores, sets}

-- a row that calls the exception handler where something holds, and else goes on
abbrev pub calls_where : Own → Bool → Word → Leaving Own
calls_where l holds value = traps_where holds ECALL value (record l { thread = after_it l.thread })

-- a load into a register of traps from the n-th word above sp, and a store of one to it
abbrev pub loads_from_stack : Own → ℕ → (Word → Thread) → Leaving Own
loads_from_stack l n with_word = let at = up l.thread.sp 4 n in loads l at (load_word l.memory at) (λ word. after_it (with_word word))

abbrev pub stores_to_stack : Own → ℕ → Word → Leaving Own
stores_to_stack l n word = let at = up l.thread.sp 4 n in stores at (store_word l.memory at word) (after_it l.thread)

-- a row that goes over to the kernel's stack, whose first word keeps sp
abbrev pub enters_kernel : Own → ℕ → Leaving Own
enters_kernel l u =
    let th = l.thread in stores th.ksp (store_word l.memory th.ksp th.sp) (after_it (record th { sp = down th.ksp 4 u }))

-- a row that leaves the kernel's stack, from whose first word sp comes
abbrev pub leaves_kernel : Own → ℕ → Leaving Own
leaves_kernel l u =
    let th = l.thread in
    let stack_end = up th.sp 4 u in
    loads l stack_end (load_word l.memory stack_end) (λ word. after_it (record th { ksp = stack_end; sp = word }))

-- a row that sets the status
abbrev pub sets_status : Own → Status → Leaving Own
sets_status l sr = becomes l (after_it (record l.thread { sr = sr }))

abbrev pub kernel_row : ThreadNumber → Own → KernelIns → Leaving Own
kernel_row k l (kernel.KcallImm u) = Traps KERNEL_CALL u
kernel_row k l (kernel.Kcall s) = Traps KERNEL_CALL (reg l s)
kernel_row k l kernel.Kret = becomes l (returned l.thread)
kernel_row k l (kernel.Kentsp u) = enters_kernel l u
kernel_row k l (kernel.Krestsp u) = leaves_kernel l u
kernel_row k l (kernel.Ecallt s) = calls_where l (not (reg l s == 0)) (reg l s)
kernel_row k l (kernel.Ecallf s) = calls_where l (reg l s == 0) (reg l s)
kernel_row k l kernel.SetKep = becomes l (after_it (record l.thread { kep = reg l 11 / 128 * 128 }))
kernel_row k l kernel.GetKep = sets l 11 l.thread.kep
kernel_row k l kernel.GetKsp = sets l 11 l.thread.ksp
kernel_row k l kernel.GetEd = sets l 11 l.thread.ed
kernel_row k l kernel.GetEt = sets l 11 l.thread.et
kernel_row k l kernel.GetId = sets l 11 k
kernel_row k l (kernel.Getsr u) = sets l 11 (bit_and l.thread.sr.bits u)
kernel_row k l kernel.LdwSpc = loads_from_stack l 1 (λ word. record l.thread { spc = word })
kernel_row k l kernel.LdwSsr = loads_from_stack l 2 (λ word. record l.thread { ssr = status_of word })
kernel_row k l kernel.LdwSed = loads_from_stack l 3 (λ word. record l.thread { sed = word })
kernel_row k l kernel.LdwEt = loads_from_stack l 4 (λ word. record l.thread { et = word })
kernel_row k l kernel.StwSpc = stores_to_stack l 1 l.thread.spc
kernel_row k l kernel.StwSsr = stores_to_stack l 2 l.thread.ssr.bits
kernel_row k l kernel.StwSed = stores_to_stack l 3 l.thread.sed
kernel_row k l kernel.StwEt = stores_to_stack l 4 l.thread.et
kernel_row k l (kernel.Setsr u) = sets_status l (with_bits l.thread.sr (bit_and u SETTABLE))
kernel_row k l (kernel.Clrsr u) = sets_status l (without_bits l.thread.sr (bit_and u SETTABLE))
