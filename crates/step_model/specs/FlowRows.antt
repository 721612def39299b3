-- The rows on the flow of control.
use Rattle.std.specs.Prelude.{ℕ, Bool, ◌+◌, ◌==◌, not, if◌then◌else◌}
use Rattle.xs_base.specs.Numbers.{Word}
use Rattle.xs_base.specs.Words.{word_sum}
use Rattle.xs_model.specs.declared.thread.Thread.{Thread}
use Rattle.xs_model.specs.Memory.{load_word, store_word}
use Rattle.xs_instructions.specs.declared.instr.FlowIns.{FlowIns}
use Rattle.xs_instructions.specs.declared.instr.FlowIns.TheVariants as flow
use Rattle.xs_instructions.specs.Code.{place_address}
use Rattle.step_model.specs.Effect.{Leaving, Own, after_it}
use Rattle.step_model.specs.MemoryRows.{up, down, becomes, reg, loads, stores}

-- a thread that goes to a place of the code where its branch is taken, and else on
abbrev pub after_branch : Bool → ℕ → Thread → Thread
after_branch taken place th = if taken then record th { pc = place_address place } else after_it th

-- a thread that calls what stands at an address: lr is where it returns to
abbrev pub called : Thread → Word → Thread
called th at = record th { lr = word_sum th.pc 4; pc = at }

-- a row that enters a function: where its frame has words, the first keeps lr, and then sp falls by the frame
abbrev pub enters : Own → ℕ → Leaving Own
enters l u =
    let th = l.thread in
    if u == 0 then becomes l (after_it th) else stores th.sp (store_word l.memory th.sp th.lr) (after_it (record th { sp = down th.sp 4 u }))

-- a row that returns from a function: where its frame has words, sp rises by the frame, and then the first one is lr again
abbrev pub returns : Own → ℕ → Leaving Own
returns l u =
    let th = l.thread in
    let frame_end = up th.sp 4 u in
    if u == 0
    then becomes l (record th { pc = th.lr })
    else loads l frame_end (load_word l.memory frame_end) (λ word. record th { sp = frame_end; lr = word; pc = word })

abbrev pub flow_row : Own → FlowIns → Leaving Own
flow_row l (flow.Bt s p) = becomes l (after_branch (not (reg l s == 0)) p l.thread)
flow_row l (flow.Bf s p) = becomes l (after_branch (reg l s == 0) p l.thread)
flow_row l (flow.Bu p) = becomes l (record l.thread { pc = place_address p })
flow_row l (flow.Bru s) = becomes l (record l.thread { pc = up l.thread.pc 4 (1 + reg l s) })
flow_row l (flow.Bau s) = becomes l (record l.thread { pc = reg l s })
flow_row l (flow.Bl p) = becomes l (called l.thread (place_address p))
flow_row l (flow.Bla s) = becomes l (called l.thread (reg l s))
flow_row l (flow.BlaCp u) = let at = up l.thread.cp 4 u in loads l at (load_word l.memory at) (called l.thread)
flow_row l (flow.Entsp u) = enters l u
flow_row l (flow.Retsp u) = returns l u
flow_row l (flow.Extsp u) = becomes l (after_it (record l.thread { sp = down l.thread.sp 4 u }))
flow_row l (flow.Extdp u) = becomes l (after_it (record l.thread { dp = down l.thread.dp 4 u }))
flow_row l (flow.SetSp s) = becomes l (after_it (record l.thread { sp = reg l s }))
flow_row l (flow.SetDp s) = becomes l (after_it (record l.thread { dp = reg l s }))
flow_row l (flow.SetCp s) = becomes l (after_it (record l.thread { cp = reg l s }))
