use Rattle.std.proofs.Common.{◌≡◌, ℕ, Bool, false, get_or, take, sym, ap, ◌∙◌}
use Rattle.std.specs.List.{list_any}
use Rattle.std.proofs.lemmas.Bool.{or_from}
use Rattle.std.proofs.lemmas.List.{take_all}
use Rattle.std.proofs.lemmas.List.Folds.{list_any_more, list_any_at}
use Rattle.xs_model.specs.Masks.{in_mask}
use Rattle.sync_locks.specs.declared.state.SyncState.{SyncState}
use Rattle.sync_locks.specs.States.{unused_state}
use Rattle.state_forms.proofs.sync.is_slave_of.Goals as goal

pub loop-state-preserved : goal.loop-state-preserved
loop-state-preserved c =
    let has : SyncState → Bool = λ s. in_mask s.slaves c.args.thread in
    let xs = c.args.states.now in
    let i = c.loop-state.state-index in
    let here : has (get_or xs i unused_state) ≡ false = ap (λ (m : ℕ). in_mask m c.args.thread) (sym c.from.ensures) ∙ sym c.has_bit.ensures ∙ c.if-has_bit.false in
    list_any_more has xs i unused_state c.loop-state-test.true ∙ or_from (list_any has (take i xs)) (has (get_or xs i unused_state)) c.loop-state.invariant here

pub returns-then-has_bit : goal.returns-then-has_bit
returns-then-has_bit c =
    sym (list_any_at (λ (s : SyncState). in_mask s.slaves c.args.thread) c.args.states.now c.loop-state.state-index unused_state c.loop-state-test.true
    (ap (λ (m : ℕ). in_mask m c.args.thread) (sym c.from.ensures) ∙ sym c.has_bit.ensures ∙ c.if-has_bit.true))

pub returns : goal.returns
returns c =
    let has : SyncState → Bool = λ s. in_mask s.slaves c.args.thread in
    sym (ap (list_any has) (sym (take_all c.loop-state.state-index c.args.states.now c.loop-state-test.false)) ∙ c.loop-state.invariant)
