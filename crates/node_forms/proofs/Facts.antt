-- What has the form of a node's block says what may be so of a node.
use Rattle.std.proofs.Common.{◌≡◌, ℕ, ◌<◌, Bool, true, false, ltb, List, length, get_or, refl, sym, ap, subst, ◌∙◌, arith}
use Rattle.std.proofs.lemmas.Bool.{ltb-true, lt-ltb}
use Rattle.std.proofs.lemmas.List.{length-map, get_or-map}
use Rattle.std.specs.Prelude.{Option, IfSome, map, nat_lt, slice_index, slice_index_or, ◌↔◌}
use Rattle.std.specs.List.{zip, AllByRecursion}
use Rattle.xs_base.specs.Numbers.{Slot, EndNumber}
use Rattle.xs_model.specs.declared.thread.Thread.{Thread}
use Rattle.xs_model.specs.Threads.{fresh_thread}
use Rattle.step_model.specs.ThreadRows.{is_taken}
use Rattle.link_ends.specs.States.{absent_end}
use Rattle.core_step.specs.ThreadStates.{IsRunState, IsThreadState, AreThreadStates}
use Rattle.core_step.specs.Network.{EndsHaveGaps}
use Rattle.core_step.specs.States.{IsNodeState, IsStateBefore}
use Rattle.core_step.specs.declared.node_state.NodeState.{NodeState}
use Rattle.state_forms.proofs.Holding.{each_as}
use Rattle.state_forms.proofs.ThreadStates.{TellsWaits, run_holds, thread_state_holds, threads_hold}
use Rattle.state_forms.specs.Threads.{thread_state}
use Rattle.state_forms.specs.Syncs.{syncs}
use Rattle.state_forms.proofs.ChanFacts.{chans_hold}
use Rattle.state_forms.proofs.SyncFacts.{AreSyncs, syncs_hold, slaves_pass}
use Rattle.state_forms.proofs.Locks.{locks_hold}
use Rattle.state_forms.proofs.Enables.{enables_hold}
use Rattle.state_forms.proofs.Rest.{division_holds, levels_hold}
use Rattle.port_forms.proofs.PortFacts.{ports_are}
use Rattle.switch_forms.proofs.EndFacts.{AreEnds, ends_hold}
use Rattle.switch_forms.proofs.InputFacts.{AreInputs, inputs_hold}
use Rattle.switch_forms.proofs.HeldFacts.{are_there}
use Rattle.node_forms.specs.Nodes.{taken_of, used_of, core_fields, core_in, enable_fields, enables_in, net_fields, net_in, state_of_fields, fields_of_state, node_state}
use Rattle.node_forms.proofs.Threads.{taken_alone}

-- what may be so of a thread tells of each wait that what is waited at is there
pub tells : TellsWaits IsRunState
tells = record {
  free = tt;
  unstarted = tt;
  at_sync = tt;
  going = tt;
  halted = tt;
  room = λ chan count. (λ h. h, λ h. h);
  tokens = λ chan count. (λ h. h, λ h. h);
  full = λ port. (λ h. h, λ h. h);
  empty = λ port. (λ h. h, λ h. h);
  idle = λ port. (λ h. h, λ h. h);
  timer = λ timer. (λ h. h, λ h. h);
  lock = λ lock. (λ h. h, λ h. h);
  slaves = λ sync. (λ h. h, λ h. h);
  choice = tt;
  divider = tt;
}

thread_is : (th : Thread) → thread_state.Holds th → IsThreadState th
thread_is th h = let o = thread_state_holds th h in record { sr = o.sr; ssr = o.ssr; run = run_holds tells th.run o.run }

-- as many last issues as threads
as_many : (s : NodeState) → state_of_fields (fields_of_state s) ≡ s → length s.last ≡ length s.threads
as_many s e =
    let pairs = zip s.threads s.last in
    ap (λ (t : NodeState). length t.last) (sym e) ∙ length-map pairs (λ p. p.1) ∙ sym (length-map pairs (λ p. p.0)) ∙ ap (λ (t : NodeState). length t.threads) e

module _ (gaps : List ℕ) (slot : Slot) (s : NodeState) where
  abbrev there : List Bool
  there = map (λ gap. nat_lt 0 gap) gaps

  ends_there : length gaps ≡ 8 → AreEnds there slot s.ends → EndsHaveGaps gaps s.ends
  ends_there eight h end lt =
      let is : get_or there end false ≡ ltb 0 (get_or gaps end 0) = get_or-map (λ gap. ltb 0 gap) gaps end 0 false (omega (arith, eight, lt)) in
      let same = h.present end lt ∙ is in
      (λ on. ltb-true 0 (get_or gaps end 0) (sym same ∙ on), λ some. same ∙ lt-ltb 0 (get_or gaps end 0) some)

  pub node_facts : length gaps ≡ 8 → (node_state there slot).Holds s → IsNodeState gaps s × IsStateBefore slot s
  unfolding node_state core_fields enable_fields net_fields
  node_facts eight h =
      let many = as_many s h.1 in
      let core = h.0.0 in
      let enables = h.0.1.0 in
      let net = h.0.1.1 in
      let threads = threads_hold slot s.threads s.last many core.0 in
      let taken = map (λ (th : Thread). is_taken th.run) s.threads in
      let masters = syncs_hold taken s.syncs (subst (λ (k : List Bool). (syncs k).Holds s.syncs) (sym (taken_alone s.threads s.last (sym many))) core.1.1.1.1.0) in
      let inputs = inputs_hold (used_of s.chans) there s.inputs net.0 in
      let ends = ends_hold there slot s.ends net.1.0 in
      let held = are_there s.chans s.ends s.inputs there ends.present inputs.held in (
        record {
          units = record {
            threads = each_as thread_is s.threads threads.0;
            chans = chans_hold 32 s.chans core.1.0;
            syncs = masters.are;
            locks = locks_hold 4 s.locks core.1.1.1.1.1.0;
            ports = (ports_are s.ports core.1.1.1.1.1.1).1;
            chan_enables = enables_hold 32 s.chan_enables enables.0;
            timer_enables = enables_hold 10 s.timer_enables enables.1.0;
            port_enables = enables_hold 29 s.port_enables enables.1.1;
          };
          inputs = inputs.are;
          ends = ends.each;
          levels = (levels_hold s.levels net.1.1.1.0).1;
          held = record { chans = inputs.held.chans; ends = inputs.held.ends; used = held.used; present = held.present };
          slaves = slaves_pass (λ (th : Thread). is_taken th.run) s.threads s.syncs fresh_thread masters.not_free;
          there = ends_there eight ends;
        },
        record { last = threads.1; division = division_holds slot s.division net.1.1.0; ends = ends.last },
      )
