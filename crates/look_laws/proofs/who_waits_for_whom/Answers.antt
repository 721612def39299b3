use Rattle.std.proofs.Common.{ℕ, Bool, Option, List, [], ◌∷◌, map, eq-eqb, ne_eqb, ap, sym, subst, ◌∙◌}
use Rattle.std.specs.Prelude.{if◌then◌else◌, option_to_list, Contains}
use Rattle.xs_base.specs.Numbers.{Position, ThreadNumber}
use Rattle.xs_model.specs.declared.thread.Run.{Run}
use Rattle.xs_model.specs.declared.thread.Run.TheVariants.{Free, Unstarted, AtSync, Going, Paused, Halted}
use Rattle.xs_model.specs.declared.thread.Wait.TheVariants.{Room, Tokens, PortFull, PortEmpty, PortIdle, Timer, Lock, Slaves, Choice, Divider}
use Rattle.switch_routes.specs.declared.state.InputState.TheVariants as input
use Rattle.snap_parts.specs.declared.node.SnapNode.{SnapNode}
use Rattle.sys_plan.specs.Plan.{PlanRec}
use Rattle.look_model.specs.WaitGraph.{thread_at, input_at, master_of, waits_of_thread, is_full, next_input}
use Rattle.look_laws.specs.Kept.{ThreadsStandInTheGraph}
use Rattle.look_laws.specs.Rules.{ThreadWaitsFor}
use Rattle.look_laws.proofs.Members.{missing_slave, slave_missing, holder, held}
use Rattle.look_laws.proofs.who_waits_for_whom.Goals as goal

-- a thread waits for those for whom one waits that does the same
by_run : ThreadsStandInTheGraph → (plan : PlanRec) (snaps : List SnapNode) (n : Position) (snap : SnapNode) (k : ThreadNumber) (run : Run)
    → ThreadWaitsFor plan snaps n snap k run (waits_of_thread n snap.state k run)
by_run stands plan snaps n snap k run th kept is runs = stands plan snaps n snap k th kept is ∙ ap (waits_of_thread n snap.state k) runs

pub returns-clause-threads : goal.returns-clause-threads
returns-clause-threads c = let waits = by_run c.who_waits_stands_in_the_graph.ensures.threads in record {
  locks = λ plan snaps n snap k lock other owns th kept is runs.
      waits plan snaps n snap k (Paused (Lock lock)) th kept is runs ∙ ap (λ (o : Option ℕ). map (thread_at n) (option_to_list o)) owns;
  free_locks = λ plan snaps n snap k lock owns th kept is runs.
      waits plan snaps n snap k (Paused (Lock lock)) th kept is runs ∙ ap (λ (o : Option ℕ). map (thread_at n) (option_to_list o)) owns;
  unstarted = λ plan snaps n snap k number sync slave th kept is runs. waits plan snaps n snap k Unstarted th kept is runs ∙ ap (master_of n) slave;
  unstarted_others = λ plan snaps n snap k alone th kept is runs. waits plan snaps n snap k Unstarted th kept is runs ∙ ap (master_of n) alone;
  at_sync = λ plan snaps n snap k number sync slave th kept is runs. waits plan snaps n snap k AtSync th kept is runs ∙ ap (master_of n) slave;
  at_sync_others = λ plan snaps n snap k alone th kept is runs. waits plan snaps n snap k AtSync th kept is runs ∙ ap (master_of n) alone;
  slaves = λ plan snaps n snap k th sync v kept is runs.
      let same = waits plan snaps n snap k (Paused (Slaves sync)) th kept is runs in (
        λ edge. missing_slave n snap.state sync v (subst (λ (row : List ℕ). Contains row v) same edge),
        λ slave. subst (λ (row : List ℕ). Contains row v) (sym same) (slave_missing n snap.state sync v slave),
      );
  room = λ plan snaps n snap k chan count. waits plan snaps n snap k (Paused (Room chan count));
  free = λ plan snaps n snap k. waits plan snaps n snap k Free;
  going = λ plan snaps n snap k. waits plan snaps n snap k Going;
  halted = λ plan snaps n snap k. waits plan snaps n snap k Halted;
  tokens = λ chan count plan snaps n snap k. waits plan snaps n snap k (Paused (Tokens chan count));
  port_full = λ port plan snaps n snap k. waits plan snaps n snap k (Paused (PortFull port));
  port_empty = λ port plan snaps n snap k. waits plan snaps n snap k (Paused (PortEmpty port));
  port_idle = λ port plan snaps n snap k. waits plan snaps n snap k (Paused (PortIdle port));
  timer = λ number plan snaps n snap k. waits plan snaps n snap k (Paused (Timer number));
  choice = λ plan snaps n snap k. waits plan snaps n snap k (Paused Choice);
  divider = λ plan snaps n snap k. waits plan snaps n snap k (Paused Divider);
}

pub returns-clause-inputs : goal.returns-clause-inputs
returns-clause-inputs c = let waits = c.who_waits_stands_in_the_graph.ensures.inputs in record {
  ways = λ plan snaps n node snap i dest net v kept is.
      let same = waits plan snaps n node snap i (input.Want dest net) kept is in (
        λ edge. holder n node snap.state dest net v (subst (λ (row : List ℕ). Contains row v) same edge),
        λ holds. subst (λ (row : List ℕ). Contains row v) (sym same) (held n node snap.state dest net v holds),
      );
  full = λ plan snaps n node snap i end count dest other far far_end leads there full kept is.
      waits plan snaps n node snap i (input.Out end count dest) kept is ∙ ap (next_input snaps) leads
      ∙ ap (λ (o : Option SnapNode). if is_full o far_end then input_at other far_end ∷ [] else []) there
      ∙ ap (λ (b : Bool). if b then input_at other far_end ∷ [] else []) (eq-eqb _ _ full);
  not_full = λ plan snaps n node snap i end count dest other far far_end leads there less kept is.
      waits plan snaps n node snap i (input.Out end count dest) kept is ∙ ap (next_input snaps) leads
      ∙ ap (λ (o : Option SnapNode). if is_full o far_end then input_at other far_end ∷ [] else []) there
      ∙ ap (λ (b : Bool). if b then input_at other far_end ∷ [] else []) (ne_eqb _ _ less);
  no_link = λ plan snaps n node snap i end count dest alone kept is.
      waits plan snaps n node snap i (input.Out end count dest) kept is ∙ ap (next_input snaps) alone;
  idle = λ plan snaps n node snap i. waits plan snaps n node snap i input.Idle;
  head1 = λ first plan snaps n node snap i. waits plan snaps n node snap i (input.Head1 first);
  head2 = λ first second plan snaps n node snap i. waits plan snaps n node snap i (input.Head2 first second);
  into_channel_end = λ chan plan snaps n node snap i. waits plan snaps n node snap i (input.Local chan);
  lost = λ plan snaps n node snap i. waits plan snaps n node snap i input.Lost;
}
