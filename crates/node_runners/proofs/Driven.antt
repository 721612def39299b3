-- What a wire was told last is what its first port drives.
use Rattle.std.proofs.Common.{◌≡◌, ℕ, zero, suc, true, false, eqb, Some, [], filter, replicate, get_or, slice_get, refl, sym, ap, ◌∙◌, arith, inl, inr}
use mathlib.Core.Logic.{◌⊎◌}
use Rattle.std.proofs.lemmas.Bool.{cases_Bool, eqb-true}
use Rattle.std.proofs.lemmas.Option.{get_or_from_slice_get}
use Rattle.xs_base.specs.Numbers.{Slot, Word, Position, LinkNumber, EndNumber, PortNumber}
use Rattle.xs_model.specs.Ports.{level_of}
use Rattle.xs_model.specs.Record.{NodeRec, PortRec, first_node, off_port}
use Rattle.sys_plan.specs.declared.NodePlan.{NodePlan}
use Rattle.sys_plan.specs.Plan.{PlanRec, Joined, gaps_of}
use Rattle.step_model.specs.Start.{node_of}
use Rattle.step_model.specs.Step.{Stepped}
use Rattle.serial_model.specs.Serial.{serial, history, is_sent_within, nodes_at_start, step_by, driven_level, level_after, level_entries, carried_by}
use Rattle.locality_laws.specs.Locality.{node_in, Leaves, comes_in_serial, IsStep}
use Rattle.locality_laws.specs.Horizon.{level_before}
use Rattle.locality_laws.proofs.Serial.{upto_none, start_at}
use Rattle.locality_laws.proofs.Links.{levels_go_on}
use Rattle.locality_laws.proofs.Nodes.{step_needs_coming}

-- ---- Before the first slot

pub history-none : (plan : PlanRec) (link : LinkNumber) (from : Slot) → history plan link from 0 ≡ []
history-none plan link from = ap (filter (is_sent_within from 0)) (upto_none plan link)

pub node-start : (plan : PlanRec) (n : Position) (node : NodePlan) → slice_get plan.nodes n ≡ Some node → node_in (serial plan 0) n ≡ node_of node (gaps_of plan n)
unfolding serial
node-start plan n node here =
    get_or_from_slice_get (nodes_at_start plan 0 plan.nodes) n (node_of node (gaps_of plan n)) (first_node 0 0 []) (start_at plan 0 plan.nodes n n node (omega arith) here)

all-off : (count : ℕ) (port : PortNumber) → get_or (replicate count off_port) port off_port ≡ off_port
all-off zero port = refl
all-off (suc count) zero = refl
all-off (suc count) (suc port) = all-off count port

pub none-driven : (plan : PlanRec) (n : Position) (node : NodePlan) → slice_get plan.nodes n ≡ Some node → (port : PortNumber) → driven_level (node_in (serial plan 0) n) port ≡ 0
none-driven plan n node here port =
    ap (λ (r : NodeRec). driven_level r port) (node-start plan n node here) ∙ ap (λ (p : PortRec). level_of p.driven 0) (all-off 29 port)

-- ---- Slot by slot

told-last : (slot : Slot) (before after : Word) → level_after before (level_entries slot before after) ≡ after
told-last slot before after = by_test (cases_Bool (eqb after before))
  where
    by_test : (eqb after before ≡ true) ⊎ (eqb after before ≡ false) → level_after before (level_entries slot before after) ≡ after
    by_test (inl same) = rw same (sym (eqb-true after before same))
    by_test (inr other) = rw other refl

module _ (plan : PlanRec) (n : Position) (node : NodePlan) (here : slice_get plan.nodes n ≡ Some node) (end : EndNumber) (wire : LinkNumber) (l : Leaves plan n end wire) (joined : Joined) (joins : l.arc.joins ≡ Some joined) where
  abbrev drives : Slot → Word
  drives slot = driven_level (node_in (serial plan slot) n) joined.from_port

  abbrev step : Slot → Stepped
  step slot = step_by plan n node slot (comes_in_serial plan n slot) (node_in (serial plan slot) n)

  is-step : (slot : Slot) → IsStep plan n slot (step slot)
  is-step slot = step_needs_coming plan n node slot (comes_in_serial plan n slot) here refl

  -- what it carries of a slot
  pub wire-carries : (slot : Slot) → history plan wire slot (suc slot) ≡ level_entries slot (drives slot) (drives (suc slot))
  wire-carries slot =
      let s = is-step slot in
      s.carried end wire l
      ∙ (λ i. carried_by slot (node_in (serial plan slot) n) (step slot).rec (step slot).emitted end (joins i))
      ∙ ap (λ (r : NodeRec). level_entries slot (drives slot) (driven_level r joined.from_port)) (sym s.rec)

  pub told-is-driven : (slot : Slot) → level_before plan wire slot ≡ drives slot
  told-is-driven zero = ap (level_after 0) (history-none plan wire 0) ∙ sym (none-driven plan n node here joined.from_port)
  told-is-driven (suc slot) =
      sym (levels_go_on plan wire slot (suc slot) (omega arith))
      ∙ (λ i. level_after (told-is-driven slot i) (wire-carries slot i))
      ∙ told-last slot (drives slot) (drives (suc slot))
