-- For whom a master waits, and an input whose packet waits for a way.
use Rattle.std.proofs.Common.{ℕ, ◌≡◌, ◌+◌, Bool, true, false, List, map, inl, inr, ◌⊎◌, refl, sym, ap, subst, ◌∙◌, arith}
use Rattle.std.specs.Prelude.{slice_get, ◌&&◌, not, ◌==◌, nat_lt, ◌/◌, ◌%◌, Contains}
use Rattle.std.proofs.lemmas.Bool.{false≢true, eqb-true, eq-eqb, ltb-true, lt-ltb}
use Rattle.xs_base.specs.Numbers.{Position}
use Rattle.xs_base.specs.declared.numbers.TheConstants.{LINK_ENDS}
use Rattle.xs_model.specs.Masks.{in_mask}
use Rattle.xs_model.specs.Waits.{is_in}
use Rattle.net_model.specs.Ways.{Way, Here, Behind}
use Rattle.rank_model.specs.Next.{is_behind}
use Rattle.switch_routes.specs.declared.state.InputState.{InputState}
use Rattle.switch_routes.specs.declared.state.InputState.TheVariants as input
use Rattle.core_step.specs.declared.node_state.NodeState.{NodeState}
use Rattle.sys_plan.specs.declared.NodePlan.{NodePlan}
use Rattle.look_model.specs.Waits.{slaves_of, is_missing, missing}
use Rattle.look_model.specs.WaitGraph.{thread_at, input_at, is_here, holds_wanted, inputs_where}
use Rattle.look_laws.specs.Rules.{IsMissingSlave, IsHolder, HoldsItsChannelEnd, HoldsItsLinkEnd, way_of}
use Rattle.look_laws.proofs.Places.{places, comes, stands, of_inputs, of_missing}

both : (a b : Bool) → a && b ≡ true → (a ≡ true) × (b ≡ true)
both true b are = (refl, are)
both false b are = absurd (false≢true are)

not_true : (b : Bool) → not b ≡ true → b ≡ false
not_true true is = absurd (false≢true is)
not_true false is = refl

also : (a b : Bool) → a ≡ true → b ≡ true → a && b ≡ true
also a b e f = ap (λ (x : Bool). x && b) e ∙ f

module _ (n : Position) (state : NodeState) (sync v : ℕ) where
  abbrev slaves : ℕ
  slaves = slaves_of (slice_get state.syncs sync)

  pub missing_slave : Contains (map (thread_at n) (missing state sync)) v → IsMissingSlave n state sync v
  missing_slave has =
      let it = comes (is_missing slaves) (thread_at n) 0 state.threads v (subst (λ (row : List ℕ). Contains row v) (of_missing slaves n 0 state.threads) has) in
      let e : 0 + it.at ≡ it.at = omega arith in
      let are = both (in_mask slaves (0 + it.at)) (not (is_in it.item.run)) it.passes in
      record { number = it.at; th = it.item; there = it.there; is = it.is ∙ ap (thread_at n) e; slave = ap (in_mask slaves) (sym e) ∙ are.0; out = not_true (is_in it.item.run) are.1 }

  pub slave_missing : IsMissingSlave n state sync v → Contains (map (thread_at n) (missing state sync)) v
  slave_missing it =
      let e : 0 + it.number ≡ it.number = omega arith in
      subst (λ (row : List ℕ). Contains row v) (sym (of_missing slaves n 0 state.threads))
      (subst (λ (w : ℕ). Contains (places (is_missing slaves) (thread_at n) 0 state.threads) w) (ap (thread_at n) e ∙ sym it.is)
      (stands (is_missing slaves) (thread_at n) 0 state.threads it.number it.th it.there
      (also (in_mask slaves (0 + it.number)) (not (is_in it.th.run)) (ap (in_mask slaves) e ∙ it.slave) (ap not it.out))))

is_way : (way : Way) → is_here way ≡ true → way ≡ Here
is_way Here here = refl
is_way (Behind ends) here = absurd (false≢true here)

-- what an input holds that a packet needs
holding : (node : NodePlan) (dest net : ℕ) (now : InputState) → holds_wanted dest (way_of node dest net) now ≡ true
    → HoldsItsChannelEnd node dest net now ⊎ HoldsItsLinkEnd node dest net now
holding node dest net input.Idle holds = absurd (false≢true holds)
holding node dest net (input.Head1 first) holds = absurd (false≢true holds)
holding node dest net (input.Head2 first second) holds = absurd (false≢true holds)
holding node dest net (input.Want other by) holds = absurd (false≢true holds)
holding node dest net (input.Local chan) holds =
    let are = both (is_here (way_of node dest net)) (chan == dest / 256 % 256) holds in
    inl (record { chan = chan; holds = refl; here = is_way (way_of node dest net) are.0; wanted = eqb-true chan (dest / 256 % 256) are.1 })
holding node dest net (input.Out end count other) holds =
    let are = both (nat_lt end LINK_ENDS) (is_behind end (way_of node dest net)) holds in
    inr (record { end = end; count = count; other_dest = other; holds = refl; low = ltb-true end LINK_ENDS are.0; leads = are.1 })
holding node dest net input.Lost holds = absurd (false≢true holds)

wanted : (node : NodePlan) (dest net : ℕ) (now : InputState) → HoldsItsChannelEnd node dest net now ⊎ HoldsItsLinkEnd node dest net now
    → holds_wanted dest (way_of node dest net) now ≡ true
wanted node dest net now (inl it) =
    ap (holds_wanted dest (way_of node dest net)) it.holds
    ∙ also (is_here (way_of node dest net)) (it.chan == dest / 256 % 256) (ap is_here it.here) (eq-eqb it.chan (dest / 256 % 256) it.wanted)
wanted node dest net now (inr it) =
    ap (holds_wanted dest (way_of node dest net)) it.holds
    ∙ also (nat_lt it.end LINK_ENDS) (is_behind it.end (way_of node dest net)) (lt-ltb it.end LINK_ENDS it.low) it.leads

module _ (n : Position) (node : NodePlan) (state : NodeState) (dest net v : ℕ) where
  abbrev test : InputState → Bool
  test = holds_wanted dest (way_of node dest net)

  pub holder : Contains (inputs_where test n 0 state.inputs) v → IsHolder n node state dest net v
  holder has =
      let it = comes (λ i now. test now) (input_at n) 0 state.inputs v (subst (λ (row : List ℕ). Contains row v) (of_inputs test n 0 state.inputs) has) in
      let e : 0 + it.at ≡ it.at = omega arith in
      record { number = it.at; now = it.item; there = it.there; is = it.is ∙ ap (input_at n) e; holds = holding node dest net it.item it.passes }

  pub held : IsHolder n node state dest net v → Contains (inputs_where test n 0 state.inputs) v
  held it =
      let e : 0 + it.number ≡ it.number = omega arith in
      subst (λ (row : List ℕ). Contains row v) (sym (of_inputs test n 0 state.inputs))
      (subst (λ (w : ℕ). Contains (places (λ i now. test now) (input_at n) 0 state.inputs) w) (ap (input_at n) e ∙ sym it.is)
      (stands (λ i now. test now) (input_at n) 0 state.inputs it.number it.now it.there (wanted node dest net it.now it.holds)))
