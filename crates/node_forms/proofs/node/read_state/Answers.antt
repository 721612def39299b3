use Rattle.std.proofs.Common.{◌≡◌, List, ℕ, length, sym, ap, subst, ◌∙◌, Ok}
use Rattle.node_forms.specs.Nodes.{CoreFields, EnableFields, core_in, enables_in, net_in, net_fields, node_state, state_of_fields, used_of}
use Rattle.core_step.specs.declared.node_state.NodeState.{NodeState}
use Rattle.node_forms.proofs.Threads.{state_again}
use Rattle.node_forms.proofs.node.read_state.Goals as goal

pub returns : goal.returns
unfolding node_state
returns c =
    let s1 = c.read_core.new.state in
    let s2 = c.read_all_enables.new.state in
    let s3 = c.read_net.new.state in
    let core : core_in s2 ≡ core_in s1 = c.in_ok-read_all_enables.ensures.core in
    let net = subst (λ (k : CoreFields). (net_fields (used_of k.1.0) c.args.there.now c.args.slot).read c.read_all_enables.new.from ≡ Ok (net_in s3, c.read_net.new.from)) core c.in_ok-read_net.ensures.value in
    let long : length s3.threads ≡ length s3.last =
    ap length c.in_ok-read_net.ensures.threads ∙ ap length c.in_ok-read_all_enables.ensures.threads ∙ c.in_ok-read_core.ensures.long
    ∙ sym (ap length c.in_ok-read_net.ensures.last ∙ ap length c.in_ok-read_all_enables.ensures.last)
    in
    let whole : state_of_fields (core_in s1, (enables_in s2, net_in s3)) ≡ s3 =
    ap (λ (k : CoreFields). state_of_fields (k, (enables_in s2, net_in s3))) (sym (c.in_ok-read_net.ensures.core ∙ core))
    ∙ ap (λ (k : EnableFields). state_of_fields (core_in s3, (k, net_in s3))) (sym c.in_ok-read_net.ensures.enables)
    ∙ state_again s3 long
    in
    record { value = rw (c.in_ok-read_core.ensures.value, c.in_ok-read_all_enables.ensures.value, net) (ap (λ (s : NodeState). Ok (s, c.read_net.new.from)) whole) }
