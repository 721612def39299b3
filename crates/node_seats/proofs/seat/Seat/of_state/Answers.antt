use Rattle.std.proofs.Common.{◌≡◌, ◌∙◌, Ok, Err, [], List, get_or, sym, ap, subst, arith}
use Rattle.std.specs.Prelude.{Result, IfOk}
use Rattle.std.proofs.lemmas.Option.{get_or_from_slice_get}
use Rattle.xs_base.specs.Numbers.{Slot}
use Rattle.sys_plan.specs.declared.NodePlan.{NodePlan}
use Rattle.sys_plan.specs.Plan.{WaysLead}
use Rattle.core_step.specs.States.{node_rec, IsStateBefore}
use Rattle.node_seats.specs.declared.seat.Seat.{Seat}
use Rattle.node_seats.specs.Seats.{Plays}
use Rattle.node_seats.proofs.Seats.{ways-at}
use Rattle.node_seats.proofs.seat.Seat.of_state.Goals as goal

pub seat_of_state-requires-clause-node : goal.seat_of_state-requires-clause-node
seat_of_state-requires-clause-node c =
    let plan = c.args.plan.now in
    let n = c.args.n in
    let node = c.index-nodes-n.result in
    let item : node ≡ get_or plan.nodes n node = c.index-nodes-n.is ∙ ap (λ (xs : List NodePlan). get_or xs n node) c.nodes-nodes.ensures.value in
    subst (λ (x : NodePlan). WaysLead plan n x.ways) (sym item) (ways-at plan 0 plan.nodes n n node c.nodes-nodes.ensures.plan.ways (omega (arith, c.requires.node)) (omega arith))

if_ok : {T E : Type 0} (P Q : T → Type 0) (r : Result T E) → ((x : T) → P x → Q x) → IfOk r P → IfOk r Q
if_ok P Q (Ok x) f p = f x p
if_ok P Q (Err e) f p = tt

pub returns-clause-plays : goal.returns-clause-plays
returns-clause-plays c =
    let plan = c.args.plan.now in
    let n = c.args.n in
    let state = c.args.state.now in
    let found = c.index-nodes-n.result in
    if_ok (λ (seat : Seat). (slot : Slot) → IsStateBefore slot state → Plays plan slot n found seat (node_rec state) []) _ c.seat_of_state.result
    (λ seat plays node slot here before.
    let same : found ≡ node = c.index-nodes-n.is ∙ ap (λ (xs : List NodePlan). get_or xs n found) c.nodes-nodes.ensures.value ∙ get_or_from_slice_get plan.nodes n node found here in
    subst (λ (x : NodePlan). Plays plan slot n x seat (node_rec state) []) same (plays slot before))
    c.seat_of_state.ensures.plays
