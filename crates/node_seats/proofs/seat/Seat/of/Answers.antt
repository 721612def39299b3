use Rattle.std.proofs.Common.{◌≡◌, ◌∙◌, Ok, Err, [], List, get_or, sym, ap, subst, arith}
use Rattle.std.specs.Prelude.{Result, IfOk}
use Rattle.std.proofs.lemmas.Option.{get_or_from_slice_get}
use Rattle.sys_plan.specs.declared.NodePlan.{NodePlan}
use Rattle.sys_plan.specs.Plan.{WaysLead, gaps_of}
use Rattle.step_model.specs.Start.{node_of}
use Rattle.node_seats.specs.declared.seat.Seat.{Seat}
use Rattle.node_seats.specs.Seats.{Plays}
use Rattle.node_seats.proofs.Seats.{ways-at}
use Rattle.node_seats.proofs.seat.Seat.of.Goals as goal

pub seat_of-requires : goal.seat_of-requires
seat_of-requires c =
    let plan = c.args.plan.now in
    let n = c.args.n in
    let node = c.index-nodes-n.result in
    let item : node ≡ get_or plan.nodes n node = c.index-nodes-n.is ∙ ap (λ (xs : List NodePlan). get_or xs n node) c.nodes-nodes.ensures.value in
    record {
      node = subst (λ (x : NodePlan). WaysLead plan n x.ways) (sym item) (ways-at plan 0 plan.nodes n n node c.nodes-nodes.ensures.plan.ways (omega (arith, c.requires.node)) (omega arith));
    }

if_ok : {T E : Type 0} (P Q : T → Type 0) (r : Result T E) → ((x : T) → P x → Q x) → IfOk r P → IfOk r Q
if_ok P Q (Ok x) f p = f x p
if_ok P Q (Err e) f p = tt

pub returns-clause-plays : goal.returns-clause-plays
returns-clause-plays c =
    let plan = c.args.plan.now in
    let n = c.args.n in
    let found = c.index-nodes-n.result in
    if_ok (λ (seat : Seat). Plays plan 0 n found seat (node_of found (gaps_of plan n)) []) _ c.seat_of.result
    (λ seat plays node here.
    let same : found ≡ node = c.index-nodes-n.is ∙ ap (λ (xs : List NodePlan). get_or xs n found) c.nodes-nodes.ensures.value ∙ get_or_from_slice_get plan.nodes n node found here in
    subst (λ (x : NodePlan). Plays plan 0 n x seat (node_of x (gaps_of plan n)) []) same plays)
    c.seat_of.ensures.plays
