-- The ends that a node holds are those of the arcs at its ends, one for each.
use Rattle.std.proofs.Common.{◌≡◌, ℕ, ◌<◌, Some, List, length, map, slice_get, sym, ap, ◌∙◌, subst, arith}
use Rattle.std.specs.List.{AllByRecursion}
use Rattle.std.proofs.lemmas.Option.{same_Some}
use Rattle.xs_base.specs.Numbers.{EndNumber, Position, LinkNumber}
use Rattle.sys_plan.specs.Plan.{PlanRec, IsPlan, arcs, arc_count, outgoing, incoming}
use Rattle.sys_plan.proofs.Routes.{outgoing-is, within}
use Rattle.link_logs.specs.Logs.{LogRec}
use Rattle.log_cells.specs.Ends.{CellRec, WritesTo, ReadsOf}
use Rattle.plan_cells.specs.declared.ends.Outgoing.{Outgoing}
use Rattle.plan_cells.specs.declared.ends.Incoming.{Incoming}
use Rattle.plan_cells.specs.declared.ends.Ends.{Ends}
use Rattle.plan_cells.specs.Ends.{CellsRec, LinkAt, leaving, coming, leaves_at, comes_at, IsOutgoing, IsIncoming, AreEnds, HasLeft}
use Rattle.plan_cells.proofs.Lists.{some_at, all_at, map_at, from_map}
use Rattle.plan_cells.proofs.Places.{leaving_has, leaving_is, leaving_once, coming_has, coming_is, coming_once}

-- an end is one of the cell of its arc
module _ (cells : CellsRec) (cell : CellRec PlanRec) (link : LinkNumber) (table : slice_get cells.tables link ≡ Some cell.table) (run : cell.run ≡ cells.plan) (number : cell.number ≡ link) where
  pub writes_to : (o : Outgoing) → IsOutgoing cells o → o.link ≡ link → WritesTo o.w cell
  writes_to o is at = record {
    table = same_Some o.w.table cell.table (sym is.table ∙ ap (slice_get cells.tables) at ∙ table);
    run = is.run ∙ sym run;
    number = is.number ∙ at ∙ sym number;
  }

  pub reads_of : (i : Incoming) → IsIncoming cells i → i.link ≡ link → ReadsOf i.r cell
  reads_of i is at = record {
    table = same_Some i.r.table cell.table (sym is.table ∙ ap (slice_get cells.tables) at ∙ table);
    run = is.run ∙ sym run;
    number = is.number ∙ at ∙ sym number;
  }

-- an end among these is at an end of the node, and of an arc
pub record Holds {X : Type 0} (at : X → LinkAt) (xs : List X) (end : EndNumber) (link : LinkNumber) : Type 0 where
  pub place : ℕ
  pub held : X
  pub here : slice_get xs place ≡ Some held
  pub end_is : (at held).0 ≡ end
  pub link_is : (at held).1 ≡ link

held_at : {X : Type 0} (at : X → LinkAt) (xs : List X) (j : ℕ) (end : EndNumber) (link : LinkNumber) → slice_get (map at xs) j ≡ Some (end, link) → Holds at xs end link
held_at at xs j end link h =
    let f = from_map at xs j (end, link) h in
    record { place = j; held = f.0; here = f.1; end_is = ap (λ (p : LinkAt). p.0) f.2; link_is = ap (λ (p : LinkAt). p.1) f.2 }

module _ (cells : CellsRec) (n : Position) (ends : Ends) (are : AreEnds cells n ends) where
  pub outgoing_held : (end : EndNumber) (link : LinkNumber) → outgoing cells.plan n end ≡ Some link → Holds leaves_at ends.outgoing.items end link
  outgoing_held end link out =
      let p = leaving_has cells.plan n end link out in
      held_at leaves_at ends.outgoing.items p.0 end link (ap (λ (l : List LinkAt). slice_get l p.0) are.outgoing_at ∙ p.1)

  pub incoming_held : (end : EndNumber) (link : LinkNumber) → incoming cells.plan n end ≡ Some link → Holds comes_at ends.incoming.items end link
  incoming_held end link come =
      let p = coming_has cells.plan n end link come in
      held_at comes_at ends.incoming.items p.0 end link (ap (λ (l : List LinkAt). slice_get l p.0) are.incoming_at ∙ p.1)

  outgoing_at : (j : ℕ) (o : Outgoing) → slice_get ends.outgoing.items j ≡ Some o → slice_get (leaving cells.plan n) j ≡ Some (o.end, o.link)
  outgoing_at j o here = ap (λ (l : List LinkAt). slice_get l j) (sym are.outgoing_at) ∙ map_at leaves_at ends.outgoing.items j o here

  incoming_at : (j : ℕ) (i : Incoming) → slice_get ends.incoming.items j ≡ Some i → slice_get (coming cells.plan n) j ≡ Some (i.end, i.link)
  incoming_at j i here = ap (λ (l : List LinkAt). slice_get l j) (sym are.incoming_at) ∙ map_at comes_at ends.incoming.items j i here

  module _ (is : IsPlan cells.plan) where
    pub outgoing_leads : (j : ℕ) (o : Outgoing) → slice_get ends.outgoing.items j ≡ Some o → outgoing cells.plan n o.end ≡ Some o.link
    outgoing_leads j o here = leaving_is cells.plan n is j o.end o.link (outgoing_at j o here)

    pub incoming_leads : (j : ℕ) (i : Incoming) → slice_get ends.incoming.items j ≡ Some i → incoming cells.plan n i.end ≡ Some i.link
    incoming_leads j i here = coming_is cells.plan n is j i.end i.link (incoming_at j i here)

    -- no two of them are at one end
    pub outgoing_once : (j k : ℕ) (o p : Outgoing) → slice_get ends.outgoing.items j ≡ Some o → slice_get ends.outgoing.items k ≡ Some p → o.end ≡ p.end → j ≡ k
    outgoing_once j k o p at_j at_k same =
        leaving_once cells.plan n is j k p.end o.link p.link (subst (λ (e : EndNumber). slice_get (leaving cells.plan n) j ≡ Some (e, o.link)) same (outgoing_at j o at_j)) (outgoing_at k p at_k)

    pub incoming_once : (j k : ℕ) (i p : Incoming) → slice_get ends.incoming.items j ≡ Some i → slice_get ends.incoming.items k ≡ Some p → i.end ≡ p.end → j ≡ k
    incoming_once j k i p at_j at_k same =
        coming_once cells.plan n is j k p.end i.link p.link (subst (λ (e : EndNumber). slice_get (coming cells.plan n) j ≡ Some (e, i.link)) same (incoming_at j i at_j)) (incoming_at k p at_k)

-- the ends of all nodes
module _ (cells : CellsRec) (is : IsPlan cells.plan) (all : List Ends) (nodes : length all ≡ length cells.plan.nodes) (are : (n : Position) (e : Ends) → slice_get all n ≡ Some e → AreEnds cells n e) where
  -- the end that writes to the cell of an arc is among them
  pub record Writer (link : LinkNumber) : Type 0 where
    pub node : Position
    pub ends : Ends
    pub ends_at : slice_get all node ≡ Some ends
    pub place : ℕ
    pub end : Outgoing
    pub end_at : slice_get ends.outgoing.items place ≡ Some end
    pub link_is : end.link ≡ link

  pub writer_of : (link : LinkNumber) → link < arc_count cells.plan → Writer link
  writer_of link below =
      let d = some_at (arcs cells.plan) link below in
      let there = within cells.plan is link d.0 d.1 in
      let e = some_at all d.0.from (omega (arith, nodes, there.from)) in
      let h = outgoing_held cells d.0.from e.0 (are d.0.from e.0 e.1) d.0.from_end link (outgoing-is cells.plan is link d.0 d.1) in
      record { node = d.0.from; ends = e.0; ends_at = e.1; place = h.place; end = h.held; end_at = h.here; link_is = h.link_is }

  -- and the log of that arc is as that end has left it
  module _ (logs : List (LogRec PlanRec)) (left : (n : Position) (e : Ends) → slice_get all n ≡ Some e → AllByRecursion (HasLeft logs) e.outgoing.items) where
    pub record LeftBy (log : LogRec PlanRec) (link : LinkNumber) : Type 0 where
      pub writer : Writer link
      pub published : log.published ≡ writer.end.w.end.published
      pub cause : log.cause ≡ writer.end.w.end.cause

    pub left_by : (link : LinkNumber) → link < arc_count cells.plan → (log : LogRec PlanRec) → slice_get logs link ≡ Some log → LeftBy log link
    left_by link below log here =
        let w = writer_of link below in
        let l = all_at (HasLeft logs) w.ends.outgoing.items w.place w.end (left w.node w.ends w.ends_at) w.end_at in
        let same : log ≡ l.log = same_Some log l.log (sym here ∙ ap (slice_get logs) (sym w.link_is) ∙ l.log_at) in
        record { writer = w; published = ap (λ (x : LogRec PlanRec). x.published) same ∙ l.published; cause = ap (λ (x : LogRec PlanRec). x.cause) same ∙ l.cause }
