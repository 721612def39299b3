use Rattle.std.proofs.Common.{◌≡◌, Some, List, length, slice_get, sym, ap, ◌∙◌, subst, arith}
use Rattle.std.specs.List.{AllByRecursion}
use Rattle.std.proofs.lemmas.List.{length_push}
use Rattle.xs_base.specs.Numbers.{Position, LinkNumber}
use Rattle.sys_plan.specs.Plan.{PlanRec}
use Rattle.sys_plan.proofs.Arcs.{arcs_length}
use Rattle.sys_plan.proofs.Told.{arcs-count}
use Rattle.link_logs.specs.Logs.{LogRec}
use Rattle.log_cells.specs.Ends.{CellRec}
use Rattle.plan_cells.specs.declared.ends.Ends.{Ends}
use Rattle.plan_cells.specs.Ends.{IsLogOf, HasLeft, HasRead}
use Rattle.plan_cells.proofs.Lists.{no_items}
use Rattle.plan_cells.proofs.Gathering.{Gathers, gathers_none, gathers_more, all_left, all_read, all_own, some_outgoing, some_incoming, o_writes, i_reads}
use Rattle.plan_cells.proofs.gather.logs_of.Goals as goal

pub loop-cell-init : goal.loop-cell-init
loop-cell-init c =
    let plan = c.args.plan.now in
    let cells = c.args.cells.items in
    let all = c.args.all.items in
    subst (Gathers plan cells all cells all) (sym c.new-logs.ensures.items) (gathers_none plan cells all c.requires.cells c.requires.nodes c.requires.ends)

pub overflow_cast-len : goal.overflow_cast-len
overflow_cast-len c =
    let plan = c.args.plan.now in
    let own = c.keeps.ensures.plan in
    let left = ap (length {A = CellRec PlanRec}) c.in-Some.ensures.items ∙ length_push c.pop.new.self.items c.in-Some.cell in
    omega (arith, left, c.len.ensures, c.loop-cell.invariant.count, arcs-count plan, arcs_length plan.links, own.few_links, own.few_wires)

pub last_outgoing-outgoing-requires-clause-some : goal.last_outgoing-outgoing-requires-clause-some
last_outgoing-outgoing-requires-clause-some c =
    some_outgoing c.requires.cells c.pop.new.self.items c.in-Some.cell c.in-Some.ensures.items c.loop-cell.invariant (sym c.pop.new.self.ok.0 ∙ sym c.len.ensures)
    c.route_of-route.ensures.route

pub last_incoming-incoming-requires-clause-some : goal.last_incoming-incoming-requires-clause-some
last_incoming-incoming-requires-clause-some c =
    some_incoming c.requires.cells c.pop.new.self.items c.in-Some.cell c.in-Some.ensures.items c.loop-cell.invariant (sym c.pop.new.self.ok.0 ∙ sym c.len.ensures)
    c.route_of-route.ensures.route
    c.last_outgoing-outgoing.result c.last_outgoing-outgoing.new.all.items c.last_outgoing-outgoing.ensures.outgoing c.last_outgoing-outgoing.ensures.incoming

pub done-requires-clause-writer : goal.done-requires-clause-writer
done-requires-clause-writer c =
    o_writes c.requires.cells c.pop.new.self.items c.in-Some.cell c.in-Some.ensures.items c.loop-cell.invariant (sym c.pop.new.self.ok.0 ∙ sym c.len.ensures)
    c.route_of-route.ensures.route
    c.last_outgoing-outgoing.result c.last_outgoing-outgoing.new.all.items c.last_outgoing-outgoing.ensures.outgoing c.last_outgoing-outgoing.ensures.incoming

pub done-requires-clause-reader : goal.done-requires-clause-reader
done-requires-clause-reader c =
    i_reads c.requires.cells c.pop.new.self.items c.in-Some.cell c.in-Some.ensures.items c.loop-cell.invariant (sym c.pop.new.self.ok.0 ∙ sym c.len.ensures)
    c.route_of-route.ensures.route
    c.last_outgoing-outgoing.result c.last_outgoing-outgoing.new.all.items c.last_outgoing-outgoing.ensures.outgoing c.last_outgoing-outgoing.ensures.incoming
    c.last_incoming-incoming.result c.last_incoming-incoming.new.all.items c.last_incoming-incoming.ensures.incoming c.last_incoming-incoming.ensures.outgoing

pub loop-cell-preserved-in_ok-push : goal.loop-cell-preserved-in_ok-push
loop-cell-preserved-in_ok-push c =
    let d = c.done.ensures in
    gathers_more c.requires.cells c.pop.new.self.items c.in-Some.cell c.in-Some.ensures.items c.loop-cell.invariant (sym c.pop.new.self.ok.0 ∙ sym c.len.ensures)
    c.route_of-route.ensures.route
    c.last_outgoing-outgoing.result c.last_outgoing-outgoing.new.all.items c.last_outgoing-outgoing.ensures.outgoing c.last_outgoing-outgoing.ensures.incoming
    c.last_incoming-incoming.result c.last_incoming-incoming.new.all.items c.last_incoming-incoming.ensures.incoming c.last_incoming-incoming.ensures.outgoing c.done.result
    (record { run = d.run; number = d.number; base = omega (arith, d.base, d.got); begun = d.base; published = d.published; cause = d.cause; own = d.own }) c.in_ok-push.ensures.items

pub loop-cell-preserved : goal.loop-cell-preserved
loop-cell-preserved c =
    let d = c.done.ensures in
    gathers_more c.requires.cells c.pop.new.self.items c.in-Some.cell c.in-Some.ensures.items c.loop-cell.invariant (sym c.pop.new.self.ok.0 ∙ sym c.len.ensures)
    c.route_of-route.ensures.route
    c.last_outgoing-outgoing.result c.last_outgoing-outgoing.new.all.items c.last_outgoing-outgoing.ensures.outgoing c.last_outgoing-outgoing.ensures.incoming
    c.last_incoming-incoming.result c.last_incoming-incoming.new.all.items c.last_incoming-incoming.ensures.incoming c.last_incoming-incoming.ensures.outgoing c.done.result
    (record { run = d.run; number = d.number; base = omega (arith, d.base, d.got); begun = d.base; published = d.published; cause = d.cause; own = d.own }) c.in_ok-push.ensures.items

pub returns-clause-own : goal.returns-clause-own
returns-clause-own c =
    let none = no_items c.loop-cell.cells.items (sym c.loop-cell.cells.ok.0 ∙ c.in_default.ensures.cases.0) in
    subst (λ (ls : List (LogRec PlanRec)). (link : LinkNumber) (log : LogRec PlanRec) → slice_get ls link ≡ Some log → IsLogOf c.args.plan.now link log) (sym c.reverse.ensures.items)
    (all_own c.loop-cell.invariant none c.requires.nodes)

pub returns-clause-left : goal.returns-clause-left
returns-clause-left c =
    let none = no_items c.loop-cell.cells.items (sym c.loop-cell.cells.ok.0 ∙ c.in_default.ensures.cases.0) in
    subst (λ (ls : List (LogRec PlanRec)). (n : Position) (e : Ends) → slice_get c.args.all.items n ≡ Some e → AllByRecursion (HasLeft ls) e.outgoing.items) (sym c.reverse.ensures.items)
    (all_left c.loop-cell.invariant none c.requires.nodes)

pub returns-clause-read : goal.returns-clause-read
returns-clause-read c =
    let none = no_items c.loop-cell.cells.items (sym c.loop-cell.cells.ok.0 ∙ c.in_default.ensures.cases.0) in
    subst (λ (ls : List (LogRec PlanRec)). (n : Position) (e : Ends) → slice_get c.args.all.items n ≡ Some e → AllByRecursion (HasRead ls) e.incoming.items) (sym c.reverse.ensures.items)
    (all_read c.loop-cell.invariant none c.requires.nodes)
