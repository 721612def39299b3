use Rattle.std.proofs.Common.{◌≡◌, ◌<◌, ◌∙◌, None, length, drop, subst, ap, arith}
use Rattle.std.specs.List.{AllByRecursion}
use Rattle.run_plan.specs.Inbound.{InboundRec, IsNowhere, arrivals_by}
use Rattle.run_plan.proofs.Arrivals.{gathers-none, gathers-next, gathers-all}
use Rattle.run_plan.proofs.inbound.Inbound.arrivals.Goals as goal

pub loop-end-init : goal.loop-end-init
loop-end-init c = record { gathers = gathers-none c.args.tracks.now 8 c.self.inside.links c.self.invariant.all_ends }

pub loop-end-preserved : goal.loop-end-preserved
loop-end-preserved c =
    let links = c.self.inside.links in
    let within : c.loop-end.end < length links = omega (arith, c.self.invariant.all_ends, c.self.invariant.within) in
    record { gathers = gathers-next c.args.tracks.now c.loop-end.end links _ _ None c.arrived-arrived.result c.loop-end.invariant.gathers within c.arrived-arrived.ensures }

pub returns : goal.returns
returns c =
    let links = c.self.inside.links in
    let end : c.self.inside.reached ≡ c.loop-end.end = omega arith in
    let none = subst (λ n. AllByRecursion IsNowhere (drop n links)) end c.self.invariant.rest in
    gathers-all c.args.tracks.now c.loop-end.end links _ _ c.loop-end.invariant.gathers none ∙ ap (λ (i : InboundRec). arrivals_by c.args.tracks.now i.links) c.self.view_is
