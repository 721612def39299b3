use Rattle.std.proofs.Common.{◌≡◌, drop, sym, ap, ◌∙◌, arith}
use Rattle.crossings.specs.declared.crossing.Crossing.{Crossing}
use Rattle.crossings.specs.Crossings.{due_of, seen_of, entry_count}
use Rattle.crossings.proofs.Arriving.{arrives-of}
use Rattle.node_runners.specs.Queue.{InletRec, arriving_after}
use Rattle.node_runners.proofs.inlet.Inlet.arrive.Goals as goal

pub returns-clause-arrives : goal.returns-clause-arrives
returns-clause-arrives c =
    let slot = c.args.slot in
    let now = c.args.self.now in
    let delay = ap (λ (r : InletRec). r.delay) c.self.view_is in
    let seen = c.due-crossing.ensures ∙ (λ i. seen_of (due_of slot (delay i) (c.at.ensures i)) (due_of slot (delay i) (c.at-2.ensures i))) in
    seen ∙ sym (arrives-of slot now.delay now.queue c.requires.waits.due c.requires.waits.in_order c.requires.waits.no_level).arrives

pub returns-clause-left : goal.returns-clause-left
returns-clause-left c =
    let slot = c.args.slot in
    let now = c.args.self.now in
    let delay = ap (λ (r : InletRec). r.delay) c.self.view_is in
    let seen = c.due-crossing.ensures ∙ (λ i. seen_of (due_of slot (delay i) (c.at.ensures i)) (due_of slot (delay i) (c.at-2.ensures i))) in
    let a = arrives-of slot now.delay now.queue c.requires.waits.due c.requires.waits.in_order c.requires.waits.no_level in
    let count : c.loop.counter ≡ entry_count c.due-crossing.result = omega (arith, c.count-end.ensures.value) in
    let left : c.loop.self-inside.queue.items ≡ arriving_after slot now.delay now.queue =
    c.loop.invariant.queue
    ∙ ap (λ n. drop n c.self.inside.queue.items) count
    ∙ ap (λ (r : InletRec). drop (entry_count c.due-crossing.result) r.queue) c.self.view_is
    ∙ ap (λ (x : Crossing). drop (entry_count x) now.queue) seen
    ∙ a.rest in
    λ i. record { delay = (c.loop.invariant.delay ∙ delay) i; queue = left i }
