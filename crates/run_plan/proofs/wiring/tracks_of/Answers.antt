use Rattle.std.proofs.Common.{◌≡◌, ◌<◌, List, [], ◌∷◌, ◌++◌, length, get_or, sym, ap, ◌∙◌, arith}
use Rattle.std.proofs.lemmas.Grind.{common_steps}
use Rattle.sys_plan.specs.declared.LinkPlan.{LinkPlan}
use Rattle.run_plan.proofs.Starts.{tracks-more}
use Rattle.run_plan.proofs.wiring.tracks_of.Goals as goal

pub loop-link-preserved : goal.loop-link-preserved
loop-link-preserved c =
    let links = c.args.plan.now.links in
    let lent = c.links-link-items.result.now in
    let i = c.loop-link.link-index in
    let d : LinkPlan = record { a = 0; a_end = 0; b = 0; b_end = 0; delay = 0; gap = 0; net = 0 } in
    let there = c.track_of.ensures in
    let back = c.track_of-in-loop-link.ensures in
    let first : c.push.new.self.items ≡ c.loop-link.tracks.items ++ c.track_of.result ∷ [] = grind (arith, common_steps) in
    let second : c.push-in-loop-link.new.self.items ≡ c.push.new.self.items ++ c.track_of-in-loop-link.result ∷ [] = grind (arith, common_steps) in
    let inside : i < length links = omega (arith, ap (λ (xs : List LinkPlan). length xs) c.links-link-items.ensures.value) in
    let more = tracks-more links i d (get_or lent i d) inside (ap (λ (xs : List LinkPlan). get_or xs i d) (sym c.links-link-items.ensures.value)) in
    let start = c.loop-link.invariant.start in
    record {
      start = second ∙ ((λ k. first k ++ c.track_of-in-loop-link.result ∷ []) ∙ ((λ k. (start k ++ there k ∷ []) ++ back k ∷ []) ∙ sym more));
    }
