use Rattle.std.proofs.Common.{ℕ, suc, ◌≡◌, ◌+◌, List, ◌++◌, ap, ◌∙◌, arith, append_assoc}
use Rattle.profile_model.specs.Profile.{place_line}
use Rattle.run_counts.specs.Tallies.{at}
use Rattle.profile_text.specs.Counted.{places_by}
use Rattle.profile_text.proofs.places.append_places.Goals as goal

pub loop-place-preserved : goal.loop-place-preserved
loop-place-preserved c =
    let a = c.args in
    let counts = a.counts.now in
    let k = c.loop-place.place in
    let text = places_by a.node.now a.lines.now counts in
    let line = place_line a.node.now a.lines.now k (at counts.issues.items k) (at counts.pauses.items k) (at counts.waits.items k) in
    let next : suc k ≡ k + 1 = omega arith in
    c.in_ok-append_line.ensures ∙ ap (λ (t : List ℕ). t ++ line) c.loop-place.invariant ∙ append_assoc a.out.now (text k) line
    ∙ ap (λ (m : ℕ). a.out.now ++ text m) next
