use Rattle.std.proofs.Common.{ℕ, suc, ◌≡◌, ◌+◌, List, ◌++◌, length, ap, ◌∙◌, arith, append_assoc}
use Rattle.std.specs.Prelude.{slice_index_or}
use Rattle.profile_model.specs.declared.TheConstants.{KINDS}
use Rattle.profile_model.specs.Profile.{kind_name, kind_text, kinds_text}
use Rattle.run_counts.specs.Tallies.{at}
use Rattle.profile_text.proofs.threads.append_kinds.Goals as goal

pub loop-i-preserved : goal.loop-i-preserved
loop-i-preserved c =
    let out = c.args.out.now in
    let counts = c.args.counts.now in
    let i = c.loop-i.i in
    let text = kinds_text (at counts) in
    let next : suc i ≡ i + 1 = omega arith in
    c.in_ok-append_kind.ensures ∙ (λ j. c.loop-i.out ++ kind_text (at counts (c.kind.ensures j)) (c.kind_name.ensures j))
    ∙ ap (λ (t : List ℕ). t ++ kind_text (at counts (slice_index_or KINDS i 0)) (kind_name i)) c.loop-i.invariant
    ∙ append_assoc out (text i) (kind_text (at counts (slice_index_or KINDS i 0)) (kind_name i))
    ∙ ap (λ (m : ℕ). out ++ text m) next

pub returns : goal.returns
returns c =
    let all : c.loop-i.i ≡ length KINDS = omega (arith, c.loop-i-test.false, c.loop-i.auto.i-end) in
    c.loop-i.invariant ∙ ap (λ (m : ℕ). c.args.out.now ++ kinds_text (at c.args.counts.now) m) all
