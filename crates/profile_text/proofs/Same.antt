-- What is written of counters is what is to be written of what they stand for.
use Rattle.std.proofs.Common.{◌≡◌, ℕ, zero, suc, ◌+◌, ◌<◌, List, [], ◌++◌, length, refl, arith}
use Rattle.std.specs.Prelude.{slice_index_or}
use Rattle.xs_base.specs.declared.numbers.TheConstants.{THREADS, LINK_ENDS}
use Rattle.sys_plan.specs.declared.NodePlan.{NodePlan}
use Rattle.sys_plan.specs.Plan.{PlanRec}
use Rattle.profile_model.specs.Counts.{slots_shown, tokens_sent, slots_full}
use Rattle.profile_model.specs.Profile.{places_text, thread_line, threads_text, link_line, links_text, node_text}
use Rattle.run_counts.specs.declared.nodes.NodeCounts.{NodeCounts}
use Rattle.run_counts.specs.Tallies.{at}
use Rattle.run_counts.specs.Counted.{IsCounted}
use Rattle.profile_text.specs.Counted.{node_by}

same-threads : (node : NodePlan) (slots : ℕ) (f g : ℕ → ℕ → ℕ) (m : ℕ) → ((k c : ℕ) → k < m → f k c ≡ g k c)
    → threads_text node slots f m ≡ threads_text node slots g m
same-threads node slots f g zero same = refl
same-threads node slots f g (suc m) same =
    let before = same-threads node slots f g m (λ k c h. same k c (omega (arith, h))) in
    let last : f m ≡ g m = λ i c. same m c (omega arith) i in
    λ i. before i ++ thread_line node slots m (last i)

same-links : (node : NodePlan) (f g f' g' : ℕ → ℕ) (m : ℕ) → ((e : ℕ) → e < m → f e ≡ g e) → ((e : ℕ) → e < m → f' e ≡ g' e)
    → links_text node f f' m ≡ links_text node g g' m
same-links node f g f' g' zero same same' = refl
same-links node f g f' g' (suc m) same same' =
    let before = same-links node f g f' g' m (λ e h. same e (omega (arith, h))) (λ e h. same' e (omega (arith, h))) in
    λ i. before i ++ link_line node m (same m (omega arith) i) (same' m (omega arith) i)

pub node-counted : (plan : PlanRec) (lines : List ℕ) (slots n : ℕ) (node : NodePlan) (counts : NodeCounts) → IsCounted plan slots n node counts
    → node_by node lines slots counts ≡ node_text plan lines slots n node
node-counted plan lines slots n node counts counted =
    let threads = same-threads node slots (λ k. at (slice_index_or counts.threads k [])) (λ k c. slots_shown plan n node k c slots) THREADS (λ k c h. counted.threads k c h) in
    let links = same-links node (at counts.links.tokens) (λ e. tokens_sent plan n e slots) (at counts.links.full) (λ e. slots_full plan n e slots) LINK_ENDS counted.links.tokens counted.links.full in
    λ i. places_text node lines (λ p. counted.places.issues p i) (λ p. counted.places.pauses p i) (λ p. counted.places.waits p i) (length node.image.code + 1)
    ++ (threads i ++ links i)
