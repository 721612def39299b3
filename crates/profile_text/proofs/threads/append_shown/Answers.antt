use Rattle.std.proofs.Common.{List, ℕ, ◌++◌, length, ap, ◌∙◌, append_assoc}
use Rattle.std.specs.Prelude.{codes}
use Rattle.look_model.specs.Waits.{thread_name}
use Rattle.profile_model.specs.declared.TheConstants.{KINDS}
use Rattle.profile_model.specs.Profile.{node_name, kinds_text}
use Rattle.run_counts.specs.Tallies.{at}
use Rattle.profile_text.proofs.threads.append_shown.Goals as goal

pub returns : goal.returns
returns c =
    let out = c.args.out.now in
    let node = node_name c.args.node.now in
    let thread = thread_name c.args.k in
    let kinds = kinds_text (at c.args.counts.now) (length KINDS) in
    let dot = codes "." in
    let end = codes "\n" in
    let text = c.in_ok-append_node_name.ensures in
    let dotted = c.in_ok-append.ensures.ok ∙ ap (λ (t : List ℕ). t ++ dot) text in
    let named = c.in_ok-append_thread_name.ensures ∙ ap (λ (t : List ℕ). t ++ thread) dotted in
    let told = c.in_ok-append_kinds.ensures ∙ ap (λ (t : List ℕ). t ++ kinds) named in
    c.in_ok-append-2.ensures.ok ∙ ap (λ (t : List ℕ). t ++ end) told
    ∙ append_assoc (((out ++ node) ++ dot) ++ thread) kinds end
    ∙ append_assoc ((out ++ node) ++ dot) thread (kinds ++ end)
    ∙ append_assoc (out ++ node) dot (thread ++ (kinds ++ end))
    ∙ append_assoc out node (dot ++ (thread ++ (kinds ++ end)))
