use Rattle.std.proofs.Common.{ℕ, ◌+◌, List, ◌++◌, length, ap, ◌∙◌, append_assoc}
use Rattle.xs_base.specs.declared.numbers.TheConstants.{THREADS, LINK_ENDS}
use Rattle.profile_text.specs.Counted.{places_by, threads_by, links_by}
use Rattle.profile_text.proofs.nodes.append_node.Goals as goal

pub returns : goal.returns
returns c =
    let a = c.args in
    let counts = a.counts.now in
    let places = places_by a.node.now a.lines.now counts.places (length a.node.now.image.code + 1) in
    let threads = threads_by a.node.now a.slots counts.threads THREADS in
    let links = links_by a.node.now counts.links LINK_ENDS in
    c.in_ok-append_links.ensures
    ∙ ap (λ (t : List ℕ). t ++ links) (c.in_ok-append_threads.ensures ∙ ap (λ (t : List ℕ). t ++ threads) c.in_ok-append_places.ensures)
    ∙ append_assoc (a.out.now ++ places) threads links ∙ append_assoc a.out.now places (threads ++ links)
