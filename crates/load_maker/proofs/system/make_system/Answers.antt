use Rattle.std.proofs.Common.{ℕ, List, [], ◌∷◌, ◌++◌, ap, sym, ◌∙◌}
use Rattle.std.specs.Prelude.{codes}
use Rattle.std.specs.List.{flat_map, range_with_len}
use Rattle.load_model.specs.Load.{node_text, link_text, bit_text, node_section, text_of_lines}
use Rattle.load_maker.proofs.Appended.{behind}
use Rattle.load_maker.proofs.Pieces.{load_parts}
use Rattle.load_maker.proofs.system.make_system.Goals as goal

pub returns : goal.returns
returns c =
    let n = c.args.number in
    let count = c.node_count-nodes.result in
    let nodes : ℕ → List ℕ = λ k. flat_map (λ i. node_text i ++ (10 ∷ [])) (range_with_len 0 k) in
    let links : ℕ → List ℕ = λ k. flat_map (λ i. link_text n i ++ (10 ∷ [])) (range_with_len 0 k) in
    let bits : ℕ → List ℕ = λ k. flat_map (λ i. bit_text n i ++ (10 ∷ [])) (range_with_len 0 k) in
    let sections : ℕ → List ℕ = λ k. flat_map (λ i. text_of_lines (node_section n i)) (range_with_len 0 k) in
    let parts : ℕ → List ℕ = λ k. nodes k ++ (links k ++ (bits k ++ sections k)) in
    let first = c.append.new.self in
    record {
      text =
          c.in_ok-append_by_node-4.ensures
          ∙ (behind c.append_by_node-3.new.out c.append_by_node-2.new.out (bits count) (sections count) c.in_ok-append_by_node-3.ensures
          ∙ (behind c.append_by_node-2.new.out c.append_by_node.new.out (links count) (bits count ++ sections count) c.in_ok-append_by_node-2.ensures
          ∙ (behind c.append_by_node.new.out first (nodes count) (links count ++ (bits count ++ sections count)) c.in_ok-append_by_node.ensures
          ∙ (ap (λ (t : List ℕ). t ++ parts count) (c.in_ok-append.ensures.ok ∙ ap (λ (t : List ℕ). t ++ codes "xs1 1\n") c.new-out.ensures.empty)
          ∙ (ap (λ (k : ℕ). codes "xs1 1\n" ++ parts k) c.node_count-nodes.ensures.value ∙ sym (load_parts n))))));
    }
