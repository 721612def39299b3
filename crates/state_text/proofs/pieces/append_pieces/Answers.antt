use Rattle.std.proofs.Common.{ℕ, List, ◌++◌, ◌∙◌, ap}
use Rattle.std.specs.List.{flat_map}
use Rattle.look_words.proofs.Appended.{behind}
use Rattle.state_text.specs.PieceTexts.{piece_text}
use Rattle.state_text.proofs.PieceLemmas.{all_text, all_before}
use Rattle.state_text.proofs.pieces.append_pieces.Goals as goal

pub returns : goal.returns
returns c =
    let out = c.args.out.now in
    let pieces = c.args.pieces.now in
    let all = c.in_ok-append_each.ensures in
    record {
      text = all ∙ ap (λ (t : List ℕ). out ++ t) (all_text pieces);
      before = λ rest. behind _ out (flat_map piece_text pieces) rest all ∙ ap (λ (t : List ℕ). out ++ t) (all_before pieces rest);
    }
