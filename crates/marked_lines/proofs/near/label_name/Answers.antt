use Rattle.std.proofs.Common.{◌≡◌, ℕ, ◌+◌, List, ◌∷◌, drop, Some, ap, sym, ◌∙◌}
use Rattle.std.specs.Prelude.{option_map, slice_get}
use Rattle.xs_instructions.specs.Image.{symbol_of_pair}
use Rattle.explain_model.specs.Labels.{names_of}
use Rattle.marked_lines.proofs.Labels.{label-next}
use Rattle.marked_lines.proofs.near.label_name.Goals as goal

pub returns : goal.returns
returns c =
    let there : slice_get c.args.labels.now.labels c.args.k ≡ Some (symbol_of_pair c.unwrap.result) = sym c.at.ensures.value ∙ ap (option_map symbol_of_pair) c.unwrap.ensures in
    label-next c.args.labels.now.labels c.args.k _ there ∙ ap (λ (n : List ℕ). n ∷ names_of (drop (c.args.k + 1) c.args.labels.now.labels)) (sym c.as_bytes.ensures.value)
