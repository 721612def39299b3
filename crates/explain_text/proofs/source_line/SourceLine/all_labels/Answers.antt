use Rattle.std.proofs.Common.{ℕ, List, ap, ◌∙◌, arith}
use Rattle.std.proofs.lemmas.List.{take_all}
use Rattle.xs_text.specs.Lines.{lines_of}
use Rattle.explain_model.specs.Labels.{labels_of}
use Rattle.placed_tokens.proofs.Counting.{lines-few}
use Rattle.explain_text.proofs.source_line.SourceLine.all_labels.Goals as goal

pub returns : goal.returns
returns c =
    let all = lines_of c.args.self.now.source.now in
    c.in_ok-labels.ensures ∙ ap (λ (ls : List (List ℕ)). labels_of c.args.self.now.first ls) (take_all 4294967295 all (omega (arith, c.args.self.now.in_text, lines-few c.args.self.now.source.now)))
