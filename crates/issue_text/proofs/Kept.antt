-- Lines that are added to those that are kept.
use Rattle.std.proofs.Common.{◌≡◌, ℕ, ◌+◌, ◌<◌, ◌≤◌, List, [], ◌∷◌, ◌++◌, length, sym, ap, ◌∙◌, subst, arith, append_assoc}
use Rattle.std.specs.List.{flat_map}
use Rattle.std.proofs.lemmas.List.{take_all, take-append-le, length-append, append-nil}
use Rattle.std.proofs.lemmas.Grind.{flat_map-append}
use Rattle.issue_model.specs.declared.TheConstants.{MOST_LINES}
use Rattle.issue_model.specs.Issues.{kept_text}
use Rattle.issue_text.specs.declared.lines.Lines.{Lines}
use Rattle.issue_text.specs.Kept.{IsOf, Adds}

abbrev itself : List ℕ → List ℕ
itself line = line

length-more : (all : List (List ℕ)) (line : List ℕ) → length (all ++ line ∷ []) ≡ length all + 1
length-more all line = length-append all (line ∷ [])

-- a line that is among the first
kept-line : (all : List (List ℕ)) (line : List ℕ) → length all < MOST_LINES → kept_text all ++ line ≡ kept_text (all ++ line ∷ [])
kept-line all line few =
    ap (λ (lines : List (List ℕ)). flat_map itself lines ++ line) (take_all MOST_LINES all (omega (arith, few)))
    ∙ ap (λ (t : List ℕ). flat_map itself all ++ t) (sym (append-nil line))
    ∙ sym (flat_map-append itself all (line ∷ []))
    ∙ ap (flat_map itself) (sym (take_all MOST_LINES (all ++ line ∷ []) (omega (arith, few, length-more all line))))

module _ (before after : Lines) (line : List ℕ) (counted : after.count ≡ before.count + 1) where
  pub put : before.count < MOST_LINES → after.text ≡ before.text ++ line → Adds before after (line ∷ [])
  put few text all is = record {
    text = text ∙ ap (λ (t : List ℕ). t ++ line) is.text ∙ kept-line all line (omega (arith, few, is.count));
    count = counted ∙ ap (λ n. n + 1) is.count ∙ sym (length-more all line);
  }

  -- one that is not among the first
  pub not-put : MOST_LINES ≤ before.count → after.text ≡ before.text → Adds before after (line ∷ [])
  not-put many text all is = record {
    text = text ∙ is.text ∙ ap (flat_map itself) (sym (take-append-le MOST_LINES all (line ∷ []) (omega (arith, many, is.count))));
    count = counted ∙ ap (λ n. n + 1) is.count ∙ sym (length-more all line);
  }

-- no line
pub none-added : (kept : Lines) → Adds kept kept []
none-added kept all is = record { text = is.text ∙ ap kept_text (sym (append-nil all)); count = is.count ∙ ap length (sym (append-nil all)) }

-- lines, and then more of them
pub and-more : (first then last : Lines) (lines more all : List (List ℕ)) → Adds first then lines → Adds then last more → lines ++ more ≡ all → Adds first last all
and-more first then last lines more all one two is =
    subst (Adds first last) is (λ before kept. subst (IsOf last) (append_assoc before lines more) (two (before ++ lines) (one before kept)))
