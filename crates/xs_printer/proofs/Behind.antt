-- Elements behind their labels: one element more, and none left.
use Rattle.std.proofs.Common.{◌≡◌, ℕ, ◌+◌, ◌<◌, ◌≤◌, List, [], ◌∷◌, ◌++◌, length, get_or, drop, refl, sym, ap, ◌∙◌, append_assoc}
use Rattle.std.proofs.lemmas.Grind.{flat_map-append}
use Rattle.std.proofs.lemmas.List.{drop_more, drop_all, get_or_default}
use Rattle.xs_instructions.specs.Image.{Symbol}
use Rattle.source_model.specs.Canonical.{Item, item_line, labels_at, behind_labels, lines_text}

pub lines_text-append : (symbols : List Symbol) (xs ys : List Item) → lines_text symbols (xs ++ ys) ≡ lines_text symbols xs ++ lines_text symbols ys
lines_text-append symbols xs ys = flat_map-append (λ (item : Item). item_line symbols item ++ (10 ∷ [])) xs ys

module _ {A : Type 0} (item : A → Item) (symbols : List Symbol) (size : ℕ) where
  behind_labels-cons : (at : ℕ) (x : A) (xs : List A) → behind_labels item symbols size at (x ∷ xs) ≡ labels_at symbols at ++ (item x ∷ behind_labels item symbols size (at + size) xs)
  unfolding behind_labels
  behind_labels-cons at x xs = refl

  pub behind_labels-nil : (at : ℕ) → behind_labels item symbols size at [] ≡ []
  unfolding behind_labels
  behind_labels-nil at = refl

  -- the text of the elements from number k on, the first of which stands at the address
  abbrev pub lines_behind : ℕ → ℕ → List A → List ℕ
  lines_behind at k xs = lines_text symbols (behind_labels item symbols size at (drop k xs))

  pub lines_behind-next : (at next k : ℕ) (xs : List A) (x : A) → k < length xs → x ≡ get_or xs k x → next ≡ at + size → lines_behind at k xs ≡ lines_text symbols (labels_at symbols at) ++ (lines_text symbols (item x ∷ []) ++ lines_behind next (k + 1) xs)
  lines_behind-next at next k xs x below is after =
      let rest = drop (k + 1) xs in
      ap (λ (l : List A). lines_text symbols (behind_labels item symbols size at l)) (drop_more xs k x below ∙ ap (λ (y : A). y ∷ rest) (sym is))
      ∙ (ap (lines_text symbols) (behind_labels-cons at x rest)
      ∙ (lines_text-append symbols (labels_at symbols at) (item x ∷ behind_labels item symbols size (at + size) rest)
      ∙ ap (λ t. lines_text symbols (labels_at symbols at) ++ t)
      (lines_text-append symbols (item x ∷ []) (behind_labels item symbols size (at + size) rest)
      ∙ ap (λ n. lines_text symbols (item x ∷ []) ++ lines_text symbols (behind_labels item symbols size n rest)) (sym after))))

  pub lines_behind-end : (at k : ℕ) (xs : List A) → length xs ≤ k → lines_behind at k xs ≡ []
  lines_behind-end at k xs h =
      ap (λ (l : List A). lines_text symbols (behind_labels item symbols size at l)) (drop_all k xs h) ∙ ap (lines_text symbols) (behind_labels-nil at)

-- the text of items that are put one after the other
pub lines_more : (symbols : List Symbol) (xs ys : List Item) (start so_far : List ℕ) → so_far ≡ start ++ lines_text symbols xs → so_far ++ lines_text symbols ys ≡ start ++ lines_text symbols (xs ++ ys)
lines_more symbols xs ys start so_far h =
    ap (λ t. t ++ lines_text symbols ys) h
    ∙ (append_assoc start (lines_text symbols xs) (lines_text symbols ys) ∙ ap (λ t. start ++ t) (sym (lines_text-append symbols xs ys)))

-- what a list has at a place, by an equal list
pub read_same : {A : Type 0} (xs ys : List A) (k : ℕ) (d : A) → xs ≡ ys → k < length ys → get_or xs k d ≡ get_or ys k (get_or xs k d)
read_same xs ys k d e h = ap (λ l. get_or l k d) e ∙ get_or_default ys k d _ h
