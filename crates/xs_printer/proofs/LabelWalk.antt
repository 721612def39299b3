-- One label more of those that stand at an address.
use Rattle.std.proofs.Common.{◌≡◌, ℕ, ◌+◌, ◌≤◌, false, ◌==◌, List, [], ◌∷◌, ◌++◌, Some, length, drop, sym, ap, ◌∙◌, append_assoc, eq-eqb, arith}
use Rattle.std.specs.Prelude.{slice_get}
use Rattle.std.proofs.lemmas.List.{drop_more, drop_all}
use Rattle.std.proofs.lemmas.Option.{get_or_from_slice_get, slice_get_within}
use Rattle.std.proofs.lemmas.Bool.{cond-true, cond-false}
use Rattle.std.proofs.lemmas.Bool.Decides.{nat_tests}
use Rattle.xs_instructions.specs.Image.{Symbol}
use Rattle.source_model.specs.Canonical.{labels_of, labels_at, lines_text}
use Rattle.source_laws.specs.LabelOrder.{first_at, past_address, symbols_at, symbols_from}
use Rattle.xs_printer.specs.Firsts.{IsFirstFrom}

pub drop_at : {A : Type 0} (xs : List A) (k : ℕ) (x : A) → slice_get xs k ≡ Some x → drop k xs ≡ x ∷ drop (k + 1) xs
drop_at xs k x h =
    drop_more xs k x (slice_get_within xs k x h) ∙ ap (λ y. y ∷ drop (k + 1) xs) (get_or_from_slice_get xs k x x h)

differs : (a b : ℕ) → (a ≡ b → ⊥) → (a == b) ≡ false
differs a b h = grind (arith, nat_tests)

module _ (at : ℕ) (symbols : List Symbol) where
  pub past_more : (k : ℕ) (s : Symbol) → slice_get symbols k ≡ Some s → s.1 ≡ at → past_address at (drop k symbols) ≡ past_address at (drop (k + 1) symbols)
  unfolding past_address
  past_more k s h e = ap (past_address at) (drop_at symbols k s h) ∙ cond-true _ _ _ (eq-eqb s.1 at e)

  pub past_stop : (k : ℕ) (s : Symbol) → slice_get symbols k ≡ Some s → (s.1 ≡ at → ⊥) → past_address at (drop k symbols) ≡ drop k symbols
  unfolding past_address
  past_stop k s h n = ap (past_address at) (drop_at symbols k s h) ∙ (cond-false _ _ _ (differs s.1 at n) ∙ sym (drop_at symbols k s h))

  pub past_end : (k : ℕ) → length symbols ≤ k → past_address at (drop k symbols) ≡ drop k symbols
  unfolding past_address
  past_end k h = ap (past_address at) (drop_all k symbols h) ∙ sym (drop_all k symbols h)

  -- the lines of the labels from number k on that have the address
  abbrev pub lines_at : ℕ → List ℕ
  lines_at k = lines_text symbols (labels_of (first_at at (drop k symbols)))

  pub lines_more : (k : ℕ) (s : Symbol) → slice_get symbols k ≡ Some s → s.1 ≡ at → lines_at k ≡ s.0 ++ (58 ∷ 10 ∷ []) ++ lines_at (k + 1)
  unfolding first_at
  lines_more k s h e =
      ap (λ (l : List Symbol). lines_text symbols (labels_of (first_at at l))) (drop_at symbols k s h)
      ∙ (ap (λ (l : List Symbol). lines_text symbols (labels_of l)) (cond-true _ _ _ (eq-eqb s.1 at e))
      ∙ ap (λ l. l ++ lines_at (k + 1)) (append_assoc s.0 (58 ∷ []) (10 ∷ [])))

  pub lines_stop : (k : ℕ) (s : Symbol) → slice_get symbols k ≡ Some s → (s.1 ≡ at → ⊥) → lines_at k ≡ []
  unfolding first_at
  lines_stop k s h n =
      ap (λ (l : List Symbol). lines_text symbols (labels_of (first_at at l))) (drop_at symbols k s h)
      ∙ ap (λ (l : List Symbol). lines_text symbols (labels_of l)) (cond-false _ _ _ (differs s.1 at n))

  pub lines_end : (k : ℕ) → length symbols ≤ k → lines_at k ≡ []
  unfolding first_at
  lines_end k h = ap (λ (l : List Symbol). lines_text symbols (labels_of (first_at at l))) (drop_all k symbols h)

  -- the labels of the address, where number k is the first of them
  pub lines_of_address : (k : ℕ) → first_at at (symbols_from at symbols) ≡ symbols_at at symbols → IsFirstFrom symbols at k → lines_at k ≡ lines_text symbols (labels_at symbols at)
  lines_of_address k first here =
      ap (λ (l : List Symbol). lines_text symbols (labels_of (first_at at l))) here.rest ∙ ap (λ (l : List Symbol). lines_text symbols (labels_of l)) first
