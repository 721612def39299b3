-- A place with a label is one of the code or its end.
use Rattle.std.proofs.Common.{◌≡◌, ℕ, ◌≤◌, true, ◌||◌, ◌==◌, List, [], ◌∷◌, sym, ap, ◌∙◌, inl, inr, arith, IsTrue}
use Rattle.std.specs.List.{AllByRecursion}
use Rattle.std.proofs.lemmas.Bool.{cases_Bool}
use Rattle.std.proofs.lemmas.Bool.Decides.{nat_tests}
use Rattle.xs_instructions.specs.Code.{place_address}
use Rattle.xs_instructions.specs.Image.{Symbol, has_symbol_at, is_place}

place_within : (n m cp p a : ℕ) → is_place n m cp a ≡ true → (a == place_address p) ≡ true → p ≤ n
place_within n m cp p a h e = grind (arith, nat_tests)

pub labelled_within : (n m cp p : ℕ) (symbols : List Symbol) → AllByRecursion (λ (s : Symbol). IsTrue (is_place n m cp s.1)) symbols → has_symbol_at symbols (place_address p) ≡ true → p ≤ n
labelled_within n m cp p [] places h = absurd (cc)
labelled_within n m cp p (s ∷ symbols) places h =
    elim (cases_Bool (s.1 == place_address p)) [
      | inl e ↦ place_within n m cp p s.1 places.0 e
      | inr f ↦ labelled_within n m cp p symbols places.1 (sym (ap (λ b. b || has_symbol_at symbols (place_address p)) f) ∙ h)
    ]
