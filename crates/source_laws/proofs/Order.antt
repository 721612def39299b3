-- Symbols in order: those of an address stand together, and those of later addresses after them.
use Rattle.std.proofs.Common.{◌≡◌, ℕ, true, false, ◌==◌, List, [], ◌∷◌, refl, sym, ap, ◌∙◌, inl, inr, arith}
use Rattle.std.specs.List.{AllByRecursion}
use Rattle.std.proofs.lemmas.Bool.{cases_Bool, cond-true, cond-false}
use Rattle.std.proofs.lemmas.Bool.Decides.{nat_tests}
use Rattle.xs_instructions.specs.Image.{Symbol, AreInOrder, may_follow}
use Rattle.source_laws.specs.LabelOrder.{first_at, past_address, symbols_at, symbols_from, IsNext}

may_follow-trans : (a b c : ℕ) → may_follow a b ≡ true → may_follow b c ≡ true → may_follow a c ≡ true
may_follow-trans a b c h k = grind (arith, nat_tests)

pub may_follow-same : (a b : ℕ) → (b == a) ≡ true → may_follow a b ≡ true
may_follow-same a b h = grind (arith, nat_tests)

-- what comes after a later address is at a later address
later_still : (a b c : ℕ) → may_follow a b ≡ true → (b == a) ≡ false → may_follow b c ≡ true → (c == a) ≡ false
later_still a b c h n k = grind (arith, nat_tests)

-- all stand at the address or after it
abbrev pub AreAfter : ℕ → List Symbol → Type 0
AreAfter at symbols = AllByRecursion (λ (s : Symbol). may_follow at s.1 ≡ true) symbols

after_earlier : (a b : ℕ) (symbols : List Symbol) → may_follow a b ≡ true → AreAfter b symbols → AreAfter a symbols
after_earlier a b [] h k = tt
after_earlier a b (s ∷ symbols) h k = (may_follow-trans a b s.1 h k.0, after_earlier a b symbols h k.1)

pub all_after : (s : Symbol) (symbols : List Symbol) → AreInOrder (s ∷ symbols) → AreAfter s.1 symbols
all_after s [] h = tt
all_after s (t ∷ symbols) h = (h.0, after_earlier s.1 t.1 symbols h.0 (all_after t symbols h.1))

pub ordered_rest : (s : Symbol) (symbols : List Symbol) → AreInOrder (s ∷ symbols) → AreInOrder symbols
ordered_rest s [] h = tt
ordered_rest s (t ∷ symbols) h = h.1

pub from_all : (at : ℕ) (symbols : List Symbol) → AreAfter at symbols → symbols_from at symbols ≡ symbols
from_all at [] h = refl
from_all at (s ∷ symbols) h = cond-true _ _ _ h.0 ∙ ap (λ (l : List Symbol). s ∷ l) (from_all at symbols h.1)

none_at : (at b : ℕ) (symbols : List Symbol) → may_follow at b ≡ true → (b == at) ≡ false → AreAfter b symbols → symbols_at at symbols ≡ []
none_at at b [] h n k = refl
none_at at b (s ∷ symbols) h n k = cond-false _ _ _ (later_still at b s.1 h n k.0) ∙ none_at at b symbols h n k.1

pub first_at-same : (at : ℕ) (s : Symbol) (symbols : List Symbol) → (s.1 == at) ≡ true → first_at at (s ∷ symbols) ≡ s ∷ first_at at symbols
unfolding first_at
first_at-same at s symbols h = cond-true _ _ _ h

pub first_at-other : (at : ℕ) (s : Symbol) (symbols : List Symbol) → (s.1 == at) ≡ false → first_at at (s ∷ symbols) ≡ []
unfolding first_at
first_at-other at s symbols h = cond-false _ _ _ h

pub first_at-none : (at : ℕ) → first_at at [] ≡ []
unfolding first_at
first_at-none at = refl

pub past_address-same : (at : ℕ) (s : Symbol) (symbols : List Symbol) → (s.1 == at) ≡ true → past_address at (s ∷ symbols) ≡ past_address at symbols
unfolding past_address
past_address-same at s symbols h = cond-true _ _ _ h

pub past_address-other : (at : ℕ) (s : Symbol) (symbols : List Symbol) → (s.1 == at) ≡ false → past_address at (s ∷ symbols) ≡ s ∷ symbols
unfolding past_address
past_address-other at s symbols h = cond-false _ _ _ h

pub past_address-none : (at : ℕ) → past_address at [] ≡ []
unfolding past_address
past_address-none at = refl

-- of the symbols from an address on, the first are those at it
pub first_from : (at : ℕ) (symbols : List Symbol) → AreInOrder symbols → first_at at (symbols_from at symbols) ≡ symbols_at at symbols
first_from at [] h = first_at-none at
first_from at (s ∷ symbols) h =
    let rest = first_from at symbols (ordered_rest s symbols h) in
    elim (cases_Bool (s.1 == at)) [
      | inl e ↦ ap (first_at at) (cond-true _ _ _ (may_follow-same at s.1 e))
          ∙ (first_at-same at s (symbols_from at symbols) e ∙ (ap (λ (l : List Symbol). s ∷ l) rest ∙ sym (cond-true _ _ _ e)))
      | inr n ↦ elim (cases_Bool (may_follow at s.1)) [
        | inl f ↦ ap (first_at at) (cond-true _ _ _ f)
            ∙ (first_at-other at s (symbols_from at symbols) n ∙ sym (cond-false _ _ _ n ∙ none_at at s.1 symbols f n (all_after s symbols h)))
        | inr f ↦ ap (first_at at) (cond-false _ _ _ f) ∙ (rest ∙ sym (cond-false _ _ _ n))
      ]
    ]

past_same : (at next a : ℕ) → may_follow next at ≡ false → (a == at) ≡ true → may_follow next a ≡ false
past_same at next a h e = grind (arith, nat_tests)

not_back : (at next a : ℕ) → may_follow at next ≡ true → may_follow at a ≡ false → may_follow next a ≡ false
not_back at next a h f = grind (arith, nat_tests)

-- and the others are those from the next address on
pub past_from : (at next : ℕ) (symbols : List Symbol) → AreInOrder symbols → IsNext at next symbols → past_address at (symbols_from at symbols) ≡ symbols_from next symbols
past_from at next [] h k = past_address-none at
past_from at next (s ∷ symbols) h k =
    let rest = past_from at next symbols (ordered_rest s symbols h) (record { follows = k.follows; past = k.past; gap = k.gap.1 }) in
    elim (cases_Bool (s.1 == at)) [
      | inl e ↦ ap (past_address at) (cond-true _ _ _ (may_follow-same at s.1 e))
          ∙ (past_address-same at s (symbols_from at symbols) e ∙ (rest ∙ sym (cond-false _ _ _ (past_same at next s.1 k.past e))))
      | inr n ↦ elim (cases_Bool (may_follow at s.1)) [
        | inl f ↦ let later = all_after s symbols h in
            let g = k.gap.0 f n in
            ap (past_address at) (cond-true _ _ _ f)
            ∙ (past_address-other at s (symbols_from at symbols) n
            ∙ (ap (λ (l : List Symbol). s ∷ l) (from_all at symbols (after_earlier at s.1 symbols f later) ∙ sym (from_all next symbols (after_earlier next s.1 symbols g later)))
            ∙ sym (cond-true _ _ _ g)))
        | inr f ↦ ap (past_address at) (cond-false _ _ _ f) ∙ (rest ∙ sym (cond-false _ _ _ (not_back at next s.1 k.follows f)))
      ]
    ]
