-- A place's first label, by its number.
use Rattle.std.proofs.Common.{◌≡◌, ℕ, ◌+◌, ◌<◌, true, false, ◌||◌, ◌==◌, List, [], ◌∷◌, Some, length, drop, sym, ap, ◌∙◌, inl, inr, arith}
use Rattle.std.specs.Prelude.{slice_get}
use Rattle.std.proofs.lemmas.Bool.{cases_Bool, cond-true, cond-false}
use Rattle.std.proofs.lemmas.List.{length-drop}
use Rattle.xs_instructions.specs.Image.{Symbol, has_symbol_at}
use Rattle.source_model.specs.Canonical.{first_name_at}
use Rattle.source_laws.specs.LabelOrder.{first_at, symbols_at, symbols_from}
use Rattle.xs_printer.proofs.LabelWalk.{drop_at}

first_name-same : (s : Symbol) (symbols : List Symbol) (at : ℕ) → (s.1 == at) ≡ true → first_name_at (s ∷ symbols) at ≡ s.0
unfolding first_name_at
first_name-same s symbols at e = cond-true _ _ _ e

first_name-other : (s : Symbol) (symbols : List Symbol) (at : ℕ) → (s.1 == at) ≡ false → first_name_at (s ∷ symbols) at ≡ first_name_at symbols at
unfolding first_name_at
first_name-other s symbols at e = cond-false _ _ _ e

-- the symbols of an address, where there is one, begin with the name
pub record BeginsWith (symbols : List Symbol) (name : List ℕ) : Type 0 where
  pub head : Symbol
  pub rest : List Symbol
  pub is : symbols ≡ head ∷ rest
  pub named : head.0 ≡ name

begins_at : (symbols : List Symbol) (at : ℕ) → has_symbol_at symbols at ≡ true → BeginsWith (symbols_at at symbols) (first_name_at symbols at)
begins_at [] at h = absurd (cc)
begins_at (s ∷ symbols) at h =
    elim (cases_Bool (s.1 == at)) [
      | inl e ↦ record { head = s; rest = symbols_at at symbols; is = cond-true _ _ _ e; named = sym (first_name-same s symbols at e) }
      | inr n ↦ let k = begins_at symbols at (sym (ap (λ b. b || has_symbol_at symbols at) n) ∙ h) in
          record { head = k.head; rest = k.rest; is = cond-false _ _ _ n ∙ k.is; named = k.named ∙ sym (first_name-other s symbols at n) }
    ]

begins_first : (at : ℕ) (symbols : List Symbol) (s : Symbol) (rest : List Symbol) → first_at at symbols ≡ s ∷ rest → (more : List Symbol) × (symbols ≡ s ∷ more)
unfolding first_at
begins_first at [] s rest h = absurd (cc)
begins_first at (t ∷ symbols) s rest h =
    elim (cases_Bool (t.1 == at)) [
      | inl e ↦ let k : t ∷ first_at at symbols ≡ s ∷ rest = sym (cond-true _ _ _ e) ∙ h in
          (symbols, ap (λ x. x ∷ symbols) (let j : t ≡ s = cc in j))
      | inr n ↦ absurd (let k : [] ≡ s ∷ rest = sym (cond-false _ _ _ n) ∙ h in cc)
    ]

module _ (symbols : List Symbol) (at : ℕ) (first : first_at at (symbols_from at symbols) ≡ symbols_at at symbols) (has : has_symbol_at symbols at ≡ true) (k : ℕ) (here : drop k symbols ≡ symbols_from at symbols) where
  begins : BeginsWith (drop k symbols) (first_name_at symbols at)
  begins =
      let name = begins_at symbols at has in
      let more = begins_first at (symbols_from at symbols) name.head name.rest (first ∙ name.is) in
      record { head = name.head; rest = more.0; is = here ∙ more.1; named = name.named }

  pub within : k < length symbols
  within = let e : length (drop k symbols) ≡ length (begins.head ∷ begins.rest) = ap length begins.is in omega (arith, length-drop k symbols, e)

  pub named : (t : Symbol) → slice_get symbols k ≡ Some t → t.0 ≡ first_name_at symbols at
  named t h =
      let e : t ∷ drop (k + 1) symbols ≡ begins.head ∷ begins.rest = sym (drop_at symbols k t h) ∙ begins.is in
      let j : t ≡ begins.head = cc in
      ap (λ (s : Symbol). s.0) j ∙ begins.named
