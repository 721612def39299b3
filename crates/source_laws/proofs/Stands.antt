-- Where the labels of an image stand, section by section, and how a name leads there.
use Rattle.std.proofs.Common.{◌≡◌, ℕ, ◌+◌, ◌-◌, ◌/◌, ◌<◌, true, false, ◌||◌, ◌==◌, List, [], ◌∷◌, ◌++◌, map, refl, sym, ap, ◌∙◌, inl, inr, arith, nat_lt, nat_le}
use Rattle.std.specs.Prelude.{Some, None, if◌then◌else◌}
use Rattle.std.proofs.lemmas.Bool.{cond-true, cond-false, cases_Bool, false_from_ne_true, eqb-true}
use Rattle.std.proofs.lemmas.Bool.Decides.{nat_tests}
use Rattle.xs_instructions.specs.Code.{code_start, place_address}
use Rattle.xs_instructions.specs.Words.{same_name}
use Rattle.xs_instructions.specs.Image.{Symbol, AreLabels, address_of, may_be_label, has_symbol_at, data_start}
use Rattle.source_model.specs.declared.layout.Section.TheVariants.{Text, Data, Constants}
use Rattle.source_model.specs.declared.layout.Place.{Place}
use Rattle.source_model.specs.Layout.{Label, place_of}
use Rattle.source_model.specs.Canonical.{first_name_at}
use Rattle.source_laws.proofs.Words.{same_name-Decides, same_name-self}

-- where an address is, for constants that begin there
abbrev pub place_at : ℕ → ℕ → Place
place_at cp at =
    if nat_le code_start at then record { section = Text; offset = (at - code_start) / 4 }
    else (if nat_lt at cp then record { section = Data; offset = at - data_start } else record { section = Constants; offset = at - cp })

pub text_place : (cp p : ℕ) → place_at cp (place_address p) ≡ record { section = Text; offset = p }
text_place cp p =
    cond-true _ _ _ (let t : nat_le code_start (place_address p) ≡ true = grind (arith, nat_tests) in t)
    ∙ ap (λ o. record { section = Text; offset = o }) (let e : (place_address p - code_start) / 4 ≡ p = omega arith in e)

pub data_place : (cp d : ℕ) → data_start + d < cp → cp < code_start → place_at cp (data_start + d) ≡ record { section = Data; offset = d }
data_place cp d h s =
    cond-false _ _ _ (let t : nat_le code_start (data_start + d) ≡ false = grind (arith, nat_tests) in t)
    ∙ (cond-true _ _ _ (let t : nat_lt (data_start + d) cp ≡ true = grind (arith, nat_tests) in t)
    ∙ ap (λ o. record { section = Data; offset = o }) (let e : (data_start + d) - data_start ≡ d = omega arith in e))

pub constant_place : (cp k : ℕ) → cp + k < code_start → place_at cp (cp + k) ≡ record { section = Constants; offset = k }
constant_place cp k s =
    cond-false _ _ _ (let t : nat_le code_start (cp + k) ≡ false = grind (arith, nat_tests) in t)
    ∙ (cond-false _ _ _ (let t : nat_lt (cp + k) cp ≡ false = grind (arith, nat_tests) in t)
    ∙ ap (λ o. record { section = Constants; offset = o }) (let e : (cp + k) - cp ≡ k = omega arith in e))

module _ (cp : ℕ) where
  abbrev pub label_of : Symbol → Label
  label_of s = (s.0, place_at cp s.1)

  abbrev pub labels_of : List Symbol → List Label
  labels_of symbols = map label_of symbols

  place_of-same : (label : Label) (labels : List Label) (name : List ℕ) → same_name label.0 name ≡ true → place_of (label ∷ labels) name ≡ Some label.1
  unfolding place_of
  place_of-same label labels name h = cond-true _ _ _ h

  place_of-other : (label : Label) (labels : List Label) (name : List ℕ) → same_name label.0 name ≡ false → place_of (label ∷ labels) name ≡ place_of labels name
  unfolding place_of
  place_of-other label labels name h = cond-false _ _ _ h

  place_of-none : (name : List ℕ) → place_of [] name ≡ None
  unfolding place_of
  place_of-none name = refl

  -- names differ both ways
  other_way : (x y : List ℕ) → same_name x y ≡ false → same_name y x ≡ false
  other_way x y h =
      false_from_ne_true _ (λ t. let e : y ≡ x = (same_name-Decides y x).0 t in
      let k : same_name x y ≡ true = (same_name-Decides x y).1 (sym e) in
      let no : true ≡ false = sym k ∙ h in cc)

  some_none : {A : Type 0} (x : A) → Some x ≡ None → ⊥
  some_none x h = cc

  -- a name that leads nowhere is none of the symbols'
  not_first : (s : Symbol) (symbols : List Symbol) (name : List ℕ) → address_of (s ∷ symbols) name ≡ None → (same_name s.0 name ≡ false) × (address_of symbols name ≡ None)
  not_first s symbols name h =
      elim (cases_Bool (same_name s.0 name)) [
        | inl t ↦ absurd (some_none s.1 (sym (cond-true _ _ _ t) ∙ h))
        | inr f ↦ (f, sym (cond-false _ _ _ f) ∙ h)
      ]

  not_among : (before : List Symbol) (s : Symbol) (more : List Symbol) (name : List ℕ) → address_of (before ++ (s ∷ more)) name ≡ None → same_name s.0 name ≡ false
  not_among [] s more name h = (not_first s more name h).0
  not_among (x ∷ before) s more name h = not_among before s more name (not_first x (before ++ (s ∷ more)) name h).1

  -- a label's name is none of those before it
  pub fresh : (before : List Symbol) (s : Symbol) (more : List Symbol) → AreLabels (before ++ (s ∷ more)) → place_of (labels_of before) s.0 ≡ None
  fresh [] s more h = place_of-none s.0
  fresh (x ∷ before) s more h =
      place_of-other (label_of x) (labels_of before) s.0 (other_way s.0 x.0 (not_among before s more x.0 h.1)) ∙ fresh before s more h.2

  pub label_named : (before : List Symbol) (s : Symbol) (more : List Symbol) → AreLabels (before ++ (s ∷ more)) → may_be_label s.0 ≡ true
  label_named [] s more h = h.0
  label_named (x ∷ before) s more h = label_named before s more h.2

  first_name-same : (s : Symbol) (symbols : List Symbol) (at : ℕ) → (s.1 == at) ≡ true → first_name_at (s ∷ symbols) at ≡ s.0
  unfolding first_name_at
  first_name-same s symbols at e = cond-true _ _ _ e

  first_name-other : (s : Symbol) (symbols : List Symbol) (at : ℕ) → (s.1 == at) ≡ false → first_name_at (s ∷ symbols) at ≡ first_name_at symbols at
  unfolding first_name_at
  first_name-other s symbols at e = cond-false _ _ _ e

  -- the first name at an address is that of a symbol
  not_the_first_name : (symbols : List Symbol) (at : ℕ) (name : List ℕ) → has_symbol_at symbols at ≡ true → address_of symbols name ≡ None → same_name (first_name_at symbols at) name ≡ false
  not_the_first_name [] at name h k = absurd (cc)
  not_the_first_name (s ∷ symbols) at name h k =
      let n = not_first s symbols name k in
      elim (cases_Bool (s.1 == at)) [
        | inl e ↦ ap (λ x. same_name x name) (first_name-same s symbols at e) ∙ n.0
        | inr f ↦ ap (λ x. same_name x name) (first_name-other s symbols at f) ∙ not_the_first_name symbols at name (sym (ap (λ b. b || has_symbol_at symbols at) f) ∙ h) n.1
      ]

  -- and leads to the address
  pub first_name_leads : (symbols : List Symbol) (at : ℕ) → AreLabels symbols → has_symbol_at symbols at ≡ true → place_of (labels_of symbols) (first_name_at symbols at) ≡ Some (place_at cp at)
  first_name_leads [] at h k = absurd (cc)
  first_name_leads (s ∷ symbols) at h k =
      elim (cases_Bool (s.1 == at)) [
        | inl e ↦ ap (λ x. place_of (labels_of (s ∷ symbols)) x) (first_name-same s symbols at e)
            ∙ (place_of-same (label_of s) (labels_of symbols) s.0 (same_name-self s.0) ∙ ap (λ a. Some (place_at cp a)) (eqb-true s.1 at e))
        | inr f ↦ let rest : has_symbol_at symbols at ≡ true = sym (ap (λ b. b || has_symbol_at symbols at) f) ∙ k in
            ap (λ x. place_of (labels_of (s ∷ symbols)) x) (first_name-other s symbols at f)
            ∙ (place_of-other (label_of s) (labels_of symbols) _ (other_way (first_name_at symbols at) s.0 (not_the_first_name symbols at s.0 rest h.1)) ∙ first_name_leads symbols at h.2 rest)
      ]

  pub first_name_named : (symbols : List Symbol) (at : ℕ) → AreLabels symbols → has_symbol_at symbols at ≡ true → may_be_label (first_name_at symbols at) ≡ true
  first_name_named [] at h k = absurd (cc)
  first_name_named (s ∷ symbols) at h k =
      elim (cases_Bool (s.1 == at)) [
        | inl e ↦ ap may_be_label (first_name-same s symbols at e) ∙ h.0
        | inr f ↦ ap may_be_label (first_name-other s symbols at f) ∙ first_name_named symbols at h.2 (sym (ap (λ b. b || has_symbol_at symbols at) f) ∙ k)
      ]
