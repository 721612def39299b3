-- Symbols get the addresses of their places, one after the other.
use Rattle.std.proofs.Common.{◌≡◌, ℕ, zero, suc, ◌+◌, ◌<◌, ◌≤◌, ◌^◌, List, [], ◌∷◌, length, get_or, map, refl, sym, ap, ◌∙◌, arith, add-one}
use Rattle.std.specs.List.{AllByRecursion}
use Rattle.xs_instructions.specs.Image.{Symbol, with_address}
use Rattle.source_model.specs.declared.layout.Layout.{Layout}
use Rattle.source_model.specs.declared.layout.Place.{Place}
use Rattle.source_model.specs.Layout.{address_in}
use Rattle.source_model.specs.Source.{symbol_of}
use Rattle.xs_assembler.specs.Names.{labels_at}

-- the first symbols with the addresses of their places
abbrev pub addressed : Layout → ℕ → List Symbol → List Place → List Symbol
addressed whole zero symbols places = symbols
addressed whole (suc k) [] places = []
addressed whole (suc k) (s ∷ symbols) [] = s ∷ symbols
addressed whole (suc k) (s ∷ symbols) (place ∷ places) = (s.0, address_in whole place) ∷ addressed whole k symbols places

addressed_step : (whole : Layout) (k : ℕ) (symbols : List Symbol) (places : List Place) (d : Place) → k < length places → length places ≡ length symbols
    → with_address k (address_in whole (get_or places k d)) (addressed whole k symbols places) ≡ addressed whole (suc k) symbols places
addressed_step whole k [] places d h e = absurd (omega arith)
addressed_step whole k (s ∷ symbols) [] d h e = absurd (omega arith)
addressed_step whole zero (s ∷ symbols) (p ∷ places) d h e = refl
addressed_step whole (suc k) (s ∷ symbols) (p ∷ places) d h e =
    let less : k < length places = omega arith in
    let long : length places ≡ length symbols = omega arith in
    ap (λ ss. (s.0, address_in whole p) ∷ ss) (addressed_step whole k symbols places d less long)

pub addressed_next : (whole : Layout) (k : ℕ) (symbols : List Symbol) (places : List Place) (d : Place) (old new : List Symbol) (at : ℕ) → k < length places → length places ≡ length symbols
    → old ≡ addressed whole k symbols places → at ≡ address_in whole (get_or places k d) → new ≡ with_address k at old → new ≡ addressed whole (k + 1) symbols places
addressed_next whole k symbols places d old new at h e is where_at set =
    set
    ∙ (ap (λ a. with_address k a old) where_at
    ∙ (ap (λ ss. with_address k (address_in whole (get_or places k d)) ss) is
    ∙ (addressed_step whole k symbols places d h e ∙ ap (λ n. addressed whole n symbols places) (sym (add-one k)))))

pub addressed-length : (whole : Layout) (k : ℕ) (symbols : List Symbol) (places : List Place) → length (addressed whole k symbols places) ≡ length symbols
addressed-length whole zero symbols places = refl
addressed-length whole (suc k) [] places = refl
addressed-length whole (suc k) (s ∷ symbols) [] = refl
addressed-length whole (suc k) (s ∷ symbols) (p ∷ places) = ap suc (addressed-length whole k symbols places)

pub addressed_all : (whole : Layout) (k : ℕ) (symbols : List Symbol) (places : List Place) → length places ≤ k → length places ≡ length symbols
    → addressed whole k symbols places ≡ map (symbol_of whole) (labels_at symbols places)
addressed_all whole zero [] places h e = refl
addressed_all whole (suc k) [] places h e = refl
addressed_all whole k (s ∷ symbols) [] h e = absurd (omega arith)
addressed_all whole zero (s ∷ symbols) (p ∷ places) h e = absurd (omega arith)
addressed_all whole (suc k) (s ∷ symbols) (p ∷ places) h e =
    let less : length places ≤ k = omega arith in
    let long : length places ≡ length symbols = omega arith in
    ap (λ ss. (s.0, address_in whole p) ∷ ss) (addressed_all whole k symbols places less long)

pub address_small : (whole : Layout) (k : ℕ) (symbols : List Symbol) (places : List Place) (d : Place) → k < length places → length places ≡ length symbols
    → AllByRecursion (λ (s : Symbol). s.1 < 2 ^ 32) (map (symbol_of whole) (labels_at symbols places)) → address_in whole (get_or places k d) < 2 ^ 32
address_small whole k [] places d h e small = absurd (omega arith)
address_small whole k (s ∷ symbols) [] d h e small = absurd (omega arith)
address_small whole zero (s ∷ symbols) (p ∷ places) d h e small = small.0
address_small whole (suc k) (s ∷ symbols) (p ∷ places) d h e small =
    let less : k < length places = omega arith in
    let long : length places ≡ length symbols = omega arith in
    address_small whole k symbols places d less long small.1
