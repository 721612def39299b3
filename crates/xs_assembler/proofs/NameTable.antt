-- A table of names finds what the labels have, also with a label more.
use Rattle.std.proofs.Common.{◌≡◌, ℕ, zero, suc, ◌+◌, Bool, true, false, if◌then◌else◌, ◌||◌, List, [], ◌∷◌, ◌++◌, length, take, Option, Some, None, option_map, refl, sym, ap, ◌∙◌, arith, add-one, nat_lt, length-append}
use Rattle.std.specs.Prelude.{is_some, is_none, slice_get, option_and_then}
use Rattle.std.proofs.lemmas.Bool.{cond-true, cond-false}
use Rattle.std.proofs.lemmas.Bool.Decides.{nat_tests}
use Rattle.std.proofs.Math.Bool.{or-true}
use Rattle.xs_instructions.specs.Image.{Symbol, is_reserved, address_of, number_from, number_of, defined}
use Rattle.xs_instructions.specs.Words.{same_name}
use Rattle.source_model.specs.declared.layout.Place.{Place}
use Rattle.source_model.specs.Layout.{Label, place_of, define}
use Rattle.xs_assembler.specs.Names.{labels_at}

-- numbers, where one symbol more stands in front

abbrev after : Option ℕ → Option ℕ
after o = option_map (λ k. k + 1) o

after_step : (b : Bool) (k : ℕ) (o p : Option ℕ) → p ≡ after o → (if b then Some (k + 1) else p) ≡ after (if b then Some k else o)
after_step true k o p e = refl
after_step false k o p e = e

number_from-after : (k : ℕ) (symbols : List Symbol) (name : List ℕ) → number_from (k + 1) symbols name ≡ after (number_from k symbols name)
number_from-after k [] name = refl
number_from-after k (s ∷ symbols) name = after_step (same_name s.0 name) k _ _ (number_from-after (k + 1) symbols name)

number_of-after : (symbols : List Symbol) (name : List ℕ) → number_from 1 symbols name ≡ after (number_of symbols name)
number_of-after symbols name = number_from-after 0 symbols name

-- the place of a name

read_after : (p : Place) (places : List Place) (o : Option ℕ) → option_and_then (slice_get (p ∷ places)) (after o) ≡ option_and_then (slice_get places) o
read_after p places None = refl
read_after p places (Some k) = rw (add-one k) refl

find_step : (b : Bool) (p : Place) (places : List Place) (o q : Option ℕ) (r : Option Place) → q ≡ after o → option_and_then (slice_get places) o ≡ r
    → option_and_then (slice_get (p ∷ places)) (if b then Some 0 else q) ≡ (if b then Some p else r)
find_step true p places o q r e f = refl
find_step false p places o q r e f = ap (λ x. option_and_then (slice_get (p ∷ places)) x) e ∙ (read_after p places o ∙ f)

pub find_is : (name : List ℕ) (symbols : List Symbol) (places : List Place) → length places ≡ length symbols
    → option_and_then (slice_get places) (number_of symbols name) ≡ place_of (labels_at symbols places) name
unfolding place_of
find_is name [] places e = refl
find_is name (s ∷ symbols) [] e = absurd (omega arith)
find_is name (s ∷ symbols) (p ∷ places) e =
    let long : length places ≡ length symbols = omega arith in
    find_step (same_name s.0 name) p places _ _ _ (number_of-after symbols name) (find_is name symbols places long)

-- whether a name is among the first

abbrev pub is_below : ℕ → Option ℕ → Bool
is_below first None = false
is_below first (Some k) = nat_lt k first

none_below : (o : Option ℕ) → is_below 0 o ≡ false
none_below None = refl
none_below (Some k) = grind (arith, nat_tests)

below_after : (n : ℕ) (o : Option ℕ) → is_below (suc n) (after o) ≡ is_below n o
below_after n None = refl
below_after n (Some k) = grind (arith, nat_tests)

first_below : (n : ℕ) → nat_lt 0 (suc n) ≡ true
first_below n = grind (arith, nat_tests)

among_step : (b : Bool) (n : ℕ) (p : Place) (o q : Option ℕ) (r : Option Place) → q ≡ after o → is_below n o ≡ is_some r
    → is_below (suc n) (if b then Some 0 else q) ≡ is_some (if b then Some p else r)
among_step true n p o q r e f = first_below n
among_step false n p o q r e f = ap (λ x. is_below (suc n) x) e ∙ (below_after n o ∙ f)

pub among_is : (name : List ℕ) (first : ℕ) (symbols : List Symbol) (places : List Place) → length places ≡ length symbols
    → is_below first (number_of symbols name) ≡ is_some (place_of (take first (labels_at symbols places)) name)
unfolding place_of
among_is name zero [] places e = refl
among_is name (suc n) [] places e = refl
among_is name first (s ∷ symbols) [] e = absurd (omega arith)
among_is name zero (s ∷ symbols) (p ∷ places) e = none_below (number_of (s ∷ symbols) name)
among_is name (suc n) (s ∷ symbols) (p ∷ places) e =
    let long : length places ≡ length symbols = omega arith in
    among_step (same_name s.0 name) n p _ _ _ (number_of-after symbols name) (among_is name n symbols places long)

-- a label more

pub define_new : (place : Place) (name : List ℕ) (labels : List Label) → is_reserved name ≡ false → is_some (place_of labels name) ≡ false → define place name labels ≡ labels ++ (name, place) ∷ []
define_new place name labels e f = cond-false _ _ _ (ap (λ b. b || is_some (place_of labels name)) e ∙ f)

pub define_old : (place : Place) (name : List ℕ) (labels : List Label) → is_some (place_of labels name) ≡ true → define place name labels ≡ labels
define_old place name labels e = cond-true _ _ _ (ap (λ b. is_reserved name || b) e ∙ or-true (is_reserved name))

pub define_reserved : (place : Place) (name : List ℕ) (labels : List Label) → is_reserved name ≡ true → define place name labels ≡ labels
define_reserved place name labels e = cond-true _ _ _ (ap (λ b. b || is_some (place_of labels name)) e)

known_step : (b : Bool) (at : ℕ) (p : Place) (o : Option ℕ) (r : Option Place) → is_some o ≡ is_some r → is_some (if b then Some at else o) ≡ is_some (if b then Some p else r)
known_step true at p o r e = refl
known_step false at p o r e = e

known_is : (name : List ℕ) (symbols : List Symbol) (places : List Place) → length places ≡ length symbols → is_some (address_of symbols name) ≡ is_some (place_of (labels_at symbols places) name)
unfolding place_of
known_is name [] places e = refl
known_is name (s ∷ symbols) [] e = absurd (omega arith)
known_is name (s ∷ symbols) (p ∷ places) e =
    let long : length places ≡ length symbols = omega arith in
    known_step (same_name s.0 name) s.1 p _ _ (known_is name symbols places long)

one_more : (symbols : List Symbol) (places : List Place) (s : Symbol) (p : Place) → length places ≡ length symbols
    → labels_at (symbols ++ s ∷ []) (places ++ p ∷ []) ≡ labels_at symbols places ++ (s.0, p) ∷ []
one_more [] [] s p e = refl
one_more [] (q ∷ places) s p e = absurd (omega arith)
one_more (t ∷ symbols) [] s p e = absurd (omega arith)
one_more (t ∷ symbols) (q ∷ places) s p e =
    let long : length places ≡ length symbols = omega arith in
    ap (λ ls. (t.0, q) ∷ ls) (one_more symbols places s p long)

some_of_none : (o : Option ℕ) (b : Bool) → b ≡ is_none o → is_some o ≡ (if b then false else true)
some_of_none None b e = ap (λ x. if x then false else true) (sym e)
some_of_none (Some x) b e = ap (λ x. if x then false else true) (sym e)

-- the table after a name that it has, and after one that it has not
module _ (name : List ℕ) (place : Place) (at : ℕ) (symbols more : List Symbol) (places : List Place) (long : length places ≡ length symbols) (free : is_reserved name ≡ false)
    (is : more ≡ defined name at symbols) where
  same_symbols : false ≡ is_none (address_of symbols name) → more ≡ symbols
  same_symbols old = is ∙ cond-true _ _ _ (some_of_none (address_of symbols name) false old)

  pub table_same : false ≡ is_none (address_of symbols name) → labels_at more places ≡ define place name (labels_at symbols places)
  table_same old =
      ap (λ ss. labels_at ss places) (same_symbols old)
      ∙ sym (define_old place name (labels_at symbols places) (sym (known_is name symbols places long) ∙ some_of_none (address_of symbols name) false old))

  pub long_same : false ≡ is_none (address_of symbols name) → length places ≡ length more
  long_same old = long ∙ sym (ap length (same_symbols old))

  more_symbols : true ≡ is_none (address_of symbols name) → more ≡ symbols ++ (name, at) ∷ []
  more_symbols new = is ∙ cond-false _ _ _ (some_of_none (address_of symbols name) true new)

  module _ (later : List Place) (pushed : later ≡ places ++ place ∷ []) where
    pub table_more : true ≡ is_none (address_of symbols name) → labels_at more later ≡ define place name (labels_at symbols places)
    table_more new =
        ap (λ ss. labels_at ss later) (more_symbols new)
        ∙ (ap (λ ps. labels_at (symbols ++ (name, at) ∷ []) ps) pushed
        ∙ (one_more symbols places (name, at) place long
        ∙ sym (define_new place name (labels_at symbols places) free (sym (known_is name symbols places long) ∙ some_of_none (address_of symbols name) true new))))

    pub long_more : true ≡ is_none (address_of symbols name) → length later ≡ length more
    long_more new = omega (arith, ap length (more_symbols new), ap length pushed, length-append symbols ((name, at) ∷ []), length-append places (place ∷ []))

-- as many labels as places
pub labels_at-length : (symbols : List Symbol) (places : List Place) → length places ≡ length symbols → length (labels_at symbols places) ≡ length places
labels_at-length [] [] e = refl
labels_at-length [] (p ∷ places) e = absurd (omega arith)
labels_at-length (s ∷ symbols) [] e = absurd (omega arith)
labels_at-length (s ∷ symbols) (p ∷ places) e =
    let long : length places ≡ length symbols = omega arith in
    ap suc (labels_at-length symbols places long)
