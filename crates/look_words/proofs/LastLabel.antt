-- The last label up to an address, where labels stand in order.
use Rattle.std.proofs.Common.{◌≡◌, ℕ, zero, suc, ◌-◌, ◌≤◌, ◌<◌, true, false, List, [], ◌∷◌, ◌++◌, take, drop, length, Option, Some, None, refl, ap, sym, ◌∙◌, subst, inl, inr, arith}
use Rattle.std.specs.Prelude.{◌&&◌, nat_lt, slice_get}
use Rattle.std.specs.List.{AllByRecursion}
use Rattle.std.proofs.lemmas.Bool.{cases_Bool, cond-true, cond-false}
use Rattle.std.proofs.lemmas.Bool.Decides.{nat_tests}
use Rattle.std.proofs.lemmas.Option.{slice_get_within}
use Rattle.xs_instructions.specs.Image.{Symbol, AreInOrder, may_follow}
use Rattle.look_model.specs.Places.{is_up_to, later_label, last_label_from}

-- ---- Lists

module _ (P : Symbol → Type 0) where
  abbrev Of : Option Symbol → Type 0
  Of None = Unit {0}
  Of (Some s) = P s

  all-at : (m k : ℕ) (xs : List Symbol) (x : Symbol) → AllByRecursion P (take m xs) → slice_get xs k ≡ Some x → k < m → P x
  all-at m k [] x all is less = absurd cc
  all-at zero k (y ∷ xs) x all is less = absurd (omega (arith, less))
  all-at (suc m) zero (y ∷ xs) x all is less = let same : Some y ≡ Some x = is in subst (λ (o : Option Symbol). Of o) same all.0
  all-at (suc m) (suc k) (y ∷ xs) x all is less = all-at m k xs x all.1 is (omega (arith, less))

  all-from : (m k : ℕ) (xs : List Symbol) (x : Symbol) → AllByRecursion P (drop m xs) → slice_get xs k ≡ Some x → m ≤ k → P x
  all-from m k [] x all is most = absurd cc
  all-from zero zero (y ∷ xs) x all is most = let same : Some y ≡ Some x = is in subst (λ (o : Option Symbol). Of o) same all.0
  all-from zero (suc k) (y ∷ xs) x all is most = all-from zero k xs x all.1 is (omega arith)
  all-from (suc m) zero (y ∷ xs) x all is most = absurd (omega (arith, most))
  all-from (suc m) (suc k) (y ∷ xs) x all is most = all-from m k xs x all is (omega (arith, most))

  all-joined : (n : ℕ) (xs : List Symbol) → AllByRecursion P (take n xs) → AllByRecursion P (drop n xs) → AllByRecursion P xs
  all-joined n [] front rest = tt
  all-joined zero (x ∷ xs) front rest = rest
  all-joined (suc n) (x ∷ xs) front rest = (front.0, all-joined n xs front.1 rest)

  all-left : (n : ℕ) (xs : List Symbol) → AllByRecursion P xs → AllByRecursion P (drop n xs)
  all-left zero xs all = all
  all-left (suc n) [] all = tt
  all-left (suc n) (x ∷ xs) all = all-left n xs all.1

all-so : (P Q : Symbol → Type 0) → ((x : Symbol) → P x → Q x) → (xs : List Symbol) → AllByRecursion P xs → AllByRecursion Q xs
all-so P Q f [] all = tt
all-so P Q f (x ∷ xs) all = (f x all.0, all-so P Q f xs all.1)

parts-of : (k : ℕ) (xs : List Symbol) (x : Symbol) → slice_get xs k ≡ Some x → take k xs ++ x ∷ drop (suc k) xs ≡ xs
parts-of k [] x is = absurd cc
parts-of zero (y ∷ xs) x is = let same : Some y ≡ Some x = is in ap (λ (z : Symbol). z ∷ xs) (sym (some-same y x same))
  where
    some-same : (y x : Symbol) → Some y ≡ Some x → y ≡ x
    some-same y x e = cc
parts-of (suc k) (y ∷ xs) x is = ap (λ (l : List Symbol). y ∷ l) (parts-of k xs x is)

there : (k : ℕ) (xs : List Symbol) → k < length xs → (x : Symbol) × (slice_get xs k ≡ Some x)
there k [] less = absurd (omega (arith, less))
there zero (y ∷ xs) less = (y, refl)
there (suc k) (y ∷ xs) less = there k xs (omega (arith, less))

-- ---- Labels up to an address stand first

earlier : (pc : ℕ) (s t : Symbol) → may_follow s.1 t.1 ≡ true → is_up_to pc t ≡ true → is_up_to pc s ≡ true
earlier pc s t follows up = grind (arith, nat_tests)

later : (pc : ℕ) (s t : Symbol) → may_follow s.1 t.1 ≡ true → is_up_to pc s ≡ false → is_up_to pc t ≡ false
later pc s t follows past = grind (arith, nat_tests)

ordered_rest : (s : Symbol) (symbols : List Symbol) → AreInOrder (s ∷ symbols) → AreInOrder symbols
ordered_rest s [] order = tt
ordered_rest s (t ∷ symbols) order = order.1

pub front-up : (pc k : ℕ) (s : Symbol) (symbols : List Symbol) → AreInOrder symbols → slice_get symbols k ≡ Some s → is_up_to pc s ≡ true
    → AllByRecursion (λ (t : Symbol). is_up_to pc t ≡ true) (take (suc k) symbols)
front-up pc k s [] order is up = absurd cc
front-up pc zero s (x ∷ symbols) order is up = (cc, tt)
front-up pc (suc k) s (x ∷ []) order is up = absurd cc
front-up pc (suc k) s (x ∷ y ∷ symbols) order is up = let rest = front-up pc k s (y ∷ symbols) order.1 is up in (earlier pc x y order.0 rest.0, rest)

all-past : (pc : ℕ) (x : Symbol) (symbols : List Symbol) → AreInOrder (x ∷ symbols) → is_up_to pc x ≡ false → AllByRecursion (λ (t : Symbol). is_up_to pc t ≡ false) (x ∷ symbols)
all-past pc x [] order past = (past, tt)
all-past pc x (y ∷ symbols) order past = (past, all-past pc y symbols order.1 (later pc x y order.0 past))

pub rest-past : (pc k : ℕ) (s : Symbol) (symbols : List Symbol) → AreInOrder symbols → slice_get symbols k ≡ Some s → is_up_to pc s ≡ false
    → AllByRecursion (λ (t : Symbol). is_up_to pc t ≡ false) (drop k symbols)
rest-past pc k s [] order is past = absurd cc
rest-past pc zero s (x ∷ symbols) order is past = all-past pc x symbols order cc
rest-past pc (suc k) s (x ∷ symbols) order is past = rest-past pc k s symbols (ordered_rest x symbols order) is past

-- ---- The last of them

abbrev IsBelow : ℕ → Option Symbol → Type 0
IsBelow a None = Unit {0}
IsBelow a (Some best) = best.1 < a

below-still : (pc a : ℕ) (best : Option Symbol) (x : Symbol) → IsBelow a best → x.1 < a → IsBelow a (later_label pc best x)
below-still pc a None x below less =
    elim (cases_Bool (is_up_to pc x)) [
      | inl e ↦ subst (λ (o : Option Symbol). IsBelow a o) (sym (cond-true _ _ _ e)) less
      | inr e ↦ subst (λ (o : Option Symbol). IsBelow a o) (sym (cond-false _ _ _ e)) tt
    ]
below-still pc a (Some best) x below less =
    elim (cases_Bool (is_up_to pc x && nat_lt best.1 x.1)) [
      | inl e ↦ subst (λ (o : Option Symbol). IsBelow a o) (sym (cond-true _ _ _ e)) less
      | inr e ↦ subst (λ (o : Option Symbol). IsBelow a o) (sym (cond-false _ _ _ e)) below
    ]

stays : (pc : ℕ) (s : Symbol) (rest : List Symbol) → AllByRecursion (λ (t : Symbol). (is_up_to pc t && nat_lt s.1 t.1) ≡ false) rest → last_label_from (Some s) pc rest ≡ Some s
stays pc s [] none = refl
stays pc s (t ∷ rest) none = ap (λ (best : Option Symbol). last_label_from best pc rest) (cond-false _ _ _ none.0) ∙ stays pc s rest none.1

found : (pc : ℕ) (best : Option Symbol) (front rest : List Symbol) (s : Symbol) → IsBelow s.1 best → AllByRecursion (λ (t : Symbol). t.1 < s.1) front → is_up_to pc s ≡ true
    → AllByRecursion (λ (t : Symbol). (is_up_to pc t && nat_lt s.1 t.1) ≡ false) rest → last_label_from best pc (front ++ s ∷ rest) ≡ Some s
found pc best (x ∷ front) rest s below less up none = found pc (later_label pc best x) front rest s (below-still pc s.1 best x below less.0) less.1 up none
found pc None [] rest s below less up none = ap (λ (best : Option Symbol). last_label_from best pc rest) (cond-true _ _ _ up) ∙ stays pc s rest none
found pc (Some best) [] rest s below less up none =
    let more : is_up_to pc s && nat_lt best.1 s.1 ≡ true = grind (arith, nat_tests) in
    ap (λ (best : Option Symbol). last_label_from best pc rest) (cond-true _ _ _ more) ∙ stays pc s rest none

-- where none stands up to the address
pub none-up : (pc : ℕ) (symbols : List Symbol) → AllByRecursion (λ (t : Symbol). is_up_to pc t ≡ false) symbols → last_label_from None pc symbols ≡ None
none-up pc [] past = refl
none-up pc (t ∷ symbols) past = ap (λ (best : Option Symbol). last_label_from best pc symbols) (cond-false _ _ _ past.0) ∙ none-up pc symbols past.1

-- the first of those at the last address
first-found : (pc m : ℕ) (s : Symbol) (symbols : List Symbol) → slice_get symbols m ≡ Some s → AllByRecursion (λ (t : Symbol). t.1 < s.1) (take m symbols) → is_up_to pc s ≡ true
    → AllByRecursion (λ (t : Symbol). (is_up_to pc t && nat_lt s.1 t.1) ≡ false) symbols → slice_get symbols m ≡ last_label_from None pc symbols
first-found pc m s symbols is less up none =
    is
    ∙ (sym (found pc None (take m symbols) (drop (suc m) symbols) s tt less up (all-left (λ t. (is_up_to pc t && nat_lt s.1 t.1) ≡ false) (suc m) symbols none))
    ∙ ap (λ (l : List Symbol). last_label_from None pc l) (parts-of m symbols s is))

-- where n + 1 do, and m stand before the address of the last of them
pub last-up : (pc n m : ℕ) (l : Symbol) (symbols : List Symbol) → AreInOrder symbols → slice_get symbols n ≡ Some l
    → AllByRecursion (λ (t : Symbol). is_up_to pc t ≡ true) (take (suc n) symbols) → AllByRecursion (λ (t : Symbol). is_up_to pc t ≡ false) (drop (suc n) symbols)
    → AllByRecursion (λ (t : Symbol). is_up_to (l.1 - 1) t ≡ true) (take m symbols) → AllByRecursion (λ (t : Symbol). is_up_to (l.1 - 1) t ≡ false) (drop m symbols)
    → slice_get symbols m ≡ last_label_from None pc symbols
last-up pc n m l symbols order is up past before after =
    let last : is_up_to pc l ≡ true = all-at (λ t. is_up_to pc t ≡ true) (suc n) n symbols l up is (omega arith) in
    let own : is_up_to l.1 l ≡ true = grind (arith, nat_tests) in
    let not_before : is_up_to (l.1 - 1) l ≡ false = grind (arith, nat_tests) in
    let few : m ≤ n = no_more not_before in
    let within : n < length symbols = slice_get_within symbols n l is in
    let first = there m symbols (omega (arith, few, within)) in
    let s = first.0 in
    let up_to_last = front-up l.1 n l symbols order is own in
    let here : is_up_to pc s ≡ true = all-at (λ t. is_up_to pc t ≡ true) (suc n) m symbols s up first.1 (omega (arith, few)) in
    let most : is_up_to l.1 s ≡ true = all-at (λ t. is_up_to l.1 t ≡ true) (suc n) m symbols s up_to_last first.1 (omega (arith, few)) in
    let least : is_up_to (l.1 - 1) s ≡ false = all-from (λ t. is_up_to (l.1 - 1) t ≡ false) m m symbols s after first.1 (omega arith) in
    let same : s.1 ≡ l.1 = grind (arith, nat_tests) in
    let less = all-so (λ t. is_up_to (l.1 - 1) t ≡ true) (λ t. t.1 < s.1) (λ t e. grind (arith, nat_tests)) (take m symbols) before in
    let none = all-joined (λ t. (is_up_to pc t && nat_lt s.1 t.1) ≡ false) (suc n) symbols
    (all-so (λ t. is_up_to l.1 t ≡ true) (λ t. (is_up_to pc t && nat_lt s.1 t.1) ≡ false) (λ t e. grind (arith, nat_tests)) (take (suc n) symbols) up_to_last)
    (all-so (λ t. is_up_to pc t ≡ false) (λ t. (is_up_to pc t && nat_lt s.1 t.1) ≡ false) (λ t e. grind (arith, nat_tests)) (drop (suc n) symbols) past) in
    first-found pc m s symbols first.1 less here none
  where
    no_more : is_up_to (l.1 - 1) l ≡ false → m ≤ n
    no_more e = elim (cases_Bool (nat_lt n m)) [
      | inl more ↦ let yes : is_up_to (l.1 - 1) l ≡ true = all-at (λ t. is_up_to (l.1 - 1) t ≡ true) m n symbols l before is (grind (arith, nat_tests)) in absurd cc
      | inr few ↦ grind (arith, nat_tests)
    ]
