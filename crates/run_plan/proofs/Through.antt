-- Passes over lists.
use Rattle.std.proofs.Common.{◌≡◌, ℕ, zero, suc, ◌+◌, ◌<◌, ◌≤◌, List, [], ◌∷◌, length, take, get_or, refl, sym, ap, subst, arith}
use Rattle.std.specs.Prelude.{slice_set}
use Rattle.std.specs.List.{AllByRecursion, AllZip}
use Rattle.run_plan.specs.Passes.{Through}

-- what holds of each element holds at each place
pub all-at : {X : Type 0} (P : X → Type 0) (xs : List X) (k : ℕ) (d : X) → AllByRecursion P xs → k < length xs → P (get_or xs k d)
all-at P [] k d all h = absurd (omega arith)
all-at P (x ∷ xs) zero d all h = all.0
all-at P (x ∷ xs) (suc k) d all h = all-at P xs k d all.1 (omega arith)

-- from the elements of one list to those of another, place by place
pub all-zip : {X Y : Type 0} (R : X → Y → Type 0) (P : X → Type 0) (Q : Y → Type 0) → ((x : X) (y : Y) → R x y → P x → Q y) → (xs : List X) (ys : List Y) → AllZip R xs ys → AllByRecursion P xs → AllByRecursion Q ys
all-zip R P Q f [] [] zip all = tt
all-zip R P Q f [] (y ∷ ys) zip all = absurd zip
all-zip R P Q f (x ∷ xs) [] zip all = absurd zip
all-zip R P Q f (x ∷ xs) (y ∷ ys) zip all = (f x y zip.0 all.0, all-zip R P Q f xs ys zip.1 all.1)

module _ {X : Type 0} (R : X → X → Type 0) where
  pub zip-refl : ((x : X) → R x x) → (xs : List X) → AllZip R xs xs
  zip-refl r [] = tt
  zip-refl r (x ∷ xs) = (r x, zip-refl r xs)

  -- the place that is next is as it was
  pub through-here : (i : ℕ) (xs ys : List X) (d : X) → Through R i xs ys → get_or ys i d ≡ get_or xs i d
  through-here zero xs ys d h = ap (λ zs. get_or zs 0 d) h
  through-here (suc i) [] ys d h = absurd h
  through-here (suc i) (x ∷ xs) [] d h = absurd h
  through-here (suc i) (x ∷ xs) (y ∷ ys) d h = through-here i xs ys d h.1

  pub through-length : (i : ℕ) (xs ys : List X) → Through R i xs ys → length ys ≡ length xs
  through-length zero xs ys h = ap length h
  through-length (suc i) [] ys h = absurd h
  through-length (suc i) (x ∷ xs) [] h = absurd h
  through-length (suc i) (x ∷ xs) (y ∷ ys) h = omega (arith, through-length i xs ys h.1)

  -- what held of each place holds of the one that is next
  pub through-at : (P : X → Type 0) (i : ℕ) (xs ys : List X) (d : X) → Through R i xs ys → AllByRecursion P xs → i < length ys → P (get_or ys i d)
  through-at P i xs ys d h all k =
      subst P (sym (through-here i xs ys d h)) (all-at P xs i d all (omega (arith, through-length i xs ys h)))

  -- the next place is changed
  pub through-more : (i : ℕ) (xs ys : List X) (d y : X) → Through R i xs ys → i < length ys → R (get_or ys i d) y → Through R (i + 1) xs (slice_set ys i y)
  through-more zero xs [] d y h k r = absurd (omega arith)
  through-more zero xs (z ∷ ys) d y h k r = subst (λ zs. Through R 1 zs (y ∷ ys)) h (r, refl)
  through-more (suc i) [] ys d y h k r = absurd h
  through-more (suc i) (x ∷ xs) [] d y h k r = absurd h
  through-more (suc i) (x ∷ xs) (z ∷ ys) d y h k r =
      let p : suc i + 1 ≡ suc (i + 1) = omega arith in
      rw p (h.0, through-more i xs ys d y h.1 (omega arith) r)

  pub through-all : (i : ℕ) (xs ys : List X) → Through R i xs ys → length ys ≤ i → AllZip R xs ys
  through-all zero xs [] h k = subst (λ zs. AllZip R zs []) h tt
  through-all zero xs (y ∷ ys) h k = absurd (omega arith)
  through-all (suc i) [] ys h k = absurd h
  through-all (suc i) (x ∷ xs) [] h k = absurd h
  through-all (suc i) (x ∷ xs) (y ∷ ys) h k = (h.0, through-all i xs ys h.1 (omega arith))

-- a weaker relation holds of all places, where it holds of what is the same
pub through-weaker : {X : Type 0} (R S : X → X → Type 0) → ((x y : X) → R x y → S x y) → ((x : X) → S x x) → (i : ℕ) (xs ys : List X) → Through R i xs ys → AllZip S xs ys
through-weaker R S w r zero xs ys h = subst (λ zs. AllZip S zs ys) h (zip-refl S r ys)
through-weaker R S w r (suc i) [] ys h = absurd h
through-weaker R S w r (suc i) (x ∷ xs) [] h = absurd h
through-weaker R S w r (suc i) (x ∷ xs) (y ∷ ys) h = (w x y h.0, through-weaker R S w r i xs ys h.1)

-- what is so of each changed place
pub zip-second : {X Y : Type 0} (R : X → Y → Type 0) (Q : Y → Type 0) → ((x : X) (y : Y) → R x y → Q y) → (xs : List X) (ys : List Y) → AllZip R xs ys → AllByRecursion Q ys
zip-second R Q f [] [] zip = tt
zip-second R Q f [] (y ∷ ys) zip = absurd zip
zip-second R Q f (x ∷ xs) [] zip = absurd zip
zip-second R Q f (x ∷ xs) (y ∷ ys) zip = (f x y zip.0, zip-second R Q f xs ys zip.1)

pub zip-first : {X : Type 0} (R S : X → X → Type 0) → ((x y : X) → R x y → S x y) → (xs ys : List X) → AllZip R xs ys → AllZip S xs ys
zip-first R S f [] [] zip = tt
zip-first R S f [] (y ∷ ys) zip = absurd zip
zip-first R S f (x ∷ xs) [] zip = absurd zip
zip-first R S f (x ∷ xs) (y ∷ ys) zip = (f x y zip.0, zip-first R S f xs ys zip.1)

pub zip-length : {X Y : Type 0} (R : X → Y → Type 0) (xs : List X) (ys : List Y) → AllZip R xs ys → length ys ≡ length xs
zip-length R [] [] zip = refl
zip-length R [] (y ∷ ys) zip = absurd zip
zip-length R (x ∷ xs) [] zip = absurd zip
zip-length R (x ∷ xs) (y ∷ ys) zip = omega (arith, zip-length R xs ys zip.1)

pub through-to : {X : Type 0} (R S : X → X → Type 0) → ((x y : X) → R x y → S x y) → (i : ℕ) (xs ys : List X) → Through R i xs ys → Through S i xs ys
through-to R S w zero xs ys h = h
through-to R S w (suc i) [] ys h = absurd h
through-to R S w (suc i) (x ∷ xs) [] h = absurd h
through-to R S w (suc i) (x ∷ xs) (y ∷ ys) h = (w x y h.0, through-to R S w i xs ys h.1)

-- the next place is changed, and a weaker relation holds of all places
pub through-next : {X : Type 0} (R S : X → X → Type 0) → ((x y : X) → R x y → S x y) → ((x : X) → S x x) → (i : ℕ) (xs ys : List X) (d y : X) → Through R i xs ys → i < length ys
    → S (get_or ys i d) y → AllZip S xs (slice_set ys i y)
through-next R S w r i xs ys d y h k s =
    through-weaker S S (λ x y s. s) r (i + 1) xs (slice_set ys i y) (through-more S i xs ys d y (through-to R S w i xs ys h) k s)

-- ---- The first places of a list

-- one more of them
first-more : {X : Type 0} (P : X → Type 0) (i : ℕ) (xs : List X) (d : X) → AllByRecursion P (take i xs) → i < length xs → P (get_or xs i d) → AllByRecursion P (take (i + 1) xs)
first-more P i [] d all h p = absurd (omega (arith, h))
first-more P zero (x ∷ xs) d all h p = (p, tt)
first-more P (suc i) (x ∷ xs) d all h p =
    let next : suc i + 1 ≡ suc (i + 1) = omega arith in
    rw next (all.0, first-more P i xs d all.1 (omega (arith, h)) p)

pub first-item : {X : Type 0} (P : X → Type 0) (i : ℕ) (xs : List X) (x : X) → AllByRecursion P (take i xs) → i < length xs → x ≡ get_or xs i x → P x → AllByRecursion P (take (i + 1) xs)
first-item P i xs x all h is p = first-more P i xs x all h (subst P is p)

-- all of them
pub first-all : {X : Type 0} (P : X → Type 0) (i : ℕ) (xs : List X) → AllByRecursion P (take i xs) → length xs ≤ i → AllByRecursion P xs
first-all P i [] all h = tt
first-all P zero (x ∷ xs) all h = absurd (omega (arith, h))
first-all P (suc i) (x ∷ xs) all h = (all.0, first-all P i xs all.1 (omega (arith, h)))

pub all-first : {X : Type 0} (P : X → Type 0) (i : ℕ) (xs : List X) → AllByRecursion P xs → AllByRecursion P (take i xs)
all-first P zero xs all = tt
all-first P (suc i) [] all = tt
all-first P (suc i) (x ∷ xs) all = (all.0, all-first P i xs all.1)

-- what holds of each element, where two other things do
pub all-both : {X : Type 0} (P Q R : X → Type 0) → ((x : X) → P x → Q x → R x) → (xs : List X) → AllByRecursion P xs → AllByRecursion Q xs → AllByRecursion R xs
all-both P Q R f [] p q = tt
all-both P Q R f (x ∷ xs) p q = (f x p.0 q.0, all-both P Q R f xs p.1 q.1)

-- of the places of two lists as long as each other, the first are related
abbrev pub Filled : {X Y : Type 0} → (X → Y → Type 0) → ℕ → List X → List Y → Type 0
Filled R zero xs ys = length ys ≡ length xs
Filled R (suc i) [] ys = ⊥
Filled R (suc i) (x ∷ xs) [] = ⊥
Filled R (suc i) (x ∷ xs) (y ∷ ys) = R x y × Filled R i xs ys

module _ {X Y : Type 0} (R : X → Y → Type 0) where
  -- the next place is set
  pub filled-more : (i : ℕ) (xs : List X) (ys : List Y) (d : X) (y : Y) → Filled R i xs ys → i < length xs → R (get_or xs i d) y → Filled R (i + 1) xs (slice_set ys i y)
  filled-more zero [] ys d y h k r = absurd (omega arith)
  filled-more zero (x ∷ xs) [] d y h k r = absurd (omega (arith, h))
  filled-more zero (x ∷ xs) (z ∷ ys) d y h k r = (r, omega (arith, h))
  filled-more (suc i) [] ys d y h k r = absurd h
  filled-more (suc i) (x ∷ xs) [] d y h k r = absurd h
  filled-more (suc i) (x ∷ xs) (z ∷ ys) d y h k r =
      let p : suc i + 1 ≡ suc (i + 1) = omega arith in
      rw p (h.0, filled-more i xs ys d y h.1 (omega arith) r)

  pub filled-length : (i : ℕ) (xs : List X) (ys : List Y) → Filled R i xs ys → length ys ≡ length xs
  filled-length zero xs ys h = h
  filled-length (suc i) [] ys h = absurd h
  filled-length (suc i) (x ∷ xs) [] h = absurd h
  filled-length (suc i) (x ∷ xs) (y ∷ ys) h = omega (arith, filled-length i xs ys h.1)

  pub filled-all : (i : ℕ) (xs : List X) (ys : List Y) → Filled R i xs ys → length xs ≤ i → AllZip R xs ys
  filled-all zero [] [] h k = tt
  filled-all zero [] (y ∷ ys) h k = absurd (omega (arith, h))
  filled-all zero (x ∷ xs) ys h k = absurd (omega arith)
  filled-all (suc i) [] ys h k = absurd h
  filled-all (suc i) (x ∷ xs) [] h k = absurd h
  filled-all (suc i) (x ∷ xs) (y ∷ ys) h k = (h.0, filled-all i xs ys h.1 (omega arith))
