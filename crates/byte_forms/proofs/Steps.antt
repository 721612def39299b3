-- What a step of a reading that did not fail, or failed, says.
use Rattle.std.proofs.Common.{◌≡◌, ℕ, ◌+◌, ◌⊎◌, Bool, true, false, cond, List, ◌++◌, length, get_or, Result, Ok, Err, refl, ap, ◌∙◌, arith, inl, inr}
use Rattle.std.proofs.lemmas.List.{get_or-append-add}
use Rattle.byte_forms.specs.Forms.{◌>>=◌, AreBytes}

abbrev done : {A : Type 0} → A → Result A ℕ
done x = Ok x

pub ok_is : {A : Type 0} (x y : A) → done x ≡ done y → x ≡ y
ok_is x y e = cc

pub bind_ok : {A B : Type 0} (r : Result A ℕ) (f : A → Result B ℕ) (y : B) → (r >>= f) ≡ Ok y → (x : A) × (r ≡ Ok x) × (f x ≡ Ok y)
bind_ok (Ok x) f y e = (x, refl, e)
bind_ok (Err d) f y e = absurd cc

pub bind_err : {A B : Type 0} (r : Result A ℕ) (f : A → Result B ℕ) (left : ℕ) → (r >>= f) ≡ Err left → (r ≡ Err left) ⊎ ((x : A) × (r ≡ Ok x) × (f x ≡ Err left))
bind_err (Ok x) f left e = inr (x, refl, e)
bind_err (Err d) f left e = let h : d ≡ left = cc in inl (ap (λ (n : ℕ). Err n) h)

-- a fact that held
pub fact_ok : {A : Type 0} (b : Bool) (d : ℕ) (x y : A) → cond b (Ok x) (Err d) ≡ Ok y → (b ≡ true) × (x ≡ y)
fact_ok true d x y e = (refl, cc)
fact_ok false d x y e = absurd cc

-- a fact that did not
pub fact_err : {A : Type 0} (b : Bool) (d left : ℕ) (x : A) → cond b (Ok x) (Err d) ≡ Err left → d ≡ left
fact_err true d left x e = absurd cc
fact_err false d left x e = cc

-- bytes that were not too few
pub long_ok : {A : Type 0} (b : Bool) (d : ℕ) (x y : A) → cond b (Err d) (Ok x) ≡ Ok y → (b ≡ false) × (x ≡ y)
long_ok true d x y e = absurd cc
long_ok false d x y e = (refl, cc)

pub long_err : {A : Type 0} (b : Bool) (d left : ℕ) (x : A) → cond b (Err d) (Ok x) ≡ Err left → d ≡ left
long_err true d left x e = cc
long_err false d left x e = absurd cc

-- what follows bytes is bytes
pub bytes_after : (bytes front rest : List ℕ) → AreBytes bytes → bytes ≡ front ++ rest → AreBytes rest
bytes_after bytes front rest fit e i =
    let h : get_or bytes (length front + i) 0 ≡ get_or rest i 0 = ap (λ (xs : List ℕ). get_or xs (length front + i) 0) e ∙ get_or-append-add front rest i 0 in
    let k = fit (length front + i) in omega arith
