-- What is known of a choice that gives something.
use Rattle.std.proofs.Common.{◌≡◌, ℕ, ◌≤◌, Bool, true, false, nat_le, Option, Some, None, refl, arith}
use Rattle.std.specs.Prelude.{if◌then◌else◌}
use Rattle.std.proofs.lemmas.Bool.Decides.{nat_tests}
use Rattle.xs_text.specs.Numbers.{at_most}
use Rattle.pin_scripts.specs.Pins.{◌>>=◌}
use Rattle.wave_model.specs.Reads.{Reading, when}

-- what is there is one thing
pub same_some : {A : Type 0} (x y : A) → Some x ≡ Some y → x ≡ y
same_some x y h = cc

-- something is not nothing
pub no_some : {A P : Type 0} (x : A) → None ≡ Some x → P
no_some x h = absurd (cc)

-- something where a test refuses
pub some_unless : {A : Type 0} (t : Bool) (o : Option A) (x : A) → (if t then None else o) ≡ Some x → (t ≡ false) × (o ≡ Some x)
some_unless true o x h = no_some x h
some_unless false o x h = (refl, h)

-- something where a test passes
pub some_where : {A : Type 0} (t : Bool) (o : Option A) (x : A) → (if t then o else None) ≡ Some x → (t ≡ true) × (o ≡ Some x)
some_where true o x h = (refl, h)
some_where false o x h = no_some x h

-- something after something
pub some_after : {A B : Type 0} (o : Option A) (f : A → Option B) (y : B) → (o >>= f) ≡ Some y → (x : A) × (o ≡ Some x) × (f x ≡ Some y)
some_after None f y h = no_some y h
some_after (Some x) f y h = (x, refl, h)

-- a number that is not too great
pub some_at_most : (limit : ℕ) (o : Option ℕ) (n : ℕ) → at_most limit o ≡ Some n → (o ≡ Some n) × (n ≤ limit)
some_at_most limit None n h = no_some n h
some_at_most limit (Some m) n h = by (nat_le m limit) refl h
  where
    by : (t : Bool) → nat_le m limit ≡ t → (if t then Some m else None) ≡ Some n → (Some m ≡ Some n) × (n ≤ limit)
    by true e f = let same = same_some m n f in (f, grind (arith, nat_tests))
    by false e f = no_some n f

-- a reading where a test passes
pub some_when : (t : Bool) (reading after : Reading) → when t reading ≡ Some after → (t ≡ true) × (reading ≡ after)
some_when true reading after h = (refl, same_some reading after h)
some_when false reading after h = no_some after h
