-- Which values have the forms of fields and of lists.
use Rattle.std.proofs.Common.{◌≡◌, ℕ, suc, ◌<◌, Bool, true, false, List, [], ◌∷◌, ◌++◌, length, get_or, Option, Some, None, refl, arith}
use Rattle.std.proofs.lemmas.Bool.{ltb-true, lt-ltb}
use Rattle.std.specs.Prelude.{IfSome}
use Rattle.std.specs.List.{AllByRecursion}
use Rattle.byte_forms.specs.Forms.{Form, flag, option_below, HoldInChain, repeat}

pub flag_holds : (there : Bool) → flag.Holds there
flag_holds true = (omega arith, refl)
flag_holds false = (omega arith, refl)

-- ---- Options

module _ (f : Form ℕ) (limit : ℕ) where
  pub option_below_holds : (o : Option ℕ) → (option_below f limit).Holds o → IfSome o (λ n. n < limit)
  option_below_holds None h = tt
  option_below_holds (Some n) h = ltb-true n limit h.1.1

  pub option_below_of : f.Holds 0 → (o : Option ℕ) → IfSome o f.Holds → IfSome o (λ n. n < limit) → (option_below f limit).Holds o
  option_below_of none None fits h = (flag_holds false, (none, refl))
  option_below_of none (Some n) fits h = (flag_holds true, (fits, lt-ltb n limit h))

-- ---- Lists

module _ {A : Type 0} (f : Form A) where
  in_chain : (before xs : List A) → HoldInChain (λ (b : List A). f) before xs → AllByRecursion f.Holds xs
  unfolding HoldInChain
  in_chain before [] h = tt
  in_chain before (x ∷ xs) h = (h.0, in_chain (before ++ x ∷ []) xs h.1)

  chain_of : (before xs : List A) → AllByRecursion f.Holds xs → HoldInChain (λ (b : List A). f) before xs
  unfolding HoldInChain
  chain_of before [] h = tt
  chain_of before (x ∷ xs) h = (h.0, chain_of (before ++ x ∷ []) xs h.1)

  pub repeat_holds : (n : ℕ) (xs : List A) → (repeat n f).Holds xs → AllByRecursion f.Holds xs
  repeat_holds n xs h = in_chain [] xs h.1

  pub repeat_of : (n : ℕ) (xs : List A) → length xs ≡ n → AllByRecursion f.Holds xs → (repeat n f).Holds xs
  repeat_of n xs len h = (len, chain_of [] xs h)

-- a weaker fact of each
pub each_as : {A : Type 0} {P Q : A → Type 0} → ((a : A) → P a → Q a) → (xs : List A) → AllByRecursion P xs → AllByRecursion Q xs
each_as weaker [] h = tt
each_as weaker (x ∷ xs) h = (weaker x h.0, each_as weaker xs h.1)

-- a list of words
pub words_fit : (xs : List ℕ) → ((i : ℕ) → get_or xs i 0 < 4294967296) → AllByRecursion (λ (n : ℕ). n < 4294967296) xs
words_fit [] fit = tt
words_fit (x ∷ xs) fit = (fit 0, words_fit xs (λ i. fit (suc i)))
