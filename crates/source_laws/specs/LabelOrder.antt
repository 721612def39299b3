-- The labels of an image as they are walked beside its places, in order.
use Rattle.std.specs.Prelude.{ℕ, ◌≡◌, true, false, ◌==◌, if◌then◌else◌, List, [], ◌∷◌, filter}
use Rattle.std.specs.List.{AllByRecursion}
use Rattle.xs_instructions.specs.Image.{Symbol, may_follow}

-- the symbols that stand first and have the address
unfoldable pub first_at : ℕ → List Symbol → List Symbol
first_at at [] = []
first_at at (s ∷ symbols) = if s.1 == at then s ∷ first_at at symbols else []

-- the symbols after those
unfoldable pub past_address : ℕ → List Symbol → List Symbol
past_address at [] = []
past_address at (s ∷ symbols) = if s.1 == at then past_address at symbols else s ∷ symbols

-- the symbols with an address
abbrev pub symbols_at : ℕ → List Symbol → List Symbol
symbols_at at symbols = filter (λ (s : Symbol). s.1 == at) symbols

-- the symbols with this address or one that comes later
abbrev pub symbols_from : ℕ → List Symbol → List Symbol
symbols_from at symbols = filter (λ (s : Symbol). may_follow at s.1) symbols

-- one address comes right after another: no symbol stands between
pub record IsNext (at next : ℕ) (symbols : List Symbol) : Type 0 where
  pub follows : may_follow at next ≡ true
  pub past : may_follow next at ≡ false
  pub gap : AllByRecursion (λ (s : Symbol). may_follow at s.1 ≡ true → (s.1 == at) ≡ false → may_follow next s.1 ≡ true) symbols
