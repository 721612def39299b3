-- What may be in flight on directed links and wires before a slot.
use Rattle.std.specs.Prelude.{ℕ, ◌≡◌, ◌⊎◌, ◌-◌, ◌≤◌, ◌<◌, ◌^◌, IsTrue, Bool, true, false, List, [], ◌∷◌}
use Rattle.std.specs.List.{AllByRecursion}
use Rattle.xs_base.specs.Numbers.{Slot}
use Rattle.xs_base.specs.declared.token.Token.TheVariants.{Byte, Ctrl}
use Rattle.xs_base.specs.declared.entry.Entry.{Entry}
use Rattle.xs_base.specs.declared.entry.What.{What}
use Rattle.xs_base.specs.declared.entry.What.TheVariants.{Token, Credit, Level}

-- what a directed link carries: a data byte, a control token or a credit
abbrev pub IsOfLink : What → Type 0
IsOfLink (Token (Byte b)) = b < 256
IsOfLink (Token (Ctrl c)) = c < 256
IsOfLink Credit = Unit {0}
IsOfLink (Level n) = ⊥

-- what a wire between pins of this width carries: a level
abbrev pub IsOfWire : ℕ → What → Type 0
IsOfWire width (Level n) = n < 2 ^ width
IsOfWire width _ = ⊥

abbrev pub is_token : What → Bool
is_token (Token t) = true
is_token _ = false

abbrev pub is_credit : What → Bool
is_credit Credit = true
is_credit _ = false

-- sent from a delay before a slot on, or from slot 0 on, and before the slot
pub record IsInFlight (slot : Slot) (delay : ℕ) (e : Entry) : Type 0 where
  pub sent : slot - delay ≤ e.slot
  pub before : e.slot < slot

-- In a slot there are at most one token and one credit, the token first.
abbrev pub ComesBefore : Entry → Entry → Type 0
ComesBefore e f = (e.slot < f.slot) ⊎ ((e.slot ≡ f.slot) × IsTrue (is_token e.what) × IsTrue (is_credit f.what))

-- In a slot there is at most one level.
abbrev pub IsEarlier : Entry → Entry → Type 0
IsEarlier e f = e.slot < f.slot

-- each entry stands so to all those after it
abbrev pub StandSo : (Entry → Entry → Type 0) → List Entry → Type 0
StandSo so [] = Unit {0}
StandSo so (e ∷ es) = AllByRecursion (so e) es × StandSo so es

-- the entries of a directed link that are in flight before a slot
pub record AreLinkEntries (slot : Slot) (delay : ℕ) (entries : List Entry) : Type 0 where
  pub in_flight : AllByRecursion (IsInFlight slot delay) entries
  pub kinds : AllByRecursion (λ e. IsOfLink e.what) entries
  pub order : StandSo ComesBefore entries

-- the entries of a wire between pins of this width that are in flight before a slot
pub record AreWireEntries (slot : Slot) (delay width : ℕ) (entries : List Entry) : Type 0 where
  pub in_flight : AllByRecursion (IsInFlight slot delay) entries
  pub kinds : AllByRecursion (λ e. IsOfWire width e.what) entries
  pub order : StandSo IsEarlier entries
