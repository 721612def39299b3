-- The entries of a directed link or a wire over some slots, of those that it has at each slot, and how many tokens, levels and credits are
-- among entries.
use Rattle.std.specs.Prelude.{ℕ, zero, suc, ◌+◌, ◌-◌, Bool, true, false, not, List, [], ◌++◌, length, filter}
use Rattle.xs_base.specs.Numbers.{Slot}
use Rattle.xs_base.specs.declared.entry.Entry.{Entry}
use Rattle.xs_base.specs.declared.entry.What.{What}
use Rattle.xs_base.specs.declared.entry.What.TheVariants.{Credit}

-- over so many slots from one on
abbrev pub entries_over : (Slot → List Entry) → Slot → ℕ → List Entry
entries_over at from zero = []
entries_over at from (suc slots) = entries_over at from slots ++ at (from + slots)

-- from a slot on and before another
abbrev pub between : (Slot → List Entry) → Slot → Slot → List Entry
between at from to = entries_over at from (to - from)

abbrev pub is_credit : What → Bool
is_credit Credit = true
is_credit _ = false

-- what carries something: a token, or a level of a wire
abbrev pub is_token : What → Bool
is_token what = not (is_credit what)

-- how many of the entries are tokens, or levels of a wire, and how many are credits
abbrev pub tokens_in : List Entry → ℕ
tokens_in entries = length (filter (λ (e : Entry). is_token e.what) entries)

abbrev pub credits_in : List Entry → ℕ
credits_in entries = length (filter (λ (e : Entry). is_credit e.what) entries)
