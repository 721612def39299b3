-- What crosses a link end in a slot, and which entries of a history arrive in one.
use Rattle.std.specs.Prelude.{ℕ, zero, suc, ◌≡◌, ◌+◌, ◌<◌, ◌≤◌, Bool, true, false, ◌==◌, nat_lt, if◌then◌else◌, Option, Some, None, is_some, List, [], ◌∷◌, ◌++◌, length, drop, filter, slice_index_or}
use Rattle.std.specs.List.{AllByRecursion}
use Rattle.xs_base.specs.Numbers.{Slot, EndNumber}
use Rattle.xs_base.specs.declared.entry.Entry.{Entry}
use Rattle.xs_base.specs.declared.entry.What.{What}
use Rattle.xs_base.specs.declared.entry.What.TheVariants as what
use Rattle.xs_model.specs.Outside.{Emitted}
use Rattle.serial_model.specs.Serial.{arriving, token_among, credit_among, is_credit, IsNoLevel, token_entries, credit_entries}
use Rattle.crossings.specs.declared.crossing.Crossing.{Crossing}

-- what leaves by a link end, of what a slot gave
abbrev pub leaving_by : Emitted → EndNumber → Crossing
leaving_by emitted end = record { token = slice_index_or emitted.tokens end None; credit = slice_index_or emitted.credits end false }

-- what crosses in a slot as entries: the token, then the credit. Of `leaving_by` that is `sent_by` of the serial machine
abbrev pub entries_of : Slot → Crossing → List Entry
entries_of slot c = token_entries slot c.token ++ credit_entries slot c.credit

-- the token and the credit among entries
abbrev pub crossing_of : List Entry → Crossing
crossing_of entries = record { token = token_among entries; credit = credit_among entries }

-- in a slot of a history a credit follows an entry that is none, and nothing else follows: later entries are of later slots
pub data MayFollow (e f : Entry) : Type 0 where
  Later : e.slot < f.slot → MayFollow e f
  Beside : e.slot ≡ f.slot → is_credit e.what ≡ false → is_credit f.what ≡ true → MayFollow e f

abbrev pub AreInSendingOrder : List Entry → Type 0
AreInSendingOrder [] = Unit {0}
AreInSendingOrder (e ∷ es) = AllByRecursion (MayFollow e) es × AreInSendingOrder es

-- what a directed link carries
abbrev pub HaveNoLevel : List Entry → Type 0
HaveNoLevel entries = AllByRecursion (λ (e : Entry). IsNoLevel e.what) entries

-- so many entries arrived before a slot, and the rest did not
abbrev pub IsDueFrom : Slot → ℕ → ℕ → List Entry → Type 0
IsDueFrom slot delay zero es = AllByRecursion (λ (e : Entry). slot ≤ e.slot + delay) es
IsDueFrom slot delay (suc first) [] = ⊥
IsDueFrom slot delay (suc first) (e ∷ es) = (e.slot + delay < slot) × IsDueFrom slot delay first es

-- what an entry is, if it arrives in a slot
abbrev pub due_of : Slot → ℕ → Option Entry → Option What
due_of slot delay None = None
due_of slot delay (Some e) = if (e.slot + delay) == slot then Some e.what else None

abbrev pub no_crossing : Crossing
no_crossing = record { token = None; credit = false }

-- what arrives by a directed link, of the first two entries that may
abbrev pub seen_of : Option What → Option What → Crossing
seen_of None second = no_crossing
seen_of (Some (what.Token t)) second = record { token = Some t; credit = is_some second }
seen_of (Some what.Credit) second = record { token = None; credit = true }
seen_of (Some (what.Level level)) second = no_crossing

abbrev pub one_if : Bool → ℕ
one_if false = 0
one_if true = 1

-- how many entries a crossing is made of
abbrev pub entry_count : Crossing → ℕ
entry_count c = one_if (is_some c.token) + one_if c.credit

-- What arrives of a directed link's queue in which no entry is past, and what is then left of it: the entries that arrive later.
pub record ArrivesOf (slot : Slot) (delay : ℕ) (queue : List Entry) (c : Crossing) : Type 0 where
  pub arrives : crossing_of (arriving slot delay queue) ≡ c
  pub there : entry_count c ≤ length queue
  pub rest : drop (entry_count c) queue ≡ filter (λ (e : Entry). nat_lt slot (e.slot + delay)) queue
  pub later : AllByRecursion (λ (e : Entry). slot + 1 ≤ e.slot + delay) (drop (entry_count c) queue)
  pub in_order : AreInSendingOrder (drop (entry_count c) queue)
  pub no_level : HaveNoLevel (drop (entry_count c) queue)
