-- The laws of the forms of logs.
use Rattle.std.proofs.Common.{◌≡◌, ℕ, zero, suc, ◌+◌, ◌<◌, ◌^◌, true, cond, eqb, ltb, ◌&&◌, Option, None, refl, ap, arith}
use Rattle.std.specs.List.{last_or}
use Rattle.std.proofs.lemmas.Bool.{eqb-true, ltb-true, and_parts}
use Rattle.xs_base.specs.Numbers.{Slot}
use Rattle.xs_base.specs.declared.token.Token.TheVariants.{Byte, Ctrl}
use Rattle.xs_base.specs.declared.entry.Entry.{Entry}
use Rattle.xs_base.specs.declared.entry.What.{What}
use Rattle.xs_base.specs.declared.entry.What.TheVariants as what
use Rattle.byte_forms.specs.Laws.{Lawful}
use Rattle.byte_forms.proofs.Fields.{byte-lawful, word-lawful, long-lawful}
use Rattle.byte_forms.proofs.Parts.{where-lawful, both-lawful, seen-lawful, below-lawful}
use Rattle.byte_forms.proofs.Lists.{chain-lawful, counted-lawful}
use Rattle.log_forms.specs.declared.entry.Before.{Before}
use Rattle.log_forms.specs.Entries.{kind_of, value_of, what_of, entry_of, fields_of_entry, counts_with, before_of}
use Rattle.log_forms.specs.Entries.{is_in_flight, is_not_before, is_after, link_slot, wire_slot, may_follow, value_limit, link_value, level, wire_kind, wire_entry}
use Rattle.log_forms.specs.Windows.{EndsRec, law_holds, link_count, link_kind, link_entry}
use Rattle.log_forms.specs.Logs.{log_of, fields_of_log, sums, link_log, wire_log}

-- ---- Kinds and values

abbrev pub kind_and_value : What → ℕ × ℕ
kind_and_value w = (kind_of w, value_of w)

pub what_again : (w : What) → what_of (kind_of w) (value_of w) ≡ w
what_again (what.Token (Byte b)) = refl
what_again (what.Token (Ctrl c)) = refl
what_again what.Credit = refl
what_again (what.Level n) = refl

entry_again : (e : Entry) → entry_of (fields_of_entry e) ≡ e
entry_again e = ap (λ (w : What). record { slot = e.slot; what = w }) (what_again e.what)

token_back : (kind value : ℕ) → kind < 3 → value < value_limit kind → kind_and_value (what_of kind value) ≡ (kind, value)
token_back zero value few small = refl
token_back (suc zero) value few small = refl
token_back (suc (suc zero)) value few small = ap (λ (n : ℕ). (2, n)) (omega (arith, small))
token_back (suc (suc (suc kind))) value few small = absurd (omega (arith, few))

level_back : (kind value : ℕ) → kind ≡ 3 → kind_and_value (what_of kind value) ≡ (kind, value)
level_back kind value is = rw is refl

-- ---- Fields

link_slot-lawful : (slot : Slot) (delay : ℕ) (last : Option Entry) → Lawful (link_slot slot delay last)
unfolding link_slot
link_slot-lawful slot delay last = where-lawful (λ at. is_in_flight slot delay at && is_not_before last at) word-lawful

wire_slot-lawful : (slot : Slot) (delay : ℕ) (last : Option Entry) → Lawful (wire_slot slot delay last)
unfolding wire_slot
wire_slot-lawful slot delay last = where-lawful (λ at. is_in_flight slot delay at && is_after last at) word-lawful

link_kind-lawful : (ends : Option EndsRec) (count : ℕ) (before : Before) (at : Slot) → Lawful (link_kind ends count before at)
unfolding link_kind
link_kind-lawful ends count before at = where-lawful _ byte-lawful

link_value-lawful : (kind : ℕ) → Lawful (link_value kind)
unfolding link_value
link_value-lawful kind = below-lawful (value_limit kind) word-lawful

wire_kind-lawful : Lawful wire_kind
unfolding wire_kind
wire_kind-lawful = where-lawful (λ kind. eqb kind 3) byte-lawful

level-lawful : (width : ℕ) → Lawful (level width)
unfolding level
level-lawful width = below-lawful (2 ^ width) word-lawful

link_count-lawful : (ends : Option EndsRec) → Lawful (link_count ends)
unfolding link_count
link_count-lawful ends = where-lawful _ word-lawful

sums-lawful : (limit : ℕ) → Lawful (sums limit)
unfolding sums
sums-lawful limit = both-lawful (below-lawful (2 ^ 63) long-lawful) (λ tokens. both-lawful (below-lawful (2 ^ 63) long-lawful) (λ credits. below-lawful limit word-lawful))

-- ---- Entries and logs

-- the parts of the test of a kind
pub kind_parts : (ends : Option EndsRec) (count : ℕ) (before : Before) (at kind : ℕ) → (link_kind ends count before at).Holds kind
    → (kind < 3) × (may_follow before.last at kind ≡ true) × (cond (eqb (before.place + 1) count) (law_holds ends (counts_with before.counts kind)) true ≡ true)
unfolding link_kind
kind_parts ends count before at kind h =
    let law = cond (eqb (before.place + 1) count) (law_holds ends (counts_with before.counts kind)) true in
    let p = and_parts (ltb kind 3 && may_follow before.last at kind) law h.1 in
    let q = and_parts (ltb kind 3) (may_follow before.last at kind) p.0 in
    (ltb-true kind 3 q.0, q.1, p.1)

-- a kind and a value that an entry of a directed link has
link_what_back : (ends : Option EndsRec) (count : ℕ) (before : Before) (at kind value : ℕ) → (link_kind ends count before at).Holds kind → (link_value kind).Holds value
    → kind_and_value (what_of kind value) ≡ (kind, value)
unfolding link_value
link_what_back ends count before at kind value h k =
    token_back kind value (kind_parts ends count before at kind h).0 (ltb-true value (value_limit kind) k.1)

wire_what_back : (kind value : ℕ) → wire_kind.Holds kind → kind_and_value (what_of kind value) ≡ (kind, value)
unfolding wire_kind
wire_what_back kind value h = level_back kind value (eqb-true kind 3 h.1)

link_entry-lawful : (slot : Slot) (delay : ℕ) (ends : Option EndsRec) (count : ℕ) (before : Before) → Lawful (link_entry slot delay ends count before)
unfolding link_entry
link_entry-lawful slot delay ends count before =
    seen-lawful entry_of fields_of_entry
    (both-lawful (link_slot-lawful slot delay before.last) (λ at. both-lawful (link_kind-lawful ends count before at) link_value-lawful))
    (λ f h. ap (λ (p : ℕ × ℕ). (f.0, p)) (link_what_back ends count before f.0 f.1.0 f.1.1 h.1.0 h.1.1)) entry_again

wire_entry-lawful : (slot : Slot) (delay width : ℕ) (last : Option Entry) → Lawful (wire_entry slot delay width last)
unfolding wire_entry
wire_entry-lawful slot delay width last =
    seen-lawful entry_of fields_of_entry
    (both-lawful (wire_slot-lawful slot delay last) (λ at. both-lawful wire_kind-lawful (λ kind. level-lawful width)))
    (λ f h. ap (λ (p : ℕ × ℕ). (f.0, p)) (wire_what_back f.1.0 f.1.1 h.1.0)) entry_again

pub link_log-lawful : (slot : Slot) (delay : ℕ) (ends : Option EndsRec) → Lawful (link_log slot delay ends)
unfolding link_log
link_log-lawful slot delay ends =
    seen-lawful log_of fields_of_log
    (both-lawful (counted-lawful (link_count-lawful ends) (λ n. chain-lawful (λ before. link_entry-lawful slot delay ends n (before_of before)) n) (λ n xs h. h.0)) (λ entries. sums-lawful 1))
    (λ f h. refl) (λ log. refl)

pub wire_log-lawful : (slot : Slot) (delay width : ℕ) → Lawful (wire_log slot delay width)
unfolding wire_log
wire_log-lawful slot delay width =
    seen-lawful log_of fields_of_log
    (both-lawful (counted-lawful word-lawful (λ n. chain-lawful (λ before. wire_entry-lawful slot delay width (last_or None before)) n) (λ n xs h. h.0)) (λ entries. sums-lawful (2 ^ width)))
    (λ f h. refl) (λ log. refl)
