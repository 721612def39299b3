-- What a snapshot keeps of a unit of a node says that unit again, and of a link end one that is alike it.
use Rattle.std.proofs.Common.{ℕ, zero, suc, ◌≡◌, ◌+◌, ◌-◌, ◌*◌, ◌/◌, ◌%◌, ◌^◌, ◌<◌, ◌≤◌, true, Option, Some, None, List, [], ◌∷◌, length, map, get_or, replicate, refl, ap, sym, ◌∙◌, arith}
use Rattle.std.specs.Prelude.{option_map}
use Rattle.std.specs.List.{AllByRecursion}
use Rattle.std.proofs.lemmas.List.{length-replicate}
use Rattle.xs_base.specs.Numbers.{Slot}
use Rattle.xs_model.specs.Record.{SyncRec, PortRec, TransferRec, LinkRec, Condition, Always, Equal, NotEqual, off_port}
use Rattle.xs_model.specs.Bits.{bits_of, value_of}
use Rattle.xs_model.specs.Masks.{members}
use Rattle.net_model.specs.Links.{latest}
use Rattle.port_laws.specs.Facts.{AreBits, HasFacts, is_off, is_on}
use Rattle.sync_locks.specs.States.{sync_state, sync_of}
use Rattle.sync_locks.proofs.States.{sync-again}
use Rattle.single_port.specs.States.{condition_state, condition_of, transfer_state, transfer_of, shift_state, shift_word, port_state, port_of}
use Rattle.single_port.proofs.States.{word_again}
use Rattle.link_ends.specs.States.{sent_of, credited_of, end_of}
use Rattle.link_ends.specs.declared.state.EndState.{EndState}
use Rattle.link_laws.specs.Windows.{LinksAlike}

-- ---- Lists

module _ {A B : Type 0} (kept : A → B) (said : B → A) (P : A → Type 0) (again : (x : A) → P x → said (kept x) ≡ x) where
  pub all_again : (xs : List A) → AllByRecursion P xs → map said (map kept xs) ≡ xs
  all_again [] h = refl
  all_again (x ∷ xs) h = λ i. again x h.0 i ∷ all_again xs h.1 i

module _ {A B : Type 0} (kept : A → B) (said : B → A) (again : (x : A) → said (kept x) ≡ x) where
  pub each_again : (xs : List A) → map said (map kept xs) ≡ xs
  each_again [] = refl
  each_again (x ∷ xs) = λ i. again x i ∷ each_again xs i

module _ {A : Type 0} (P : A → Type 0) (d : A) where
  pub all_of : (xs : List A) → ((i : ℕ) → P (get_or xs i d)) → AllByRecursion P xs
  all_of [] each = tt
  all_of (x ∷ xs) each = (each 0, all_of xs (λ i. each (suc i)))

  pub one_of : (xs : List A) (i : ℕ) → P d → AllByRecursion P xs → P (get_or xs i d)
  one_of [] i none all = none
  one_of (x ∷ xs) zero none all = all.0
  one_of (x ∷ xs) (suc i) none all = one_of xs i none all.1

  pub one_within : (xs : List A) (i : ℕ) → i < length xs → AllByRecursion P xs → P (get_or xs i d)
  one_within [] i within all = absurd (omega (arith, within))
  one_within (x ∷ xs) zero within all = all.0
  one_within (x ∷ xs) (suc i) within all = one_within xs i (omega (arith, within)) all.1

  pub all_within : (xs : List A) → ((i : ℕ) → i < length xs → P (get_or xs i d)) → AllByRecursion P xs
  all_within [] each = tt
  all_within (x ∷ xs) each = (each 0 (omega arith), all_within xs (λ i h. each (suc i) (omega (arith, h))))

-- ---- Synchronisers

pub sync_is : (sync : SyncRec) (mask : ℕ) → mask < 2 ^ 8 → sync.slaves ≡ members mask → sync_of (sync_state sync) ≡ sync
sync_is sync mask fits is =
    let same : sync ≡ record { master = sync.master; slaves = members mask } = λ i. record { master = sync.master; slaves = is i } in
    ap (λ (s : SyncRec). sync_of (sync_state s)) same ∙ (sync-again sync.master mask fits ∙ sym same)

-- ---- Ports

bits_again : (bits : List ℕ) → AreBits bits → bits_of (length bits) (value_of bits) ≡ bits
unfolding bits_of value_of
bits_again [] h = refl
bits_again (bit ∷ bits) h =
    let low : (bit + 2 * value_of bits) % 2 ≡ bit = omega (arith, h.0) in
    let high : (bit + 2 * value_of bits) / 2 ≡ value_of bits = omega (arith, h.0) in
    λ i. low i ∷ (ap (bits_of (length bits)) high ∙ bits_again bits h.1) i

condition_again : (c : Condition) → condition_of (condition_state c) ≡ c
condition_again Always = refl
condition_again Equal = refl
condition_again NotEqual = refl

transfer_again : (transfer : Option TransferRec) → option_map transfer_of (option_map transfer_state transfer) ≡ transfer
transfer_again None = refl
transfer_again (Some t) = refl

port_with : (port : PortRec) → AreBits port.shift → port_of (port_state port) ≡ port
port_with port bits =
    let count = length port.shift in
    let shift : bits_of count (shift_word port.output port.transfer_width count (shift_state port.output port.transfer_width count (value_of port.shift))) ≡ port.shift =
    ap (bits_of count) (word_again port.output port.transfer_width count (value_of port.shift)) ∙ bits_again port.shift bits in
    λ i. record port { condition = condition_again port.condition i; shift = shift i; transfer = transfer_again port.transfer i }

pub port_is : (width : ℕ) (port : PortRec) → HasFacts width port → port_of (port_state port) ≡ port
port_is width _ is_off = port_with off_port tt
port_is width _ (is_on port is) = port_with port is.shift.bits

-- ---- Link ends

latest_none : (slots : List Slot) → latest slots ≡ None → length slots ≡ 0
latest_none [] none = refl
latest_none (s ∷ []) none = absurd cc
latest_none (s ∷ r ∷ rest) none = absurd (omega (arith, latest_none (r ∷ rest) none))

latest_same : (count : ℕ) (last : Slot) → latest (replicate (suc count) last) ≡ Some last
latest_same zero last = refl
latest_same (suc count) last = latest_same count last

sent_window : (sent credited : List Slot) (last : Option Slot) → latest sent ≡ last → length credited ≤ length sent
    → length (sent_of (length sent - length credited) last) + length credited ≡ length sent + length (credited_of last)
sent_window sent credited None is few = omega (arith, latest_none sent is, few)
sent_window sent credited (Some last) is few = omega (arith, length-replicate (length sent - length credited + 1) last, few)

sent_last : (window : ℕ) (last : Option Slot) → latest (sent_of window last) ≡ last
sent_last window None = refl
sent_last window (Some last) =
    let next : window + 1 ≡ suc window = omega arith in
    ap (λ n. latest (replicate n last)) next ∙ latest_same window last

-- of no more tokens than it sent it has a credit
abbrev pub IsCredited : LinkRec → Type 0
IsCredited link = length link.credited ≤ length link.sent

abbrev pub end_kept : LinkRec → EndState
end_kept link = record { present = true; buffer = record { items = link.buffer }; window = length link.sent - length link.credited; last = latest link.sent }

pub link_is : (link : LinkRec) → IsCredited link → LinksAlike (end_of (end_kept link)) link
link_is link few = record {
  buffer = refl;
  window = sent_window link.sent link.credited (latest link.sent) refl few;
  last = sent_last (length link.sent - length link.credited) (latest link.sent);
}
