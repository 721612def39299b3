-- What a snapshot keeps of a port, and the port that it says.
use Rattle.std.proofs.Common.{ℕ, ◌≡◌, ◌+◌, ◌-◌, ◌*◌, ◌/◌, ◌%◌, ◌^◌, ◌<◌, ◌≤◌, Bool, true, false, Option, Some, None, List, length, refl, ap, sym, subst, ◌∙◌, inl, inr, arith}
use Rattle.std.specs.Prelude.{◌||◌, ◌==◌, IfSome, option_map}
use Rattle.std.proofs.Math.Nat.{pow-le-pow_right, mod-eq_of_lt}
use Rattle.std.proofs.lemmas.Bool.{cases_Bool, cases_lt, or_cases, and_parts, eqb-true, false≢true}
use Rattle.std.proofs.lemmas.Nat.{pow_pos, shl-shr, shl_whole, shr_split, shr_below, mod_low}
use Rattle.xs_base.specs.Ids.{port_width}
use Rattle.xs_model.specs.Record.{PortRec, TransferRec, Condition, Always, Equal, NotEqual}
use Rattle.xs_model.specs.Bits.{bits_of, value_of}
use Rattle.xs_model.specs.PortActions.{is_transfer_width}
use Rattle.port_shift.proofs.Bits.{length_bits, value_bits, joined_fits}
use Rattle.single_port.specs.declared.state.Condition.{Condition as ConditionState}
use Rattle.single_port.specs.declared.state.Condition.TheVariants as condition
use Rattle.single_port.specs.declared.state.Transfer.{Transfer}
use Rattle.single_port.specs.declared.state.PortState.{PortState}
use Rattle.single_port.specs.Asks.{IsStrobe}
use Rattle.single_port.specs.Keeps.{IsPort, IsTransfer}
use Rattle.single_port.specs.States.{port_state, port_of, off_state, condition_state, condition_of, transfer_state, transfer_of, shift_state, shift_word}
use Rattle.single_port.specs.States.{IsShiftState, IsTransferState, IsStrobeState, IsOnState, IsPortState}

-- ---- Widths

pub width_some : (p : ℕ) → 0 < port_width p
width_some p = grind arith

pub width_narrow : (p : ℕ) → port_width p ≤ 32
width_narrow p = grind arith

sized : (x n : ℕ) → (x == n) ≡ true → 0 < n → n ≤ 32 → (0 < x) × (x ≤ 32)
sized x n is some most =
    let same : x ≡ n = eqb-true x n is in
    (omega (arith, same, some), omega (arith, same, most))

one_of_five : (x : ℕ) → ((x == 1) || ((x == 4) || ((x == 8) || ((x == 16) || (x == 32))))) ≡ true → (0 < x) × (x ≤ 32)
one_of_five x is =
    elim (or_cases (x == 1) ((x == 4) || ((x == 8) || ((x == 16) || (x == 32)))) is) [
      | inl one ↦ sized x 1 one (omega arith) (omega arith)
      | inr more ↦ elim (or_cases (x == 4) ((x == 8) || ((x == 16) || (x == 32))) more) [
        | inl four ↦ sized x 4 four (omega arith) (omega arith)
        | inr more ↦ elim (or_cases (x == 8) ((x == 16) || (x == 32)) more) [
          | inl eight ↦ sized x 8 eight (omega arith) (omega arith)
          | inr more ↦ elim (or_cases (x == 16) (x == 32) more) [
            | inl sixteen ↦ sized x 16 sixteen (omega arith) (omega arith)
            | inr all ↦ sized x 32 all (omega arith) (omega arith)
          ]
        ]
      ]
    ]

both : (width x : ℕ) → is_transfer_width width x ≡ true → ((0 < x) × (x ≤ 32)) × (x % width ≡ 0)
both width x is =
    let parts = and_parts ((x == 1) || ((x == 4) || ((x == 8) || ((x == 16) || (x == 32))))) (x % width == 0) is in
    (one_of_five x parts.0, eqb-true (x % width) 0 parts.1)

-- a transfer has at most 32 bits, and at least one beat
pub transfer_most : (width x : ℕ) → is_transfer_width width x ≡ true → x ≤ 32
transfer_most width x is = (both width x is).0.1

pub transfer_least : (width x : ℕ) → is_transfer_width width x ≡ true → width ≤ x
transfer_least width x is =
    let some : 0 < x = (both width x is).0.0 in
    let none : x % width ≡ 0 = (both width x is).1 in
    elim (cases_lt x width) [
      | inl less ↦
          let same : x % width ≡ x = mod-eq_of_lt less in
          absurd (omega (arith, some, none, same))
      | inr least ↦ least
    ]

-- ---- The shift register

-- at the top of a transfer, bits have as many below them as they are fewer than its
top_fits : (count tw word : ℕ) → count ≤ tw → word < 2 ^ count → word * 2 ^ (tw - count) < 2 ^ tw
top_fits count tw word few fits =
    let whole : tw - count + count ≡ tw = omega (arith, few) in
    omega (arith, subst (λ n. 0 + word * 2 ^ (tw - count) < 2 ^ n) whole (joined_fits (tw - count) count 0 word (pow_pos (tw - count)) fits))

-- they are put there with no loss
pub at_top : (count tw word bits from : ℕ) → from ≡ word → bits ≡ count → word < 2 ^ count → count ≤ tw → tw ≤ 32 → from * 2 ^ (tw - bits) % 2 ^ 64 ≡ word * 2 ^ (tw - count)
at_top count tw word bits from read counted fits few most =
    ap (λ w. w * 2 ^ (tw - bits) % 2 ^ 64) read
    ∙ ap (λ n. word * 2 ^ (tw - n) % 2 ^ 64) counted
    ∙ shl_whole word count (tw - count) 64 fits (omega (arith, few, most))

pub top_is_word : (count tw word bits from : ℕ) → from ≡ word → bits ≡ count → word < 2 ^ count → count ≤ tw → tw ≤ 32 → from * 2 ^ (tw - bits) % 2 ^ 64 < 2 ^ 32
top_is_word count tw word bits from read counted fits few most =
    omega (arith, at_top count tw word bits from read counted fits few most, top_fits count tw word few fits, pow-le-pow_right {n = 2} (omega arith) most)

pub word_fits : (output : Bool) (tw count sr : ℕ) → count ≤ tw → IsShiftState output tw count sr → shift_word output tw count sr < 2 ^ count
word_fits true tw count sr few is = is
word_fits false tw count sr few is =
    let whole : tw ≡ count + (tw - count) = omega (arith, few) in
    shr_below sr count (tw - count) (subst (λ n. sr < 2 ^ n) whole is.0)

-- as the code has them
pub below_fits : (output : Bool) (tw count sr bits from : ℕ) → output ≡ false → from ≡ sr → bits ≡ count → count ≤ tw → IsShiftState output tw count sr → from / 2 ^ (tw - bits) < 2 ^ count
below_fits output tw count sr bits from in_input read counted few is =
    let fits : sr / 2 ^ (tw - count) < 2 ^ count = word_fits false tw count sr few (subst (λ o. IsShiftState o tw count sr) in_input is) in
    rw (read, counted) fits

-- what stands in a number is what was put there, and the other way round
pub word_again : (output : Bool) (tw count word : ℕ) → shift_word output tw count (shift_state output tw count word) ≡ word
word_again true tw count word = refl
word_again false tw count word = shl-shr word (tw - count)

pub bits_again : (output : Bool) (tw count word sr : ℕ) (bits : List ℕ) → sr ≡ shift_state output tw count word → bits_of count word ≡ bits → bits_of count (shift_word output tw count sr) ≡ bits
bits_again output tw count word sr bits is again =
    ap (λ n. bits_of count (shift_word output tw count n)) is ∙ ap (bits_of count) (word_again output tw count word) ∙ again

-- in direction input
pub bits_again_in : (output : Bool) (tw count word sr : ℕ) (bits : List ℕ) → output ≡ false → sr ≡ word * 2 ^ (tw - count)
    → bits_of count word ≡ bits → bits_of count (shift_word output tw count sr) ≡ bits
bits_again_in output tw count word sr bits in_input is again =
    bits_again output tw count word sr bits (is ∙ sym (ap (λ o. shift_state o tw count word) in_input)) again

sr_again : (output : Bool) (tw count sr : ℕ) → IsShiftState output tw count sr → shift_state output tw count (shift_word output tw count sr) ≡ sr
sr_again true tw count sr is = refl
sr_again false tw count sr is = omega (arith, shr_split sr (tw - count), is.1)

-- what is put there is nothing but the bits
pub shift_is : (output : Bool) (tw count word : ℕ) → count ≤ tw → word < 2 ^ count → IsShiftState output tw count (shift_state output tw count word)
shift_is true tw count word few fits = fits
shift_is false tw count word few fits =
    let none : (word * 2 ^ (tw - count) + 0) % 2 ^ (tw - count) ≡ 0 = mod_low word (tw - count) 0 (pow_pos (tw - count)) in
    let same : word * 2 ^ (tw - count) + 0 ≡ word * 2 ^ (tw - count) = omega arith in
    (top_fits count tw word few fits, ap (λ n. n % 2 ^ (tw - count)) (sym same) ∙ none)

pub shift_is_in : (output : Bool) (tw count word sr : ℕ) → output ≡ false → sr ≡ word * 2 ^ (tw - count) → count ≤ tw → word < 2 ^ count → IsShiftState output tw count sr
shift_is_in output tw count word sr in_input is few fits =
    subst (λ o. IsShiftState o tw count sr) (sym in_input) (subst (IsShiftState false tw count) (sym is) (shift_is false tw count word few fits))

-- ---- The port that a snapshot says

-- its shift register is one that a port may have
pub record HasShift (state : PortState) : Type 0 where
  pub most : state.tw ≤ 32
  pub count : state.count ≤ state.tw
  pub shift : IsShiftState state.output state.tw state.count state.sr

off_shift : HasShift off_state
off_shift = record { most = omega arith; count = omega arith; shift = (omega arith, refl) }

pub has_shift : (p : ℕ) (state : PortState) → IsPortState p state → HasShift state
has_shift p state is =
    elim (cases_Bool state.on) [
      | inl on ↦ record { most = transfer_most (port_width p) state.tw (is.on on).transfer_width; count = (is.on on).count.most; shift = (is.on on).shift }
      | inr off ↦ subst HasShift (sym (is.off off)) off_shift
    ]

transfer_fits : (width tw : ℕ) (tr : Option Transfer) → IfSome tr (IsTransferState width tw) → IfSome (option_map transfer_of tr) (IsTransfer tw)
transfer_fits width tw None is = is
transfer_fits width tw (Some t) is = record { bits = is.beats.most; value = is.value }

strobe_is : (p : ℕ) (strobe : Option ℕ) → IfSome strobe (IsStrobeState p) → IsStrobe strobe
strobe_is p None is = tt
strobe_is p (Some strobe) is = omega (arith, is.one)

off_port_is : (p : ℕ) → IsPort (port_width p) (port_of off_state)
off_port_is p = record {
  some = width_some p;
  narrow = width_narrow p;
  least = λ on. absurd (false≢true on);
  most = omega arith;
  off = λ off. refl;
  shift = omega (arith, length_bits 0 0);
  transfer = tt;
  driven = tt;
  off_input = λ off. refl;
  off_driven = λ off. refl;
  clock = tt;
  strobe = tt;
}

on_port_is : (p : ℕ) (state : PortState) → state.on ≡ true → IsOnState p state → IsPort (port_width p) (port_of state)
on_port_is p state on is = record {
  some = width_some p;
  narrow = width_narrow p;
  least = λ e. transfer_least (port_width p) state.tw is.transfer_width;
  most = transfer_most (port_width p) state.tw is.transfer_width;
  off = λ off. absurd (false≢true (sym off ∙ on));
  shift = omega (arith, length_bits state.count (shift_word state.output state.tw state.count state.sr), is.count.most);
  transfer = transfer_fits (port_width p) state.tw state.tr is.transfer;
  driven = is.driven;
  off_input = λ off. absurd (false≢true (sym off ∙ on));
  off_driven = λ off. absurd (false≢true (sym off ∙ on));
  clock = is.clock;
  strobe = strobe_is p state.strobe is.strobe;
}

-- it is one that a port may be
pub is_port : (p : ℕ) (state : PortState) → IsPortState p state → IsPort (port_width p) (port_of state)
is_port p state is =
    elim (cases_Bool state.on) [
      | inl on ↦ on_port_is p state on (is.on on)
      | inr off ↦ subst (λ s. IsPort (port_width p) (port_of s)) (sym (is.off off)) (off_port_is p)
    ]

-- ---- There and back

condition_again : (c : Condition) → condition_of (condition_state c) ≡ c
condition_again Always = refl
condition_again Equal = refl
condition_again NotEqual = refl

condition_state_again : (c : ConditionState) → condition_state (condition_of c) ≡ c
condition_state_again condition.None = refl
condition_state_again condition.Equal = refl
condition_state_again condition.NotEqual = refl

transfer_again : (t : Option TransferRec) → option_map transfer_of (option_map transfer_state t) ≡ t
transfer_again None = refl
transfer_again (Some t) = refl

transfer_state_again : (t : Option Transfer) → option_map transfer_state (option_map transfer_of t) ≡ t
transfer_state_again None = refl
transfer_state_again (Some t) = refl

-- a port whose shift register has bits, each 0 or 1, is kept whole
pub port_again : (port : PortRec) → bits_of (length port.shift) (value_of port.shift) ≡ port.shift → port_of (port_state port) ≡ port
port_again port bits =
    let made : Condition → List ℕ → Option TransferRec → PortRec = λ c s t. record port { condition = c; shift = s; transfer = t } in
    let state : PortState = port_state port in
    ap (λ c. made c (port_of state).shift (port_of state).transfer) (condition_again port.condition)
    ∙ ap (λ s. made port.condition s (port_of state).transfer) (bits_again port.output port.transfer_width (length port.shift) (value_of port.shift) state.sr port.shift refl bits)
    ∙ ap (λ t. made port.condition port.shift t) (transfer_again port.transfer)

-- and what a snapshot may say of a port it says again of the port that is made of it
pub state_again : (p : ℕ) (state : PortState) → IsPortState p state → port_state (port_of state) ≡ state
state_again p state is =
    let has : HasShift state = has_shift p state is in
    let word : ℕ = shift_word state.output state.tw state.count state.sr in
    let count : length (bits_of state.count word) ≡ state.count = length_bits state.count word in
    let value : value_of (bits_of state.count word) ≡ word = value_bits state.count word (word_fits state.output state.tw state.count state.sr has.count has.shift) in
    let made : ConditionState → ℕ → ℕ → Option Transfer → PortState = λ c s n t. record state { condition = c; sr = s; count = n; tr = t } in
    let tr : Option Transfer = option_map transfer_state (option_map transfer_of state.tr) in
    let n : ℕ = length (bits_of state.count word) in
    let s : ℕ = shift_state state.output state.tw n (value_of (bits_of state.count word)) in
    let same : s ≡ state.sr =
    ap (λ v. shift_state state.output state.tw n v) value
    ∙ ap (λ k. shift_state state.output state.tw k word) count
    ∙ sr_again state.output state.tw state.count state.sr has.shift
    in
    ap (λ c. made c s n tr) (condition_state_again state.condition)
    ∙ ap (λ v. made state.condition v n tr) same
    ∙ ap (λ k. made state.condition state.sr k tr) count
    ∙ ap (made state.condition state.sr state.count) (transfer_state_again state.tr)
