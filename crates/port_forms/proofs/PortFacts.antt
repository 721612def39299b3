-- What has the form of a port is what a snapshot may say of it, and the other way round.
use Rattle.std.proofs.Common.{◌≡◌, ◌≢◌, ℕ, zero, suc, ◌+◌, ◌-◌, ◌%◌, ◌<◌, ◌≤◌, ◌^◌, Bool, true, false, IsTrue, ltb}
use Rattle.std.proofs.Common.{List, [], ◌∷◌, ◌++◌, length, get_or, Option, Some, None}
use Rattle.std.proofs.Common.{refl, sym, ap, subst, arith, inl, inr}
use Rattle.std.specs.Prelude.{◌&&◌, ◌||◌, ◌==◌, not, nat_lt, nat_le, IfSome}
use Rattle.std.proofs.Math.Nat.{pow-le-pow_right, zero-mod}
use Rattle.std.proofs.lemmas.Bool.{cases_Bool, true≢false, eqb-true, eqb-false, eq-eqb, ne_eqb, ltb-true, lt-ltb, leb-true, le-leb, not-true, not_from_false, and_parts, and_from}
use Rattle.std.proofs.lemmas.List.{length-append}
use Rattle.xs_base.specs.Ids.{port_width}
use Rattle.xs_model.specs.declared.clock.Clock.{Clock}
use Rattle.xs_model.specs.declared.clock.Clock.TheVariants.{Reference, Block}
use Rattle.xs_model.specs.PortActions.{is_transfer_width}
use Rattle.single_port.specs.declared.state.Condition.{Condition}
use Rattle.single_port.specs.declared.state.Condition.TheVariants as conditions
use Rattle.single_port.specs.declared.state.Transfer.{Transfer}
use Rattle.single_port.specs.declared.state.PortState.{PortState}
use Rattle.single_port.specs.Asks.{IsClock}
use Rattle.single_port.specs.States.{off_state, IsShiftState, AreBeats, IsTransferState, IsStrobeState, IsOnState, IsPortState}
use Rattle.single_port.proofs.States.{width_narrow, transfer_most}
use Rattle.buffered_ports.specs.States.{ArePortStates}
use Rattle.byte_forms.specs.Forms.{Form, half, word, flag, below, HoldInChain}
use Rattle.port_forms.specs.declared.port_parts.Basics.{Basics}
use Rattle.port_forms.specs.declared.port_parts.Widths.{Widths}
use Rattle.port_forms.specs.declared.port_parts.Trigger.{Trigger}
use Rattle.port_forms.specs.declared.port_parts.Shift.{Shift}
use Rattle.port_forms.specs.declared.port_parts.Tail.{Tail}
use Rattle.port_forms.specs.Ports.{limit_where, flag_where, option_where, are_beats, clock, basics, widths, condition, trigger, is_count, shift, transfer, strobe, tail}
use Rattle.port_forms.specs.Ports.{basics_in, widths_in, trigger_in, shift_in, tail_in, port, next_port, ports, FitsHalves, FitHalves}

-- ---- Fields

flag_is : (b : Bool) → flag.Holds b
flag_is true = (omega arith, refl)
flag_is false = (omega arith, refl)

flag_on : (b : Bool) → (flag_where true).Holds b
flag_on true = (omega arith, refl)
flag_on false = (omega arith, refl)

flag_none : (allowed : Bool) → (flag_where allowed).Holds false
flag_none true = (omega arith, refl)
flag_none false = (omega arith, refl)

flag_off : (b : Bool) → (flag_where false).Holds b → b ≡ false
flag_off true h = absurd (omega (arith, ltb-true 1 1 h.1))
flag_off false h = refl

number_off : (n : ℕ) → IsTrue (ltb n 1) → n ≡ 0
number_off n h = omega (arith, ltb-true n 1 h)

half_on : (n : ℕ) → n < 2 ^ 16 → (below half (limit_where true (2 ^ 16))).Holds n
half_on n h = (omega (arith, h), lt-ltb n (2 ^ 16) h)

option_off : (f : Form ℕ) (limit : ℕ) (o : Option ℕ) → (option_where false f limit).Holds o → o ≡ None
option_off f limit None h = refl
option_off f limit (Some n) h = absurd (omega (arith, ltb-true 1 1 h.0.1))

option_none : (f : Form ℕ) (allowed : Bool) (limit : ℕ) → f.Holds 0 → (option_where allowed f limit).Holds None
option_none f allowed limit none = (flag_none allowed, (none, refl))

option_on : (f : Form ℕ) (limit : ℕ) (o : Option ℕ) → f.Holds 0 → IfSome o (λ n. f.Holds n × (n < limit)) → (option_where true f limit).Holds o
option_on f limit None none h = option_none f true limit none
option_on f limit (Some n) none h = (flag_on true, (h.0, lt-ltb n limit h.1))

option_fits : (f : Form ℕ) (limit : ℕ) (o : Option ℕ) → (option_where true f limit).Holds o → IfSome o (λ n. n < limit)
option_fits f limit None h = tt
option_fits f limit (Some n) h = ltb-true n limit h.1.1

halves : (o : Option ℕ) → IfSome o (λ n. n < 2 ^ 16) → IfSome o (λ n. half.Holds n × (n < 2 ^ 16))
halves None h = tt
halves (Some n) h = (omega (arith, h), h)

words : (limit : ℕ) (o : Option ℕ) → limit ≤ 2 ^ 32 → IfSome o (λ n. n < limit) → IfSome o (λ n. word.Holds n × (n < limit))
words limit None most h = tt
words limit (Some n) most h = (omega (arith, h, most), h)

half_0 : half.Holds 0
half_0 = omega arith

word_0 : word.Holds 0
word_0 = omega arith

-- a width is at most that of a word
width_limit : (p : ℕ) → 2 ^ port_width p ≤ 2 ^ 32
width_limit p = pow-le-pow_right {n = 2} (omega arith) (width_narrow p)

beats_are : (width most bits : ℕ) → IsTrue (are_beats width most bits) → AreBeats width most bits
beats_are width most bits h =
    let parts = and_parts (bits % width == 0) (nat_le bits most) h in
    record { whole = eqb-true (bits % width) 0 parts.0; most = leb-true bits most parts.1 }

are_beats_of : (width most bits : ℕ) → AreBeats width most bits → IsTrue (are_beats width most bits)
are_beats_of width most bits is = and_from (bits % width == 0) (nat_le bits most) (eq-eqb (bits % width) 0 is.whole) (le-leb bits most is.most)

beats_0 : (width most : ℕ) → IsTrue (are_beats width most 0)
beats_0 width most = are_beats_of width most 0 (record { whole = zero-mod width; most = omega arith })

-- ---- A port that is off

clock_off : (c : Clock) → (clock false).Holds c → c ≡ Reference
unfolding clock
clock_off Reference h = refl
clock_off (Block k) h = absurd (omega (arith, ltb-true (1 + k) 1 h.1))

condition_off : (c : Condition) → (condition false).Holds c → c ≡ conditions.None
unfolding condition
condition_off conditions.None h = refl
condition_off conditions.Equal h = absurd (omega (arith, ltb-true 1 1 h.1))
condition_off conditions.NotEqual h = absurd (omega (arith, ltb-true 2 1 h.1))

transfer_off : (p tw : ℕ) (tr : Option Transfer) → (transfer p false tw).Holds tr → tr ≡ None
unfolding transfer
transfer_off p tw None h = refl
transfer_off p tw (Some t) h = absurd (omega (arith, ltb-true 1 1 h.0.0.1))

strobe_off : (p : ℕ) (s : Option ℕ) → (strobe p false).Holds s → s ≡ None
unfolding strobe
strobe_off p None h = refl
strobe_off p (Some k) h = absurd (omega (arith, eqb-true (1 + k) 0 h.1))

beats_off : (width bits : ℕ) → IsTrue (are_beats width 0 bits) → bits ≡ 0
beats_off width bits h = omega (arith, (beats_are width 0 bits h).most)

count_off : (p sr count : ℕ) → IsTrue (is_count p false 0 sr count) → count ≡ 0
count_off p sr count h = beats_off (port_width p) count (and_parts (are_beats (port_width p) 0 count) (sr % 2 ^ (0 - count) == 0) h).0

basics_off : (b : Basics) → b.on ≡ false → basics.Holds b → (b.output ≡ false) × (b.clock ≡ Reference) × (b.counter ≡ 0)
unfolding basics
basics_off b off h =
    let k = subst (λ (on : Bool). (flag_where on).Holds b.output × ((clock on).Holds b.clock × (below half (limit_where on (2 ^ 16))).Holds b.counter)) off h.1 in
    (flag_off b.output k.0, clock_off b.clock k.1.0, number_off b.counter k.1.1.1)

widths_off : (p : ℕ) (on : Bool) (w : Widths) → on ≡ false → (widths p on).Holds w → (w.buffers ≡ false) × (w.tw ≡ 0) × (w.want ≡ 0) × (w.value ≡ 0)
unfolding widths
widths_off p true w off h = absurd (true≢false off)
widths_off p false w off h =
    let tw : w.tw ≡ 0 = eqb-true w.tw 0 h.1.0.1 in
    let want = subst (λ (most : ℕ). IsTrue (are_beats (port_width p) most w.want)) tw h.1.1.0.1 in
    (flag_off w.buffers h.0, tw, beats_off (port_width p) w.want want, number_off w.value h.1.1.1.1)

trigger_off : (on : Bool) (t : Trigger) → on ≡ false → (trigger on).Holds t → (t.condition ≡ conditions.None) × (t.time ≡ None)
unfolding trigger
trigger_off true t off h = absurd (true≢false off)
trigger_off false t off h = (condition_off t.condition h.0, option_off half (2 ^ 16) t.time h.1)

shift_off : (p : ℕ) (output : Bool) (tw : ℕ) (s : Shift) → output ≡ false → tw ≡ 0 → (shift p output tw).Holds s → (s.sr ≡ 0) × (s.count ≡ 0)
unfolding shift
shift_off p true tw s input none h = absurd (true≢false input)
shift_off p false tw s input none h =
    let k = subst (λ (n : ℕ). IsTrue (ltb s.sr (2 ^ n)) × IsTrue (is_count p false n s.sr s.count)) none (h.0.1, h.1.1) in
    (number_off s.sr k.0, count_off p s.sr s.count k.1)

tail_off : (p : ℕ) (on : Bool) (t : Tail) → on ≡ false → (tail p on).Holds t → (t.held ≡ false) × (t.sample_stamp ≡ 0) × (t.stamp ≡ 0) × (t.strobe ≡ None) × (t.driven ≡ None)
unfolding tail
tail_off p true t off h = absurd (true≢false off)
tail_off p false t off h =
    (flag_off t.held h.0, number_off t.sample_stamp h.1.0.1, number_off t.stamp h.1.1.0.1, strobe_off p t.strobe h.1.1.1.0, option_off word (2 ^ port_width p) t.driven h.1.1.1.1)

abbrev made : (on output : Bool) (clock : Clock) (counter : ℕ) (buffers : Bool) (tw want value : ℕ) (condition : Condition) (time : Option ℕ) (sr count : ℕ) (tr : Option Transfer)
    (held : Bool) (sample_stamp stamp : ℕ) (strobe driven : Option ℕ) → PortState
made on output clock counter buffers tw want value condition time sr count tr held sample_stamp stamp strobe driven =
    record {
      on = on;
      output = output;
      clock = clock;
      counter = counter;
      buffers = buffers;
      tw = tw;
      want = want;
      value = value;
      condition = condition;
      time = time;
      sr = sr;
      count = count;
      tr = tr;
      held = held;
      sample_stamp = sample_stamp;
      stamp = stamp;
      strobe = strobe;
      driven = driven;
    }

all_off : {on output : Bool} {clock : Clock} {counter : ℕ} {buffers : Bool} {tw want value : ℕ} {condition : Condition} {time : Option ℕ} {sr count : ℕ} {tr : Option Transfer}
    {held : Bool} {sample_stamp stamp : ℕ} {strobe driven : Option ℕ}
    → on ≡ false → (output ≡ false) × (clock ≡ Reference) × (counter ≡ 0) → (buffers ≡ false) × (tw ≡ 0) × (want ≡ 0) × (value ≡ 0) → (condition ≡ conditions.None) × (time ≡ None)
    → (sr ≡ 0) × (count ≡ 0) → tr ≡ None → (held ≡ false) × (sample_stamp ≡ 0) × (stamp ≡ 0) × (strobe ≡ None) × (driven ≡ None)
    → made on output clock counter buffers tw want value condition time sr count tr held sample_stamp stamp strobe driven ≡ off_state
all_off on b w t s tr z = rw (on, b.0, b.1, b.2, w.0, w.1, w.2, w.3, t.0, t.1, s.0, s.1, tr, z.0, z.1, z.2, z.3, z.4) refl

port_off : (p : ℕ) (state : PortState) → (port p).Holds state → state.on ≡ false → state ≡ off_state
unfolding port
port_off p state h off =
    let b = basics_off (basics_in state) off h.0 in
    let w = widths_off p state.on (widths_in state) off h.1.0 in
    let t = trigger_off state.on (trigger_in state) off h.1.1.0 in
    let s = shift_off p state.output state.tw (shift_in state) b.0 w.1 h.1.1.1.0 in
    let tr = subst (λ (on : Bool). (transfer p on state.tw).Holds state.tr) off h.1.1.1.1.0 in
    let z = tail_off p state.on (tail_in state) off h.1.1.1.1.1 in
    all_off off b w t s (transfer_off p state.tw state.tr tr) z

-- nothing but 0 stands there
off_has : (p : ℕ) → (port p).Holds off_state
unfolding port basics clock widths trigger condition shift transfer strobe tail
off_has p = (
  (flag_is false, (flag_none false, ((omega arith, refl), (omega arith, refl)))),
  (
    (flag_none false, ((omega arith, refl), ((omega arith, beats_0 (port_width p) 0), (omega arith, refl)))),
    (
      ((omega arith, refl), option_none half false (2 ^ 16) half_0),
      (
        ((omega arith, refl), (omega arith, count_0 p)),
        (
          (option_none word false (2 ^ 32) word_0, ((omega arith, refl), option_none half false (2 ^ 16) half_0)),
          (flag_none false, ((omega arith, refl), ((omega arith, refl), ((omega arith, refl), option_none word false (2 ^ port_width p) word_0)))),
        ),
      ),
    ),
  ),
)
  where
    count_0 : (p : ℕ) → IsTrue (is_count p false 0 0 0)
    count_0 p = and_from (are_beats (port_width p) 0 0) true (beats_0 (port_width p) 0) refl

-- ---- A port that is on

clock_is : (c : Clock) → (clock true).Holds c → IsClock c
unfolding clock
clock_is Reference h = tt
clock_is (Block k) h = omega (arith, ltb-true (1 + k) 7 h.1)

clock_has : (c : Clock) → IsClock c → (clock true).Holds c
unfolding clock
clock_has Reference is = (omega arith, refl)
clock_has (Block k) is = (omega (arith, is), lt-ltb (1 + k) 7 (omega (arith, is)))

basics_has : (b : Basics) → b.on ≡ true → IsClock b.clock → b.counter < 2 ^ 16 → basics.Holds b
unfolding basics
basics_has b on clock_is counter =
    let k : (flag_where true).Holds b.output × ((clock true).Holds b.clock × (below half (limit_where true (2 ^ 16))).Holds b.counter) =
    (flag_on b.output, (clock_has b.clock clock_is, half_on b.counter counter)) in
    (flag_is b.on, subst (λ (o : Bool). (flag_where o).Holds b.output × ((clock o).Holds b.clock × (below half (limit_where o (2 ^ 16))).Holds b.counter)) (sym on) k)

unbuffered_is : (buffers : Bool) (tw width : ℕ) → IsTrue (buffers || (tw == width)) → buffers ≡ false → tw ≡ width
unbuffered_is true tw width h off = absurd (true≢false off)
unbuffered_is false tw width h off = eqb-true tw width h

unbuffered_of : (buffers : Bool) (tw width : ℕ) → (buffers ≡ false → tw ≡ width) → IsTrue (buffers || (tw == width))
unbuffered_of true tw width is = refl
unbuffered_of false tw width is = eq-eqb tw width (is refl)

-- what is said of the widths
record AreWidths (p : ℕ) (w : Widths) : Type 0 where
  transfer_width : is_transfer_width (port_width p) w.tw ≡ true
  unbuffered : w.buffers ≡ false → w.tw ≡ port_width p
  want : AreBeats (port_width p) w.tw w.want
  value : w.value < 2 ^ port_width p

widths_are : (p : ℕ) (w : Widths) → (widths p true).Holds w → AreWidths p w
unfolding widths
widths_are p w h =
    let tw = and_parts (is_transfer_width (port_width p) w.tw) (w.buffers || (w.tw == port_width p)) h.1.0.1 in
    record {
      transfer_width = tw.0;
      unbuffered = unbuffered_is w.buffers w.tw (port_width p) tw.1;
      want = beats_are (port_width p) w.tw w.want h.1.1.0.1;
      value = ltb-true w.value (2 ^ port_width p) h.1.1.1.1;
    }

widths_have : (p : ℕ) (w : Widths) → AreWidths p w → (widths p true).Holds w
unfolding widths
widths_have p w are =
    let most : w.tw ≤ 32 = transfer_most (port_width p) w.tw are.transfer_width in
    let tw = and_from (is_transfer_width (port_width p) w.tw) (w.buffers || (w.tw == port_width p)) are.transfer_width (unbuffered_of w.buffers w.tw (port_width p) are.unbuffered) in (
      flag_on w.buffers,
      (
        (omega (arith, most), tw),
        (
          (omega (arith, most, are.want.most), are_beats_of (port_width p) w.tw w.want are.want),
          (omega (arith, are.value, width_limit p), lt-ltb w.value (2 ^ port_width p) are.value),
        ),
      ),
    )

condition_has : (c : Condition) → (condition true).Holds c
unfolding condition
condition_has conditions.None = (omega arith, refl)
condition_has conditions.Equal = (omega arith, refl)
condition_has conditions.NotEqual = (omega arith, refl)

trigger_has : (t : Trigger) → IfSome t.time (λ n. n < 2 ^ 16) → (trigger true).Holds t
unfolding trigger
trigger_has t time = (condition_has t.condition, option_on half (2 ^ 16) t.time half_0 (halves t.time time))

shift_is : (p : ℕ) (output : Bool) (tw : ℕ) (s : Shift) → (shift p output tw).Holds s → AreBeats (port_width p) tw s.count × IsShiftState output tw s.count s.sr
unfolding shift
shift_is p true tw s h =
    let parts = and_parts (are_beats (port_width p) tw s.count) (nat_lt s.sr (2 ^ s.count)) h.1.1 in
    (beats_are (port_width p) tw s.count parts.0, ltb-true s.sr (2 ^ s.count) parts.1)
shift_is p false tw s h =
    let parts = and_parts (are_beats (port_width p) tw s.count) (s.sr % 2 ^ (tw - s.count) == 0) h.1.1 in
    (beats_are (port_width p) tw s.count parts.0, (ltb-true s.sr (2 ^ tw) h.0.1, eqb-true (s.sr % 2 ^ (tw - s.count)) 0 parts.1))

-- a number of at most 32 bits
of_word : (n bits : ℕ) → bits ≤ 32 → n < 2 ^ bits → n < 2 ^ 32
of_word n bits most h = omega (arith, h, pow-le-pow_right {n = 2} (omega arith) most)

shift_has : (p : ℕ) (output : Bool) (tw : ℕ) (s : Shift) → tw ≤ 32 → AreBeats (port_width p) tw s.count → IsShiftState output tw s.count s.sr → (shift p output tw).Holds s
unfolding shift
shift_has p true tw s most beats is =
    let few : s.count ≤ 32 = omega (arith, most, beats.most) in
    let sr : s.sr < 2 ^ 32 = of_word s.sr s.count few is in (
      (omega (arith, sr), lt-ltb s.sr (2 ^ 32) sr),
      (omega (arith, few), and_from (are_beats (port_width p) tw s.count) (nat_lt s.sr (2 ^ s.count)) (are_beats_of (port_width p) tw s.count beats) (lt-ltb s.sr (2 ^ s.count) is)),
    )
shift_has p false tw s most beats is =
    let few : s.count ≤ 32 = omega (arith, most, beats.most) in
    let sr : s.sr < 2 ^ 32 = of_word s.sr tw most is.0 in (
      (omega (arith, sr), lt-ltb s.sr (2 ^ tw) is.0),
      (
        omega (arith, few),
        and_from (are_beats (port_width p) tw s.count) (s.sr % 2 ^ (tw - s.count) == 0) (are_beats_of (port_width p) tw s.count beats) (eq-eqb (s.sr % 2 ^ (tw - s.count)) 0 is.1),
      ),
    )

transfer_is : (p tw : ℕ) (tr : Option Transfer) → (transfer p true tw).Holds tr → IfSome tr (IsTransferState (port_width p) tw)
unfolding transfer
transfer_is p tw None h = tt
transfer_is p tw (Some t) h =
    let parts = and_parts (are_beats (port_width p) tw t.bits) (nat_lt 0 t.bits && nat_lt t.value (2 ^ t.bits)) h.1.0.1 in
    let more = and_parts (nat_lt 0 t.bits) (nat_lt t.value (2 ^ t.bits)) parts.1 in
    record { beats = beats_are (port_width p) tw t.bits parts.0; some = ltb-true 0 t.bits more.0; value = ltb-true t.value (2 ^ t.bits) more.1 }

transfer_has : (p tw : ℕ) (tr : Option Transfer) → tw ≤ 32 → IfSome tr (IsTransferState (port_width p) tw)
    → IfSome tr (λ t. IfSome t.time (λ n. n < 2 ^ 16)) → (transfer p true tw).Holds tr
unfolding transfer
transfer_has p tw None most is times = (option_none word true (2 ^ 32) word_0, ((omega arith, refl), option_none half false (2 ^ 16) half_0))
transfer_has p tw (Some t) most is times =
    let few : t.bits ≤ 32 = omega (arith, most, is.beats.most) in
    let value : t.value < 2 ^ 32 = of_word t.value t.bits few is.value in
    let fits = and_from (nat_lt 0 t.bits) (nat_lt t.value (2 ^ t.bits)) (lt-ltb 0 t.bits is.some) (lt-ltb t.value (2 ^ t.bits) is.value) in (
      (flag_on true, (omega (arith, value), lt-ltb t.value (2 ^ 32) value)),
      (
        (omega (arith, few), and_from (are_beats (port_width p) tw t.bits) (nat_lt 0 t.bits && nat_lt t.value (2 ^ t.bits)) (are_beats_of (port_width p) tw t.bits is.beats) fits),
        option_on half (2 ^ 16) t.time half_0 (halves t.time times),
      ),
    )

strobe_is : (p : ℕ) (s : Option ℕ) → (strobe p true).Holds s → IfSome s (IsStrobeState p)
unfolding strobe
strobe_is p None h = tt
strobe_is p (Some k) h =
    let parts = and_parts (nat_le (1 + k) 16) (not (1 + k == 1 + p)) h.1 in
    let other : 1 + k ≢ 1 + p = eqb-false (1 + k) (1 + p) (not-true (1 + k == 1 + p) parts.1) in
    record { other = λ e. other (ap (λ (n : ℕ). 1 + n) e); one = omega (arith, leb-true (1 + k) 16 parts.0) }

strobe_has : (p : ℕ) (s : Option ℕ) → IfSome s (IsStrobeState p) → (strobe p true).Holds s
unfolding strobe
strobe_has p None is =
    let other : (0 == 1 + p) ≡ false = ne_eqb 0 (1 + p) (λ e. omega (arith, e)) in
    (omega arith, and_from (nat_le 0 16) (not (0 == 1 + p)) refl (not_from_false (0 == 1 + p) other))
strobe_has p (Some k) is =
    let low : 1 + k ≤ 16 = omega (arith, is.one) in
    let other : (1 + k == 1 + p) ≡ false = ne_eqb (1 + k) (1 + p) (λ e. is.other (omega (arith, e))) in
    (omega (arith, low), and_from (nat_le (1 + k) 16) (not (1 + k == 1 + p)) (le-leb (1 + k) 16 low) (not_from_false (1 + k == 1 + p) other))

tail_is : (p : ℕ) (t : Tail) → (tail p true).Holds t → IfSome t.strobe (IsStrobeState p) × IfSome t.driven (λ n. n < 2 ^ port_width p)
unfolding tail
tail_is p t h = (strobe_is p t.strobe h.1.1.1.0, option_fits word (2 ^ port_width p) t.driven h.1.1.1.1)

tail_has : (p : ℕ) (t : Tail) → t.sample_stamp < 2 ^ 16 → t.stamp < 2 ^ 16 → IfSome t.strobe (IsStrobeState p) → IfSome t.driven (λ n. n < 2 ^ port_width p) → (tail p true).Holds t
unfolding tail
tail_has p t sample stamp is driven = (
  flag_on t.held,
  (
    half_on t.sample_stamp sample,
    (half_on t.stamp stamp, (strobe_has p t.strobe is, option_on word (2 ^ port_width p) t.driven word_0 (words (2 ^ port_width p) t.driven (width_limit p) driven))),
  ),
)

port_on : (p : ℕ) (state : PortState) → (port p).Holds state → state.on ≡ true → IsOnState p state
unfolding port basics
port_on p state h on =
    let c = subst (λ (o : Bool). (clock o).Holds state.clock) on h.0.1.1.0 in
    let w = widths_are p (widths_in state) (subst (λ (o : Bool). (widths p o).Holds (widths_in state)) on h.1.0) in
    let s = shift_is p state.output state.tw (shift_in state) h.1.1.1.0 in
    let tr = transfer_is p state.tw state.tr (subst (λ (o : Bool). (transfer p o state.tw).Holds state.tr) on h.1.1.1.1.0) in
    let t = tail_is p (tail_in state) (subst (λ (o : Bool). (tail p o).Holds (tail_in state)) on h.1.1.1.1.1) in
    record {
      clock = clock_is state.clock c;
      transfer_width = w.transfer_width;
      unbuffered = w.unbuffered;
      want = w.want;
      value = w.value;
      count = s.0;
      shift = s.1;
      transfer = tr;
      strobe = t.0;
      driven = t.1;
    }

on_has : (p : ℕ) (state : PortState) → state.on ≡ true → IsOnState p state → FitsHalves state → (port p).Holds state
unfolding port
on_has p state on is halves =
    let most : state.tw ≤ 32 = transfer_most (port_width p) state.tw is.transfer_width in
    let w = widths_have p (widths_in state) (record { transfer_width = is.transfer_width; unbuffered = is.unbuffered; want = is.want; value = is.value }) in
    let tr = transfer_has p state.tw state.tr most is.transfer halves.transfer_time in
    let t = tail_has p (tail_in state) halves.sample_stamp halves.stamp is.strobe is.driven in (
      basics_has (basics_in state) on is.clock halves.counter,
      (
        subst (λ (o : Bool). (widths p o).Holds (widths_in state)) (sym on) w,
        (
          subst (λ (o : Bool). (trigger o).Holds (trigger_in state)) (sym on) (trigger_has (trigger_in state) halves.time),
          (
            shift_has p state.output state.tw (shift_in state) most is.count is.shift,
            (subst (λ (o : Bool). (transfer p o state.tw).Holds state.tr) (sym on) tr, subst (λ (o : Bool). (tail p o).Holds (tail_in state)) (sym on) t),
          ),
        ),
      ),
    )

-- ---- Ports

-- what has the form is what a snapshot may say
pub port_is : (p : ℕ) (state : PortState) → (port p).Holds state → IsPortState p state
port_is p state h = record { off = port_off p state h; on = port_on p state h }

-- what a snapshot may say has the form, where its numbers are those of their types
pub port_has : (p : ℕ) (state : PortState) → IsPortState p state → FitsHalves state → (port p).Holds state
port_has p state is halves =
    elim (cases_Bool state.on) [
      | inl on ↦ on_has p state on (is.on on) halves
      | inr off ↦ subst (λ (s : PortState). (port p).Holds s) (sym (is.off off)) (off_has p)
    ]

-- ---- All ports

chain_holds : (before states : List PortState) → HoldInChain next_port before states → (i : ℕ) → i < length states → (port (length before + i)).Holds (get_or states i off_state)
unfolding HoldInChain
chain_holds before [] h i lt = absurd (omega (arith, lt))
chain_holds before (s ∷ states) h zero lt =
    let here : length before ≡ length before + 0 = omega arith in
    subst (λ (n : ℕ). (port n).Holds s) here h.0
chain_holds before (s ∷ states) h (suc i) lt =
    let there : length (before ++ s ∷ []) + i ≡ length before + suc i = omega (arith, length-append before (s ∷ [])) in
    subst (λ (n : ℕ). (port n).Holds (get_or states i off_state)) there (chain_holds (before ++ s ∷ []) states h.1 i (omega (arith, lt)))

chain_of : (before states : List PortState) → ((i : ℕ) → i < length states → (port (length before + i)).Holds (get_or states i off_state)) → HoldInChain next_port before states
unfolding HoldInChain
chain_of before [] each = tt
chain_of before (s ∷ states) each =
    let here : length before + 0 ≡ length before = omega arith in
    let there : (i : ℕ) → length before + suc i ≡ length (before ++ s ∷ []) + i = λ i. omega (arith, length-append before (s ∷ [])) in (
      subst (λ (n : ℕ). (port n).Holds s) here (each 0 (omega arith)),
      chain_of (before ++ s ∷ []) states (λ i lt. subst (λ (n : ℕ). (port n).Holds (get_or states i off_state)) (there i) (each (suc i) (omega (arith, lt)))),
    )

pub ports_are : (states : List PortState) → ports.Holds states → (length states ≡ 29) × ArePortStates states
unfolding ports
ports_are states h = (
  h.0,
  λ p lt.
      let place : 0 + p ≡ p = omega arith in
      port_is p (get_or states p off_state) (subst (λ (n : ℕ). (port n).Holds (get_or states p off_state)) place (chain_holds [] states h.1 p (omega (arith, lt, h.0)))),
)

pub ports_have : (states : List PortState) → length states ≡ 29 → ArePortStates states → FitHalves states → ports.Holds states
unfolding ports
ports_have states len are fit = (
  len,
  chain_of [] states (λ p lt.
      let place : p ≡ 0 + p = omega arith in
      let within : p < 29 = omega (arith, lt, len) in
      subst (λ (n : ℕ). (port n).Holds (get_or states p off_state)) place (port_has p (get_or states p off_state) (are p within) (fit p within))),
)
