-- The lines of wires, from their words.
use Rattle.std.proofs.Common.{◌≡◌, ℕ, ◌+◌, ◌-◌, ◌<◌, ◌≤◌, Bool, true, false, ◌&&◌, List, [], ◌∷◌, length, Option, Some, None, Result, Ok, Err, refl, sym, option_map, nat_le, take, drop, arith}
use Rattle.std.specs.Prelude.{codes, if◌then◌else◌, ◌==◌}
use Rattle.std.proofs.lemmas.Bool.Decides.{nat_tests}
use Rattle.xs_text.specs.Numbers.{number_of}
use Rattle.xs_instructions.specs.Image.{same_name}
use Rattle.pin_scripts.specs.Pins.{port_of}
use Rattle.system_model.specs.declared.SysKind.{SysKind}
use Rattle.system_model.specs.declared.SysKind.TheVariants.{BadLine}
use Rattle.system_model.specs.declared.frame_line.FrameLine.{FrameLine}
use Rattle.system_model.specs.declared.frame_line.FrameLine.TheVariants.{Wire}
use Rattle.system_model.specs.declared.frame_line.PinName.{PinName}
use Rattle.system_model.specs.declared.frame_line.WireLine.{WireLine}
use Rattle.system_model.specs.FrameLines.{◌>>=◌, wire_line, pin_name, before_colon, is_between}
use Rattle.system_text.specs.declared.wire_lines.NamedPin.{NamedPin}
use Rattle.system_text.specs.declared.words.Word.{Word}
use Rattle.system_text.specs.Forms.{ranged, or_bad, formed, capped}
use Rattle.system_text.specs.LineWords.{bytes_of}
use Rattle.system_text.specs.WireForms.{capped_pin, pin_of}
use Rattle.system_text.proofs.Forms.{chain, read, between_capped, word_at}
use Rattle.system_text.proofs.Lists.{none_left, suffix}

-- The names of pins

-- a pin as it is read
abbrev pub read_pin : Option PinName → Result NamedPin SysKind
read_pin o = or_bad (option_map capped_pin o)

abbrev pin_by : Option ℕ → Option ℕ → Option PinName
pin_by p q = p >>= λ node. q >>= λ port. Some (record { node = node; port = port })

pin_steps : (p q : Option ℕ) → read_pin (pin_by p q) ≡ chain (read p) (λ n. chain (or_bad q) (λ k. Ok (record { node = n; port = k })))
pin_steps None q = refl
pin_steps (Some n) None = refl
pin_steps (Some n) (Some k) = refl

pub pin_is : (word : List ℕ) (colon : ℕ) → colon ≡ before_colon word
    → read_pin (pin_name word) ≡ chain (read (number_of (take colon word)))
    (λ n. chain (or_bad (port_of (take (length word - (colon + 1)) (drop (colon + 1) word)))) (λ k. Ok (record { node = n; port = k })))
unfolding pin_name
pin_is word colon is = rw (suffix word (colon + 1), sym is) (pin_steps (number_of (take colon word)) (port_of (drop (colon + 1) word)))

no_port_by : (p q : Option ℕ) → q ≡ None → Err BadLine ≡ read_pin (pin_by p q)
no_port_by None q e = refl
no_port_by (Some n) q e = rw e refl

no_port : port_of [] ≡ None
unfolding port_of
no_port = refl

pub pin_none : (word : List ℕ) (colon : ℕ) → colon ≡ before_colon word → colon ≡ length word → Err BadLine ≡ read_pin (pin_name word)
unfolding pin_name
pin_none word colon is past =
    let none : drop (before_colon word + 1) word ≡ [] = none_left word (before_colon word + 1) (omega arith) in
    no_port_by (number_of (take (before_colon word) word)) (port_of (drop (before_colon word + 1) word)) (rw none no_port)

-- Wires

capped_by : (b : Bool) (m n k : ℕ) → (b ≡ true → m ≡ n) → ranged {A = PinName} b (record { node = m; port = k }) ≡ ranged b (record { node = n; port = k })
capped_by true m n k f = rw (f refl) refl
capped_by false m n k f = refl

pin_capped : (name : PinName) → ranged (nat_le (capped name.node) 99) (pin_of (capped_pin name)) ≡ ranged (nat_le name.node 99) name
pin_capped name =
    let node : nat_le (capped name.node) 99 ≡ nat_le name.node 99 = grind (arith, nat_tests) in
    rw node (capped_by (nat_le name.node 99) (capped name.node) name.node name.port (λ e. grind (arith, nat_tests)))

abbrev wire_of : Option PinName → Option PinName → Option ℕ → Option WireLine
wire_of p q d = p >>= λ a. q >>= λ b. d >>= λ delay. Some (record { a = a; b = b; delay = delay })

all_ranged : (s t u : Bool) (a b : PinName) (d : ℕ) → ranged (s && (t && u)) (Wire (record { a = a; b = b; delay = d }))
    ≡ chain (ranged s a) (λ x. chain (ranged t b) (λ y. chain (ranged u d) (λ m. Ok (Wire (record { a = x; b = y; delay = m })))))
all_ranged true true true a b d = refl
all_ranged true true false a b d = refl
all_ranged true false u a b d = refl
all_ranged false t u a b d = refl

abbrev wire_ranged : NamedPin → NamedPin → ℕ → Result FrameLine SysKind
wire_ranged a b d =
    chain (ranged (nat_le a.node 99) (pin_of a)) (λ x. chain (ranged (nat_le b.node 99) (pin_of b))
    (λ y. chain (ranged (is_between 1 1000 d) d) (λ m. Ok (Wire (record { a = x; b = y; delay = m })))))

-- a wire whose parts are read so
abbrev wire_read : Option PinName → Option PinName → Option ℕ → Result FrameLine SysKind
wire_read p q d = chain (read_pin p) (λ a. chain (read_pin q) (λ b. chain (read d) (λ m. wire_ranged a b m)))

abbrev wire_formed : Option WireLine → Result FrameLine SysKind
wire_formed o = formed (option_map (λ (l : WireLine). Wire l) o)

wire_steps : (p q : Option PinName) (d : Option ℕ) → wire_formed (wire_of p q d) ≡ wire_read p q d
wire_steps None q d = refl
wire_steps (Some a) None d = refl
wire_steps (Some a) (Some b) None = refl
wire_steps (Some a) (Some b) (Some m) =
    rw (pin_capped a, pin_capped b, between_capped 1 1000 m (omega arith)) (all_ranged (nat_le a.node 99) (nat_le b.node 99) (is_between 1 1000 m) a b m)

-- a wire by the words after `wire`
abbrev pub wire_by_words : List Word → Result FrameLine SysKind
wire_by_words words = wire_read (pin_name (word_at words 0)) (pin_name (word_at words 1)) (number_of (word_at words 3))

wire_by : (s t : Bool) (p q : Option PinName) (d : Option ℕ) → s ≡ true → t ≡ true → wire_formed (if s && t then wire_of p q d else None) ≡ wire_read p q d
wire_by true true p q d e f = wire_steps p q d
wire_by true false p q d e f = cc
wire_by false t p q d e f = cc

pub wire_is : (edition : ℕ) (words : List Word) → 4 ≤ length words → length words < 5 → edition ≡ 2 → same_name (codes "delay") (word_at words 2) ≡ true
    → wire_formed (wire_line edition (codes "wire" ∷ bytes_of words)) ≡ wire_by_words words
unfolding wire_line
wire_is edition [] h k e f = absurd (omega (arith, h))
wire_is edition (a ∷ []) h k e f = absurd (omega (arith, h))
wire_is edition (a ∷ b ∷ []) h k e f = absurd (omega (arith, h))
wire_is edition (a ∷ b ∷ v ∷ []) h k e f = absurd (omega (arith, h))
wire_is edition (a ∷ b ∷ v ∷ d ∷ []) h k e f =
    wire_by (edition == 2) (same_name (codes "delay") v.bytes.now) (pin_name a.bytes.now) (pin_name b.bytes.now) (number_of d.bytes.now) (grind (arith, nat_tests)) f
wire_is edition (a ∷ b ∷ v ∷ d ∷ w ∷ words) h k e f = absurd (omega (arith, k))

-- words that are not those of a wire
pub wire_other : (edition : ℕ) (words : List Word) → (length words ≡ 4 → ⊥) → Err BadLine ≡ wire_formed (wire_line edition (codes "wire" ∷ bytes_of words))
unfolding wire_line
wire_other edition [] h = refl
wire_other edition (a ∷ []) h = refl
wire_other edition (a ∷ b ∷ []) h = refl
wire_other edition (a ∷ b ∷ v ∷ []) h = refl
wire_other edition (a ∷ b ∷ v ∷ d ∷ []) h = absurd (h refl)
wire_other edition (a ∷ b ∷ v ∷ d ∷ w ∷ words) h = refl

not_by : (s t : Bool) (o : Option WireLine) → (s && t) ≡ false → Err BadLine ≡ wire_formed (if s && t then o else None)
not_by s t o e = rw e refl

wire_not : (edition : ℕ) (words : List Word) → ((edition == 2) && same_name (codes "delay") (word_at words 2)) ≡ false
    → Err BadLine ≡ wire_formed (wire_line edition (codes "wire" ∷ bytes_of words))
unfolding wire_line
wire_not edition [] e = refl
wire_not edition (a ∷ []) e = refl
wire_not edition (a ∷ b ∷ []) e = refl
wire_not edition (a ∷ b ∷ v ∷ []) e = refl
wire_not edition (a ∷ b ∷ v ∷ d ∷ []) e = not_by (edition == 2) (same_name (codes "delay") v.bytes.now) _ e
wire_not edition (a ∷ b ∷ v ∷ d ∷ w ∷ words) e = refl

first_false : (b c : Bool) → b ≡ false → (b && c) ≡ false
first_false true c e = cc
first_false false c e = refl

second_false : (b c : Bool) → c ≡ false → (b && c) ≡ false
second_false true c e = e
second_false false c e = refl

-- in an edition that is not 2
pub wire_early : (edition : ℕ) (words : List Word) → (edition ≡ 2 → ⊥) → Err BadLine ≡ wire_formed (wire_line edition (codes "wire" ∷ bytes_of words))
wire_early edition words h =
    let not : (edition == 2) ≡ false = grind (arith, nat_tests, h) in
    wire_not edition words (first_false (edition == 2) _ not)

-- without `delay` in its place
pub wire_no_delay : (edition : ℕ) (words : List Word) → same_name (codes "delay") (word_at words 2) ≡ false → Err BadLine ≡ wire_formed (wire_line edition (codes "wire" ∷ bytes_of words))
wire_no_delay edition words h = wire_not edition words (second_false (edition == 2) _ h)
