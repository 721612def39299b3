-- What a line says that gives a wire: the edition is 2, and its ports are there.
use Rattle.std.proofs.Common.{◌≡◌, ℕ, zero, suc, ◌+◌, ◌<◌, ◌≤◌, Bool, true, false, ◌&&◌, List, [], ◌∷◌, Option, Some, None, refl, sym, ap, ◌∙◌, subst, take, drop, find, arith}
use Rattle.std.specs.Prelude.{◌==◌, bytes_eq, codes, if◌then◌else◌}
use Rattle.std.specs.List.{AllByRecursion, range_with_len}
use Rattle.std.proofs.lemmas.Bool.Decides.{nat_tests}
use Rattle.xs_text.specs.Numbers.{number_of}
use Rattle.xs_text.specs.Words.{words_of_line}
use Rattle.xs_instructions.specs.Image.{same_name}
use Rattle.pin_scripts.specs.Pins.{port_name, port_of}
use Rattle.pin_scripts.specs.Script.{port_numbers}
use Rattle.system_model.specs.declared.frame_line.FrameLine.TheVariants.{Wire}
use Rattle.system_model.specs.declared.frame_line.PinName.{PinName}
use Rattle.system_model.specs.declared.frame_line.WireLine.{WireLine}
use Rattle.system_model.specs.FrameLines.{◌>>=◌, node_line, link_line, bit_line, wire_line, section_line, frame_line, pin_name, before_colon}
use Rattle.system_model.specs.Frame.{Given, Form, says}
use Rattle.system_model.specs.System.{edition_given}
use Rattle.system_text.proofs.Networks.{IsSaidOutside, said_outside, as_wire}

-- A port that has a name is there.

all_below : (start count most : ℕ) → start + count ≤ most → AllByRecursion (λ (n : ℕ). n < most) (range_with_len start count)
all_below start zero most h = tt
all_below start (suc count) most h = (omega arith, all_below (start + 1) count most (omega arith))

found_by : (P : ℕ → Type 0) (b : Bool) (x n : ℕ) (later : Option ℕ) → P x → (later ≡ Some n → P n) → (if b then Some x else later) ≡ Some n → P n
found_by P true x n later p h e = let is : x ≡ n = cc in subst P is p
found_by P false x n later p h e = h e

found : (P : ℕ → Type 0) (test : ℕ → Bool) (xs : List ℕ) (n : ℕ) → AllByRecursion P xs → find test xs ≡ Some n → P n
found P test [] n all e = absurd cc
found P test (x ∷ xs) n all e = found_by P (test x) x n (find test xs) all.0 (found P test xs n all.1) e

port_below : (name : List ℕ) (port : ℕ) → port_of name ≡ Some port → port < 29
unfolding port_of
port_below name port e = found (λ (n : ℕ). n < 29) (λ n. bytes_eq (port_name n) name) port_numbers port (all_below 0 29 29 (omega arith)) e

abbrev pin_of : Option ℕ → Option ℕ → Option PinName
pin_of p q = p >>= λ node. q >>= λ port. Some (record { node = node; port = port })

pin_by : (p q : Option ℕ) (pin : PinName) → ((port : ℕ) → q ≡ Some port → port < 29) → pin_of p q ≡ Some pin → pin.port < 29
pin_by None q pin h e = absurd cc
pin_by (Some node) None pin h e = absurd cc
pin_by (Some node) (Some port) pin h e =
    let made : PinName = record { node = node; port = port } in
    let same : made ≡ pin = cc in
    subst (λ (x : PinName). x.port < 29) same (h port refl)

pin_port : (word : List ℕ) (pin : PinName) → pin_name word ≡ Some pin → pin.port < 29
unfolding pin_name
pin_port word pin e = pin_by (number_of (take (before_colon word) word)) (port_of (drop (before_colon word + 1) word)) pin (port_below (drop (before_colon word + 1) word)) e

-- A wire by the parts of its line

record HasPorts (wire : WireLine) : Type 0 where
  pub a_port : wire.a.port < 29
  pub b_port : wire.b.port < 29

abbrev HasPort : Option PinName → Type 0
HasPort o = (pin : PinName) → o ≡ Some pin → pin.port < 29

abbrev wire_of : Option PinName → Option PinName → Option ℕ → Option WireLine
wire_of p q d = p >>= λ a. q >>= λ b. d >>= λ delay. Some (record { a = a; b = b; delay = delay })

parts : (p q : Option PinName) (d : Option ℕ) (wire : WireLine) → HasPort p → HasPort q → wire_of p q d ≡ Some wire → HasPorts wire
parts None q d wire h k e = absurd cc
parts (Some a) None d wire h k e = absurd cc
parts (Some a) (Some b) None wire h k e = absurd cc
parts (Some a) (Some b) (Some m) wire h k e =
    let made : WireLine = record { a = a; b = b; delay = m } in
    let same : made ≡ wire = cc in
    subst HasPorts same (record { a_port = h a refl; b_port = k b refl })

by_test : (t : Bool) (o : Option WireLine) (wire : WireLine) → (if t then o else None) ≡ Some wire → (t ≡ true) × (o ≡ Some wire)
by_test true o wire e = (refl, e)
by_test false o wire e = absurd cc

first : (a b : Bool) → (a && b) ≡ true → a ≡ true
first true b e = refl
first false b e = cc

second_edition : (edition : ℕ) → (edition == 2) ≡ true → edition ≡ 2
second_edition edition e = grind (arith, nat_tests)

-- what a line says that gives a wire
pub record IsWireSaid (edition : ℕ) (wire : WireLine) : Type 0 where
  pub second : edition ≡ 2
  pub a_port : wire.a.port < 29
  pub b_port : wire.b.port < 29

by_words : (edition : ℕ) (words : List (List ℕ)) (wire : WireLine) → wire_line edition words ≡ Some wire → IsWireSaid edition wire
unfolding wire_line
by_words edition [] wire e = absurd cc
by_words edition (k ∷ []) wire e = absurd cc
by_words edition (k ∷ x ∷ []) wire e = absurd cc
by_words edition (k ∷ x ∷ y ∷ []) wire e = absurd cc
by_words edition (k ∷ x ∷ y ∷ v ∷ []) wire e = absurd cc
by_words edition (k ∷ x ∷ y ∷ v ∷ d ∷ []) wire e =
    let is = by_test ((edition == 2) && (same_name (codes "wire") k && same_name (codes "delay") v)) (wire_of (pin_name x) (pin_name y) (number_of d)) wire e in
    let ports = parts (pin_name x) (pin_name y) (number_of d) wire (pin_port x) (pin_port y) is.1 in
    record { second = second_edition edition (first (edition == 2) _ is.0); a_port = ports.a_port; b_port = ports.b_port }
by_words edition (k ∷ x ∷ y ∷ v ∷ d ∷ w ∷ words) wire e = absurd cc

by_line : (edition : ℕ) (words : List (List ℕ)) (wire : WireLine) → frame_line edition words ≡ Some (Wire wire) → IsWireSaid edition wire
unfolding frame_line
by_line edition words wire e =
    by_words edition words wire (as_wire (node_line words) (link_line edition words) (bit_line words) (wire_line edition words) (section_line words) wire e)

in_edition : (given : Option ℕ) (words : List (List ℕ)) (wire : WireLine) → IsSaidOutside given words (Wire wire) → IsWireSaid (edition_given given) wire
in_edition given words wire s = subst (λ (n : ℕ). IsWireSaid n wire) (sym (ap edition_given s.is_given)) (by_line s.edition words wire s.said)

pub wire_said : (given : Given) (l : List ℕ) (wire : WireLine) → says given l ≡ Form (Wire wire) → IsWireSaid (edition_given given.edition) wire
wire_said given l wire s = in_edition given.edition (words_of_line l) wire (said_outside given l (Wire wire) tt s)
