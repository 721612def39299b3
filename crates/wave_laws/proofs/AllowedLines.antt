-- The lines of a wave have allowed bytes alone.
use Rattle.std.proofs.Common.{◌≡◌, ℕ, zero, suc, ◌+◌, ◌/◌, ◌%◌, ◌<◌, ◌≤◌, ◌^◌, Bool, true, false, ◌==◌, List, [], ◌∷◌, ◌++◌, length, map, refl, ◌∙◌, arith}
use Rattle.std.specs.Prelude.{if◌then◌else◌, codes, decimal}
use Rattle.std.specs.List.{AllByRecursion, list_all}
use Rattle.std.specs.Char.{is_ascii_digit}
use Rattle.std.proofs.lemmas.Bool.{and_parts, and_from, agree_below_at}
use Rattle.std.proofs.lemmas.Bool.Decides.{nat_tests}
use Rattle.std.proofs.lemmas.List.Folds.{list_all-append}
use Rattle.xs_base.specs.Ids.{port_width}
use Rattle.xs_base.specs.Numbers.{Slot, Position, PortNumber}
use Rattle.xs_text.specs.Bytes.{is_allowed, all_allowed}
use Rattle.xs_text.specs.Tokens.{is_binary_digit}
use Rattle.pin_scripts.specs.Script.{NodeNumber, port_numbers}
use Rattle.sys_plan.specs.Plan.{numbers_from}
use Rattle.trace_model.specs.EventLines.{port_name}
use Rattle.wave_model.specs.declared.change.WaveChange.{WaveChange}
use Rattle.wave_model.specs.Lines.{PinNumber, code_of, pin_number, scope_line, var_line, end_of_scope, end_of_definitions, node_lines, nodes_lines}
use Rattle.wave_model.specs.Lines.{slot_line, binary, value_text, change_line}
use Rattle.wave_model.specs.Waves.{WaveRec, slot_lines, change_lines, all_change_lines, wave_lines}
use Rattle.wave_model.specs.Reads.{most_wave_slots}
use Rattle.wave_model.specs.Form.{pin_of_change, IsWave, IsChange}
use Rattle.wave_laws.proofs.TextBack.{IsAllowedLine}
use Rattle.wave_laws.proofs.Slots.{all_digits}
use Rattle.wave_laws.proofs.Binary.{binary_digits}
use Rattle.wave_laws.proofs.Values.{below_width, is_width}
use Rattle.wave_laws.proofs.NodeNumbers.{AreSmall}

allowed_append : (a b : List ℕ) → all_allowed a ≡ true → all_allowed b ≡ true → all_allowed (a ++ b) ≡ true
allowed_append a b h k = list_all-append is_allowed a b ∙ and_from _ _ h k

lines_append : (xs ys : List (List ℕ)) → AllByRecursion IsAllowedLine xs → AllByRecursion IsAllowedLine ys → AllByRecursion IsAllowedLine (xs ++ ys)
lines_append [] ys h k = k
lines_append (x ∷ xs) ys h k = (h.0, lines_append xs ys h.1 k)

-- ---- Words

digit_allowed : (b : ℕ) → is_ascii_digit b ≡ true → is_allowed b ≡ true
digit_allowed b h = grind (arith, nat_tests)

binary_allowed : (b : ℕ) → is_binary_digit b ≡ true → is_allowed b ≡ true
binary_allowed b h = grind (arith, nat_tests)

allowed_where : (test : ℕ → Bool) → ((b : ℕ) → test b ≡ true → is_allowed b ≡ true) → (bytes : List ℕ) → list_all test bytes ≡ true → all_allowed bytes ≡ true
allowed_where test each [] h = refl
allowed_where test each (b ∷ bytes) h =
    let p = and_parts (test b) (list_all test bytes) h in and_from _ _ (each b p.0) (allowed_where test each bytes p.1)

decimal_allowed : (n : ℕ) → n < 2 ^ 64 → all_allowed (decimal n) ≡ true
decimal_allowed n h = allowed_where is_ascii_digit digit_allowed (decimal n) (all_digits n h)

byte_allowed : (b : ℕ) → 32 ≤ b → b ≤ 126 → is_allowed b ≡ true
byte_allowed b h k = grind (arith, nat_tests)

code_allowed : (pin : PinNumber) → pin < 464 → all_allowed (code_of pin) ≡ true
code_allowed pin h =
    and_from _ _ (byte_allowed (33 + pin / 90) (omega arith) (omega arith)) (and_from _ _ (byte_allowed (33 + pin % 90) (omega arith) (omega arith)) refl)

name_allowed : (port : PortNumber) → port < 29 → all_allowed (port_name port) ≡ true
name_allowed port h = agree_below_at (λ p. all_allowed (port_name p)) (λ p. true) 29 port refl h

value_allowed : (width v : ℕ) → width ≤ 64 → v < 2 ^ width → all_allowed (value_text width v) ≡ true
value_allowed width v w h = by (width == 1)
  where
    digits : all_allowed (binary v) ≡ true
    digits = allowed_where is_binary_digit binary_allowed (binary v) (binary_digits v (below_width width v w h))

    by : (t : Bool) → all_allowed (if t then binary v else codes "b" ++ (binary v ++ codes " ")) ≡ true
    by true = digits
    by false = allowed_append (binary v) (codes " ") digits refl

-- ---- Lines

slot_allowed : (slot : Slot) → slot ≤ most_wave_slots → IsAllowedLine (slot_line slot)
slot_allowed slot h = decimal_allowed slot (omega arith)

scope_allowed : (number : NodeNumber) → number < 100 → IsAllowedLine (scope_line number)
scope_allowed number h = allowed_append (decimal number) (codes " $end") (decimal_allowed number (omega arith)) refl

var_allowed : (node : Position) (port : PortNumber) → node < 16 → port < 29 → IsAllowedLine (var_line node port)
var_allowed node port h k =
    let after_code : all_allowed (codes " " ++ (port_name port ++ codes " $end")) ≡ true = allowed_append (port_name port) (codes " $end") (name_allowed port k) refl in
    let after_width : all_allowed (codes " " ++ (code_of (pin_number node port) ++ (codes " " ++ (port_name port ++ codes " $end")))) ≡ true =
    allowed_append (code_of (pin_number node port)) (codes " " ++ (port_name port ++ codes " $end")) (code_allowed (pin_number node port) (omega arith)) after_code
    in
    let width : port_width port < 2 ^ 64 = omega (arith, is_width port) in
    allowed_append (codes "$var wire ") (decimal (port_width port) ++ (codes " " ++ (code_of (pin_number node port) ++ (codes " " ++ (port_name port ++ codes " $end"))))) refl
    (allowed_append (decimal (port_width port)) (codes " " ++ (code_of (pin_number node port) ++ (codes " " ++ (port_name port ++ codes " $end"))))
    (decimal_allowed (port_width port) width) after_width)

vars_allowed : (node : Position) (port count : ℕ) → node < 16 → port + count ≡ 29 → AllByRecursion IsAllowedLine (map (var_line node) (numbers_from port count))
vars_allowed node port zero h e = tt
vars_allowed node port (suc count) h e = (var_allowed node port h (omega (arith, e)), vars_allowed node (port + 1) count h (omega (arith, e)))

node_allowed : (node : Position) (number : NodeNumber) → node < 16 → number < 100 → AllByRecursion IsAllowedLine (node_lines node number)
node_allowed node number h k =
    (scope_allowed number k, lines_append (map (var_line node) port_numbers) (end_of_scope ∷ []) (vars_allowed node 0 29 h refl) (refl, tt))

nodes_allowed : (node : Position) (numbers : List NodeNumber) → node + length numbers ≤ 16 → AreSmall numbers → AllByRecursion IsAllowedLine (nodes_lines node numbers)
nodes_allowed node [] h s = tt
nodes_allowed node (number ∷ numbers) h s =
    lines_append (node_lines node number) (nodes_lines (node + 1) numbers) (node_allowed node number (omega (arith, h)) s.0)
    (nodes_allowed (node + 1) numbers (omega (arith, h)) s.1)

change_allowed : (wave : WaveRec) (change : WaveChange) → length wave.nodes ≤ 16 → IsChange wave change → IsAllowedLine (change_line change)
change_allowed wave change h c =
    allowed_append (value_text (port_width change.port) change.value) (code_of (pin_of_change change))
    (value_allowed (port_width change.port) change.value (is_width change.port) c.value)
    (code_allowed (pin_of_change change) (omega (arith, h, c.node, c.port)))

own_slot_allowed : (before slot : Slot) → slot ≤ most_wave_slots → AllByRecursion IsAllowedLine (slot_lines before slot)
own_slot_allowed before slot h = by (slot == before)
  where
    by : (t : Bool) → AllByRecursion IsAllowedLine (if t then [] else slot_line slot ∷ [])
    by true = tt
    by false = (slot_allowed slot h, tt)

changes_allowed : (wave : WaveRec) (before : Slot) (changes : List WaveChange) → IsWave wave → AllByRecursion (IsChange wave) changes
    → AllByRecursion IsAllowedLine (change_lines before changes)
changes_allowed wave before [] h c = tt
changes_allowed wave before (change ∷ changes) h c =
    lines_append (slot_lines before change.slot) (change_line change ∷ change_lines change.slot changes)
    (own_slot_allowed before change.slot (omega (arith, c.0.slot, h.last)))
    (change_allowed wave change h.few_nodes c.0, changes_allowed wave change.slot changes h c.1)

all_changes_allowed : (wave : WaveRec) → IsWave wave → AllByRecursion IsAllowedLine (all_change_lines wave)
all_changes_allowed wave h = by (wave.last == 0)
  where
    by : (t : Bool) → AllByRecursion IsAllowedLine (if t then [] else slot_line 0 ∷ change_lines 0 wave.changes)
    by true = tt
    by false = (slot_allowed 0 (omega arith), changes_allowed wave 0 wave.changes h h.changes)

pub wave_allowed : (wave : WaveRec) → IsWave wave → AllByRecursion IsAllowedLine (wave_lines wave)
wave_allowed wave h = (
  refl,
  lines_append (nodes_lines 0 wave.nodes) (end_of_definitions ∷ (all_change_lines wave ++ slot_line wave.last ∷ []))
      (nodes_allowed 0 wave.nodes (omega (arith, h.few_nodes)) h.numbers)
      (refl, lines_append (all_change_lines wave) (slot_line wave.last ∷ []) (all_changes_allowed wave h) (slot_allowed wave.last h.last, tt)),
)
