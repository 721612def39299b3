-- The script of a node is taken: no line has a fault, and each gives the line that it was made for.
use Rattle.std.proofs.Common.{◌≡◌, ℕ, ◌+◌, ◌≤◌, ◌^◌, true, false, ◌==◌, List, [], ◌∷◌, ◌++◌, map, refl, sym, ap, ◌∙◌, append_assoc, append-nil, arith}
use Rattle.std.specs.Prelude.{None}
use Rattle.std.specs.List.{AllByRecursion, list_any}
use Rattle.std.proofs.lemmas.Bool.{cond-false, or_from, not_from_true, le-ltb, lt-leb}
use Rattle.xs_base.specs.Ids.{port_width}
use Rattle.xs_text.specs.Words.{words_of_line}
use Rattle.pin_scripts.specs.declared.line.PinLine.{PinLine}
use Rattle.pin_scripts.specs.declared.line.PinSays.TheVariants.{Form}
use Rattle.pin_scripts.specs.Script.{NodeNumber}
use Rattle.pin_scripts.specs.Pins.{Script, pins_of, pins_from, unless_faulty, fault_of, fault_of_said, given_by, given_by_said, says_words, slot_after}
use Rattle.wave_model.specs.Waves.{script_line, node_script}
use Rattle.script_laws.proofs.LinesBack.{IsAllowed, lines_back}
use Rattle.script_laws.proofs.WordsBack.{IsLineOf, line_allowed, form_of, line_says}
use Rattle.script_laws.proofs.Apart.{MayPrecede, AreApart, gives_pin_of, node_apart}
use Rattle.script_laws.proofs.NodeLines.{node_lines_fit}
use Rattle.script_laws.specs.Laws.{ScriptsAreTaken}

-- ---- A line after others

-- the slot of the last line is not above that of a line that all may precede
not_above : (slot : ℕ) (line : PinLine) (before : List PinLine) → slot ≤ line.slot → AllByRecursion (λ b. MayPrecede b line) before → slot_after slot before ≤ line.slot
not_above slot line [] h k = h
not_above slot line (b ∷ before) h k = not_above b.slot line before k.0.slot k.1

-- no line before gives the same pin in its slot
none_gives : (line : PinLine) (before : List PinLine) → AllByRecursion (λ b. MayPrecede b line) before → list_any (gives_pin_of line) before ≡ false
none_gives line [] k = refl
none_gives line (b ∷ before) k = or_from _ _ k.0.apart (none_gives line before k.1)

module _ (numbers : List NodeNumber) (node : NodeNumber) (there : list_any (λ n. n == node) numbers ≡ true) where
  -- what the line says has no fault
  no_fault : (line : PinLine) (before : List PinLine) → IsLineOf node line → AllByRecursion (λ b. MayPrecede b line) before
      → fault_of_said numbers before true (Form (form_of line)) ≡ None
  no_fault line before good h =
      let named = not_from_true (list_any (λ n. n == line.node) numbers) (ap (λ k. list_any (λ n. n == k) numbers) good.own ∙ there) in
      cond-false _ _ _ named
      ∙ (cond-false _ _ _ (lt-leb (2 ^ port_width line.port) line.value good.fits.value)
      ∙ (cond-false _ _ _ (le-ltb line.slot (slot_after 0 before) (not_above 0 line before (omega arith) h)) ∙ cond-false _ _ _ (none_gives line before h)))

  line_taken : (line : PinLine) (before : List PinLine) → IsLineOf node line → AllByRecursion (λ b. MayPrecede b line) before
      → fault_of numbers before (script_line line) ≡ None
  line_taken line before good h =
      ap (λ a. fault_of_said numbers before a (says_words (words_of_line (script_line line)))) (line_allowed line good.fits)
      ∙ (ap (λ s. fault_of_said numbers before true s) (line_says line good.fits) ∙ no_fault line before good h)

-- what the line gives
line_given : (node : NodeNumber) (line : PinLine) → IsLineOf node line → given_by (script_line line) ≡ line ∷ []
line_given node line good = ap given_by_said (line_says line good.fits)

-- ---- All lines

-- each of some lines may come after each of the lines before them
abbrev AllFollow : List PinLine → List PinLine → Type 0
AllFollow before lines = AllByRecursion (λ line. AllByRecursion (λ b. MayPrecede b line) before) lines

all_append : {X : Type 0} (P : X → Type 0) (xs : List X) (x : X) → AllByRecursion P xs → P x → AllByRecursion P (xs ++ x ∷ [])
all_append P [] x h p = (p, tt)
all_append P (y ∷ ys) x h p = (h.0, all_append P ys x h.1 p)

follow_more : (before : List PinLine) (line : PinLine) (lines : List PinLine) → AllFollow before lines → AllByRecursion (MayPrecede line) lines → AllFollow (before ++ line ∷ []) lines
follow_more before line [] h k = tt
follow_more before line (l ∷ lines) h k = (all_append (λ b. MayPrecede b l) before line h.0 k.0, follow_more before line lines h.1 k.1)

follow_none : (lines : List PinLine) → AllFollow [] lines
follow_none [] = tt
follow_none (line ∷ lines) = (tt, follow_none lines)

all_taken : (numbers : List NodeNumber) (node : NodeNumber) → list_any (λ n. n == node) numbers ≡ true
    → (n : ℕ) (before lines : List PinLine) → AllByRecursion (IsLineOf node) lines → AreApart lines → AllFollow before lines
    → pins_from numbers n before (map script_line lines) ≡ Script (before ++ lines)
unfolding pins_from
all_taken numbers node there n before [] good apart follow = ap Script (sym (append-nil before))
all_taken numbers node there n before (line ∷ lines) good apart follow =
    ap (λ fault. unless_faulty fault n (pins_from numbers (n + 1) (before ++ given_by (script_line line)) (map script_line lines)))
    (line_taken numbers node there line before good.0 follow.0)
    ∙ (ap (λ given. pins_from numbers (n + 1) (before ++ given) (map script_line lines)) (line_given node line good.0)
    ∙ (all_taken numbers node there (n + 1) (before ++ line ∷ []) lines good.1 apart.1 (follow_more before line lines follow.1 apart.0)
    ∙ ap Script (append_assoc before (line ∷ []) lines)))

-- ---- The text

all_allowed_lines : (node : NodeNumber) (lines : List PinLine) → AllByRecursion (IsLineOf node) lines → AllByRecursion IsAllowed (map script_line lines)
all_allowed_lines node [] h = tt
all_allowed_lines node (line ∷ lines) h = (line_allowed line h.0.fits, all_allowed_lines node lines h.1)

pub taken : ScriptsAreTaken
unfolding pins_of
taken wave node numbers is there =
    let lines = node_script wave node in
    let good = node_lines_fit wave node is in
    ap (λ ls. pins_from numbers 1 [] ls) (lines_back (map script_line lines) (all_allowed_lines node lines good))
    ∙ all_taken numbers node there 1 [] lines good (node_apart wave node is) (follow_none lines)
