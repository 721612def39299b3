-- The lines of a node in the script of a wave come in order: no slot falls, and in a slot no pin has two of them.
use Rattle.std.proofs.Common.{◌≡◌, ℕ, zero, suc, ◌+◌, ◌<◌, ◌≤◌, Bool, true, false, ◌&&◌, ◌==◌, List, [], ◌∷◌, length, map, get_or, subst, inl, inr, arith}
use Rattle.std.specs.Prelude.{filter, slice_index}
use Rattle.std.specs.List.{AllByRecursion}
use Rattle.std.specs.List.Sorted.{IsStrictlyIncreasing}
use Rattle.std.proofs.lemmas.Bool.{and_parts, cond_both, cases_order, eqb-true, false_from_ne_true}
use Rattle.std.proofs.lemmas.List.Kept.{AllPairs-from_increasing}
use Rattle.pin_scripts.specs.declared.line.PinLine.{PinLine}
use Rattle.sys_plan.specs.Plan.{AreAscending}
use Rattle.wave_model.specs.declared.change.WaveChange.{WaveChange}
use Rattle.wave_model.specs.Waves.{WaveRec, pin_line, script_of, node_script}
use Rattle.wave_model.specs.Form.{IsWave, IsChange, ComesAfter, AreInOrder}

-- whether a line gives the pin of another one in its slot
abbrev pub gives_pin_of : PinLine → PinLine → Bool
gives_pin_of line before = (before.slot == line.slot) && ((before.node == line.node) && (before.port == line.port))

-- a line may stand before another one
pub record MayPrecede (before line : PinLine) : Type 0 where
  pub slot : before.slot ≤ line.slot
  pub apart : gives_pin_of line before ≡ false

-- each line may stand before all that come after it
abbrev pub AreApart : List PinLine → Type 0
AreApart [] = Unit {0}
AreApart (line ∷ lines) = AllByRecursion (MayPrecede line) lines × AreApart lines

-- ---- Nodes

increasing : (numbers : List ℕ) → AreAscending numbers → IsStrictlyIncreasing numbers
increasing [] h k l = absurd (omega (arith, l))
increasing (x ∷ []) h k l = absurd (omega (arith, l))
increasing (x ∷ y ∷ numbers) h zero l = h.0
increasing (x ∷ y ∷ numbers) h (suc k) l =
    let on : suc (k + 1) ≡ suc k + 1 = omega arith in
    subst (λ n. get_or (y ∷ numbers) k 0 < get_or (x ∷ y ∷ numbers) n 0) on (increasing (y ∷ numbers) h.1 k (omega (arith, l)))

-- where the numbers ascend, each is that of one position
one_position : (numbers : List ℕ) (i j : ℕ) → AreAscending numbers → i < length numbers → j < length numbers → slice_index numbers i ≡ slice_index numbers j → i ≡ j
one_position numbers i j h k l e =
    let pairs = AllPairs-from_increasing numbers (increasing numbers h) in
    elim (cases_order i j) [
      | inl same ↦ same
      | inr (inl less) ↦ absurd (let p = pairs i j 0 less l in omega (arith, p, e))
      | inr (inr more) ↦ absurd (let p = pairs j i 0 more k in omega (arith, p, e))
    ]

-- ---- Changes

-- what comes after a change that comes after another comes after that one
later_still : (a b c : WaveChange) → ComesAfter a b → ComesAfter b c → ComesAfter a c
later_still a b c (inl h) (inl k) = inl (omega (arith, h, k))
later_still a b c (inl h) (inr k) = inl (omega (arith, h, k.0))
later_still a b c (inr h) (inl k) = inl (omega (arith, h.0, k))
later_still a b c (inr h) (inr k) = inr (omega (arith, h.0, k.0), omega (arith, h.1, k.1))

-- changes in order after a change that comes after another all come after that one
all_later : (a b : WaveChange) (changes : List WaveChange) → ComesAfter a b → AreInOrder (b ∷ changes) → AllByRecursion (ComesAfter a) (b ∷ changes)
all_later a b [] h o = (h, tt)
all_later a b (c ∷ changes) h o = (h, all_later a c changes (later_still a b c h o.0) o.1)

module _ (wave : WaveRec) (is : IsWave wave) where
  -- the pins of two changes in a slot differ
  not_one_pin : (a b : WaveChange) → IsChange wave a → IsChange wave b → ComesAfter a b
      → gives_pin_of (pin_line wave.nodes b) (pin_line wave.nodes a) ≡ true → ⊥
  not_one_pin a b f g h e =
      let p = and_parts (a.slot == b.slot) _ e in
      let q = and_parts (slice_index wave.nodes a.node == slice_index wave.nodes b.node) (a.port == b.port) p.1 in
      let same_slot = eqb-true a.slot b.slot p.0 in
      let same_port = eqb-true a.port b.port q.1 in
      let same_node = one_position wave.nodes a.node b.node is.ascending f.node g.node (eqb-true _ _ q.0) in
      elim h [
        | inl later ↦ omega (arith, later, same_slot)
        | inr greater ↦ omega (arith, greater.1, same_port, same_node)
      ]

  not_falling : (a b : WaveChange) → ComesAfter a b → a.slot ≤ b.slot
  not_falling a b (inl h) = omega (arith, h)
  not_falling a b (inr h) = omega (arith, h.0)

  may_precede : (a b : WaveChange) → IsChange wave a → IsChange wave b → ComesAfter a b → MayPrecede (pin_line wave.nodes a) (pin_line wave.nodes b)
  may_precede a b f g h = record { slot = not_falling a b h; apart = false_from_ne_true _ (not_one_pin a b f g h) }

  all_precede : (a : WaveChange) (changes : List WaveChange) → IsChange wave a → AllByRecursion (IsChange wave) changes → AllByRecursion (ComesAfter a) changes
      → AllByRecursion (MayPrecede (pin_line wave.nodes a)) (map (pin_line wave.nodes) changes)
  all_precede a [] f g h = tt
  all_precede a (b ∷ changes) f g h = (may_precede a b f g.0 h.0, all_precede a changes f g.1 h.1)

  after_first : (a : WaveChange) (changes : List WaveChange) → AreInOrder (a ∷ changes) → AllByRecursion (ComesAfter a) changes
  after_first a [] o = tt
  after_first a (b ∷ changes) o = all_later a b changes o.0 o.1

  rest_in_order : (a : WaveChange) (changes : List WaveChange) → AreInOrder (a ∷ changes) → AreInOrder changes
  rest_in_order a [] o = tt
  rest_in_order a (b ∷ changes) o = o.1

  lines_apart : (changes : List WaveChange) → AllByRecursion (IsChange wave) changes → AreInOrder changes → AreApart (map (pin_line wave.nodes) changes)
  lines_apart [] g o = tt
  lines_apart (a ∷ changes) g o = (all_precede a changes g.0 g.1 (after_first a changes o), lines_apart changes g.1 (rest_in_order a changes o))

-- ---- Those of a node

-- what is kept has the property that all have
all_kept : {X : Type 0} (P : X → Type 0) (p : X → Bool) (xs : List X) → AllByRecursion P xs → AllByRecursion P (filter p xs)
all_kept P p [] h = tt
all_kept P p (x ∷ xs) h =
    cond_both (p x) (x ∷ filter p xs) (filter p xs) (AllByRecursion P) (λ passes. (h.0, all_kept P p xs h.1)) (λ fails. all_kept P p xs h.1)

apart_kept : (p : PinLine → Bool) (lines : List PinLine) → AreApart lines → AreApart (filter p lines)
apart_kept p [] h = tt
apart_kept p (line ∷ lines) h =
    cond_both (p line) (line ∷ filter p lines) (filter p lines) AreApart
    (λ passes. (all_kept (MayPrecede line) p lines h.0, apart_kept p lines h.1)) (λ fails. apart_kept p lines h.1)

-- the lines of a node may stand in their order
pub node_apart : (wave : WaveRec) (node : ℕ) → IsWave wave → AreApart (node_script wave node)
node_apart wave node is = apart_kept (λ (line : PinLine). line.node == node) (script_of wave) (lines_apart wave is wave.changes is.changes is.in_order)
