-- After the changes in a slot a pin reads as its level at the end of that slot, where it read before them as the one at the end of the slot before.
use Rattle.std.proofs.Common.{◌≡◌, zero, suc, ◌+◌, ◌<◌, ◌≤◌, Bool, true, false, not, ◌||◌, eqb, List, [], ◌∷◌, ◌++◌, length, get_or, refl, sym, ap, ◌∙◌, subst, arith, inl, inr}
use mathlib.Core.Logic.{◌⊎◌}
use Rattle.std.specs.List.{AllByRecursion}
use Rattle.std.proofs.lemmas.Bool.{true≢false, cases_Bool, eqb-true, not-false}
use Rattle.xs_base.specs.Numbers.{Slot, Word, Position, PortNumber}
use Rattle.xs_model.specs.Record.{NodeRec}
use Rattle.pin_scripts.specs.Script.{NodeNumber}
use Rattle.sys_plan.specs.Plan.{AreAscending}
use Rattle.wave_model.specs.declared.change.WaveChange.{WaveChange}
use Rattle.wave_model.specs.Runs.{change_in, port_changes, node_changes}
use Rattle.level_laws.proofs.Lists.{all_weaker}
use Rattle.level_laws.proofs.Nodes.{no_node}
use Rattle.level_laws.proofs.Changes.{IsOf, IsIn, to_value, of_pin, of_ports, in_nodes}
use Rattle.level_laws.proofs.Reading.{IsElse, left_at, left_on, left_as_is, left_by}

or_false : (a b : Bool) → a || b ≡ false → b ≡ false
or_false true b h = absurd (true≢false h)
or_false false b h = h

module _ (numbers : List NodeNumber) (ascending : AreAscending numbers) (n : Position) (within : n < length numbers) (port : PortNumber) (slot : Slot) where
  abbrev left : Word → List WaveChange → Word
  left = left_at numbers ascending n within port slot

  abbrev Else : WaveChange → Type 0
  Else = IsElse numbers ascending n within port slot

  as_is : (value : Word) (changes : List WaveChange) → AllByRecursion Else changes → left value changes ≡ value
  as_is = left_as_is numbers ascending n within port slot

  on : (value : Word) (changes more : List WaveChange) → left value (changes ++ more) ≡ left (left value changes) more
  on = left_on numbers ascending n within port slot

  module _ (t : Slot) (by_now : t ≤ slot) where
    -- its own change in a slot up to that one
    own_change : (p : PortNumber) (before after : Word) → p ≡ port → left before (change_in t n p before after) ≡ after
    own_change p before after is = by_test (cases_Bool (eqb t 0 || not (eqb after before)))
      where
        same : eqb t 0 || not (eqb after before) ≡ false → after ≡ before
        same e = eqb-true after before (not-false (eqb after before) (or_false (eqb t 0) (not (eqb after before)) e))

        by_test : (eqb t 0 || not (eqb after before) ≡ true) ⊎ (eqb t 0 || not (eqb after before) ≡ false) → left before (change_in t n p before after) ≡ after
        by_test (inl told) = rw told (left_by numbers ascending n within port slot before (to_value t n p after) refl is by_now)
        by_test (inr silent) = rw silent (sym (same silent))

    -- the changes of its node, from that of a port on
    by_ports : (p k : PortNumber) (before after : List Word) → port ≡ p + k → length before ≡ length after → k < length after
        → left (get_or before k 0) (port_changes t n p before after) ≡ get_or after k 0
    by_ports p k [] after is e k_in = absurd (omega (arith, e, k_in))
    by_ports p k (level ∷ before) [] is e k_in = absurd (omega arith)
    by_ports p zero (level ∷ before) (now ∷ after) is e k_in =
        let rest = port_changes t n (p + 1) before after in
        let others = all_weaker (IsOf t n (p + 1)) Else
        (λ change of. (omega (arith, of.node, within), inr (inl (λ same. omega (arith, same, of.port, is))))) rest (of_ports t n (p + 1) before after) in
        on level (change_in t n p level now) rest
        ∙ as_is (left level (change_in t n p level now)) rest others
        ∙ own_change p level now (omega (arith, is))
    by_ports p (suc k) (level ∷ before) (now ∷ after) is e k_in =
        let value = get_or before k 0 in
        let first = change_in t n p level now in
        let rest = port_changes t n (p + 1) before after in
        on value first rest
        ∙ ap (λ v. left v rest) (as_is value first (of_pin Else t n p level now (within, inr (inl (λ same. omega (arith, same, is))))))
        ∙ by_ports (p + 1) k before after (omega (arith, is)) (omega (arith, e)) (omega (arith, k_in))

    -- the changes of all nodes, from one on
    pub by_nodes : (m k : Position) (before after : List NodeRec) → n ≡ m + k → length before ≡ length after → k < length after → m + length after ≤ length numbers
        → length (get_or before k no_node).levels ≡ 29 → length (get_or after k no_node).levels ≡ 29 → port < 29
        → left (get_or (get_or before k no_node).levels port 0) (node_changes t m before after) ≡ get_or (get_or after k no_node).levels port 0
    by_nodes m k [] after is e k_in all_in many_before many port_in = absurd (omega (arith, e, k_in))
    by_nodes m k (rec ∷ before) [] is e k_in all_in many_before many port_in = absurd (omega arith)
    by_nodes m zero (rec ∷ before) (now ∷ after) is e k_in all_in many_before many port_in =
        let value = get_or rec.levels port 0 in
        let own = port_changes t m 0 rec.levels now.levels in
        let rest = node_changes t (m + 1) before after in
        let others = all_weaker (IsIn t (m + 1) (m + 1 + length after)) Else
        (λ change of. (omega (arith, of.to, all_in), inl (λ same. omega (arith, same, of.from, is)))) rest (in_nodes t (m + 1) before after) in
        let here : n ≡ m = omega (arith, is) in
        on value own rest
        ∙ as_is (left value own) rest others
        ∙ subst (λ at. left value (port_changes t at 0 rec.levels now.levels) ≡ get_or now.levels port 0) here
        (by_ports 0 port rec.levels now.levels (omega arith) (many_before ∙ sym many) (omega (arith, many, port_in)))
    by_nodes m (suc k) (rec ∷ before) (now ∷ after) is e k_in all_in many_before many port_in =
        let value = get_or (get_or before k no_node).levels port 0 in
        let own = port_changes t m 0 rec.levels now.levels in
        let rest = node_changes t (m + 1) before after in
        let others = all_weaker (IsOf t m 0) Else
        (λ change of. (omega (arith, of.node, all_in), inl (λ same. omega (arith, same, of.node, is)))) own (of_ports t m 0 rec.levels now.levels) in
        on value own rest
        ∙ ap (λ v. left v rest) (as_is value own others)
        ∙ by_nodes (m + 1) k before after (omega (arith, is)) (omega (arith, e)) (omega (arith, k_in)) (omega (arith, all_in)) many_before many port_in
