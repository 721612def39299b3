-- The ends of wires: where one is there by the lines, its arc is there in the plan.
use Rattle.std.proofs.Common.{◌≡◌, ℕ, zero, suc, ◌+◌, ◌-◌, ◌<◌, ◌≤◌, Bool, true, false, ◌&&◌, Option, Some, List, [], ◌∷◌, ◌++◌, length, map, filter, refl, sym, ap, ◌∙◌, subst, nat_lt, nat_le, arith}
use Rattle.std.specs.Prelude.{◌==◌, if◌then◌else◌, IsSome}
use Rattle.std.specs.List.{AllByRecursion}
use Rattle.std.proofs.lemmas.Bool.Decides.{nat_tests}
use Rattle.sys_plan.specs.declared.WirePlan.{WirePlan}
use Rattle.sys_plan.specs.Plan.{Arc, wire_arcs, first_arc, leaves_by, comes_to}
use Rattle.sys_plan.proofs.Wires.{count_at, nth_at, nth-is}
use Rattle.system_model.specs.declared.frame_line.GivenNode.{GivenNode}
use Rattle.system_model.specs.declared.frame_line.WireLine.{WireLine}
use Rattle.system_model.specs.Frame.{has_node, count_leaving, count_coming, is_wire_end}
use Rattle.system_model.specs.System.{wire_plan, position_by_number}
use Rattle.system_text.specs.Accepted.{IsWireOf}
use Rattle.system_text.proofs.Places.{same_test}

-- Among two lists of arcs

either_first : (b : Bool) (n : ℕ) (p q : Option ℕ) → IsSome (if b then Some n else p) → (IsSome p → IsSome q) → IsSome (if b then Some n else q)
either_first true n p q h f = refl
either_first false n p q h f = f h

pub in_first : (test : Arc → Bool) (xs ys : List Arc) (n : ℕ) → IsSome (first_arc test n xs) → IsSome (first_arc test n (xs ++ ys))
in_first test [] ys n h = absurd cc
in_first test (x ∷ xs) ys n h = either_first (test x) n (first_arc test (n + 1) xs) (first_arc test (n + 1) (xs ++ ys)) h (in_first test xs ys (n + 1))

either_later : (b : Bool) (n : ℕ) (p : Option ℕ) → IsSome p → IsSome (if b then Some n else p)
either_later true n p h = refl
either_later false n p h = h

pub in_second : (test : Arc → Bool) (xs ys : List Arc) (n : ℕ) → ((m : ℕ) → IsSome (first_arc test m ys)) → IsSome (first_arc test n (xs ++ ys))
in_second test [] ys n h = h n
in_second test (x ∷ xs) ys n h = either_later (test x) n (first_arc test (n + 1) (xs ++ ys)) (in_second test xs ys (n + 1) h)

-- Where so many wires are at a node, each of lesser number is found.
module _ (of : WirePlan → ℕ) (node : ℕ) where
  nth_by : (b : Bool) (left n : ℕ) (wire : WirePlan) (wires : List WirePlan) → left < length (if b then wire ∷ filter (λ (w : WirePlan). of w == node) wires else filter (λ (w : WirePlan). of w == node) wires)
      → ((l m : ℕ) → l < count_at of node wires → IsSome (nth_at of node l m wires))
      → IsSome (if b then (if left == 0 then Some n else nth_at of node (left - 1) (n + 1) wires) else nth_at of node left (n + 1) wires)
  nth_by false left n wire wires h further = further left (n + 1) h
  nth_by true zero n wire wires h further = refl
  nth_by true (suc left) n wire wires h further =
      let more : (suc left == 0) ≡ false = grind (arith, nat_tests) in
      let less : suc left - 1 ≡ left = omega arith in
      rw (more, less) (further left (n + 1) (omega arith))

  nth_there : (left n : ℕ) (wires : List WirePlan) → left < count_at of node wires → IsSome (nth_at of node left n wires)
  nth_there left n [] h = absurd (omega arith)
  nth_there left n (wire ∷ wires) h = nth_by (of wire == node) left n wire wires h (λ l m k. nth_there l m wires k)

-- The wires at a node are as many by its number as by its place.

counted : (b : Bool) (w : WireLine) (p : WirePlan) (ws : List WireLine) (ps : List WirePlan) → length ws ≡ length ps → length (if b then w ∷ ws else ws) ≡ length (if b then p ∷ ps else ps)
counted true w p ws ps h = ap suc h
counted false w p ws ps h = h

module _ (nodes : List GivenNode) (number : ℕ) (known : has_node nodes number ≡ true) where
  abbrev place : ℕ
  place = position_by_number nodes number

  as_many_leave : (wires : List WireLine) → AllByRecursion (IsWireOf nodes) wires
      → count_leaving wires number ≡ count_at (λ (w : WirePlan). w.a) place (map (wire_plan nodes) wires)
  as_many_leave [] k = refl
  as_many_leave (wire ∷ wires) k =
      rw (same_test nodes wire.a.node number k.0.a known)
      (counted (wire.a.node == number) wire (wire_plan nodes wire) (filter (λ (w : WireLine). w.a.node == number) wires)
      (filter (λ (w : WirePlan). w.a == place) (map (wire_plan nodes) wires)) (as_many_leave wires k.1))

  as_many_come : (wires : List WireLine) → AllByRecursion (IsWireOf nodes) wires
      → count_coming wires number ≡ count_at (λ (w : WirePlan). w.b) place (map (wire_plan nodes) wires)
  as_many_come [] k = refl
  as_many_come (wire ∷ wires) k =
      rw (same_test nodes wire.b.node number k.0.b known)
      (counted (wire.b.node == number) wire (wire_plan nodes wire) (filter (λ (w : WireLine). w.b.node == number) wires)
      (filter (λ (w : WirePlan). w.b == place) (map (wire_plan nodes) wires)) (as_many_come wires k.1))

  -- an end of a wire by how many wires of the node are before it
  from_8 : (count end : ℕ) → is_wire_end count end ≡ true → 8 ≤ end
  from_8 count end e = by (nat_le 8 end) refl e
    where
      by : (b : Bool) → nat_le 8 end ≡ b → (b && nat_lt end (8 + count)) ≡ true → 8 ≤ end
      by true h e = grind (arith, nat_tests)
      by false h e = absurd cc

  below : (count end : ℕ) → is_wire_end count end ≡ true → end < 8 + count
  below count end e = by (nat_le 8 end) e
    where
      by : (b : Bool) → (b && nat_lt end (8 + count)) ≡ true → end < 8 + count
      by true e = grind (arith, nat_tests)
      by false e = absurd cc

  pub wire_leaves : (wires : List WireLine) (end n : ℕ) → AllByRecursion (IsWireOf nodes) wires → is_wire_end (count_leaving wires number) end ≡ true
      → IsSome (first_arc (leaves_by place end) n (wire_arcs [] (map (wire_plan nodes) wires)))
  wire_leaves wires end n k e =
      let plans : List WirePlan = map (wire_plan nodes) wires in
      let least : 8 ≤ end = from_8 (count_leaving wires number) end e in
      let most : end < 8 + count_leaving wires number = below (count_leaving wires number) end e in
      let few : end - 8 < count_at (λ (w : WirePlan). w.a) place plans = omega (arith, least, most, as_many_leave wires k) in
      let on : 8 + 0 + (end - 8) ≡ end = omega (arith, least) in
      subst (λ (o : Option ℕ). IsSome o)
      (sym (nth-is (λ (w : WirePlan). w.a) (λ (d : Arc). d.from) (λ (d : Arc). d.from_end) (λ e w. refl) (λ e w. refl) place (end - 8) [] plans n end on))
      (nth_there (λ (w : WirePlan). w.a) place (end - 8) n plans few)

  pub wire_comes : (wires : List WireLine) (end n : ℕ) → AllByRecursion (IsWireOf nodes) wires → is_wire_end (count_coming wires number) end ≡ true
      → IsSome (first_arc (comes_to place end) n (wire_arcs [] (map (wire_plan nodes) wires)))
  wire_comes wires end n k e =
      let plans : List WirePlan = map (wire_plan nodes) wires in
      let least : 8 ≤ end = from_8 (count_coming wires number) end e in
      let most : end < 8 + count_coming wires number = below (count_coming wires number) end e in
      let few : end - 8 < count_at (λ (w : WirePlan). w.b) place plans = omega (arith, least, most, as_many_come wires k) in
      let on : 8 + 0 + (end - 8) ≡ end = omega (arith, least) in
      subst (λ (o : Option ℕ). IsSome o)
      (sym (nth-is (λ (w : WirePlan). w.b) (λ (d : Arc). d.to) (λ (d : Arc). d.to_end) (λ e w. refl) (λ e w. refl) place (end - 8) [] plans n end on))
      (nth_there (λ (w : WirePlan). w.b) place (end - 8) n plans few)
