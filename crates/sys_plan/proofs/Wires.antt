-- The arcs of wires, and the ends by which they leave nodes and to which they come.
use Rattle.std.proofs.Common.{◌≡◌, ℕ, zero, suc, ◌+◌, ◌-◌, ◌<◌, ◌≤◌, Bool, true, false, ◌&&◌, Option, Some, None, List, [], ◌∷◌, length, drop, map, filter, get_or, ◌≢◌, refl, sym, ap, ◌∙◌, arith, inl, inr}
use Rattle.std.specs.Prelude.{◌==◌, if◌then◌else◌}
use mathlib.Core.Logic.{◌⊎◌}
use Rattle.std.specs.List.{AllByRecursion}
use Rattle.std.proofs.lemmas.Bool.{cases_Bool, eqb-true, eq-eqb, and_left, and_right}
use Rattle.std.proofs.lemmas.Bool.Decides.{nat_tests}
use Rattle.sys_plan.specs.declared.WirePlan.{WirePlan}
use Rattle.sys_plan.specs.Plan.{Arc, AreDistinct, along, wire_arcs, first_arc}

pub wires_length : (earlier wires : List WirePlan) → length (wire_arcs earlier wires) ≡ length wires
wires_length earlier [] = refl
wires_length earlier (wire ∷ wires) = omega (arith, wires_length (wire ∷ earlier) wires)

pub wire_delay_at : (earlier wires : List WirePlan) (k : ℕ) (d : WirePlan) → k < length wires →
    get_or (map (λ (d : Arc). d.delay) (wire_arcs earlier wires)) k 0 ≡ (get_or wires k d).delay
wire_delay_at earlier [] k d h = absurd (omega arith)
wire_delay_at earlier (wire ∷ wires) zero d h = refl
wire_delay_at earlier (wire ∷ wires) (suc k) d h = wire_delay_at (wire ∷ earlier) wires k d (omega arith)

pub all-passed : (i : ℕ) (wires : List WirePlan) → length wires ≤ i → drop i wires ≡ []
all-passed zero [] h = refl
all-passed (suc i) [] h = refl
all-passed zero (wire ∷ wires) h = absurd (omega arith)
all-passed (suc i) (wire ∷ wires) h = all-passed i wires (omega arith)

less-is-other : (m n : ℕ) → m < n → (m == n) ≡ false
less-is-other m n h = grind (arith, nat_tests)

above-zero : (n : ℕ) → (suc n == 0) ≡ false
above-zero n = grind (arith, nat_tests)

-- ---- The wires at one of their two nodes, which `of` tells
module _ (of : WirePlan → ℕ) where
  abbrev pub count_at : ℕ → List WirePlan → ℕ
  count_at node wires = length (filter (λ (wire : WirePlan). of wire == node) wires)

  -- the number, counted from n, of the wire at a node before which so many are there
  abbrev pub nth_at : ℕ → ℕ → ℕ → List WirePlan → Option ℕ
  nth_at node left n [] = None
  nth_at node left n (wire ∷ wires) =
      if of wire == node
      then (if left == 0 then Some n else nth_at node (left - 1) (n + 1) wires)
      else nth_at node left (n + 1) wires

  -- the wire at a place, where it is at the node and none is to be passed over
  pub nth-here : (node left n i : ℕ) (wires : List WirePlan) (d : WirePlan) → i < length wires → of (get_or wires i d) ≡ node → left ≡ 0 → nth_at node left n (drop i wires) ≡ Some n
  nth-here node left n i [] d inside here none = absurd (omega arith)
  nth-here node left n zero (wire ∷ wires) d inside here none = rw (eq-eqb (of wire) node here, eq-eqb left 0 none) refl
  nth-here node left n (suc i) (wire ∷ wires) d inside here none = nth-here node left n i wires d (omega arith) here none

  pub counts-here : (node : ℕ) (wire : WirePlan) (wires : List WirePlan) → (of wire == node) ≡ true → count_at node (wire ∷ wires) ≡ count_at node wires + 1
  counts-here node wire wires is = rw is (omega arith)

  pub counts-elsewhere : (node : ℕ) (wire : WirePlan) (wires : List WirePlan) → (of wire == node) ≡ false → count_at node (wire ∷ wires) ≡ count_at node wires
  counts-elsewhere node wire wires is = rw is refl

  pub counts-few : (node : ℕ) (wires : List WirePlan) → count_at node wires ≤ length wires
  counts-few node [] = omega arith
  counts-few node (wire ∷ wires) = by (cases_Bool (of wire == node)) (counts-few node wires)
    where
      by : ((of wire == node) ≡ true) ⊎ ((of wire == node) ≡ false) → count_at node wires ≤ length wires → count_at node (wire ∷ wires) ≤ length (wire ∷ wires)
      by (inl is) few = omega (arith, counts-here node wire wires is, few)
      by (inr is) few = omega (arith, counts-elsewhere node wire wires is, few)

  pub counts-on : (node : ℕ) (wire : WirePlan) (wires : List WirePlan) → count_at node wires ≤ count_at node (wire ∷ wires)
  counts-on node wire wires = by (cases_Bool (of wire == node))
    where
      by : ((of wire == node) ≡ true) ⊎ ((of wire == node) ≡ false) → count_at node wires ≤ count_at node (wire ∷ wires)
      by (inl is) = omega (arith, counts-here node wire wires is)
      by (inr is) = omega (arith, counts-elsewhere node wire wires is)

  -- an arc is at a node, by one of its ends
  module _ (node_of end_of : Arc → ℕ)
      (node-is : (earlier : List WirePlan) (wire : WirePlan) → node_of (along earlier wire) ≡ of wire)
      (end-is : (earlier : List WirePlan) (wire : WirePlan) → end_of (along earlier wire) ≡ 8 + count_at (of wire) earlier) where
    abbrev at : ℕ → ℕ → Arc → Bool
    at node end d = (node_of d == node) && (end_of d == end)

    by-end : (node end : ℕ) (d : Arc) → (end_of d == end) ≡ false → at node end d ≡ false
    by-end node end d h = and_right (node_of d == node) (end_of d == end) h

    -- no wire is at a link end
    pub none-at-links : (node end : ℕ) → end < 8 → (earlier wires : List WirePlan) (n : ℕ) → first_arc (at node end) n (wire_arcs earlier wires) ≡ None
    none-at-links node end h earlier [] n = refl
    none-at-links node end h earlier (wire ∷ wires) n =
        let not-here : at node end (along earlier wire) ≡ false =
        by-end node end (along earlier wire) (apart (end_of (along earlier wire)) (omega (arith, end-is earlier wire))) in
        rw not-here (none-at-links node end h (wire ∷ earlier) wires (n + 1))
      where
        apart : (e : ℕ) → 8 ≤ e → (e == end) ≡ false
        apart e far = grind (arith, nat_tests)

    -- at an end from 8 on is the wire before which as many are at the node
    abbrev NthIs : ℕ → ℕ → List WirePlan → List WirePlan → ℕ → Type 0
    NthIs node end earlier wires n = (left : ℕ) → 8 + count_at node earlier + left ≡ end → first_arc (at node end) n (wire_arcs earlier wires) ≡ nth_at node left n wires

    pub nth-is : (node left : ℕ) (earlier wires : List WirePlan) (n end : ℕ) → 8 + count_at node earlier + left ≡ end →
        first_arc (at node end) n (wire_arcs earlier wires) ≡ nth_at node left n wires
    nth-is node left earlier [] n end h = refl
    nth-is node left earlier (wire ∷ wires) n end h = by (cases_Bool (of wire == node)) (λ l k. nth-is node l (wire ∷ earlier) wires (n + 1) end k)
      where
        d : Arc
        d = along earlier wire

        here : (l : ℕ) → (of wire == node) ≡ true → 8 + count_at node earlier + l ≡ end → NthIs node end (wire ∷ earlier) wires (n + 1)
            → first_arc (at node end) n (wire_arcs earlier (wire ∷ wires)) ≡ nth_at node l n (wire ∷ wires)
        here zero is k further =
            let there : (node_of d == node) ≡ true = ap (λ m. m == node) (node-is earlier wire) ∙ is in
            let end-here : end_of d ≡ 8 + count_at node earlier = end-is earlier wire ∙ ap (λ m. 8 + count_at m earlier) (eqb-true (of wire) node is) in
            let yes : at node end d ≡ true = rw (there, eq-eqb (end_of d) end (omega (arith, end-here))) refl in
            rw (yes, is) refl
        here (suc l) is k further =
            let end-here : end_of d ≡ 8 + count_at node earlier = end-is earlier wire ∙ ap (λ m. 8 + count_at m earlier) (eqb-true (of wire) node is) in
            let no : at node end d ≡ false = by-end node end d (less-is-other (end_of d) end (omega (arith, end-here, k))) in
            let less : suc l - 1 ≡ l = omega arith in
            rw (no, is, above-zero l) (further l (omega (arith, counts-here node wire earlier is)) ∙ ap (λ i. nth_at node i (n + 1) wires) (sym less))

        by : ((of wire == node) ≡ true) ⊎ ((of wire == node) ≡ false) → NthIs node end (wire ∷ earlier) wires (n + 1) → first_arc (at node end) n (wire_arcs earlier (wire ∷ wires)) ≡ nth_at node left n (wire ∷ wires)
        by (inr is) further =
            let elsewhere : (node_of d == node) ≡ false = ap (λ m. m == node) (node-is earlier wire) ∙ is in
            let not-here : at node end d ≡ false = and_left (node_of d == node) (end_of d == end) elsewhere in
            rw (not-here, is) (further left (omega (arith, counts-elsewhere node wire earlier is)))
        by (inl is) further = here left is h further

    -- and none at an end past those of all that are there
    nth-none : (node left n : ℕ) (wires : List WirePlan) → count_at node wires ≤ left → nth_at node left n wires ≡ None
    nth-none node left n [] h = refl
    nth-none node left n (wire ∷ wires) h = by (cases_Bool (of wire == node)) left h (λ l k. nth-none node l (n + 1) wires k)
      where
        by : ((of wire == node) ≡ true) ⊎ ((of wire == node) ≡ false) → (l : ℕ) → count_at node (wire ∷ wires) ≤ l
            → ((i : ℕ) → count_at node wires ≤ i → nth_at node i (n + 1) wires ≡ None) → nth_at node l n (wire ∷ wires) ≡ None
        by (inr is) l k further = rw is (further l (omega (arith, counts-elsewhere node wire wires is)))
        by (inl is) zero k further = absurd (omega (arith, counts-here node wire wires is))
        by (inl is) (suc l) k further =
            let less : suc l - 1 ≡ l = omega arith in
            rw (is, above-zero l) (ap (λ i. nth_at node i (n + 1) wires) less ∙ further l (omega (arith, counts-here node wire wires is)))

    pub none-after : (node end : ℕ) (wires : List WirePlan) (n : ℕ) → 8 + count_at node wires ≤ end → first_arc (at node end) n (wire_arcs [] wires) ≡ None
    none-after node end wires n h = nth-is node (end - 8) [] wires n end (omega arith) ∙ nth-none node (end - 8) n wires (omega arith)

    -- those that follow are at other ends
    ends-on : (node : ℕ) (earlier wires : List WirePlan) → AllByRecursion (λ d. node_of d ≡ node → 8 + count_at node earlier ≤ end_of d) (wire_arcs earlier wires)
    ends-on node earlier [] = tt
    ends-on node earlier (wire ∷ wires) = (
      λ here. omega (arith, end-is earlier wire, ap (λ m. count_at m earlier) (sym (node-is earlier wire) ∙ here)),
      all-weaker (wire_arcs (wire ∷ earlier) wires) (ends-on node (wire ∷ earlier) wires),
    )
      where
        all-weaker : (ds : List Arc) → AllByRecursion (λ d. node_of d ≡ node → 8 + count_at node (wire ∷ earlier) ≤ end_of d) ds
            → AllByRecursion (λ d. node_of d ≡ node → 8 + count_at node earlier ≤ end_of d) ds
        all-weaker [] h = tt
        all-weaker (d ∷ ds) h = (λ here. omega (arith, h.0 here, counts-on node wire earlier), all-weaker ds h.1)

    abbrev place : Arc → ℕ × ℕ
    place d = (node_of d, end_of d)

    pub places-distinct : (earlier wires : List WirePlan) → AreDistinct (map place (wire_arcs earlier wires))
    places-distinct earlier [] = tt
    places-distinct earlier (wire ∷ wires) = (apart (wire_arcs (wire ∷ earlier) wires) (ends-on (of wire) (wire ∷ earlier) wires), places-distinct (wire ∷ earlier) wires)
      where
        mine : Arc
        mine = along earlier wire

        more : count_at (of wire) (wire ∷ earlier) ≡ count_at (of wire) earlier + 1
        more = counts-here (of wire) wire earlier (eq-eqb (of wire) (of wire) refl)

        apart : (ds : List Arc) → AllByRecursion (λ d. node_of d ≡ of wire → 8 + count_at (of wire) (wire ∷ earlier) ≤ end_of d) ds
            → AllByRecursion (λ y. place mine ≢ y) (map place ds)
        apart [] h = tt
        apart (d ∷ ds) h =
            (λ same. absurd (omega (arith, h.0 (sym (ap (λ (p : ℕ × ℕ). p.0) same) ∙ node-is earlier wire), ap (λ (p : ℕ × ℕ). p.1) same, end-is earlier wire, more)), apart ds h.1)

    pub ends-from-8 : (earlier wires : List WirePlan) → AllByRecursion (λ d. 8 ≤ end_of d) (wire_arcs earlier wires)
    ends-from-8 earlier [] = tt
    ends-from-8 earlier (wire ∷ wires) = (omega (arith, end-is earlier wire), ends-from-8 (wire ∷ earlier) wires)

    pub ends-below : (most : ℕ) (earlier wires : List WirePlan) → length earlier + length wires ≤ most → AllByRecursion (λ d. end_of d < 8 + most) (wire_arcs earlier wires)
    ends-below most earlier [] few = tt
    ends-below most earlier (wire ∷ wires) few =
        (omega (arith, end-is earlier wire, counts-few (of wire) earlier), ends-below most (wire ∷ earlier) wires (omega arith))
