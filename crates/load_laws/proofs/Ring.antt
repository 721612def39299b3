-- The numbers of a ring: the node after each node, and what is in range.
use Rattle.std.proofs.Common.{◌≡◌, ℕ, zero, suc, ◌+◌, ◌*◌, ◌/◌, ◌%◌, ◌<◌, ◌≤◌, true, false, nat_le, sym, ap, ◌∙◌, subst, inl, inr, arith}
use Rattle.std.specs.Prelude.{Option, Some, None, unwrap_or, ◌⊎◌, ◌==◌}
use Rattle.std.specs.Int as int
use Rattle.std.proofs.lemmas.Bool.{cases_Bool, cases_lt, cond-true, cond-false, ne_eqb, le-leb, lt-leb}
use Rattle.std.proofs.lemmas.Nat.{mod_below}
use Rattle.std.proofs.Math.Nat.{mod-eq_of_lt, mod_self}
use Rattle.net_model.specs.Ways.{first_difference}
use Rattle.load_model.specs.Load.{node_count, next_node, delay_at, gap_at, route_bit_at, destination_at, first_word_at}

-- there are two nodes at least
pub least_count : (n : ℕ) → 2 ≤ node_count n
least_count n = omega arith

-- and 16 at most
pub most_count : (n : ℕ) → node_count n ≤ 16
most_count n = omega (arith, mod_below n 15 (omega arith))

-- the next number, or 0 after the last
next_is : (c i : ℕ) → 2 ≤ c → i < c → ((i + 1 < c) × ((i + 1) % c ≡ i + 1)) ⊎ ((i + 1 ≡ c) × ((i + 1) % c ≡ 0))
next_is c i h l = elim (cases_lt (i + 1) c) [
  | inl low ↦ inl (low, mod-eq_of_lt low)
  | inr high ↦ let e : i + 1 ≡ c = omega arith in inr (e, ap (λ j. j % c) e ∙ mod_self c)
]

-- the node after a node is a node
pub next_node_below : (n i : ℕ) → next_node n i < node_count n
next_node_below n i = mod_below (i + 1) (node_count n) (omega arith)

-- it is another one
next_other : (c i : ℕ) → 2 ≤ c → i < c → i ≡ (i + 1) % c → ⊥
next_other c i h l e = elim (next_is c i h l) [ inl is ↦ omega (arith, is.1, e) | inr is ↦ omega (arith, is.0, is.1, e) ]

-- two numbers do not lead to one
next_apart : (c i j : ℕ) → 2 ≤ c → i < c → j < i → (j + 1) % c ≡ (i + 1) % c → ⊥
next_apart c i j h l b e = elim (next_is c i h l) [
  | inl is ↦ elim (next_is c j h (omega arith)) [ inl at ↦ omega (arith, is.1, at.1, e) | inr at ↦ omega (arith, is.0, at.0, e) ]
  | inr is ↦ elim (next_is c j h (omega arith)) [ inl at ↦ omega (arith, is.1, at.1, e) | inr at ↦ omega (arith, is.0, at.0, e) ]
]

-- no node is the one after it
pub not_onward : (n i : ℕ) → i < node_count n → (i == next_node n i) ≡ false
not_onward n i l = ne_eqb i (next_node n i) (next_other (node_count n) i (least_count n) l)

-- two nodes have not one node after them
pub next_node_apart : (n i j : ℕ) → i < node_count n → j < i → (next_node n j == next_node n i) ≡ false
next_node_apart n i j l b = ne_eqb (next_node n j) (next_node n i) (next_apart (node_count n) i j (least_count n) l b)

-- a bit that differs is among those that are compared
first_below : (k a b : ℕ) → unwrap_or (first_difference (suc k) a b) 0 < suc k
unfolding first_difference
first_below zero a b =
    elim (cases_Bool (int.bit_at a 0 == int.bit_at b 0)) [
      | inl e ↦ subst (λ (o : Option ℕ). unwrap_or o 0 < 1) (sym (cond-true _ None (Some 0) e)) (omega arith)
      | inr e ↦ subst (λ (o : Option ℕ). unwrap_or o 0 < 1) (sym (cond-false _ None (Some 0) e)) (omega arith)
    ]
first_below (suc k) a b =
    elim (cases_Bool (int.bit_at a (suc k) == int.bit_at b (suc k))) [
      | inl e ↦ subst (λ (o : Option ℕ). unwrap_or o 0 < suc (suc k)) (sym (cond-true _ (first_difference (suc k) a b) (Some (suc k)) e)) (omega (arith, first_below k a b))
      | inr e ↦ subst (λ (o : Option ℕ). unwrap_or o 0 < suc (suc k)) (sym (cond-false _ (first_difference (suc k) a b) (Some (suc k)) e)) (omega arith)
    ]

-- so it is at most 15
pub bit_below : (n i : ℕ) → route_bit_at n i < 16
bit_below n i = omega (arith, first_below 15 i (next_node n i))

pub bit_in_range : (n i : ℕ) → nat_le (route_bit_at n i) 15 ≡ true
bit_in_range n i = le-leb (route_bit_at n i) 15 (omega (arith, first_below 15 i (next_node n i)))

-- the two words of the data fit
pub destination_below : (n i : ℕ) → destination_at n i < 4294967296
destination_below n i = omega (arith, next_node_below n i, most_count n)

pub first_word_below : (n i : ℕ) → first_word_at n i < 4294967296
first_word_below n i = mod_below (n + 40503 * i) 4294967296 (omega arith)

-- delay and gap are in range
pub delay_least : (n i : ℕ) → nat_le 1 (delay_at n i) ≡ true
delay_least n i = le-leb 1 (delay_at n i) (omega arith)

pub delay_most : (n i : ℕ) → nat_le (delay_at n i) 1000 ≡ true
delay_most n i = le-leb (delay_at n i) 1000 (omega (arith, mod_below (n / 15 + 7 * i) 50 (omega arith)))

pub gap_least : (i : ℕ) → nat_le 4 (gap_at i) ≡ true
gap_least i = le-leb 4 (gap_at i) (omega arith)

pub gap_most : (i : ℕ) → nat_le (gap_at i) 1000 ≡ true
gap_most i = le-leb (gap_at i) 1000 (omega (arith, mod_below i 5 (omega arith)))

-- a number below the count of nodes is below each of these limits
pub within : (i k : ℕ) → i < 16 → 15 ≤ k → nat_le i k ≡ true
within i k l h = le-leb i k (omega arith)

-- and does not reach these
pub beyond : (i k : ℕ) → i < 16 → 16 ≤ k → nat_le k i ≡ false
beyond i k l h = lt-leb k i (omega arith)
