-- The levels of all pins, where a snapshot keeps what the ports drive.
use Rattle.std.proofs.Common.{ℕ, ◌≡◌, ◌+◌, ◌<◌, ◌≤◌, List, [], ◌∷◌, Option, length, get_or, set, refl, ap, sym, ◌∙◌, arith, inl, inr}
use Rattle.std.specs.Prelude.{map}
use Rattle.std.proofs.lemmas.Bool.{cases_eq}
use Rattle.std.proofs.lemmas.List.{ext_get_or, length-set, length-map, get_or-map, get_or-set_same, get_or-set_other}
use Rattle.xs_model.specs.Record.{PortRec, off_port}
use Rattle.xs_model.specs.Ports.{level_of, levels_of}
use Rattle.single_port.specs.declared.state.PortState.{PortState}
use Rattle.buffered_ports.specs.States.{port_state, off_state}
use Rattle.buffered_ports.proofs.High.{level_at}

-- what the port with a number drives, of states of ports and of ports themselves
abbrev pub driven_at : List PortState → ℕ → Option ℕ
driven_at ports p = (get_or ports p off_state).driven

abbrev pub driven_by : List PortRec → ℕ → Option ℕ
driven_by ports p = (get_or ports p off_port).driven

-- those of the ports below p are shown, and of the others what comes from outside
pub record AreShownBelow (p : ℕ) (driven : ℕ → Option ℕ) (outside levels : List ℕ) : Type 0 where
  pub count : length levels ≡ 29
  pub below : (k : ℕ) → k < p → get_or levels k 0 ≡ level_of (driven k) (get_or outside k 0)
  pub others : (k : ℕ) → p ≤ k → get_or levels k 0 ≡ get_or outside k 0

pub one_shown : (p : ℕ) (driven : ℕ → Option ℕ) (outside levels : List ℕ) (level : ℕ) → p < 29 → AreShownBelow p driven outside levels
    → level ≡ level_of (driven p) (get_or levels p 0) → AreShownBelow (p + 1) driven outside (set levels p level)
one_shown p driven outside levels level within so_far is = record {
  count = length-set levels p level ∙ so_far.count;
  below = λ k h. elim (cases_eq k p) [
    | inl e ↦ ap (λ i. get_or (set levels p level) i 0) e ∙ get_or-set_same levels p level 0 (omega (arith, so_far.count)) ∙ is
        ∙ ap (level_of (driven p)) (so_far.others p (omega arith)) ∙ ap (λ i. level_of (driven i) (get_or outside i 0)) (sym e)
    | inr ne ↦ get_or-set_other levels p k level 0 ne ∙ so_far.below k (omega (arith, h, ne))
  ];
  others = λ k h. get_or-set_other levels p k level 0 (λ e. omega (arith, e, h)) ∙ so_far.others k (omega arith);
}

length-levels : (ports : List PortRec) (outside : List ℕ) → length ports ≡ length outside → length (levels_of ports outside) ≡ length ports
length-levels [] outside same = refl
length-levels (port ∷ ports) [] same = absurd (omega (arith, same))
length-levels (port ∷ ports) (level ∷ outside) same = omega (arith, length-levels ports outside (omega (arith, same)))

-- all of them, where these ports drive that
pub all_shown : (p : ℕ) (driven : ℕ → Option ℕ) (outside levels : List ℕ) (all : List PortRec) → 29 ≤ p → length all ≡ 29 → length outside ≡ 29
    → AreShownBelow p driven outside levels → ((k : ℕ) → k < 29 → driven k ≡ driven_by all k) → levels ≡ levels_of all outside
all_shown p driven outside levels all end many long are is =
    ext_get_or 0 levels (levels_of all outside) (are.count ∙ sym many ∙ sym (length-levels all outside (many ∙ sym long)))
    (λ k h. are.below k (omega (arith, h, are.count, end)) ∙ ap (λ d. level_of d (get_or outside k 0)) (is k (omega (arith, h, are.count)))
    ∙ sym (level_at all outside k (omega (arith, h, are.count, many)) (omega (arith, h, are.count, long))))

-- the states are those of these ports
pub states_drive : (ports : List PortState) (all : List PortRec) → length all ≡ 29 → ports ≡ map port_state all
    → (k : ℕ) → k < 29 → driven_at ports k ≡ driven_by all k
states_drive ports all many is k h =
    ap (λ (states : List PortState). driven_at states k) is ∙ ap (λ (s : PortState). s.driven) (get_or-map port_state all k off_port off_state (omega (arith, h, many)))

pub many_ports : (ports : List PortState) (all : List PortRec) → length ports ≡ 29 → ports ≡ map port_state all → length all ≡ 29
many_ports ports all count is = sym (length-map all port_state) ∙ sym (ap length is) ∙ count
