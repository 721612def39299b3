-- What a snapshot keeps of the ports of a core, one after the other.
use Rattle.std.proofs.Common.{ℕ, ◌≡◌, ◌≢◌, ◌+◌, ◌<◌, ◌≤◌, List, length, get_or, set, map, ap, sym, ◌∙◌, inl, inr, arith}
use Rattle.std.proofs.lemmas.Bool.{cases_eq}
use Rattle.std.proofs.lemmas.List.{ext_get_or, length-map, length-set, get_or-map, get_or-set_same, get_or-set_other}
use Rattle.xs_model.specs.Record.{PortRec, off_port}
use Rattle.buffered_ports.specs.Asks.{port_at}
use Rattle.buffered_ports.specs.States.{port_state, port_of, off_state}
use Rattle.single_port.specs.declared.state.PortState.{PortState}

abbrev pub state_at : List PortState → ℕ → PortState
state_at states p = get_or states p off_state

-- states are those of the ports below p, and these are made of them again
pub record AreKept (p : ℕ) (ports : List PortRec) (states : List PortState) : Type 0 where
  pub count : length states ≡ 29
  pub state : (k : ℕ) → k < p → state_at states k ≡ port_state (port_at ports k)
  pub again : (k : ℕ) → k < p → port_of (state_at states k) ≡ port_at ports k

pub one_kept : (p : ℕ) (ports : List PortRec) (states : List PortState) (state : PortState) → p < 29 → AreKept p ports states
    → state ≡ port_state (port_at ports p) → port_of state ≡ port_at ports p → AreKept (p + 1) ports (set states p state)
one_kept p ports states state within kept is again = record {
  count = length-set states p state ∙ kept.count;
  state = λ k below.
      elim (cases_eq k p) [
        | inl e ↦ ap (λ i. state_at (set states p state) i) e ∙ here ∙ is ∙ ap (λ i. port_state (port_at ports i)) (sym e)
        | inr other ↦ there k other ∙ kept.state k (omega (arith, below, other))
      ];
  again = λ k below.
      elim (cases_eq k p) [
        | inl e ↦ ap (λ i. port_of (state_at (set states p state) i)) e ∙ ap port_of here ∙ again ∙ ap (λ i. port_at ports i) (sym e)
        | inr other ↦ ap port_of (there k other) ∙ kept.again k (omega (arith, below, other))
      ];
}
  where
    here : state_at (set states p state) p ≡ state
    here = get_or-set_same states p state off_state (omega (arith, within, kept.count))

    there : (k : ℕ) → k ≢ p → state_at (set states p state) k ≡ state_at states k
    there k other = get_or-set_other states p k state off_state other

pub all_kept : (p : ℕ) (ports : List PortRec) (states : List PortState) → 29 ≤ p → length ports ≡ 29 → AreKept p ports states → states ≡ map port_state ports
all_kept p ports states all long kept =
    ext_get_or off_state states (map port_state ports) (kept.count ∙ sym (length-map ports port_state ∙ long)) (λ i h.
    let below : i < p = omega (arith, h, kept.count, all) in
    kept.state i below ∙ sym (get_or-map port_state ports i off_port off_state (omega (arith, h, kept.count, long))))

pub all_again : (p : ℕ) (ports : List PortRec) (states : List PortState) → 29 ≤ p → length ports ≡ 29 → AreKept p ports states → map port_of states ≡ ports
all_again p ports states all long kept =
    ext_get_or off_port (map port_of states) ports (length-map states port_of ∙ kept.count ∙ sym long) (λ i h.
    let within : i < length states = omega (arith, h, length-map states port_of) in
    get_or-map port_of states i off_state off_port within ∙ kept.again i (omega (arith, within, kept.count, all)))

-- ports below p are as these states say
pub record AreMade (p : ℕ) (states : List PortState) (ports : List PortRec) : Type 0 where
  pub count : length ports ≡ 29
  pub made : (k : ℕ) → k < p → port_at ports k ≡ port_of (state_at states k)

pub one_made : (p : ℕ) (states : List PortState) (ports new : List PortRec) (port : PortRec) → p < 29 → AreMade p states ports
    → new ≡ set ports p port → port ≡ port_of (state_at states p) → AreMade (p + 1) states new
one_made p states ports new port within made put is = record {
  count = ap length put ∙ length-set ports p port ∙ made.count;
  made = λ k below.
      ap (λ now. port_at now k) put
      ∙ elim (cases_eq k p) [
        | inl e ↦ ap (λ i. port_at (set ports p port) i) e ∙ get_or-set_same ports p port off_port (omega (arith, within, made.count)) ∙ is ∙ ap (λ i. port_of (state_at states i)) (sym e)
        | inr other ↦ get_or-set_other ports p k port off_port other ∙ made.made k (omega (arith, below, other))
      ];
}

pub all_made : (p : ℕ) (states : List PortState) (ports : List PortRec) → 29 ≤ p → length states ≡ 29 → AreMade p states ports → ports ≡ map port_of states
all_made p states ports all long made =
    ext_get_or off_port ports (map port_of states) (made.count ∙ sym (length-map states port_of ∙ long)) (λ i h.
    let below : i < p = omega (arith, h, made.count, all) in
    made.made i below ∙ sym (get_or-map port_of states i off_state off_port (omega (arith, h, made.count, long))))
