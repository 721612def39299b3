-- What a snapshot keeps of what a resource gives tells all of it, and is what a snapshot may have.
use Rattle.std.proofs.Common.{ℕ, ◌≡◌, ◌+◌, ◌<◌, ◌≤◌, false, None, List, length, map, set, get_or, refl, ap, sym, ◌∙◌, arith, inl, inr}
use Rattle.std.proofs.lemmas.Bool.{cases_eq}
use Rattle.std.proofs.lemmas.List.{ext_get_or, length-map, length-set, get_or-map, get_or-set_same, get_or-set_other}
use Rattle.xs_model.specs.Record.{EnablingRec, not_enabled}
use Rattle.event_unit.specs.declared.state.EnableState.{EnableState}
use Rattle.event_unit.specs.Marks.{HasThread, entry_at}
use Rattle.event_unit.specs.States.{enable_state, enable_of, IsEnableState}

pub enable-again : (e : EnablingRec) → enable_of (enable_state e) ≡ e
enable-again e = refl

pub enable_state-again : (state : EnableState) → enable_state (enable_of state) ≡ state
enable_state-again state = refl

pub is_enable_state : (e : EnablingRec) → HasThread e → IsEnableState (enable_state e)
is_enable_state e thread = thread

-- ---- The entries are made one after the other

abbrev pub none_state : EnableState
none_state = record { vector = 0; env = 0; interrupt = false; by = None }

abbrev pub state_at : List EnableState → ℕ → EnableState
state_at states n = get_or states n none_state

-- so far those below n are
pub record AreMadeBelow (n : ℕ) (states : List EnableState) (entries : List EnablingRec) : Type 0 where
  pub count : length entries ≡ length states
  pub below : (i : ℕ) → i < n → entry_at entries i ≡ enable_of (state_at states i)

pub one_made : (n : ℕ) (states : List EnableState) (entries : List EnablingRec) → AreMadeBelow n states entries → n < length states
    → AreMadeBelow (n + 1) states (set entries n (enable_of (state_at states n)))
one_made n states entries so_far within = record {
  count = length-set entries n _ ∙ so_far.count;
  below = λ i h. elim (cases_eq i n) [
    | inl e ↦
        ap (entry_at (set entries n (enable_of (state_at states n)))) e
        ∙ get_or-set_same entries n _ not_enabled (omega (arith, so_far.count)) ∙ ap (λ k. enable_of (state_at states k)) (sym e)
    | inr ne ↦ get_or-set_other entries n i _ not_enabled ne ∙ so_far.below i (omega (arith, ne))
  ];
}

pub all_made : (n : ℕ) (states : List EnableState) (entries : List EnablingRec) → length states ≤ n → AreMadeBelow n states entries → entries ≡ map enable_of states
all_made n states entries all made =
    ext_get_or not_enabled entries (map enable_of states) (made.count ∙ sym (length-map states enable_of)) (λ i h.
    let within : i < length states = omega (arith, h, made.count) in
    made.below i (omega arith) ∙ sym (get_or-map enable_of states i none_state not_enabled within))
