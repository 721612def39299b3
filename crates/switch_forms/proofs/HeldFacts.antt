-- What inputs of the switch hold is in use, or there: by the channel ends and the link ends of the node.
use Rattle.std.proofs.Common.{◌≡◌, ℕ, zero, suc, ◌<◌, Bool, true, false, List, [], ◌∷◌, get_or, map, refl, sym, ◌∙◌}
use Rattle.std.specs.Prelude.{slice_index_or}
use Rattle.std.proofs.lemmas.Bool.{false≢true}
use Rattle.xs_model.specs.Record.{unused_chan}
use Rattle.net_model.specs.Switch.{is_local_to, is_out_by}
use Rattle.chan_ends.specs.declared.state.ChanState.{ChanState}
use Rattle.chan_ends.specs.States.{chan_of}
use Rattle.link_ends.specs.declared.state.EndState.{EndState}
use Rattle.link_ends.specs.States.{absent_end}
use Rattle.switch_routes.specs.States.{IsInputState, AreInputStates}
use Rattle.switch_routes.specs.declared.state.InputState.{InputState}
use Rattle.switch_routes.specs.declared.state.InputState.TheVariants as kept
use Rattle.state_forms.proofs.Chains.{each_at}
use Rattle.switch_forms.proofs.InputFacts.{input_at, AreHeld, out_below, within, passes_here}

-- a test of what elements stand for, told as a list of its answers
module _ {A B : Type 0} (f : A → B) (test : B → Bool) (d : B) where
  pub passes_of : (xs : List A) (k : ℕ) → get_or (map (λ (x : A). test (f x)) xs) k false ≡ true → test (get_or (map f xs) k d) ≡ true
  passes_of [] k h = absurd cc
  passes_of (x ∷ xs) zero h = h
  passes_of (x ∷ xs) (suc k) h = passes_of xs k h

  pub passes_by : test d ≡ false → (xs : List A) (k : ℕ) → test (get_or (map f xs) k d) ≡ true → get_or (map (λ (x : A). test (f x)) xs) k false ≡ true
  passes_by not_d [] k h = absurd (false≢true (sym not_d ∙ h))
  passes_by not_d (x ∷ xs) zero h = h
  passes_by not_d (x ∷ xs) (suc k) h = passes_by not_d xs k h

-- which channel ends are in use
abbrev pub used_of : List ChanState → List Bool
used_of chans = map (λ (s : ChanState). s.used) chans

module _ (chans : List ChanState) (ends : List EndState) (states : List InputState) where
  -- each that is held is in use, or there
  pub record AreThere : Type 0 where
    pub used : (c i : ℕ) → is_local_to c (input_at states i) ≡ true → (slice_index_or (map chan_of chans) c unused_chan).used ≡ true
    pub present : (e i : ℕ) → is_out_by e (input_at states i) ≡ true → (slice_index_or ends e absent_end).present ≡ true

  module _ (there : List Bool) (plan : (end : ℕ) → end < 8 → (slice_index_or ends end absent_end).present ≡ slice_index_or there end false) where
    pub are_there : AreHeld (used_of chans) there states → AreThere
    are_there h = record {
      used = λ c i its. passes_of chan_of (λ chan. chan.used) unused_chan chans c (h.in_use c i its);
      present = λ e i its. let t = h.present e i its in plan e t.0 ∙ t.1;
    }

    pub are_held : AreInputStates states → ((c i j : ℕ) → is_local_to c (input_at states i) ≡ true → is_local_to c (input_at states j) ≡ true → i ≡ j)
        → ((e i j : ℕ) → is_out_by e (input_at states i) ≡ true → is_out_by e (input_at states j) ≡ true → i ≡ j) → AreThere → AreHeld (used_of chans) there states
    are_held is one_chan one_end h = record {
      chans = one_chan;
      ends = one_end;
      in_use = λ c i its. passes_by chan_of (λ chan. chan.used) unused_chan refl chans c (h.used c i its);
      present = λ e i its.
          let fact = each_at IsInputState states is.each i kept.Idle (within (is_out_by e) refl states i its) in
          let lt = out_below e (get_or states i kept.Idle) fact (passes_here (is_out_by e) refl states i its) in
          (lt, sym (plan e lt) ∙ h.present e i its);
    }
