-- Inputs of the switch that have the form are those that a node may have.
use Rattle.std.proofs.Common.{◌≡◌, ℕ, ◌+◌, ◌-◌, ◌*◌, ◌/◌, ◌%◌, ◌<◌, ◌≤◌, Bool, true, false, not, ◌&&◌, IsTrue, eqb, ltb, leb, List, [], length, get_or, take, drop, map, refl, sym, ap, subst, ◌∙◌, arith, inl, inr}
use Rattle.std.specs.Prelude.{slice_index_or}
use Rattle.std.specs.List.{list_any, AllByRecursion}
use Rattle.std.proofs.lemmas.Bool.{eqb-true, eq-eqb, ltb-true, lt-ltb, leb-true, le-leb, and_parts, and_from, not_from_false, cases_Bool, cases_order, cases_lt, false≢true}
use Rattle.std.proofs.lemmas.List.{length-take-le, length-drop, get_or-take, get_or-drop, get_or-map, get_or_past, get_or_default, length-map}
use Rattle.std.proofs.lemmas.List.Folds.{list_any_at, list_any_none}
use Rattle.xs_model.specs.Record.{InputRec, Idle}
use Rattle.net_model.specs.Switch.{is_local_to, is_out_by}
use Rattle.switch_routes.specs.States.{input_of, in_header, IsInputState, AreInputStates}
use Rattle.switch_routes.specs.declared.state.InputState.{InputState}
use Rattle.switch_routes.specs.declared.state.InputState.TheVariants as kept
use Rattle.switch_forms.specs.Inputs.{may_be_at, tag_at, may_hold_chan, may_hold_end, is_operand, is_dest, is_net, input_of_fields, fields_of_input, input, inputs, InputFits}
use Rattle.state_forms.proofs.Chains.{chain_at, chain_of, each_of, each_at}

not_true : (b : Bool) → not b ≡ true → b ≡ false
not_true true h = absurd cc
not_true false h = refl

-- ---- One

abbrev some_local : ℕ → List InputState → Bool
some_local c states = list_any (λ s. is_local_to c (input_of s)) states

abbrev some_out : ℕ → List InputState → Bool
some_out e states = list_any (λ s. is_out_by e (input_of s)) states

-- what holds of an input after those before it
pub record IsNext (used there : List Bool) (before : List InputState) (state : InputState) : Type 0 where
  pub is : IsInputState state
  pub header : in_header (input_of state) ≡ true → length before < 8
  pub chan : (c : ℕ) → is_local_to c (input_of state) ≡ true → (slice_index_or used c false ≡ true) × (some_local c before ≡ false)
  pub end : (e : ℕ) → is_out_by e (input_of state) ≡ true → (slice_index_or there e false ≡ true) × (some_out e before ≡ false)

module _ (used there : List Bool) (before : List InputState) where
  holds_chan : (chan : ℕ) → IsTrue (may_hold_chan used before chan) → (chan < 32) × ((slice_index_or used chan false ≡ true) × (some_local chan before ≡ false))
  holds_chan chan h =
      let outer = and_parts (ltb chan 32 && get_or used chan false) (not (some_local chan before)) h in
      let inner = and_parts (ltb chan 32) (get_or used chan false) outer.0 in
      (ltb-true chan 32 inner.0, (inner.1, not_true (some_local chan before) outer.1))

  holds_end : (end : ℕ) → IsTrue (may_hold_end there before end) → (end < 8) × ((slice_index_or there end false ≡ true) × (some_out end before ≡ false))
  holds_end end h =
      let outer = and_parts (ltb end 8 && get_or there end false) (not (some_out end before)) h in
      let inner = and_parts (ltb end 8) (get_or there end false) outer.0 in
      (ltb-true end 8 inner.0, (inner.1, not_true (some_out end before) outer.1))

  may_chan : (chan : ℕ) → chan < 32 → slice_index_or used chan false ≡ true → some_local chan before ≡ false → IsTrue (may_hold_chan used before chan)
  may_chan chan lt is free =
      and_from (ltb chan 32 && get_or used chan false) (not (some_local chan before)) (and_from (ltb chan 32) (get_or used chan false) (lt-ltb chan 32 lt) is)
      (not_from_false (some_local chan before) free)

  may_end : (end : ℕ) → end < 8 → slice_index_or there end false ≡ true → some_out end before ≡ false → IsTrue (may_hold_end there before end)
  may_end end lt is free =
      and_from (ltb end 8 && get_or there end false) (not (some_out end before)) (and_from (ltb end 8) (get_or there end false) (lt-ltb end 8 lt) is)
      (not_from_false (some_out end before) free)

  -- what the fields of an input say
  record FieldsHold (state : InputState) : Type 0 where
    place : IsTrue (may_be_at (length before) (fields_of_input state).0)
    operand : IsTrue (is_operand used there before (fields_of_input state).0 (fields_of_input state).1.0)
    dest : IsTrue (is_dest (fields_of_input state).0 (fields_of_input state).1.1.0)
    net : IsTrue (is_net (fields_of_input state).0 (fields_of_input state).1.1.1)
    again : input_of_fields (fields_of_input state) ≡ state

  next_is : (state : InputState) → FieldsHold state → IsNext used there before state
  next_is kept.Idle h = record { is = tt; header = λ e. absurd cc; chan = λ c e. absurd cc; end = λ k e. absurd cc }
  next_is (kept.Head1 first) h = record { is = tt; header = λ e. ltb-true (length before) 8 h.place; chan = λ c e. absurd cc; end = λ k e. absurd cc }
  next_is (kept.Head2 first second) h = record { is = tt; header = λ e. ltb-true (length before) 8 h.place; chan = λ c e. absurd cc; end = λ k e. absurd cc }
  next_is (kept.Want dest net) h = record { is = (h.dest, ltb-true net 4 h.net); header = λ e. absurd cc; chan = λ c e. absurd cc; end = λ k e. absurd cc }
  next_is (kept.Local chan) h =
      let held = holds_chan chan h.operand in
      record {
        is = held.0;
        header = λ e. absurd cc;
        chan = λ c e. subst (λ (n : ℕ). (slice_index_or used n false ≡ true) × (some_local n before ≡ false)) (eqb-true chan c e) held.1;
        end = λ k e. absurd cc;
      }
  next_is (kept.Out end count dest) h =
      let same = h.again in
      let high : (end * 256 + count) / 256 ≡ end = cc in
      let low : (end * 256 + count) % 256 ≡ count = cc in
      let parts = and_parts (may_hold_end there before ((end * 256 + count) / 256)) (leb ((end * 256 + count) % 256) 3) h.operand in
      let held = holds_end end (subst (λ (n : ℕ). IsTrue (may_hold_end there before n)) high parts.0) in
      record {
        is = (held.0, subst (λ (n : ℕ). n ≤ 3) low (leb-true _ 3 parts.1), h.dest);
        header = λ e. absurd cc;
        chan = λ c e. absurd cc;
        end = λ k e. subst (λ (n : ℕ). (slice_index_or there n false ≡ true) × (some_out n before ≡ false)) (eqb-true end k e) held.1;
      }
  next_is kept.Lost h = record { is = tt; header = λ e. absurd cc; chan = λ c e. absurd cc; end = λ k e. absurd cc }

  pub input_holds : (state : InputState) → (input used there before).Holds state → IsNext used there before state
  unfolding input tag_at
  input_holds state h = next_is state (record { place = h.0.0.1; operand = h.0.1.0.1; dest = h.0.1.1.0.1; net = h.0.1.1.1.1; again = h.1 })

  pub input_by : (state : InputState) → InputFits state → IsNext used there before state → (input used there before).Holds state
  unfolding input tag_at
  input_by kept.Idle fits h = ((((omega arith, refl), refl), ((omega arith, refl), ((omega arith, refl), (omega arith, refl)))), refl)
  input_by (kept.Head1 first) fits h =
      let low : (first * 256) % 256 ≡ 0 = omega arith in
      let again : first * 256 / 256 ≡ first = omega arith in (
        (
          ((omega arith, refl), lt-ltb (length before) 8 (h.header refl)),
          (
            (omega arith, and_from (ltb (first * 256) 65536) (eqb (first * 256 % 256) 0) (lt-ltb (first * 256) 65536 (omega arith)) (eq-eqb _ 0 low)),
            ((omega arith, refl), (omega arith, refl)),
          ),
        ),
        ap (λ (n : ℕ). kept.Head1 n) again,
      )
  input_by (kept.Head2 first second) fits h =
      let one = fits.0 in
      let two = fits.1 in
      let high : (first * 256 + second) / 256 ≡ first = omega arith in
      let low : (first * 256 + second) % 256 ≡ second = omega arith in (
        (((omega arith, refl), lt-ltb (length before) 8 (h.header refl)), ((omega arith, lt-ltb (first * 256 + second) 65536 (omega arith)), ((omega arith, refl), (omega arith, refl)))),
        ap (λ (n : ℕ). kept.Head2 n ((first * 256 + second) % 256)) high ∙ ap (λ (n : ℕ). kept.Head2 first n) low,
      )
  input_by (kept.Want dest net) fits h =
      let is = h.is.1 in
      ((((omega arith, refl), refl), ((omega arith, refl), ((fits, h.is.0), (omega arith, lt-ltb net 4 is)))), refl)
  input_by (kept.Local chan) fits h =
      let is : chan < 32 = h.is in
      let held = h.chan chan (eq-eqb chan chan refl) in
      ((((omega arith, refl), refl), ((omega arith, may_chan chan is held.0 held.1), ((omega arith, refl), (omega arith, refl)))), refl)
  input_by (kept.Out end count dest) fits h =
      let lt = h.is.0 in
      let le = h.is.1 in
      let held = h.end end (eq-eqb end end refl) in
      let high : (end * 256 + count) / 256 ≡ end = omega arith in
      let low : (end * 256 + count) % 256 ≡ count = omega arith in
      let may : IsTrue (may_hold_end there before ((end * 256 + count) / 256)) = subst (λ (n : ℕ). IsTrue (may_hold_end there before n)) (sym high) (may_end end lt held.0 held.1) in (
        (
          ((omega arith, refl), refl),
          (
            (omega arith, and_from (may_hold_end there before ((end * 256 + count) / 256)) (leb ((end * 256 + count) % 256) 3) may (le-leb _ 3 (omega arith))),
            ((fits, h.is.2), (omega arith, refl)),
          ),
        ),
        ap (λ (n : ℕ). kept.Out n ((end * 256 + count) % 256) dest) high ∙ ap (λ (n : ℕ). kept.Out end n dest) low,
      )
  input_by kept.Lost fits h = ((((omega arith, refl), refl), ((omega arith, refl), ((omega arith, refl), (omega arith, refl)))), refl)

-- ---- All of them

-- what an input is at
abbrev pub input_at : List InputState → ℕ → InputRec
input_at states i = slice_index_or (map input_of states) i Idle

-- no channel end and no link end is held by two inputs, and each that is held is in use, or there
pub record AreHeld (used there : List Bool) (states : List InputState) : Type 0 where
  pub chans : (c i j : ℕ) → is_local_to c (input_at states i) ≡ true → is_local_to c (input_at states j) ≡ true → i ≡ j
  pub ends : (e i j : ℕ) → is_out_by e (input_at states i) ≡ true → is_out_by e (input_at states j) ≡ true → i ≡ j
  pub in_use : (c i : ℕ) → is_local_to c (input_at states i) ≡ true → slice_index_or used c false ≡ true
  pub present : (e i : ℕ) → is_out_by e (input_at states i) ≡ true → (e < 8) × (slice_index_or there e false ≡ true)

-- what holds of the inputs of a node whose channel ends in use and whose link ends are these
pub record AreInputs (used there : List Bool) (states : List InputState) : Type 0 where
  pub are : AreInputStates states
  pub held : AreHeld used there states

-- the inputs that pass a test that an idle one does not pass
module _ (p : InputRec → Bool) (idle : p Idle ≡ false) (states : List InputState) where
  abbrev passes : InputState → Bool
  passes s = p (input_of s)

  abbrev kept_at : ℕ → InputState
  kept_at i = get_or states i kept.Idle

  past : (k : ℕ) → length states ≤ k → input_at states k ≡ Idle
  past k le = get_or_past (map input_of states) k Idle (omega (arith, le, length-map states input_of))

  pub within : (i : ℕ) → p (input_at states i) ≡ true → i < length states
  within i h =
      elim (cases_lt i (length states)) [
        | inl lt ↦ lt
        | inr le ↦ absurd (false≢true (sym idle ∙ ap p (sym (past i le)) ∙ h))
      ]

  seen_at : (i : ℕ) → i < length states → input_at states i ≡ input_of (kept_at i)
  seen_at i lt = get_or-map input_of states i kept.Idle Idle lt

  pub passes_here : (i : ℕ) → p (input_at states i) ≡ true → passes (kept_at i) ≡ true
  passes_here i h = ap p (sym (seen_at i (within i h))) ∙ h

  module _ (at : (i : ℕ) → i < length states → passes (kept_at i) ≡ true → list_any passes (take i states) ≡ false) where
    not_earlier : (i j : ℕ) → i < j → p (input_at states i) ≡ true → p (input_at states j) ≡ true → ⊥
    not_earlier i j lt first second =
        let long = within j second in
        let none = at j long (passes_here j second) in
        let some = list_any_at passes (take j states) i kept.Idle (omega (arith, length-take-le j states (omega arith)))
        (ap passes (get_or-take j states i kept.Idle lt) ∙ passes_here i first) in
        false≢true (sym none ∙ some)

    pub once : (i j : ℕ) → p (input_at states i) ≡ true → p (input_at states j) ≡ true → i ≡ j
    once i j first second =
        elim (cases_order i j) [
          | inl same ↦ same
          | inr other ↦ elim other [
            | inl lt ↦ absurd (not_earlier i j lt first second)
            | inr gt ↦ absurd (not_earlier j i gt second first)
          ]
        ]

  -- where one passes, and no two do, none before it does
  pub none_before : ((i j : ℕ) → p (input_at states i) ≡ true → p (input_at states j) ≡ true → i ≡ j) → (i : ℕ) → i < length states → passes (kept_at i) ≡ true
      → list_any passes (take i states) ≡ false
  none_before one i lt its =
      list_any_none passes (take i states) (λ m d inside.
      let before : m < i = omega (arith, inside, length-take-le i states (omega arith)) in
      let here : get_or (take i states) m d ≡ kept_at m = get_or-take i states m d before ∙ get_or_default states m d kept.Idle (omega arith) in
      elim (cases_Bool (passes (kept_at m))) [
        | inl both ↦ let same = one m i (ap p (seen_at m (omega arith)) ∙ both) (ap p (seen_at i lt) ∙ its) in absurd (omega arith)
        | inr none ↦ ap passes here ∙ none
      ])

-- a link end that an input holds is one of the eight
pub out_below : (e : ℕ) (state : InputState) → IsInputState state → is_out_by e (input_of state) ≡ true → e < 8
out_below e kept.Idle is h = absurd cc
out_below e (kept.Head1 first) is h = absurd cc
out_below e (kept.Head2 first second) is h = absurd cc
out_below e (kept.Want dest net) is h = absurd cc
out_below e (kept.Local chan) is h = absurd cc
out_below e (kept.Out end count dest) is h = subst (λ (n : ℕ). n < 8) (eqb-true end e h) is.0
out_below e kept.Lost is h = absurd cc

module _ (used there : List Bool) (states : List InputState) where
  abbrev at_place : ℕ → InputState
  at_place i = get_or states i kept.Idle

  module _ (next : (i : ℕ) → i < length states → IsNext used there (take i states) (at_place i)) where
    header_at : (i : ℕ) → i < length states → 8 ≤ i → in_header (input_of (at_place i)) ≡ false
    header_at i lt le =
        elim (cases_Bool (in_header (input_of (at_place i)))) [
          | inl h ↦ let early = (next i lt).header h in absurd (omega (arith, length-take-le i states (omega arith)))
          | inr h ↦ h
        ]

    late : (i : ℕ) → i < length (drop 8 states) → in_header (input_of (get_or (drop 8 states) i kept.Idle)) ≡ false
    late i lt = ap (λ (s : InputState). in_header (input_of s)) (get_or-drop 8 states i kept.Idle) ∙ header_at (8 + i) (omega (arith, lt, length-drop 8 states)) (omega arith)

    chan_at : (c i : ℕ) → is_local_to c (input_at states i) ≡ true → (slice_index_or used c false ≡ true) × (some_local c (take i states) ≡ false)
    chan_at c i h = (next i (within (is_local_to c) refl states i h)).chan c (passes_here (is_local_to c) refl states i h)

    end_at : (e i : ℕ) → is_out_by e (input_at states i) ≡ true → (e < 8) × (slice_index_or there e false ≡ true)
    end_at e i h =
        let n = next i (within (is_out_by e) refl states i h) in
        let here = passes_here (is_out_by e) refl states i h in
        (out_below e (at_place i) n.is here, (n.end e here).0)

    are_inputs : AreInputs used there states
    are_inputs = record {
      are = record {
        each = each_of IsInputState kept.Idle states (λ i lt. (next i lt).is);
        headers = each_of (λ s. in_header (input_of s) ≡ false) kept.Idle (drop 8 states) late;
      };
      held = record {
        chans = λ c. once (is_local_to c) refl states (λ i lt h. ((next i lt).chan c h).1);
        ends = λ e. once (is_out_by e) refl states (λ i lt h. ((next i lt).end e h).1);
        in_use = λ c i h. (chan_at c i h).0;
        present = end_at;
      };
    }

  pub inputs_hold : (inputs used there).Holds states → AreInputs used there states
  inputs_hold h = are_inputs (λ i lt. input_holds used there (take i states) (at_place i) (chain_at (input used there) [] states h.1 i kept.Idle lt))

  module _ (h : AreInputs used there states) where
    early : (i : ℕ) → i < length states → in_header (input_of (at_place i)) ≡ true → i < 8
    early i lt its =
        elim (cases_lt i 8) [
          | inl low ↦ low
          | inr le ↦
              let k = each_at (λ (s : InputState). in_header (input_of s) ≡ false) (drop 8 states) h.are.headers (i - 8) kept.Idle (omega (arith, length-drop 8 states)) in
              let there_is : 8 + (i - 8) ≡ i = omega arith in
              let same = ap (λ (s : InputState). in_header (input_of s)) (get_or-drop 8 states (i - 8) kept.Idle ∙ ap (λ (n : ℕ). at_place n) there_is) in
              absurd (false≢true (sym k ∙ same ∙ its))
        ]

    next_at : (i : ℕ) → i < length states → IsNext used there (take i states) (at_place i)
    next_at i lt = record {
      is = each_at IsInputState states h.are.each i kept.Idle lt;
      header = λ its. let e = early i lt its in omega (arith, length-take-le i states (omega arith));
      chan = λ c its. (
        h.held.in_use c i (ap (is_local_to c) (seen_at (is_local_to c) refl states i lt) ∙ its),
        none_before (is_local_to c) refl states (h.held.chans c) i lt its,
      );
      end = λ e its. (
        (h.held.present e i (ap (is_out_by e) (seen_at (is_out_by e) refl states i lt) ∙ its)).1,
        none_before (is_out_by e) refl states (h.held.ends e) i lt its,
      );
    }

  pub inputs_of : length states ≡ 40 → AllByRecursion InputFits states → AreInputs used there states → (inputs used there).Holds states
  inputs_of len fit h =
      (len, chain_of (input used there) kept.Idle [] states (λ i lt. input_by used there (take i states) (at_place i) (each_at InputFits states fit i kept.Idle lt) (next_at h i lt)))
