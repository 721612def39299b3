-- The inputs of the switch, and the row of link ends, in a snapshot and back.
use Rattle.std.proofs.Common.{ℕ, zero, suc, ◌≡◌, ◌+◌, ◌*◌, ◌/◌, ◌%◌, ◌<◌, ◌≤◌, true, false, Option, Some, None, List, [], ◌∷◌, length, get_or, set, take, drop, refl, sym, ap, subst, ◌∙◌, arith}
use Rattle.std.specs.Prelude.{map}
use Rattle.std.specs.List.{AllByRecursion}
use Rattle.std.proofs.lemmas.Bool.{eq-eqb, eqb-true}
use Rattle.std.proofs.lemmas.List.{drop-map, get_or-map, get_or_default}
use Rattle.xs_model.specs.declared.dest.Dest.{Dest}
use Rattle.xs_model.specs.Dests.{dest_of, id_of}
use Rattle.xs_model.specs.Record.{InputRec, Idle, Head1, Head2, Want, Local, Out, Lost}
use Rattle.net_model.specs.Chans.{is_chan_id}
use Rattle.made_lists.proofs.Filled.{filled_more}
use Rattle.link_ends.specs.Counts.{EndCounts}
use Rattle.link_ends.specs.States.{end_state, absent_end, IsEndState}
use Rattle.link_ends.proofs.States.{stands}
use Rattle.switch_routes.specs.declared.inputs.Input.{Input}
use Rattle.switch_routes.specs.Inputs.{state_of, states_in}
use Rattle.switch_routes.specs.Rows.{AllCountsOf}
use Rattle.switch_routes.specs.States.{input_state, input_of, in_header, IsInput, IsInputState, AreInputStates, place_state, link_of}
use Rattle.switch_routes.specs.declared.state.InputState.{InputState}
use Rattle.switch_routes.specs.declared.state.InputState.TheVariants as kept
use Rattle.switch_routes.proofs.Marks.{length-states}

-- ---- lists that are filled place by place

module _ {A B : Type 0} (f : A → B) (xs : List A) where
  pub placed_more : (ys : List B) (k : ℕ) (d : A) (r : B) → k < length xs → k < length ys → r ≡ f (get_or xs k d) → take k ys ≡ map f (take k xs) → take (k + 1) (set ys k r) ≡ map f (take (k + 1) xs)
  placed_more ys k d r here place is done =
      ap (λ (y : B). take (k + 1) (set ys k y)) is
      ∙ filled_more f xs ys k (get_or xs k d) here place (get_or_default xs k d (get_or xs k d) here) done

pub kept_more : (states : List Input) (ys : List InputState) (k : ℕ) (d : Input) (r : InputState) → k < length states → k < length ys → r ≡ input_state (state_of (get_or states k d)) → take k ys ≡ map input_state (take k (states_in states)) → take (k + 1) (set ys k r) ≡ map input_state (take (k + 1) (states_in states))
kept_more states ys k d r here place is done =
    placed_more input_state (states_in states) ys k (state_of d) r (omega (arith, here, length-states states)) place (is ∙ ap input_state (sym (get_or-map state_of states k d (state_of d) here))) done

-- ---- destinations and identifiers

node-again : (n c : ℕ) → c < 256 → (n * 65536 + c * 256 + 2) / 65536 ≡ n
node-again n c fits = omega arith

chan-again : (n c : ℕ) → c < 256 → (n * 65536 + c * 256 + 2) / 256 % 256 ≡ c
chan-again n c fits = omega arith

pub dest-again : (dest : Dest) → dest.chan < 256 → dest_of (id_of dest) ≡ dest
dest-again dest fits =
    ap (λ (n : ℕ). record { node = n; chan = id_of dest / 256 % 256 }) (node-again dest.node dest.chan fits)
    ∙ ap (λ (c : ℕ). record { node = dest.node; chan = c }) (chan-again dest.node dest.chan fits)

pub id-again : (id : ℕ) → is_chan_id id ≡ true → id_of (dest_of id) ≡ id
id-again id is = let low : id % 256 ≡ 2 = eqb-true (id % 256) 2 is in omega arith

pub id-is : (dest : Dest) → is_chan_id (id_of dest) ≡ true
id-is dest = eq-eqb (id_of dest % 256) 2 (omega arith)

-- ---- inputs

pub input-again : (i : InputRec) → IsInput i → input_of (input_state i) ≡ i
input-again Idle fits = refl
input-again (Head1 high) fits = refl
input-again (Head2 high low) fits = refl
input-again (Want dest net) fits = ap (λ (d : Dest). Want d net) (dest-again dest fits.0)
input-again (Local chan) fits = refl
input-again (Out end headers dest) fits = ap (λ (d : Dest). Out end headers d) (dest-again dest fits.2)
input-again Lost fits = refl

pub state-again : (s : InputState) → IsInputState s → input_state (input_of s) ≡ s
state-again kept.Idle fits = refl
state-again (kept.Head1 first) fits = refl
state-again (kept.Head2 first second) fits = refl
state-again (kept.Want dest net) fits = ap (λ (d : ℕ). kept.Want d net) (id-again dest fits.0)
state-again (kept.Local chan) fits = refl
state-again (kept.Out end count dest) fits = ap (λ (d : ℕ). kept.Out end count d) (id-again dest fits.2)
state-again kept.Lost fits = refl

state-fits : (i : InputRec) → IsInput i → IsInputState (input_state i)
state-fits Idle fits = tt
state-fits (Head1 high) fits = tt
state-fits (Head2 high low) fits = tt
state-fits (Want dest net) fits = (id-is dest, fits.1)
state-fits (Local chan) fits = fits
state-fits (Out end headers dest) fits = (fits.0, fits.1, id-is dest)
state-fits Lost fits = tt

same-header : (i : InputRec) → in_header (input_of (input_state i)) ≡ in_header i
same-header Idle = refl
same-header (Head1 high) = refl
same-header (Head2 high low) = refl
same-header (Want dest net) = refl
same-header (Local chan) = refl
same-header (Out end headers dest) = refl
same-header Lost = refl

pub inputs-again : (inputs : List InputRec) → AllByRecursion IsInput inputs → map input_of (map input_state inputs) ≡ inputs
inputs-again [] fit = refl
inputs-again (i ∷ inputs) fit = ap (λ (s : InputRec). s ∷ map input_of (map input_state inputs)) (input-again i fit.0) ∙ ap (λ rest. i ∷ rest) (inputs-again inputs fit.1)

each-fits : (inputs : List InputRec) → AllByRecursion IsInput inputs → AllByRecursion IsInputState (map input_state inputs)
each-fits [] fit = tt
each-fits (i ∷ inputs) fit = (state-fits i fit.0, each-fits inputs fit.1)

no-header : (inputs : List InputRec) → AllByRecursion (λ i. in_header i ≡ false) inputs → AllByRecursion (λ s. in_header (input_of s) ≡ false) (map input_state inputs)
no-header [] none = tt
no-header (i ∷ inputs) none = (same-header i ∙ none.0, no-header inputs none.1)

-- what a snapshot keeps of inputs says what may be so of them
pub states-of-inputs : (inputs : List InputRec) → AllByRecursion IsInput inputs → AllByRecursion (λ i. in_header i ≡ false) (drop 8 inputs) → AreInputStates (map input_state inputs)
states-of-inputs inputs fit none = record {
  each = each-fits inputs fit;
  headers = subst (AllByRecursion (λ s. in_header (input_of s) ≡ false)) (sym (drop-map input_state 8 inputs)) (no-header (drop 8 inputs) none);
}

-- ---- link ends

pub absent-fits : IsEndState absent_end
absent-fits = record { window = omega arith; never = λ never. refl; absent = λ absent. refl }

pub facts-of-row : (row : List (Option EndCounts)) (n : ℕ) → length row ≤ n → ((k : ℕ) → k < n → IsEndState (place_state (get_or row k None))) → AllByRecursion IsEndState (map place_state row)
facts-of-row [] n long all = tt
facts-of-row (end ∷ row) zero long all = absurd (omega (arith, long))
facts-of-row (end ∷ row) (suc n) long all = (all 0 (omega arith), facts-of-row row n (omega (arith, long)) (λ k h. all (suc k) (omega (arith, h))))

-- a row stands for the link records that its states say
pub row-stands : (row : List (Option EndCounts)) → AllByRecursion IsEndState (map place_state row) → AllCountsOf row (map link_of (map place_state row))
row-stands [] all = tt
row-stands (None ∷ row) all = (tt, row-stands row all.1)
row-stands (Some counts ∷ row) all = (stands counts.gap (end_state counts) all.0.never, row-stands row all.1)
