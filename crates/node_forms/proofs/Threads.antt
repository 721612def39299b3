-- Threads with their last issues.
use Rattle.std.proofs.Common.{◌≡◌, ℕ, suc, List, [], ◌∷◌, length, refl, ap, arith}
use Rattle.std.specs.Prelude.{map, zip}
use Rattle.std.specs.Prelude.{Option}
use Rattle.xs_base.specs.Numbers.{Slot}
use Rattle.xs_model.specs.declared.thread.Thread.{Thread}
use Rattle.step_model.specs.ThreadRows.{is_taken}
use Rattle.core_step.specs.declared.node_state.NodeState.{NodeState}
use Rattle.node_forms.specs.Nodes.{taken_of, state_of_fields, fields_of_state}

-- the threads alone tell which are not free
pub taken_alone : (threads : List Thread) (last : List (Option Slot)) → length threads ≡ length last → map (λ th. is_taken th.run) threads ≡ taken_of (zip threads last)
taken_alone [] last long = refl
taken_alone (th ∷ threads) [] long = absurd (omega (arith, long))
taken_alone (th ∷ threads) (l ∷ last) long = ap (λ rest. is_taken th.run ∷ rest) (taken_alone threads last (omega (arith, long)))

-- each of two lists side by side
pub firsts : {A B : Type 0} (xs : List A) (ys : List B) → length xs ≡ length ys → map (λ (p : A × B). p.0) (zip xs ys) ≡ xs
firsts [] ys long = refl
firsts (x ∷ xs) [] long = absurd (omega (arith, long))
firsts (x ∷ xs) (y ∷ ys) long = ap (λ rest. x ∷ rest) (firsts xs ys (omega (arith, long)))

pub seconds : {A B : Type 0} (xs : List A) (ys : List B) → length xs ≡ length ys → map (λ (p : A × B). p.1) (zip xs ys) ≡ ys
seconds [] [] long = refl
seconds [] (y ∷ ys) long = absurd (omega (arith, long))
seconds (x ∷ xs) [] long = absurd (omega (arith, long))
seconds (x ∷ xs) (y ∷ ys) long = ap (λ rest. y ∷ rest) (seconds xs ys (omega (arith, long)))

-- a state with as many last issues as threads is that of its parts
pub state_again : (s : NodeState) → length s.threads ≡ length s.last → state_of_fields (fields_of_state s) ≡ s
state_again s long = λ i. record s { threads = firsts s.threads s.last long i; last = seconds s.threads s.last long i }
