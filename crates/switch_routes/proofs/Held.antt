-- Whether some input is in a state that passes a test.
use Rattle.std.proofs.Common.{ℕ, ◌≡◌, ◌+◌, ◌<◌, ◌≤◌, ◌||◌, Bool, true, false, List, length, get_or, drop, ap, ◌∙◌}
use Rattle.std.specs.List.{list_any}
use Rattle.std.proofs.lemmas.List.{drop_more, drop_all}
use Rattle.xs_model.specs.Record.{InputRec}
use Rattle.switch_routes.specs.declared.inputs.Input.{Input}
use Rattle.switch_routes.specs.Inputs.{state_of, states_in}

module _ (p : InputRec → Bool) (states : List Input) (i : ℕ) where
  abbrev any_from : ℕ → Bool
  any_from n = list_any p (states_in (drop n states))

  step : (d : Input) → i < length states → any_from i ≡ (p (state_of (get_or states i d)) || any_from (i + 1))
  step d h = ap (λ rest. list_any p (states_in rest)) (drop_more states i d h)

  pub any_here : (d : Input) → i < length states → p (state_of (get_or states i d)) ≡ true → any_from i ≡ true
  any_here d h is = step d h ∙ ap (λ b. b || any_from (i + 1)) is

  pub any_next : (d : Input) → i < length states → p (state_of (get_or states i d)) ≡ false → any_from i ≡ any_from (i + 1)
  any_next d h is = step d h ∙ ap (λ b. b || any_from (i + 1)) is

  pub any_none : length states ≤ i → any_from i ≡ false
  any_none h = ap (λ rest. list_any p (states_in rest)) (drop_all i states h)
