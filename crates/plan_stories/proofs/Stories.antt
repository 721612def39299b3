-- What an arc carries over some slots is what it carries in each of them, in turn.
use Rattle.std.proofs.Common.{◌≡◌, ℕ, zero, suc, ◌+◌, ◌-◌, ◌≤◌, List, ◌++◌, sym, ap, ◌∙◌, arith}
use Rattle.xs_base.specs.Numbers.{Slot, LinkNumber}
use Rattle.xs_base.specs.declared.entry.Entry.{Entry}
use Rattle.sys_plan.specs.Plan.{PlanRec}
use Rattle.serial_model.specs.Serial.{history}
use Rattle.link_logs.specs.Entries.{entries_over, between}
use Rattle.locality_laws.proofs.Links.{histories_grow, none_carried}
use Rattle.plan_stories.specs.Stories.{carried_at}

module _ (plan : PlanRec) (link : LinkNumber) where
  over_is_history : (from : Slot) (slots : ℕ) → entries_over (carried_at plan link) from slots ≡ history plan link from (from + slots)
  over_is_history from zero = sym (none_carried plan link from) ∙ ap (history plan link from) (omega arith)
  over_is_history from (suc slots) =
      let next : suc (from + slots) ≡ from + suc slots = omega arith in
      ap (λ (es : List Entry). es ++ carried_at plan link (from + slots)) (over_is_history from slots)
      ∙ histories_grow plan link from (from + slots) (suc (from + slots)) (omega arith) (omega arith)
      ∙ ap (history plan link from) next

  pub between_is_history : (from to : Slot) → from ≤ to → between (carried_at plan link) from to ≡ history plan link from to
  between_is_history from to on =
      let end : from + (to - from) ≡ to = omega (arith, on) in
      over_is_history from (to - from) ∙ ap (history plan link from) end
