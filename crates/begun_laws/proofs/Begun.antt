-- Systems from slot to slot.
use Rattle.std.proofs.Common.{◌≡◌, ℕ, zero, suc, ◌+◌, [], refl, ap, ◌∙◌, arith}
use Rattle.sys_plan.specs.Plan.{PlanRec}
use Rattle.serial_model.specs.Serial.{Begun, begun_at_start, step_on, since, serial}
use Rattle.begun_laws.specs.Begun.{begun_after}

pub start_is_serial : (plan : PlanRec) (slot : ℕ) → since plan (begun_at_start plan) slot ≡ serial plan slot
unfolding since serial
start_is_serial plan zero = refl
start_is_serial plan (suc slot) =
    let here : 0 + slot ≡ slot = omega arith in
    λ i. step_on [] plan (here i) (start_is_serial plan slot i)

pub goes_on : (plan : PlanRec) (begun : Begun) (count more : ℕ) → since plan (begun_after plan begun count) more ≡ since plan begun (count + more)
unfolding since
goes_on plan begun count zero = let none : count ≡ count + 0 = omega arith in ap (since plan begun) none
goes_on plan begun count (suc more) =
    let here : begun.slot + count + more ≡ begun.slot + (count + more) = omega arith in
    let one : suc (count + more) ≡ count + suc more = omega arith in
    (λ i. step_on begun.shown plan (here i) (goes_on plan begun count more i)) ∙ ap (since plan begun) one
