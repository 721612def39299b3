-- A system from slot to slot.
use Rattle.std.proofs.Common.{◌≡◌, ℕ, suc, ◌+◌, ◌-◌, ◌≤◌, sym, ap, ◌∙◌, arith}
use Rattle.sys_plan.specs.Plan.{PlanRec}
use Rattle.serial_model.specs.Serial.{Begun, step_on, since}
use Rattle.begun_laws.proofs.Begun.{goes_on}

-- no slot later
pub since_none : (plan : PlanRec) (begun : Begun) (count : ℕ) → count ≡ 0 → begun.system ≡ since plan begun count
unfolding since
since_none plan begun count none = ap (since plan begun) (sym none)

-- one slot later
pub since_next : (plan : PlanRec) (begun : Begun) (now : ℕ) → begun.slot ≤ now → step_on begun.shown plan now (since plan begun (now - begun.slot)) ≡ since plan begun (now + 1 - begun.slot)
unfolding since
since_next plan begun now on =
    let here : begun.slot + (now - begun.slot) ≡ now = omega (arith, on) in
    let one : suc (now - begun.slot) ≡ now + 1 - begun.slot = omega (arith, on) in
    ap (λ slot. step_on begun.shown plan slot (since plan begun (now - begun.slot))) (sym here) ∙ ap (since plan begun) one

-- some slots later
pub since_later : (plan : PlanRec) (begun : Begun) (now to : ℕ) → begun.slot ≤ now → now ≤ to
    → since plan (record { slot = now; system = since plan begun (now - begun.slot); shown = begun.shown }) (to - now) ≡ since plan begun (to - begun.slot)
since_later plan begun now to on further =
    let here : now ≡ begun.slot + (now - begun.slot) = omega (arith, on) in
    let all : now - begun.slot + (to - now) ≡ to - begun.slot = omega (arith, on, further) in
    ap (λ slot. since plan (record { slot = slot; system = since plan begun (now - begun.slot); shown = begun.shown }) (to - now)) here
    ∙ goes_on plan begun (now - begun.slot) (to - now)
    ∙ ap (since plan begun) all
