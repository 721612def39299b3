-- What is answered to a snapshot that a run goes on from.
use Rattle.std.proofs.Common.{◌≡◌, ℕ, Bool, true, false, if◌then◌else◌, List, refl, sym, ap, ◌∙◌}
use Rattle.sys_plan.specs.Plan.{PlanRec}
use Rattle.system_model.specs.System.{Plan, system_of}
use Rattle.snap_codec.specs.Snaps.{SnapRec, IsSnapOfSome, Snap}
use Rattle.snap_model.specs.Rest.{rest_text}
use Rattle.answer_model.specs.declared.Status.TheVariants.{Done}
use Rattle.answer_model.specs.OnSystem.{answer_to}
use Rattle.answer_model.specs.ResumeForm.{is_out_of_range, rest_answer, answer_to_snap}

else_taken : {A : Type 0} (out : Bool) (a b : A) → out ≡ false → (if out then a else b) ≡ b
else_taken true a b e = cc
else_taken false a b e = refl

pub rest_done : (slots : ℕ) (snap : SnapRec) (text : List ℕ) → IsSnapOfSome snap → is_out_of_range slots snap ≡ false
    → ((plan : PlanRec) → system_of snap.text ≡ Plan plan → text ≡ rest_text plan snap.body slots)
    → record { text = text; status = Done } ≡ answer_to_snap slots (Snap snap)
rest_done slots snap text of_some within told =
    let rest : rest_answer slots snap ≡ record { text = rest_text of_some.plan snap.body slots; status = Done } =
    ap (answer_to (λ plan. rest_text plan snap.body slots)) of_some.is.system in
    let given : answer_to_snap slots (Snap snap) ≡ rest_answer slots snap = else_taken (is_out_of_range slots snap) _ _ within in
    ap (λ text. record { text = text; status = Done }) (told of_some.plan of_some.is.system) ∙ sym (given ∙ rest)
