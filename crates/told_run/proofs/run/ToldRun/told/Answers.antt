use Rattle.std.proofs.Common.{◌≡◌, ℕ, ◌<◌, Option, None, Some, IfSome, List, length, sym, ap, subst, arith}
use Rattle.std.specs.Prelude.{slice_index_or}
use Rattle.sys_plan.specs.Plan.{PlanRec}
use Rattle.core_step.specs.declared.told.Told.{Told}
use Rattle.told_run.specs.Slots.{ToldRec, IsToldIn}
use Rattle.told_run.specs.Kept.{AreToldIn}
use Rattle.told_run.proofs.run.ToldRun.told.Goals as goal

-- of what is told of all nodes, that of one
told-one : (slot : Option ℕ) (plan : PlanRec) (all : List Told) (n : ℕ) (told none : Told) → n < length plan.nodes → told ≡ slice_index_or all n none
    → IfSome slot (λ slot. AreToldIn plan slot all) → IfSome slot (λ slot. IsToldIn plan slot n told)
told-one None plan all n told none below is each = tt
told-one (Some slot) plan all n told none below is each = subst (IsToldIn plan slot n) (sym is) (each n none below)

pub returns-clause-told : goal.returns-clause-told
returns-clause-told c =
    let run = c.self.inside in
    let below : c.args.n < length run.machine.plan.nodes = omega (arith, c.requires, ap (λ (r : ToldRec). length r.plan.nodes) c.self.view_is) in
    subst (λ (r : ToldRec). IfSome r.slot (λ slot. IsToldIn r.plan slot c.args.n c.index.result.now)) c.self.view_is
    (told-one run.slot run.machine.plan run.told.items c.args.n c.index.result.now _ below c.index.ensures c.self.invariant.each)
