-- A node that takes what lies ready for it, batch by batch.
use Rattle.std.proofs.Common.{◌≡◌, List, [], ◌∷◌, ◌++◌, refl, sym, ap, ◌∙◌, subst}
use Rattle.xs_base.specs.Numbers.{Position}
use Rattle.sys_plan.specs.Plan.{PlanRec}
use Rattle.ahead_limits.specs.Horizon.{HorizonRec}
use Rattle.node_runners.specs.Runner.{RunnerRec}
use Rattle.node_rounds.specs.declared.seat.Handed.{Handed}
use Rattle.node_rounds.specs.declared.seat.Seat.{Seat}
use Rattle.node_rounds.specs.Seats.{IsNext, AreNext, MayTake, told, heard, heard_all}

-- one more behind the others
pub heard_more : (h : HorizonRec) (xs : List Handed) (x : Handed) → heard_all h (xs ++ x ∷ []) ≡ heard (heard_all h xs) x
heard_more h [] x = refl
heard_more h (y ∷ xs) x = heard_more (heard h y) xs x

pub next_more : (plan : PlanRec) (n : Position) (h : HorizonRec) (xs : List Handed) (x : Handed) → AreNext plan n h xs → IsNext plan n (heard_all h xs) x → AreNext plan n h (xs ++ x ∷ [])
next_more plan n h [] x all is = (is, tt)
next_more plan n h (y ∷ xs) x all is = (all.0, next_more plan n (heard h y) xs x all.1 is)

-- how many slots the run has stays
pub same_limit : (h : HorizonRec) (xs : List Handed) → (heard_all h xs).limit ≡ h.limit
same_limit h [] = refl
same_limit h (x ∷ xs) = same_limit (heard h x) xs

-- the first is taken
module _ (before after : Seat) (x : Handed) (items : before.handed.items ≡ x ∷ after.handed.items) (taken : after.runner ≡ record before.runner { horizon = heard before.runner.horizon x }) where
  pub then_told : told after ≡ told before
  then_told =
      let f : RunnerRec → RunnerRec = λ r. record r { horizon = heard_all r.horizon after.handed.items } in
      let g : List Handed → RunnerRec = λ xs. record before.runner { horizon = heard_all before.runner.horizon xs } in
      ap f taken ∙ sym (ap g items)

  pub then_may_take : MayTake before → MayTake after
  then_may_take may =
      let all : AreNext before.runner.plan before.runner.node before.runner.horizon (x ∷ after.handed.items)
      = subst (AreNext before.runner.plan before.runner.node before.runner.horizon) items may in
      subst (λ (r : RunnerRec). AreNext r.plan r.node r.horizon after.handed.items) (sym taken) all.1

pub is_first : (seat : Seat) (x : Handed) (rest : List Handed) → seat.handed.items ≡ x ∷ rest → MayTake seat → IsNext seat.runner.plan seat.runner.node seat.runner.horizon x
is_first seat x rest items may = (subst (AreNext seat.runner.plan seat.runner.node seat.runner.horizon) items may).0

pub none_to_take : (seat : Seat) → seat.handed.items ≡ [] → seat.runner ≡ told seat
none_to_take seat none =
    let g : List Handed → RunnerRec = λ xs. record seat.runner { horizon = heard_all seat.runner.horizon xs } in
    sym (ap g none)
