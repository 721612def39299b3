use Rattle.std.proofs.Common.{◌≡◌, ◌≤◌, ℕ, None, refl, ap, ◌∙◌, subst, arith}
use Rattle.std.specs.Prelude.{option_map}
use Rattle.std.proofs.lemmas.List.{length-set}
use Rattle.sys_plan.specs.Plan.{incoming}
use Rattle.sys_plan.specs.declared.system_plan.TheConstants.{ENDS}
use Rattle.ahead_limits.specs.Bound.{NoneFrom}
use Rattle.ahead_limits.specs.Schedule.{seen_of_link}
use Rattle.ahead_limits.proofs.Told.{ToldBelow, told-more, told-all}
use Rattle.ahead_limits.proofs.Reached.{none-anywhere, none-written, told-past}
use Rattle.ahead_limits.proofs.plan_horizon.seen_ends.Goals as goal

pub loop-end-init : goal.loop-end-init
loop-end-init c = record { long = refl; told = λ k below. absurd (omega (arith, below)); none_from = λ k far. none-anywhere ENDS k }

pub loop-end-preserved : goal.loop-end-preserved
loop-end-preserved c =
    let end = c.loop-end.end in
    let long = c.loop-end.invariant.long in
    record {
      long = length-set c.loop-end.ends end c.seen_end.result ∙ long;
      told =
          told-more (λ e. option_map (seen_of_link c.args.plan.now c.args.seen.now) (incoming c.args.plan.now c.args.node e)) end c.loop-end.ends c.seen_end.result
          (omega (arith, long)) c.loop-end.invariant.told c.seen_end.ensures;
      none_from = none-written end c.loop-end.ends c.seen_end.result c.loop-end.invariant.none_from;
    }

pub returns : goal.returns
returns c =
    let f = λ (e : ℕ). option_map (seen_of_link c.args.plan.now c.args.seen.now) (incoming c.args.plan.now c.args.node e) in
    let all : c.loop-end.end ≡ c.args.reached = omega arith in
    let none : NoneFrom c.args.reached c.loop-end.ends = subst (λ n. NoneFrom n c.loop-end.ends) all c.loop-end.invariant.none_from in
    let past : (e : ℕ) → c.args.reached ≤ e → f e ≡ None = λ e far. ap (option_map (seen_of_link c.args.plan.now c.args.seen.now)) (c.requires.past e far) in
    record {
      ends = told-all f c.args.plan.now c.args.node c.loop-end.ends c.loop-end.invariant.long
          (told-past f c.args.reached c.loop-end.ends past none (subst (λ n. ToldBelow f n c.loop-end.ends) all c.loop-end.invariant.told) ENDS);
      none_from = none;
    }
