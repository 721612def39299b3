use Rattle.std.proofs.Common.{◌∙◌, ◌-◌, ◌+◌, sym, refl, arith}
use Rattle.switch_routes.proofs.Frees.{free_here, free_later, none_free}
use Rattle.switch_routes.proofs.wants.free_end.Goals as goal

pub loop-end-init : goal.loop-end-init
loop-end-init c = λ rec same. refl

pub loop-end-preserved : goal.loop-end-preserved
loop-end-preserved c =
    λ rec same.
    let test = sym (c.is_free.ensures.value rec same) ∙ c.if-is_free.false in
    c.loop-end.invariant rec same ∙ free_later rec c.args.mask c.loop-end.end (8 - c.loop-end.end) (8 - (c.loop-end.end + 1)) (omega arith) test

pub returns-then-is_free-clause-value : goal.returns-then-is_free-clause-value
returns-then-is_free-clause-value c =
    λ rec same.
    let test = sym (c.is_free.ensures.value rec same) ∙ c.if-is_free.true in
    sym (c.loop-end.invariant rec same ∙ free_here rec c.args.mask c.loop-end.end (8 - c.loop-end.end) (8 - (c.loop-end.end + 1)) (omega arith) test)

pub returns-clause-value : goal.returns-clause-value
returns-clause-value c =
    λ rec same. sym (c.loop-end.invariant rec same ∙ none_free rec c.args.mask c.loop-end.end (8 - c.loop-end.end) (omega arith))
