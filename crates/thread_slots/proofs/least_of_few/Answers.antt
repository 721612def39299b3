use Rattle.std.proofs.Common.{ℕ, sym, subst, ◌<◌, arith}
use Rattle.std.specs.Int.{w8, trailing_zeros}
use Rattle.thread_slots.specs.Turns.{IsLeast}
use Rattle.thread_slots.proofs.Lowest.{lowest_is_in, lowest_goes, gone_stays, gone_came, left_before}
use Rattle.thread_slots.proofs.Turns.{one_more}
use Rattle.thread_slots.proofs.least_of_few.Goals as goal

pub loop-left-preserved : goal.loop-left-preserved
loop-left-preserved c =
    let able : ℕ = c.args.able in
    let left : ℕ = c.loop-left.left in
    let some : 0 < left = omega arith in
    let fits : left < 256 = omega arith in
    let lowest = lowest_is_in left some fits in
    record {
      seen = subst (IsLeast _ _) (sym c.min-least.ensures) (one_more _ _ _ _ (trailing_zeros w8 left) c.loop-left.invariant.seen lowest.0 (lowest_goes able left some fits (c.loop-left.invariant.able _ lowest.0 lowest.1)) (λ k h. gone_stays able left k fits h) (λ k h. gone_came able left k fits h));
      able = λ k h its. c.loop-left.invariant.able k h (left_before left k fits h its);
    }
