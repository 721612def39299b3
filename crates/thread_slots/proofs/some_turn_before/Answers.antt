use Rattle.std.proofs.Common.{ℕ, ◌<◌, ap, inl, inr, arith, get_or}
use Rattle.std.specs.Int.{w8, trailing_zeros}
use Rattle.std.proofs.lemmas.Bool.{cases_eq}
use Rattle.thread_slots.proofs.Lowest.{lowest_is_in, gone_came, left_before}
use Rattle.thread_slots.proofs.some_turn_before.Goals as goal

pub returns-then-turns-k-clause-some : goal.returns-then-turns-k-clause-some
returns-then-turns-k-clause-some c =
    let left : ℕ = c.loop-left.left in
    let lowest = lowest_is_in left (omega arith) (omega arith) in
    λ _. (trailing_zeros w8 left, lowest.0, c.loop-left.invariant.able _ lowest.0 lowest.1, c.if-turns-k.true)

pub loop-left-preserved : goal.loop-left-preserved
loop-left-preserved c =
    let left : ℕ = c.loop-left.left in
    let fits : left < 256 = omega arith in
    record {
      seen = λ k h gone.
          elim (cases_eq k (trailing_zeros w8 left)) [
            | inl same ↦ let e = ap (λ n. get_or c.args.turns.now n 0) same in omega (arith, c.if-turns-k.false)
            | inr other ↦ c.loop-left.invariant.seen k h (gone_came c.args.mask left k fits h gone other)
          ];
      able = λ k h its. c.loop-left.invariant.able k h (left_before left k fits h its);
    }
