use Rattle.std.proofs.Common.{ℕ, ◌≡◌, ◌/◌, ◌^◌, bit_and, ap, sym, subst, ◌∙◌, arith}
use Rattle.std.specs.Int.{bit_at}
use Rattle.std.proofs.lemmas.Bool.{eq-eqb, ne_eqb}
use Rattle.std.proofs.lemmas.Nat.Bits.{shr_and_one}
use Rattle.thread_slots.specs.Turns.{IsLeast}
use Rattle.thread_slots.proofs.Turns.{seen_in, seen_out}
use Rattle.thread_slots.proofs.least_of_many.Goals as goal
use Rattle.thread_slots.proofs.least_of_many.Goals.{then-mask-k-eq1, else-mask-k-eq1}

pub loop-k-preserved : goal.loop-k-preserved
loop-k-preserved c =
    let able : ℕ = c.args.able in
    let k : ℕ = c.loop-k.k in
    let bit : bit_and (c.from-mask.result / 2 ^ k) 1 ≡ bit_at able k =
    ap (λ mask. bit_and (mask / 2 ^ k) 1) c.from-mask.ensures ∙ shr_and_one able k
    in
    elim c.if-mask-k-eq1.branch [
      | then-mask-k-eq1 w ↦ subst (IsLeast _ _) (sym (w.least-is ∙ w.min-least.ensures)) (seen_in able k _ _ c.loop-k.invariant (omega arith) (eq-eqb _ 1 (sym bit ∙ w.if-mask-k-eq1.true)))
      | else-mask-k-eq1 w ↦ subst (IsLeast _ _) (sym w.least-is) (seen_out able k _ _ c.loop-k.invariant (ne_eqb _ 1 (λ e. w.if-mask-k-eq1.false (bit ∙ e))))
    ]
