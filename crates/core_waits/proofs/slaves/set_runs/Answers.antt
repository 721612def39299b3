use Rattle.std.proofs.Common.{◌+◌, length, ap, sym, ◌∙◌, arith}
use Rattle.std.proofs.lemmas.List.{length-set}
use Rattle.step_model.specs.ThreadRows.{with_runs}
use Rattle.core_waits.proofs.Members.{members_from, member, no_member, no_more}
use Rattle.core_waits.proofs.SetRuns.{with_first}
use Rattle.core_waits.proofs.slaves.set_runs.Goals as goal
use Rattle.core_waits.proofs.slaves.set_runs.Goals.{then-is_member, else-is_member}

pub loop-k-preserved : goal.loop-k-preserved
loop-k-preserved c =
    let k = c.loop-k.k in
    let later = members_from c.args.slaves (k + 1) in
    let eight = c.loop-k.invariant.eight in
    elim c.if-is_member.branch [
      | then-is_member w ↦ record {
        eight = ap (λ threads. length threads) w.threads-is ∙ length-set c.loop-k.threads k _ ∙ eight;
        set =
            ap (with_runs c.args.run later) w.threads-is
            ∙ sym (with_first c.args.run k later c.loop-k.threads _ (omega (arith, eight)))
            ∙ ap (λ some. with_runs c.args.run some c.loop-k.threads) (sym (member c.args.slaves k (omega arith) (sym c.is_member.ensures.value ∙ w.if-is_member.true)))
            ∙ c.loop-k.invariant.set;
      }
      | else-is_member w ↦ record {
        eight = ap (λ threads. length threads) w.threads-is ∙ eight;
        set =
            ap (with_runs c.args.run later) w.threads-is
            ∙ ap (λ some. with_runs c.args.run some c.loop-k.threads) (sym (no_member c.args.slaves k (omega arith) (sym c.is_member.ensures.value ∙ w.if-is_member.false)))
            ∙ c.loop-k.invariant.set;
      }
    ]

pub returns : goal.returns
unfolding with_runs
returns c = record {
  set =
      sym (ap (λ some. with_runs c.args.run some c.loop-k.threads) (no_more c.args.slaves c.loop-k.k (omega arith))) ∙ c.loop-k.invariant.set;
}
