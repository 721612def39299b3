use Rattle.std.proofs.Common.{◌+◌, ap, sym, ◌∙◌, arith}
use Rattle.std.specs.Prelude.{◌&&◌}
use Rattle.core_waits.proofs.AllIn.{in_from, with_member, without_member}
use Rattle.core_waits.proofs.slaves.all_in.Goals as goal
use Rattle.core_waits.proofs.slaves.all_in.Goals.{else-is_member-via-then-is_member+else-not-is_in, else-is_member-via-else-is_member}

pub returns-then-not-is_in : goal.returns-then-not-is_in
returns-then-not-is_in c = record {
  value = sym (c.loop-k.invariant
      ∙ with_member c.args.threads.now c.args.slaves c.loop-k.k _ c.is_in.result c.told-threads (omega arith) (sym c.is_member.ensures.value ∙ c.if-is_member.true) c.is_in.ensures.value
      ∙ ap (λ b. b && in_from c.args.threads.now c.args.slaves c.loop-k.k (c.loop-k.k + 1)) c.if-not-is_in.true);
}

pub loop-k-preserved : goal.loop-k-preserved
loop-k-preserved c =
    elim c.else-is_member.branch [
      | else-is_member-via-then-is_member+else-not-is_in w ↦
          c.loop-k.invariant
          ∙ with_member c.args.threads.now c.args.slaves c.loop-k.k _ w.is_in.result c.told-threads (omega arith) (sym c.is_member.ensures.value ∙ w.if-is_member.true) w.is_in.ensures.value
          ∙ ap (λ b. b && in_from c.args.threads.now c.args.slaves c.loop-k.k (c.loop-k.k + 1)) w.if-not-is_in.false
      | else-is_member-via-else-is_member w ↦
          c.loop-k.invariant ∙ without_member c.args.threads.now c.args.slaves c.loop-k.k (omega arith) (sym c.is_member.ensures.value ∙ w.if-is_member.false)
    ]
