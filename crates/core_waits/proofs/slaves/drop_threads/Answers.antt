use Rattle.std.proofs.Common.{◌≡◌, ℕ, ◌+◌, ◌∷◌, List, refl, ap, sym, ◌∙◌, arith}
use Rattle.xs_model.specs.Record.{EnabledRec}
use Rattle.xs_model.specs.Enabling.{without_thread, without_threads}
use Rattle.core_waits.proofs.Members.{members_from, member, no_member, no_more}
use Rattle.core_waits.proofs.slaves.drop_threads.Goals as goal
use Rattle.core_waits.proofs.slaves.drop_threads.Goals.{then-is_member, else-is_member}

first_dropped : (k : ℕ) (rest : List ℕ) (events : EnabledRec) → without_threads (k ∷ rest) events ≡ without_threads rest (without_thread k events)
unfolding without_threads
first_dropped k rest events = refl

pub loop-k-preserved : goal.loop-k-preserved
loop-k-preserved c =
    let k = c.loop-k.k in
    let later = members_from c.args.threads (k + 1) in
    elim c.if-is_member.branch [
      | then-is_member w ↦
          ap (without_threads later) (w.events-is ∙ w.drop_thread.ensures.after)
          ∙ sym (first_dropped k later c.loop-k.events)
          ∙ ap (λ some. without_threads some c.loop-k.events) (sym (member c.args.threads k (omega arith) (sym c.is_member.ensures.value ∙ w.if-is_member.true)))
          ∙ c.loop-k.invariant
      | else-is_member w ↦
          ap (without_threads later) w.events-is
          ∙ ap (λ some. without_threads some c.loop-k.events) (sym (no_member c.args.threads k (omega arith) (sym c.is_member.ensures.value ∙ w.if-is_member.false)))
          ∙ c.loop-k.invariant
    ]

pub returns : goal.returns
unfolding without_threads
returns c = record {
  after =
      sym (ap (λ some. without_threads some c.loop-k.events) (no_more c.args.threads c.loop-k.k (omega arith))) ∙ c.loop-k.invariant;
}
