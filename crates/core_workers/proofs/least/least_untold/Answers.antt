use Rattle.std.proofs.Common.{◌+◌, ◌<◌, Option, Some, ℕ, not, ap, List, length, take, sym, ◌∙◌, subst, arith}
use Rattle.std.proofs.lemmas.Bool.{eq-eqb, ne_eqb}
use Rattle.plan_cells.specs.declared.ends.Outgoing.{Outgoing}
use Rattle.core_workers.specs.Worker.{is_behind, untold_ends}
use Rattle.core_workers.specs.Steps.{IsLeastOf, least_of}
use Rattle.core_workers.proofs.Leasts.{one_more, none_more, least_push}
use Rattle.core_workers.proofs.least.least_untold.Goals as goal
use Rattle.core_workers.proofs.least.least_untold.Goals.{then-published-slot, else-published-slot}

pub loop-writer-preserved : goal.loop-writer-preserved
loop-writer-preserved c =
    let all = c.args.writers.now in
    let k = c.loop-writer.writer-index in
    let x = c.writer-item.result in
    let within : k < length all = omega arith in
    let before = untold_ends c.args.slot (take k all) in
    let is : Option ℕ → Type 0 = λ o. IsLeastOf o (untold_ends c.args.slot (take (k + 1) all)) in
    elim c.if-published-slot.branch [
      | then-published-slot w ↦
          let more = one_more (is_behind c.args.slot) (λ (i : Outgoing). i.end) all k x within c.writer-item.is (ap not (ne_eqb x.w.end.published c.args.slot (λ same. w.if-published-slot.true (c.published.ensures.value ∙ same)))) in
          subst is (sym w.least-is) (subst is (sym w.least_end-least.ensures) (subst (λ (ns : List ℕ). IsLeastOf (least_of c.loop-writer.least (Some x.end)) ns) (sym more) (least_push c.loop-writer.least before x.end c.loop-writer.invariant)))
      | else-published-slot w ↦
          let same = none_more (is_behind c.args.slot) (λ (i : Outgoing). i.end) all k x within c.writer-item.is (ap not (eq-eqb x.w.end.published c.args.slot (sym c.published.ensures.value ∙ w.if-published-slot.false))) in
          subst is (sym w.least-is) (subst (λ (ns : List ℕ). IsLeastOf c.loop-writer.least ns) (sym same) c.loop-writer.invariant)
    ]
