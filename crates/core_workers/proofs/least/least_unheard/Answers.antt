use Rattle.std.proofs.Common.{◌+◌, ◌<◌, Option, Some, ℕ, List, length, take, sym, subst, arith}
use Rattle.plan_cells.specs.declared.ends.Incoming.{Incoming}
use Rattle.core_workers.specs.Worker.{unheard_ends}
use Rattle.core_workers.specs.Steps.{IsLeastOf, least_of}
use Rattle.core_workers.proofs.Leasts.{one_more, none_more, least_push}
use Rattle.core_workers.proofs.least.least_unheard.Goals as goal
use Rattle.core_workers.proofs.least.least_unheard.Goals.{then-reader, else-reader}

pub loop-reader-preserved : goal.loop-reader-preserved
loop-reader-preserved c =
    let all = c.args.readers.now in
    let k = c.loop-reader.reader-index in
    let x = c.reader-item.result in
    let within : k < length all = omega arith in
    let before = unheard_ends (take k all) in
    let is : Option ℕ → Type 0 = λ o. IsLeastOf o (unheard_ends (take (k + 1) all)) in
    elim c.if-reader.branch [
      | then-reader w ↦
          let more = one_more (λ (i : Incoming). i.busy) (λ (i : Incoming). i.end) all k x within c.reader-item.is w.if-reader.true in
          subst is (sym w.least-is) (subst is (sym w.least_end-least.ensures) (subst (λ (ns : List ℕ). IsLeastOf (least_of c.loop-reader.least (Some x.end)) ns) (sym more) (least_push c.loop-reader.least before x.end c.loop-reader.invariant)))
      | else-reader w ↦
          let same = none_more (λ (i : Incoming). i.busy) (λ (i : Incoming). i.end) all k x within c.reader-item.is w.if-reader.false in
          subst is (sym w.least-is) (subst (λ (ns : List ℕ). IsLeastOf c.loop-reader.least ns) (sym same) c.loop-reader.invariant)
    ]
