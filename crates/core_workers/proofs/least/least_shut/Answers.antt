use Rattle.std.proofs.Common.{◌+◌, ◌<◌, Option, Some, ℕ, List, length, take, sym, ◌∙◌, subst, arith}
use Rattle.plan_cells.specs.declared.ends.Incoming.{Incoming}
use Rattle.core_workers.specs.Worker.{shut_links}
use Rattle.core_workers.specs.Steps.{IsLeastOf, least_of}
use Rattle.core_workers.proofs.Leasts.{one_more, none_more, least_push}
use Rattle.core_workers.proofs.least.least_shut.Goals as goal
use Rattle.core_workers.proofs.least.least_shut.Goals.{then-is_shut, else-is_shut}

pub loop-reader-preserved : goal.loop-reader-preserved
loop-reader-preserved c =
    let all = c.args.readers.now in
    let k = c.loop-reader.reader-index in
    let x = c.reader-item.result in
    let within : k < length all = omega arith in
    let before = shut_links (take k all) in
    let is : Option ℕ → Type 0 = λ o. IsLeastOf o (shut_links (take (k + 1) all)) in
    elim c.if-is_shut.branch [
      | then-is_shut w ↦
          let more = one_more (λ (i : Incoming). i.r.end.shut) (λ (i : Incoming). i.link) all k x within c.reader-item.is (sym c.is_shut.ensures.value ∙ w.if-is_shut.true) in
          subst is (sym w.least-is) (subst is (sym w.least_link-least.ensures) (subst (λ (ns : List ℕ). IsLeastOf (least_of c.loop-reader.least (Some x.link)) ns) (sym more) (least_push c.loop-reader.least before x.link c.loop-reader.invariant)))
      | else-is_shut w ↦
          let same = none_more (λ (i : Incoming). i.r.end.shut) (λ (i : Incoming). i.link) all k x within c.reader-item.is (sym c.is_shut.ensures.value ∙ w.if-is_shut.false) in
          subst is (sym w.least-is) (subst (λ (ns : List ℕ). IsLeastOf c.loop-reader.least ns) (sym same) c.loop-reader.invariant)
    ]
