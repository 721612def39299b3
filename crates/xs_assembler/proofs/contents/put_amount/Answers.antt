use Rattle.std.proofs.Common.{◌∷◌, [], ◌++◌, ap, ◌∙◌}
use Rattle.xs_assembler.specs.declared.contents.Found.{Found}
use Rattle.xs_assembler.specs.Parts.{read_amount}
use Rattle.xs_assembler.specs.Sofar.{sofar_of}
use Rattle.xs_assembler.proofs.Found.{amount_fits, amount_past, missing_now, not_missing}
use Rattle.xs_assembler.proofs.contents.put_amount.Goals as goal
use Rattle.xs_assembler.proofs.contents.put_amount.Goals.{then-is_missing, else-is_missing}

pub returns-in_default-clause-put : goal.returns-in_default-clause-put
returns-in_default-clause-put c = amount_past (sofar_of c.args.whole.now) c.args.found.now c.args.found.now (read_amount c.args.amount) c.in_default.ensures

pub returns-clause-put : goal.returns-clause-put
returns-clause-put c =
    let whole = sofar_of c.args.whole.now in
    let amount = read_amount c.args.amount in
    let new : Found = record { values = c.push.new.self; label_missing = c.if-is_missing.found.label_missing } in
    elim c.if-is_missing.branch [
      | then-is_missing w ↦
          amount_fits whole c.args.found.now new amount c.in-Some.value c.in-Some.ensures
          (c.in_ok-push.ensures.items ∙ ap (λ (f : Found). f.values.items ++ c.in-Some.value ∷ []) w.found-is)
          (missing_now whole c.args.found.now.label_missing new.label_missing c.is_missing.result amount c.is_missing.ensures w.if-is_missing.true (ap (λ (f : Found). f.label_missing) w.found-is))
      | else-is_missing w ↦
          amount_fits whole c.args.found.now new amount c.in-Some.value c.in-Some.ensures
          (c.in_ok-push.ensures.items ∙ ap (λ (f : Found). f.values.items ++ c.in-Some.value ∷ []) w.found-is)
          (not_missing whole c.args.found.now.label_missing new.label_missing c.is_missing.result amount c.is_missing.ensures w.if-is_missing.false (ap (λ (f : Found). f.label_missing) w.found-is))
    ]
