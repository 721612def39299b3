use Rattle.std.proofs.Common.{sym, ap, ◌∙◌}
use Rattle.plan_cells.specs.declared.ends.Incoming.{Incoming}
use Rattle.core_workers.proofs.Handing.{at_hand, hears_taken, heard_taken}
use Rattle.core_workers.proofs.hear.hand_over.Goals as goal

pub returns-in-Ok-clause-heard : goal.returns-in-Ok-clause-heard
returns-in-Ok-clause-heard c =
    let runner = c.args.runner.now in
    let reader = c.args.reader.now in
    let heard = c.requires.heard in
    let in_hand = at_hand runner.plan reader.link heard.seen.seen reader.r.end.got reader.hand c.in-Some.hand (sym c.in-Some.ensures.value) heard.in_hand in
    let same = c.give_back.ensures.reader in
    heard_taken runner.plan runner c.give_back.new.runner reader heard c.in-Some.hand.to (c.give_back.ensures.runner ∙ c.in-Ok.ensures.taken)
    c.give_back.new.reader (ap (λ (i : Incoming). i.end) same) (ap (λ (i : Incoming). i.link) same) (ap (λ (i : Incoming). i.r.end.got) same ∙ sym in_hand.1)
    (ap (λ (i : Incoming). i.hand) same ∙ c.take.ensures.after)

pub returns-in-Ok-clause-hears : goal.returns-in-Ok-clause-hears
returns-in-Ok-clause-hears c =
    hears_taken c.args.runner.now.plan c.args.runner.now c.give_back.new.runner c.args.reader.now c.requires.heard c.in-Some.hand.to (c.give_back.ensures.runner ∙ c.in-Ok.ensures.taken)
