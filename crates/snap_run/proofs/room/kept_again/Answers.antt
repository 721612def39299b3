use Rattle.std.proofs.Common.{◌≡◌, ◌+◌, ◌-◌, length, take, sym, ap, ◌∙◌, subst, arith}
use Rattle.std.proofs.lemmas.List.{take_more, take_all}
use Rattle.xs_model.specs.FirstEvents.{kept_at_most}
use Rattle.trace_lines.specs.Kept.{Keeps}
use Rattle.snap_run.proofs.room.kept_again.Goals as goal

pub loop-e-preserved : goal.loop-e-preserved
loop-e-preserved c =
    let events = c.args.events.now in
    let i = c.loop-e.e-index in
    record {
      keeps = subst (Keeps c.add.new.self) (sym (take_more events i _ c.loop-e-test.true)) (c.add.ensures.keeps (take i events) c.loop-e.invariant.keeps);
      room = c.add.ensures.room (length events - (i + 1)) (λ few. omega (arith, c.loop-e.invariant.room few));
    }

pub returns : goal.returns
returns c =
    let events = c.args.events.now in
    record {
      same =
          c.loop-e.invariant.keeps.first
          ∙ ap (take kept_at_most) (take_all c.loop-e.e-index events (omega arith))
          ∙ take_all kept_at_most events c.requires.few;
    }
