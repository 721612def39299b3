use Rattle.std.proofs.Common.{◌≡◌, sym, ap, ◌∙◌, subst}
use Rattle.serial_model.specs.Serial.{SystemRec, history}
use Rattle.locality_laws.specs.Locality.{history_in}
use Rattle.finished_runs.specs.Limit.{AtLimitRec}
use Rattle.finished_runs.proofs.together.Together.history.Goals as goal

pub returns : goal.returns
returns c =
    let m = c.self.inside.machine in
    record {
      value =
          subst (λ (run : AtLimitRec). c.history.result.now ≡ history run.plan c.args.link 0 run.limit) c.self.view_is
          (c.history.ensures.value
          ∙ ap (λ (whole : SystemRec). history_in whole.histories c.args.link) (c.machines_are_serial.ensures.serial m c.self.invariant)
          ∙ sym (c.links_tell_ahead.ensures.whole m.plan c.args.link m.now));
    }
