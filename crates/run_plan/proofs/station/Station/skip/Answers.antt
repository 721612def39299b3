use Rattle.std.proofs.Common.{◌≡◌, ◌+◌, ◌-◌, refl, ap, subst, ◌∙◌, arith}
use Rattle.xs_model.specs.declared.outside.PinView.{PinView}
use Rattle.core_step.specs.PinLevels.{from_outside}
use Rattle.node_seats.specs.Seats.{SkipsOn}
use Rattle.node_seats.specs.Shown.{IsShown}
use Rattle.run_plan.proofs.station.Station.skip.Goals as goal

pub returns : goal.returns
returns c =
    let from = c.args.from in
    let to = c.args.to in
    let before = c.args.self.now in
    let look = c.look.ensures in
    let there : to - 1 + 1 ≡ to = omega (arith, c.requires.some) in
    let skips = c.skip.ensures.skips in
    record {
      skips = record {
        incoming = refl;
        script = look.script;
        number = look.number;
        wired = look.wired;
        levels = look.wires;
        shown = subst (λ t. IsShown t c.look.new.self) there look.shown;
        noted = λ _. skips.noted ∙ ap from_outside c.view.ensures;
        skips = subst (λ (v : PinView). SkipsOn from to v before.seat c.skip.new.self) (c.view.ensures ∙ look.view) skips;
      };
    }
