use Rattle.std.proofs.Common.{◌≡◌, ◌<◌, ◌+◌, ◌≤◌, length, sym, ap, ◌∙◌, subst, arith}
use Rattle.xs_model.specs.declared.outside.PinView.{PinView}
use Rattle.pin_wires.specs.Wires.{levels_over}
use Rattle.node_seats.proofs.Shown.{before-change, next-after}
use Rattle.node_seats.proofs.pins.Pins.look_anew.Goals as goal

pub put_over-requires : goal.put_over-requires
put_over-requires c = record { all = ap (λ (v : PinView). length v.level) c.view.ensures.value }

pub returns-clause-view : goal.returns-clause-view
returns-clause-view c =
    let pins = c.args.self.now in
    c.put_over.ensures.view ∙ ap (λ (v : PinView). record { level = levels_over pins.wired pins.levels v.level }) c.view.ensures.value

pub returns-clause-levels : goal.returns-clause-levels
returns-clause-levels c = c.put_over.ensures.levels c.view.ensures.levels

pub returns-clause-shown : goal.returns-clause-shown
returns-clause-shown c =
    let pins = c.args.self.now in
    record {
      steady = record {
        until_change = λ later l before.
            let steady = c.next_change.ensures.steady later (omega (arith, l)) (before-change later c.next_change.result (subst (λ n. later < n) c.slot_or_never-self.ensures before)) in
            ap (λ (v : PinView). record { level = levels_over pins.wired pins.levels v.level }) (steady ∙ sym c.view.ensures.value) ∙ sym c.put_over.ensures.view;
        levels = c.put_over.ensures.levels c.view.ensures.levels;
      };
      next =
          subst (λ n. c.args.slot + 1 ≤ n) (sym c.slot_or_never-self.ensures)
          (next-after pins.script pins.number c.args.slot c.next_change.result c.requires.slot c.next_change.ensures.next);
    }
