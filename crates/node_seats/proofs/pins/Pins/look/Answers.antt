use Rattle.std.proofs.Common.{◌≡◌, ◌<◌, ◌≤◌, false, sym, refl, arith}
use Rattle.std.specs.Prelude.{nat_le}
use Rattle.node_seats.proofs.Shown.{not-due}
use Rattle.node_seats.proofs.pins.Pins.look.Goals as goal

pub returns-then-not-is_due-clause-view : goal.returns-then-not-is_due-clause-view
returns-then-not-is_due-clause-view c =
    let not_due : nat_le c.args.self.now.next c.args.slot ≡ false = cc in
    sym (c.requires.shown.until_change c.args.slot (omega arith) (not-due c.args.slot c.args.self.now.next not_due))

pub returns-then-not-is_due-clause-levels : goal.returns-then-not-is_due-clause-levels
returns-then-not-is_due-clause-levels c = c.requires.shown.levels

pub returns-then-not-is_due-clause-shown : goal.returns-then-not-is_due-clause-shown
returns-then-not-is_due-clause-shown c =
    let not_due : nat_le c.args.self.now.next c.args.slot ≡ false = cc in
    record {
      steady = record { until_change = λ later l before. c.requires.shown.until_change later (omega (arith, l)) before; levels = c.requires.shown.levels };
      next = omega (arith, not-due c.args.slot c.args.self.now.next not_due);
    }

pub returns-then-not-is_due-clause-same : goal.returns-then-not-is_due-clause-same
returns-then-not-is_due-clause-same c =
    let not_due : nat_le c.args.self.now.next c.args.slot ≡ false = cc in
    λ _. (not-due c.args.slot c.args.self.now.next not_due, refl)
