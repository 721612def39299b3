use Rattle.std.proofs.Common.{◌≡◌, ℕ, List, length, get_or, sym, ap, arith}
use Rattle.node_rounds.specs.declared.seat.Seat.{Seat}
use Rattle.node_rounds.proofs.Clocks.{all_there, one_not}
use Rattle.node_rounds.proofs.table.Table.is_at_limit.Goals as goal

pub returns-then-clock-self : goal.returns-then-clock-self
returns-then-clock-self c =
    let items : length c.deref-seat-items.result.now ≡ length c.args.self.now.seats.items = ap (λ (xs : List Seat). length xs) c.deref-seat-items.ensures.value in
    let clock_in : List Seat → ℕ = λ xs. (get_or xs c.loop-seat.seat-index c.seat-item.result).runner.clock in
    let there : clock_in c.deref-seat-items.result.now ≡ clock_in c.args.self.now.seats.items = ap clock_in c.deref-seat-items.ensures.value in
    sym (one_not c.args.self.now.limit c.args.self.now.seats.items c.loop-seat.seat-index c.seat-item.result (omega (arith, c.loop-seat-test.true, items))
    (λ is. omega (arith, c.if-clock-self.true, c.clock.ensures.value, is, ap (λ (s : Seat). s.runner.clock) c.seat-item.is, there)))

pub returns : goal.returns
returns c =
    let items : length c.deref-seat-items.result.now ≡ length c.args.self.now.seats.items = ap (λ (xs : List Seat). length xs) c.deref-seat-items.ensures.value in
    sym (all_there c.args.self.now.limit c.args.self.now.seats.items
    (λ k d h. c.loop-seat.invariant k d (omega arith) (omega (arith, h, c.loop-seat-test.false, c.loop-seat.auto.seat-index-end, items))))
