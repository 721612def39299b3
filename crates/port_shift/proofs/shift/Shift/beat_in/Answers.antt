use Rattle.std.proofs.Common.{◌<◌, ◌^◌, sym, subst, arith}
use Rattle.port_shift.specs.Held.{ShiftRec}
use Rattle.port_shift.proofs.Bits.{joined, kept_fits, is_word, last_after, of_bits}
use Rattle.port_shift.proofs.shift.Shift.beat_in.Goals as goal

pub overflow_cast-self-2 : goal.overflow_cast-self-2
overflow_cast-self-2 c =
    let high : c.args.v < 2 ^ c.self.inside.width = subst (λ (s : ShiftRec). c.args.v < 2 ^ s.width) (sym c.self.view_is) c.requires.fits in
    rw (c.from.ensures, c.from-2.ensures, joined c.self.inside.count c.self.inside.width c.self.inside.word c.args.v c.self.invariant.count c.self.invariant.width high) (omega (arith, is_word _ _ (omega (arith, c.saturating_sub-dropped.ensures, c.requires.most)) (kept_fits _ _ _ _ c.args.tw _ c.self.invariant.word high c.saturating_sub-dropped.ensures)))

pub invariant_of-self : goal.invariant_of-self
invariant_of-self c =
    let high : c.args.v < 2 ^ c.self.inside.width = subst (λ (s : ShiftRec). c.args.v < 2 ^ s.width) (sym c.self.view_is) c.requires.fits in
    record {
      width = c.self.invariant.width;
      count = omega (arith, c.saturating_sub-dropped.ensures, c.requires.most);
      word = rw (c.from.ensures, c.from-2.ensures, joined c.self.inside.count c.self.inside.width c.self.inside.word c.args.v c.self.invariant.count c.self.invariant.width high) (kept_fits _ _ _ _ c.args.tw _ c.self.invariant.word high c.saturating_sub-dropped.ensures);
    }

pub returns : goal.returns
returns c =
    let high : c.args.v < 2 ^ c.self.inside.width = subst (λ (s : ShiftRec). c.args.v < 2 ^ s.width) (sym c.self.view_is) c.requires.fits in
    rw (← c.self.view_is, c.from.ensures, c.from-2.ensures, joined c.self.inside.count c.self.inside.width c.self.inside.word c.args.v c.self.invariant.count c.self.invariant.width high)
    (of_bits _ _ _ (last_after _ _ _ _ c.args.tw _ c.self.invariant.word c.saturating_sub-dropped.ensures))
