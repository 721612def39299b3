use Rattle.std.proofs.lemmas.Nat.{mod_below, pow_pos}
use Rattle.std.proofs.Common.{◌^◌, sym, ◌∙◌, arith}
use Rattle.port_shift.proofs.Bits.{left_fits, beat, is_word, take_bits, drop_bits, of_bits}
use Rattle.port_shift.proofs.shift.Shift.beat_out.Goals as goal

pub invariant_of-self : goal.invariant_of-self
invariant_of-self c = record {
  width = c.self.invariant.width;
  count = omega (arith, c.saturating_sub-self-inside.ensures, c.self.invariant.count);
  word = rw c.from-word.ensures (left_fits _ _ _ _ c.self.invariant.word c.saturating_sub-self-inside.ensures);
}

pub returns-clause-value : goal.returns-clause-value
returns-clause-value c =
    rw (← c.self.view_is, c.from-word.ensures) (beat _ _ (is_word _ _ c.self.invariant.count c.self.invariant.word) ∙ sym (take_bits _ _ _ c.self.invariant.word))

pub returns-clause-fits : goal.returns-clause-fits
returns-clause-fits c =
    rw (← c.self.view_is, c.from-word.ensures, beat c.self.inside.word c.self.inside.width (is_word _ _ c.self.invariant.count c.self.invariant.word)) (mod_below c.self.inside.word (2 ^ c.self.inside.width) (pow_pos c.self.inside.width))

pub returns-clause-rest : goal.returns-clause-rest
returns-clause-rest c =
    rw (← c.self.view_is, c.from-word.ensures, c.saturating_sub-self-inside.ensures) (of_bits _ _ _ (sym (drop_bits _ _ _)))
