use Rattle.std.proofs.Common.{arith}
use Rattle.single_port.proofs.States.{at_top, top_is_word, bits_again_in, shift_is_in}
use Rattle.single_port.proofs.port.Port.shift_state.Goals as goal

pub overflow_cast-result-else-self : goal.overflow_cast-result-else-self
overflow_cast-result-else-self c =
    omega (arith, top_is_word _ c.self.inside.transfer_width _ c.bits.result c.from.result c.from.ensures c.bits.ensures.value c.word-word.ensures.fits c.self.invariant.shift c.self.invariant.most)

pub returns-else-self-clause-again : goal.returns-else-self-clause-again
returns-else-self-clause-again c =
    rw (← c.self.view_is)
    (bits_again_in c.self.inside.output c.self.inside.transfer_width _ c.word-word.result _ _ c.if-self.false
    (at_top _ c.self.inside.transfer_width _ c.bits.result c.from.result c.from.ensures c.bits.ensures.value c.word-word.ensures.fits c.self.invariant.shift c.self.invariant.most)
    c.word-word.ensures.again)

pub returns-else-self-clause-is : goal.returns-else-self-clause-is
returns-else-self-clause-is c =
    rw (← c.self.view_is)
    (shift_is_in c.self.inside.output c.self.inside.transfer_width _ c.word-word.result _ c.if-self.false
    (at_top _ c.self.inside.transfer_width _ c.bits.result c.from.result c.from.ensures c.bits.ensures.value c.word-word.ensures.fits c.self.invariant.shift c.self.invariant.most)
    c.self.invariant.shift c.word-word.ensures.fits)
