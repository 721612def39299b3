use Rattle.std.proofs.Common.{◌≡◌, bit_and, subst, sym}
use Rattle.trap_unit.proofs.StaysKnown.{and_within}
use Rattle.trap_unit.proofs.enter_event.Goals as goal

pub returns-clause-known : goal.returns-clause-known
returns-clause-known c = λ known. record {
  sr = subst (λ n. bit_and n 223 ≡ n) (sym (c.remove.ensures tt)) (and_within c.args.thread.now.sr.bits _ 223 known.sr);
  ssr = known.ssr;
}
