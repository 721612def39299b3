use Rattle.std.proofs.Common.{ap, subst, sym, refl}
use Rattle.xs_model.specs.declared.thread.Thread.{Thread}
use Rattle.xs_model.specs.Status.{IsKnown}
use Rattle.trap_unit.proofs.StaysKnown.{set_within}
use Rattle.trap_unit.proofs.enter_trap.Goals as goal

pub returns-clause-known : goal.returns-clause-known
returns-clause-known c = λ known.
    let kept = subst (λ (th : Thread). IsKnown th.sr) (sym c.keep_place.ensures.value) known.sr in
    record {
      sr = set_within _ _ _ _ _ 223 kept refl (c.remove.ensures tt) (c.insert.ensures tt);
      ssr = subst IsKnown (sym (ap (λ (th : Thread). th.ssr) c.keep_place.ensures.value)) known.sr;
    }
