use Rattle.std.proofs.Common.{Some}
use Rattle.bit_masks.proofs.Free.{none_free_exactly}
use Rattle.chan_ends.proofs.ends.ChanEnds.alloc.Goals as goal

pub returns-in-Some-clause-none : goal.returns-in-Some-clause-none
returns-in-Some-clause-none c =
    rw (← c.self.view_is) (none_free_exactly _ _ c.self.inside.ends 32 (Some c.in-Some.c) c.in-Some.ensures.lowest c.self.invariant.0)

pub returns-in_default-clause-none : goal.returns-in_default-clause-none
returns-in_default-clause-none c =
    rw (← c.self.view_is) (none_free_exactly _ _ c.self.inside.ends 32 c.first_free-free.result c.first_free-free.ensures.lowest c.self.invariant.0)
