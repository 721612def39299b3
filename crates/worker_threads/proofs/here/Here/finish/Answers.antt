use Rattle.worker_threads.proofs.here.Here.finish.Goals as goal

pub loop-init : goal.loop-init
loop-init g c = record { ready = c.requires.ready; here = λ cells limit n is. is }

pub turn-requires-clause-ready : goal.turn-requires-clause-ready
turn-requires-clause-ready g c κs within = c.loop.invariant.ready

pub loop-preserved : goal.loop-preserved
loop-preserved g c = record { ready = c.turn.ensures.ready; here = λ cells limit n is. c.turn.ensures.stays cells limit n (c.loop.invariant.here cells limit n is) }

pub returns-then-not-turn : goal.returns-then-not-turn
returns-then-not-turn g c = record { left = λ cells limit n is. c.left.ensures.left cells limit n (c.turn.ensures.stays cells limit n (c.loop.invariant.here cells limit n is)) }
