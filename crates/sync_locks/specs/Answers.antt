-- What a claim answers, by what the thread finds.
use Rattle.xs_model.specs.Syncs.{Claimed, Owns, IsHeld, IsRefused}
use Rattle.sync_locks.specs.declared.answers.Claim.{Claim}
use Rattle.sync_locks.specs.declared.answers.Claim.TheVariants.{Got, Held, Bad}

abbrev pub claim_answer : Claimed → Claim
claim_answer (Owns lock) = Got
claim_answer IsHeld = Held
claim_answer IsRefused = Bad
