-- Channel ends in a snapshot, and back.
use Rattle.std.proofs.Common.{ℕ, zero, suc, ◌≡◌, ◌<◌, ◌≤◌, List, [], ◌∷◌, length, get_or, refl, arith}
use Rattle.std.specs.Prelude.{map}
use Rattle.std.specs.List.{AllByRecursion}
use Rattle.xs_model.specs.Record.{ChanRec, unused_chan}
use Rattle.chan_ends.specs.declared.state.ChanState.{ChanState}
use Rattle.chan_ends.specs.States.{chan_state, chan_of, IsChan, IsChanState}

pub chan-again : (chan : ChanRec) → chan_of (chan_state chan) ≡ chan
chan-again chan = refl

pub state-again : (state : ChanState) → chan_state (chan_of state) ≡ state
state-again state = refl

-- what a snapshot keeps of channel ends says what may be so of each
pub states-of-each : (chans : List ChanRec) (n : ℕ) → length chans ≤ n → ((k : ℕ) → k < n → IsChan (get_or chans k unused_chan)) → AllByRecursion IsChanState (map chan_state chans)
states-of-each [] n long all = tt
states-of-each (chan ∷ chans) zero long all = absurd (omega (arith, long))
states-of-each (chan ∷ chans) (suc n) long all = (all 0 (omega arith), states-of-each chans n (omega (arith, long)) (λ k h. all (suc k) (omega (arith, h))))
