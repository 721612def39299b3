-- Channel ends that have the form are those that a state may have.
use Rattle.std.proofs.Common.{◌≡◌, ℕ, ◌<◌, true, false, Option, Some, None, List, refl, arith}
use Rattle.std.proofs.lemmas.Bool.{ltb-true, lt-ltb}
use Rattle.std.specs.Prelude.{is_some, IfSome}
use Rattle.std.specs.List.{AllByRecursion}
use Rattle.net_model.specs.Chans.{is_chan_id}
use Rattle.chan_ends.specs.declared.state.ChanState.{ChanState}
use Rattle.chan_ends.specs.States.{IsChanState}
use Rattle.byte_forms.specs.Forms.{word, option, repeat}
use Rattle.state_forms.specs.Chans.{chan, ChanFits}
use Rattle.state_forms.proofs.Holding.{flag_holds, repeat_holds, each_as}
use Rattle.state_forms.proofs.BufferFacts.{buffer_holds, buffer_of}

dest_holds : (dest : Option ℕ) → (option word is_chan_id).Holds dest → IfSome dest (λ id. is_chan_id id ≡ true)
dest_holds None h = tt
dest_holds (Some id) h = h.1.1

dest_of : (dest : Option ℕ) → IfSome dest (λ id. is_chan_id id ≡ true) → IfSome dest (λ id. id < 4294967296) → (option word is_chan_id).Holds dest
dest_of None is fits = (flag_holds false, (omega arith, refl))
dest_of (Some id) is fits = (flag_holds true, (fits, is))

no_dest : (dest : Option ℕ) → dest ≡ None → is_some dest ≡ false
no_dest None e = refl
no_dest (Some id) e = absurd cc

is_none : (dest : Option ℕ) → is_some dest ≡ false → dest ≡ None
is_none None e = refl
is_none (Some id) e = absurd cc

pub chan_holds : (state : ChanState) → chan.Holds state → IsChanState state
unfolding chan
chan_holds state h = record {
  net = ltb-true state.net 4 h.1.0.1;
  dest = dest_holds state.dest h.1.1.0;
  output = λ none. (buffer_holds (is_some state.dest) state.output h.1.1.1.0).1 (no_dest state.dest none);
}

pub chan_of : (state : ChanState) → ChanFits state → IsChanState state → chan.Holds state
unfolding chan
chan_of state fits is =
    let net = is.net in (
      flag_holds state.used,
      (
        (omega arith, lt-ltb state.net 4 net),
        (
          dest_of state.dest is.dest fits.dest,
          (buffer_of (is_some state.dest) state.output fits.output (λ none. is.output (is_none state.dest none)), buffer_of true state.input fits.input (λ never. absurd cc)),
        ),
      ),
    )

-- ---- All of them

pub chans_hold : (n : ℕ) (states : List ChanState) → (repeat n chan).Holds states → AllByRecursion IsChanState states
chans_hold n states h = each_as chan_holds states (repeat_holds chan n states h)
