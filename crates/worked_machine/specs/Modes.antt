-- Pairs of a kind and a mode that are none, worked out by hand: each is refused, with the name as the trap's data.
use Rattle.std.specs.Prelude.{ℕ, ◌≡◌, true, Some, None, List, [], ◌∷◌, replicate}
use Rattle.xs_model.specs.Record.{NodeRec, unused_chan}
use Rattle.net_model.specs.Chans.{got_chan}
use Rattle.step_model.specs.Step.{Stepped}
use Rattle.worked_machine.specs.Threads.{in_10, trapped, RefusesIn}
use Rattle.worked_machine.specs.Timers.{holding, setc_0, setc_of_word}

-- one of each kind: channel end 0, timer 1, clock block 1, which runs, synchroniser 1, which is thread 0's, and so on
abbrev pub all_kinds : ℕ → ℕ → NodeRec
all_kinds name mode = record (holding name mode) {
  core = record (holding name mode).core {
    chans = got_chan ∷ replicate 31 unused_chan;
    syncs = replicate 7 (record { master = Some 0; slaves = [] });
    locks = replicate 4 (record { used = true; owner = None });
  };
}

-- what `setc` does with these modes, each as a number, and as a word in r1
abbrev pub in_modes : ℕ → List ℕ → List Stepped
in_modes name [] = []
in_modes name (mode ∷ modes) = in_10 (setc_0 mode) (all_kinds name 7) ∷ in_10 setc_of_word (all_kinds name mode) ∷ in_modes name modes

-- the name is refused with each of them
abbrev pub refused_in : ℕ → List ℕ → List Stepped
refused_in name [] = []
refused_in name (mode ∷ modes) = trapped (all_kinds name 7) 4 name ∷ trapped (all_kinds name mode) 4 name ∷ refused_in name modes

abbrev pub RefusesModes : ℕ → List ℕ → Type 0
RefusesModes name modes = in_modes name modes ≡ refused_in name modes

-- off, on, no condition, a condition, events, interrupts, stop, start, and one of ports
abbrev pub all_modes : List ℕ
all_modes = 0 ∷ 8 ∷ 1 ∷ 9 ∷ 2 ∷ 0xa ∷ 7 ∷ 0xf ∷ 0x11 ∷ []

pub record WorkedModes : Type 0 where
  pub chan : RefusesModes 0x002 (0 ∷ 8 ∷ 1 ∷ 9 ∷ 7 ∷ 0xf ∷ 0x11 ∷ 0x200f ∷ [])
  pub timer : RefusesModes 0x101 (0 ∷ 8 ∷ 7 ∷ 0xf ∷ 0x11 ∷ 0x19 ∷ 0x17 ∷ [])
  pub clock : RefusesModes 0x106 (1 ∷ 9 ∷ 2 ∷ 0xa ∷ 0x11 ∷ 0x17 ∷ [])
  pub sync : RefusesModes 0x103 all_modes
  pub thread : RefusesModes 0x104 all_modes
  pub lock : RefusesModes 0x105 all_modes
  pub nothing : RefusesModes 0 all_modes
  -- a mode is the whole word
  pub whole_on : RefusesIn (all_kinds 0x106 0x10008) setc_of_word 0x106
  pub whole_off : RefusesIn (all_kinds 0x106 0x10000) setc_of_word 0x106
  pub whole_after : RefusesIn (all_kinds 0x101 0x10009) setc_of_word 0x101
  pub whole_event : RefusesIn (all_kinds 0x002 0x80000002) setc_of_word 0x002
