-- What every wave keeps.
use Rattle.std.specs.Prelude.{◌≡◌, ◌≢◌, ◌<◌, ◌≤◌, ◌^◌, ◌⊎◌, ◌==◌, List, [], ◌∷◌, length, map, filter}
use Rattle.std.specs.List.{AllByRecursion}
use Rattle.xs_base.specs.Ids.{port_width}
use Rattle.sys_plan.specs.Plan.{AreAscending, numbers_from}
use Rattle.wave_model.specs.declared.change.WaveChange.{WaveChange}
use Rattle.wave_model.specs.Lines.{PinNumber, pin_number}
use Rattle.wave_model.specs.Waves.{WaveRec}
use Rattle.wave_model.specs.Reads.{count_of_pins, most_nodes, most_wave_slots}

abbrev pub pin_of_change : WaveChange → PinNumber
pin_of_change change = pin_number change.node change.port

-- a change is one of a pin that is there, before the end of the wave, and its value has no more bits than the pin
pub record IsChange (wave : WaveRec) (change : WaveChange) : Type 0 where
  pub node : change.node < length wave.nodes
  pub port : change.port < 29
  pub slot : change.slot < wave.last
  pub value : change.value < 2 ^ port_width change.port

-- a change comes after another: in a later slot, or in the same one at a pin with a greater number
abbrev pub ComesAfter : WaveChange → WaveChange → Type 0
ComesAfter before change = (before.slot < change.slot) ⊎ ((before.slot ≡ change.slot) × (pin_of_change before < pin_of_change change))

abbrev pub AreInOrder : List WaveChange → Type 0
AreInOrder [] = Unit {0}
AreInOrder (change ∷ []) = Unit {0}
AreInOrder (before ∷ change ∷ changes) = ComesAfter before change × AreInOrder (change ∷ changes)

-- the pins that change in slot 0
abbrev pub first_pins : WaveRec → List PinNumber
first_pins wave = map pin_of_change (filter (λ (change : WaveChange). change.slot == 0) wave.changes)

-- at most 16 nodes by ascending number, and changes in order, in slot 0 of all pins
pub record IsWave (wave : WaveRec) : Type 0 where
  pub few_nodes : length wave.nodes ≤ most_nodes
  pub numbers : AllByRecursion (λ number. number < 100) wave.nodes
  pub ascending : AreAscending wave.nodes
  pub last : wave.last ≤ most_wave_slots
  pub changes : AllByRecursion (IsChange wave) wave.changes
  pub in_order : AreInOrder wave.changes
  pub first : wave.last ≢ 0 → first_pins wave ≡ numbers_from 0 (count_of_pins wave)
