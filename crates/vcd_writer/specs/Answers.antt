-- What reading a pin script from a wave text returns.
use Rattle.std.specs.Prelude.{ℕ, ◌≡◌, Result, Ok, Err, List}
use Rattle.wave_model.specs.Reads.{NodePins, Pins, Refused}
use Rattle.vcd_writer.specs.declared.wave_error.WaveError.{WaveError}
use Rattle.vcd_writer.specs.declared.wave_error.WaveError.TheVariants as errors

abbrev pub GivesPins : NodePins → Result (List ℕ) WaveError → Type 0
GivesPins pins (Ok text) = pins ≡ Pins text
GivesPins pins (Err (errors.Fault line kind)) = pins ≡ Refused line kind
GivesPins pins (Err errors.Memory) = Unit {0}
