-- What reading a wave text line by line returns.
use Rattle.std.specs.Prelude.{ℕ, ◌≡◌, ◌<◌, ◌≤◌, Bool, true, false, Option, Some, None, Result, Ok, Err, List, [], length}
use Rattle.wave_model.specs.declared.wave_kind.WaveKind.TheVariants as kinds
use Rattle.wave_model.specs.Waves.{WaveRec}
use Rattle.wave_model.specs.Reads.{Reading, WaveRead, Wave, BadLine, after_line}
use Rattle.wave_model.specs.Reads as reads
use Rattle.vcd_writer.specs.declared.place.Place.{Place}
use Rattle.vcd_writer.specs.declared.place.Place.TheVariants.{Begin, Nodes, Ports, Declared, Changes}
use Rattle.vcd_writer.specs.declared.wave_error.WaveError.{WaveError}
use Rattle.vcd_writer.specs.declared.wave_error.WaveError.TheVariants as errors
use Rattle.vcd_writer.specs.ReadWaves.{empty_wave}

-- what has been read, by the place that was come to and the wave so far
abbrev pub reading_of : WaveRec → Place → Reading
reading_of wave Begin = reads.Begin
reading_of wave Nodes = reads.Nodes wave.nodes
reading_of wave (Ports port) = reads.Ports wave.nodes port
reading_of wave Declared = reads.Declared wave.nodes
reading_of wave (Changes next) = reads.Changes wave next

-- the wave so far has no change
abbrev pub IsEmpty : WaveRec → Type 0
IsEmpty wave = wave ≡ empty_wave wave.nodes

-- what a place says of the wave so far
abbrev pub IsWaveAt : WaveRec → Place → Type 0
IsWaveAt wave Begin = wave ≡ empty_wave []
IsWaveAt wave Nodes = IsEmpty wave
IsWaveAt wave (Ports port) = IsEmpty wave × (0 < length wave.nodes) × (port ≤ 29)
IsWaveAt wave Declared = IsEmpty wave
IsWaveAt wave (Changes next) = next ≤ 464

-- with what comes after a line, a wave goes over to another one and a further place, or it is refused, and stays as it was
abbrev pub LeadsTo : WaveRec → Option Reading → WaveRec → Option Place → Type 0
LeadsTo before reading after None = (reading ≡ None) × (after ≡ before)
LeadsTo before reading after (Some next) = (reading ≡ Some (reading_of after next)) × IsWaveAt after next

-- the same with what comes after a line at a place
abbrev pub Leads : WaveRec → Place → List ℕ → WaveRec → Option Place → Type 0
Leads before place line after next = LeadsTo before (after_line (reading_of before place) line) after next

-- whether the text goes on with a line
abbrev pub Takes : Option Reading → Bool → Reading → Type 0
Takes after true new = after ≡ Some new
Takes after false new = after ≡ None

-- what reading a text returns
abbrev pub GivesWave : WaveRead → Result WaveRec WaveError → Type 0
GivesWave read (Ok wave) = read ≡ Wave wave
GivesWave read (Err (errors.Fault line kind)) = (read ≡ BadLine line) × (kind ≡ kinds.BadLine)
GivesWave read (Err errors.Memory) = Unit {0}
