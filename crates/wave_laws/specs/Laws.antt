-- Which texts are wave texts.
use Rattle.std.specs.Prelude.{ℕ, ◌≡◌, ◌≢◌, ◌-◌, List, take}
use Rattle.xs_text.specs.Lines.{lines_of}
use Rattle.wave_model.specs.Waves.{WaveRec, wave_lines, text_of_wave}
use Rattle.wave_model.specs.Reads.{Wave, BadLine, wave_of}
use Rattle.wave_model.specs.Form.{IsWave}

-- what is written is read
abbrev pub WrittenWavesAreRead : Type 0
WrittenWavesAreRead = (wave : WaveRec) → IsWave wave → wave_of (text_of_wave wave) ≡ Wave wave

-- and so is every text that has the lines of a wave, however they end
abbrev pub LinesOfWavesAreRead : Type 0
LinesOfWavesAreRead = (text : List ℕ) (wave : WaveRec) → IsWave wave → lines_of text ≡ wave_lines wave → wave_of text ≡ Wave wave

-- what is read is a wave, and has its lines
abbrev pub ReadWavesAreWaves : Type 0
ReadWavesAreWaves = (text : List ℕ) (wave : WaveRec) → wave_of text ≡ Wave wave → IsWave wave

abbrev pub ReadTextsAreWritten : Type 0
ReadTextsAreWritten = (text : List ℕ) (wave : WaveRec) → wave_of text ≡ Wave wave → lines_of text ≡ wave_lines wave

-- a wave text begins with the lines before the one that is refused, and none with that one too; where that is the one after the last, none
-- ends with the last
pub record IsFirstBadLine (text : List ℕ) (n : ℕ) : Type 0 where
  pub some : (wave : WaveRec) × IsWave wave × (take (n - 1) (wave_lines wave) ≡ take (n - 1) (lines_of text))
  pub none : (wave : WaveRec) → IsWave wave → take n (wave_lines wave) ≢ take n (lines_of text)

abbrev pub RefusedLinesAreFirst : Type 0
RefusedLinesAreFirst = (text : List ℕ) (n : ℕ) → wave_of text ≡ BadLine n → IsFirstBadLine text n
