-- What is read of a text is a wave, and the lines of the text are its lines.
use Rattle.std.proofs.Common.{◌≡◌, ℕ, List, [], refl}
use Rattle.xs_text.specs.Lines.{lines_of}
use Rattle.wave_model.specs.Waves.{WaveRec, wave_lines}
use Rattle.wave_model.specs.Reads.{Begin, Changes, Wave, wave_of}
use Rattle.wave_model.specs.Form.{IsWave}
use Rattle.wave_laws.proofs.ReadOver.{where_wave}
use Rattle.wave_laws.proofs.Fronts.{front_wave}
use Rattle.wave_laws.proofs.FrontLines.{IsFrontText, whole_text}
use Rattle.wave_laws.proofs.ReadAs.{read_all}

read_text : (text : List ℕ) (wave : WaveRec) → wave_of text ≡ Wave wave → IsFrontText wave 0 (lines_of text)
read_text text wave h = read_all Begin [] (lines_of text) (Changes wave 0) refl (where_wave 1 Begin (lines_of text) wave h)

pub read_is_wave : (text : List ℕ) (wave : WaveRec) → wave_of text ≡ Wave wave → IsWave wave
read_is_wave text wave h = front_wave wave (read_text text wave h).front

pub read_is_written : (text : List ℕ) (wave : WaveRec) → wave_of text ≡ Wave wave → lines_of text ≡ wave_lines wave
read_is_written text wave h = whole_text wave (lines_of text) (read_text text wave h)
