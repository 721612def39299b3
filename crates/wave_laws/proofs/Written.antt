-- The text of a wave, and each with its lines, is read as this wave.
use Rattle.std.proofs.Common.{◌≡◌, ℕ, List, ap, ◌∙◌}
use Rattle.xs_text.specs.Lines.{lines_of}
use Rattle.wave_model.specs.Waves.{WaveRec, wave_lines, text_of_wave}
use Rattle.wave_model.specs.Reads.{Begin, Wave, wave_from, wave_of}
use Rattle.wave_model.specs.Form.{IsWave}
use Rattle.wave_laws.proofs.TextBack.{lines_back}
use Rattle.wave_laws.proofs.ReadOver.{wave_where}
use Rattle.wave_laws.proofs.AllowedLines.{wave_allowed}
use Rattle.wave_laws.proofs.WaveRead.{wave_read}

pub lines_read : (text : List ℕ) (wave : WaveRec) → IsWave wave → lines_of text ≡ wave_lines wave → wave_of text ≡ Wave wave
lines_read text wave h lines = ap (wave_from 1 Begin) lines ∙ wave_where 1 Begin (wave_lines wave) wave (wave_read wave h)

pub written_read : (wave : WaveRec) → IsWave wave → wave_of (text_of_wave wave) ≡ Wave wave
written_read wave h = lines_read (text_of_wave wave) wave h (lines_back (wave_lines wave) (wave_allowed wave h))
