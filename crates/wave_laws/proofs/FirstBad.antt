-- A text is refused at the first line with which no wave text goes on.
use Rattle.std.proofs.Common.{◌≡◌, ◌≢◌, ℕ, suc, ◌-◌, List, [], ◌++◌, length, take, refl, sym, ap, subst, ◌∙◌, length-take, take_at, arith}
use Rattle.xs_text.specs.Lines.{lines_of}
use Rattle.wave_model.specs.Waves.{WaveRec, wave_lines}
use Rattle.wave_model.specs.Reads.{Begin, Changes, BadLine, wave_of}
use Rattle.wave_model.specs.Form.{IsWave}
use Rattle.wave_laws.specs.Laws.{IsFirstBadLine}
use Rattle.wave_laws.proofs.ReadOver.{over_append, wave_where}
use Rattle.wave_laws.proofs.Refused.{IsRefused, line_no_wave, refused_where}
use Rattle.wave_laws.proofs.WaveRead.{wave_read}
use Rattle.wave_laws.proofs.Fronts.{front_wave}
use Rattle.wave_laws.proofs.FrontLines.{IsFrontText, whole_text}
use Rattle.wave_laws.proofs.ReadAs.{read_all}
use Rattle.wave_laws.proofs.Completed.{goes_on}

-- a wave begins with the lines before
begins : (lines : List (List ℕ)) (n : ℕ) → IsRefused 1 Begin lines n → (wave : WaveRec) × IsWave wave × (take (n - 1) (wave_lines wave) ≡ take (n - 1) lines)
begins lines n h =
    let front = take (n - 1) lines in
    let whole = goes_on h.before front (read_all Begin [] front h.before refl h.read) in
    let text : IsFrontText whole.wave 0 (front ++ whole.more) =
    read_all Begin [] (front ++ whole.more) (Changes whole.wave 0) refl (over_append Begin h.before front whole.more h.read ∙ whole.read)
    in
    let long : length front ≡ n - 1 = omega (arith, length-take (n - 1) lines, h.enough) in (
      whole.wave,
      front_wave whole.wave text.front,
      ap (take (n - 1)) (sym (whole_text whole.wave (front ++ whole.more) text)) ∙ take_at front whole.more (n - 1) long,
    )

-- no wave begins with the line too
ends : (lines : List (List ℕ)) (n : ℕ) → IsRefused 1 Begin lines n → (wave : WaveRec) → IsWave wave → take n (wave_lines wave) ≢ take n lines
ends lines n h wave w e =
    let one_more : n ≡ suc (n - 1) = omega (arith, h.least) in
    let same : take (suc (n - 1)) (wave_lines wave) ≡ take (suc (n - 1)) lines = subst (λ k. take k (wave_lines wave) ≡ take k lines) one_more e in
    line_no_wave wave n (sym (wave_where 1 Begin (wave_lines wave) wave (wave_read wave w)) ∙ h.alike (wave_lines wave) same)

pub refused_first : (text : List ℕ) (n : ℕ) → wave_of text ≡ BadLine n → IsFirstBadLine text n
refused_first text n h =
    let refused = refused_where 1 n Begin (lines_of text) h in
    record { some = begins (lines_of text) n refused; none = ends (lines_of text) n refused }
