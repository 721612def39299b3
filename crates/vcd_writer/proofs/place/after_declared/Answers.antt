use Rattle.std.proofs.Common.{◌≡◌, ℕ, Bool, true, false, Some, List, [], ◌∷◌, sym, ap, ◌∙◌, refl, arith}
use Rattle.std.specs.Prelude.{bytes_eq}
use Rattle.std.proofs.lemmas.Fmt.{decimal_digit}
use Rattle.wave_model.specs.Lines.{slot_line}
use Rattle.wave_model.specs.Waves.{WaveRec}
use Rattle.wave_model.specs.Reads.{Changes, after_line, when}
use Rattle.vcd_writer.specs.ReadWaves.{empty_wave}
use Rattle.vcd_writer.proofs.place.after_declared.Goals as goal

same-line : (line : List ℕ) → bytes_eq (slot_line 0) line ≡ bytes_eq (35 ∷ 48 ∷ []) line
same-line line = ap (λ (digits : List ℕ). bytes_eq (35 ∷ digits) line) (decimal_digit 0 (omega arith))

pub returns-then-is_same : goal.returns-then-is_same
unfolding after_line
returns-then-is_same c =
    let is = same-line c.args.line.now ∙ (sym c.is_same.ensures ∙ c.if-is_same.true) in (
      ap (λ (b : Bool). when b (Changes (empty_wave c.args.wave.now.nodes) 0)) is ∙ ap (λ (w : WaveRec). Some (Changes w 0)) (sym c.requires),
      omega arith,
    )

pub returns-else-is_same : goal.returns-else-is_same
unfolding after_line
returns-else-is_same c =
    let is = same-line c.args.line.now ∙ (sym c.is_same.ensures ∙ c.if-is_same.false) in
    (ap (λ (b : Bool). when b (Changes (empty_wave c.args.wave.now.nodes) 0)) is, refl)
