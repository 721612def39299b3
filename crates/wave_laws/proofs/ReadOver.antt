-- A text is read over its lines, and the reading ends in a wave or at the first line that is refused.
use Rattle.std.proofs.Common.{◌≡◌, ℕ, ◌+◌, Bool, true, false, ◌==◌, List, [], ◌∷◌, ◌++◌, Option, Some, None, refl, sym, ap, ◌∙◌, arith}
use Rattle.std.specs.Prelude.{if◌then◌else◌}
use Rattle.std.proofs.lemmas.Bool.Decides.{nat_tests}
use Rattle.pin_scripts.specs.Pins.{◌>>=◌}
use Rattle.wave_model.specs.Waves.{WaveRec}
use Rattle.wave_model.specs.Reads.{Reading, Begin, Nodes, Ports, Declared, Changes, after_line, Wave, BadLine, at_end, unless_bad, wave_from}
use Rattle.wave_laws.proofs.Options.{some_after, same_some}

-- what has been read with some lines more
unfoldable pub read_over : Reading → List (List ℕ) → Option Reading
read_over reading [] = Some reading
read_over reading (line ∷ lines) = after_line reading line >>= λ after. read_over after lines

pub over_none : (reading : Reading) → read_over reading [] ≡ Some reading
unfolding read_over
over_none reading = refl

-- a line that is read, and those after it
pub over_next : (reading after : Reading) (line : List ℕ) (lines : List (List ℕ)) → after_line reading line ≡ Some after
    → read_over reading (line ∷ lines) ≡ read_over after lines
unfolding read_over
over_next reading after line lines e = ap (λ o. o >>= λ next. read_over next lines) e

-- where lines are read, their first is
pub over_first : (reading after : Reading) (line : List ℕ) (lines : List (List ℕ)) → read_over reading (line ∷ lines) ≡ Some after
    → (next : Reading) × (after_line reading line ≡ Some next) × (read_over next lines ≡ Some after)
unfolding read_over
over_first reading after line lines e = some_after (after_line reading line) (λ next. read_over next lines) after e

pub over_end : (reading after : Reading) → read_over reading [] ≡ Some after → reading ≡ after
over_end reading after e = same_some reading after (sym (over_none reading) ∙ e)

pub over_append : (reading after : Reading) (xs ys : List (List ℕ)) → read_over reading xs ≡ Some after → read_over reading (xs ++ ys) ≡ read_over after ys
over_append reading after [] ys e = ap (λ r. read_over r ys) (over_end reading after e)
over_append reading after (line ∷ xs) ys e =
    let p = over_first reading after line xs e in
    over_next reading p.0 line (xs ++ ys) p.1 ∙ over_append p.0 after xs ys p.2

-- ---- A wave

wave_no_line : {P : Type 0} (wave : WaveRec) (n : ℕ) → BadLine n ≡ Wave wave → P
wave_no_line wave n h = absurd (cc)

pub wave_where : (n : ℕ) (reading : Reading) (lines : List (List ℕ)) (wave : WaveRec) → read_over reading lines ≡ Some (Changes wave 0)
    → wave_from n reading lines ≡ Wave wave
unfolding wave_from
wave_where n reading [] wave e = ap (at_end n) (over_end reading (Changes wave 0) e)
wave_where n reading (line ∷ lines) wave e =
    let p = over_first reading (Changes wave 0) line lines e in
    ap (λ o. unless_bad n o (λ after. wave_from (n + 1) after lines)) p.1 ∙ wave_where (n + 1) p.0 lines wave p.2

ended_where : (n : ℕ) (reading : Reading) (wave : WaveRec) → at_end n reading ≡ Wave wave → reading ≡ Changes wave 0
ended_where n Begin wave h = wave_no_line wave n h
ended_where n (Nodes numbers) wave h = wave_no_line wave n h
ended_where n (Ports numbers port) wave h = wave_no_line wave n h
ended_where n (Declared numbers) wave h = wave_no_line wave n h
ended_where n (Changes own next) wave h = by (next == 0) refl h
  where
    by : (t : Bool) → (next == 0) ≡ t → (if t then Wave own else BadLine n) ≡ Wave wave → Changes own next ≡ Changes wave 0
    by true e f = let zero : next ≡ 0 = grind (arith, nat_tests) in cc (zero, f)
    by false e f = wave_no_line wave n f

pub where_wave : (n : ℕ) (reading : Reading) (lines : List (List ℕ)) (wave : WaveRec) → wave_from n reading lines ≡ Wave wave
    → read_over reading lines ≡ Some (Changes wave 0)
unfolding wave_from
where_wave n reading [] wave h = over_none reading ∙ ap Some (ended_where n reading wave h)
where_wave n reading (line ∷ lines) wave h = by (after_line reading line) refl h (λ after. where_wave (n + 1) after lines wave)
  where
    by : (o : Option Reading) → after_line reading line ≡ o → unless_bad n o (λ after. wave_from (n + 1) after lines) ≡ Wave wave
        → ((after : Reading) → wave_from (n + 1) after lines ≡ Wave wave → read_over after lines ≡ Some (Changes wave 0))
        → read_over reading (line ∷ lines) ≡ Some (Changes wave 0)
    by None e f later = wave_no_line wave n f
    by (Some after) e f later = over_next reading after line lines e ∙ later after f
