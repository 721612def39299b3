use Rattle.std.proofs.Common.{◌≡◌, ◌+◌, [], sym, ap, ◌∙◌, subst, arith}
use Rattle.std.proofs.lemmas.Grind.{common_steps}
use Rattle.xs_text.specs.Lines.{lines_of, bytes_left}
use Rattle.wave_model.specs.Reads.{WaveRead, at_end, wave_from, wave_of}
use Rattle.vcd_writer.specs.Takes.{GivesWave}
use Rattle.vcd_writer.proofs.reader.read_wave.Goals as goal

pub returns : goal.returns
unfolding wave_from lines_of
returns c =
    let reader = c.loop-line.reader in
    let left : bytes_left c.loop-line.lines ≡ [] = grind (arith, common_steps) in
    let whole : wave_of c.args.text.now ≡ at_end (c.loop-line.last + 1) reader =
    c.loop-line.invariant.whole
    ∙ (λ i. wave_from (c.loop-line.lines.number + 1) reader (lines_of (left i)))
    ∙ ap (λ n. at_end (n + 1) reader) (sym c.loop-line.invariant.last) in
    subst (λ (read : WaveRead). GivesWave read c.end.result) (sym whole) c.end.ensures
