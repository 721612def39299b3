use Rattle.std.proofs.Common.{◌≡◌, ◌++◌, drop}
use Rattle.wave_model.specs.Waves.{script_text}
use Rattle.vcd_writer.proofs.read_wave.ReadWave.script_text.Given as goal

-- the lines so far, and those of the changes to come
abbrev pub invariant-loop-change : goal.invariant-loop-change
invariant-loop-change l = script_text l.self l.node ≡ l.text ++ script_text (record l.self { changes = drop l.change-index l.change-items }) l.node
