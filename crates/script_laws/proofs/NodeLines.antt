-- The lines of a node in the script of a wave name this node, and their numbers are within what a script may have.
use Rattle.std.proofs.Common.{ℕ, ◌<◌, ◌==◌, List, [], ◌∷◌, map, arith}
use Rattle.std.specs.Prelude.{filter}
use Rattle.std.specs.List.{AllByRecursion}
use Rattle.std.proofs.lemmas.Bool.{cond_both, eqb-true}
use Rattle.std.proofs.lemmas.List.Elements.{All-from_recursion}
use Rattle.pin_scripts.specs.declared.line.PinLine.{PinLine}
use Rattle.wave_model.specs.declared.change.WaveChange.{WaveChange}
use Rattle.wave_model.specs.Waves.{WaveRec, pin_line, script_of, node_script}
use Rattle.wave_model.specs.Form.{IsWave, IsChange}
use Rattle.script_laws.proofs.WordsBack.{IsScriptLine, IsLineOf}

module _ (wave : WaveRec) (is : IsWave wave) where
  script_line_of : (change : WaveChange) → IsChange wave change → IsScriptLine (pin_line wave.nodes change)
  script_line_of change h = record {
    number = All-from_recursion (λ number. number < 100) wave.nodes is.numbers change.node 0 h.node;
    slot = omega (arith, h.slot, is.last);
    port = h.port;
    value = h.value;
  }

  script_lines : (changes : List WaveChange) → AllByRecursion (IsChange wave) changes → AllByRecursion IsScriptLine (map (pin_line wave.nodes) changes)
  script_lines [] h = tt
  script_lines (change ∷ changes) h = (script_line_of change h.0, script_lines changes h.1)

-- lines that are kept by the number of a node are its lines
kept_of : (node : ℕ) (lines : List PinLine) → AllByRecursion IsScriptLine lines
    → AllByRecursion (IsLineOf node) (filter (λ (line : PinLine). line.node == node) lines)
kept_of node [] h = tt
kept_of node (line ∷ lines) h =
    cond_both (line.node == node) (line ∷ filter (λ (l : PinLine). l.node == node) lines) (filter (λ (l : PinLine). l.node == node) lines)
    (AllByRecursion (IsLineOf node))
    (λ own. (record { own = eqb-true line.node node own; fits = h.0 }, kept_of node lines h.1)) (λ other. kept_of node lines h.1)

pub node_lines_fit : (wave : WaveRec) (node : ℕ) → IsWave wave → AllByRecursion (IsLineOf node) (node_script wave node)
node_lines_fit wave node is = kept_of node (script_of wave) (script_lines wave is wave.changes is.changes)
