-- Forms over words: what stands at each place of a line of a frame or of a script, one after another. A line has a form up to the first word that
-- does not fit.
use Rattle.std.specs.Prelude.{ℕ, ◌+◌, Bool, true, false, if◌then◌else◌, Option, Some, None, option_and_then, List, [], ◌∷◌, take, drop}
use Rattle.xs_text.specs.Numbers.{number_of}
use Rattle.xs_instructions.specs.Image.{same_name}
use Rattle.pin_scripts.specs.Pins.{before_colon, word_number, port_of}
use Rattle.system_model.specs.declared.frame_line.EndName.{EndName}
use Rattle.system_model.specs.declared.frame_line.PinName.{PinName}
use Rattle.system_model.specs.FrameLines.{end_name, pin_name, is_node_number, is_end_in_range}
use Rattle.explain_frame_model.specs.declared.ScriptPin.{ScriptPin}
use Rattle.explain_model.specs.declared.Want.{Want}
use Rattle.explain_model.specs.declared.Want.TheVariants as want
use Rattle.explain_model.specs.Wants.{word_text}
use Rattle.explain_model.specs.Words.{PlacedWord, end_of_word}
use Rattle.explain_model.specs.Forms.{is_between, first_want, Stop, Spot, spot_of_stop, with_stop}

-- ---- Whether a word may stand at a place

-- a link end whose two numbers are in their ranges
abbrev pub is_link_end : Option EndName → Bool
is_link_end None = false
is_link_end (Some name) = is_end_in_range name

-- an end of a node in the range of nodes, whichever
abbrev pub is_step_end : Option EndName → Bool
is_step_end None = false
is_step_end (Some name) = is_node_number name.node

-- a pin of a node in the range of nodes
abbrev pub is_wire_pin : Option PinName → Bool
is_wire_pin None = false
is_wire_pin (Some name) = is_node_number name.node

abbrev pub pin_of_node : ℕ → Option ℕ → Option ScriptPin
pin_of_node node None = None
pin_of_node node (Some port) = Some (record { node = node; port = port })

-- the pin that `N:P` names in a script, where N may be any number of 32 bits, and P is one of the 29
abbrev pub script_pin : List ℕ → Option ScriptPin
script_pin word =
    option_and_then (λ node. pin_of_node node (port_of (drop (before_colon word + 1) word))) (word_number (take (before_colon word) word))

abbrev pub is_script_pin : Option ScriptPin → Bool
is_script_pin None = false
is_script_pin (Some pin) = true

-- Whether a word may stand where this is wanted. Numbers are those of system texts, and have to be in their range.
abbrev pub fits_word : Want → List ℕ → Bool
fits_word (want.Number least most) bytes = is_between least most (number_of bytes)
fits_word (want.Word word) bytes = same_name (word_text word) bytes
fits_word want.LinkEnd bytes = is_link_end (end_name bytes)
fits_word want.StepEnd bytes = is_step_end (end_name bytes)
fits_word want.WirePin bytes = is_wire_pin (pin_name bytes)
fits_word want.ScriptPin bytes = is_script_pin (script_pin bytes)
fits_word _ bytes = false

-- ---- How far a line has a form

-- where the words of a line stop to have a form, where the word before the first of these ends at a place
unfoldable pub stop_of_words : ℕ → List Want → List PlacedWord → Stop
stop_of_words behind form [] = record { at = behind; all_fit = true; want = first_want form }
stop_of_words behind [] (w ∷ words) = record { at = w.at; all_fit = false; want = Some want.LineEnd }
stop_of_words behind (v ∷ form) (w ∷ words) =
    if fits_word v w.bytes then stop_of_words (end_of_word w) form words else record { at = w.at; all_fit = false; want = Some v }

-- ---- Of several forms the farthest

-- with these forms of all words of a line
unfoldable pub with_forms : List (List Want) → List PlacedWord → Spot → Spot
with_forms [] words spot = spot
with_forms (form ∷ forms) words spot = with_forms forms words (with_stop spot (stop_of_words 0 form words))

-- the place where those of some forms stop that all words of a line have farthest, and all that may stand there
abbrev pub spot_of_forms : List (List Want) → List PlacedWord → Spot
spot_of_forms [] words = record { at = 0; all_fit = true; wants = [] }
spot_of_forms (form ∷ forms) words = with_forms forms words (spot_of_stop (stop_of_words 0 form words))
