-- What may be wrong in a line of a source.
use Rattle.std.specs.Prelude.{ℕ, ◌+◌, ◌/◌, ◌%◌, Bool, true, false, ◌&&◌, not, ◌==◌, nat_lt, if◌then◌else◌, Option, Some, None, List, [], ◌∷◌, ◌++◌, codes}
use Rattle.std.specs.List.{list_any}
use Rattle.xs_text.specs.Tokens.{Token}
use Rattle.xs_instructions.specs.Image.{Symbol, same_name}
use Rattle.source_model.specs.declared.layout.Section.{Section}
use Rattle.source_model.specs.declared.layout.Section.TheVariants.{Text}
use Rattle.source_model.specs.Statement.{is_number_kind}
use Rattle.sys_plan.specs.declared.NodePlan.{NodePlan}
use Rattle.explain_model.specs.Placed.{Placed, placed_tokens, placed_labels}
use Rattle.explain_model.specs.Forms.{number_of}
use Rattle.explain_model.specs.Sections.{section_after_line}
use Rattle.warning_model.specs.Warning.{Site, Doubt, CodeEnds, NothingBehind, LabelUnnamed, RegisterUnnamed, NoSuchId, Warning, warn}
use Rattle.warning_model.specs.Named.{name_of_line, operands_of, named_in, is_named, last_instruction, has_setd, leaves, gets}

-- What is known of a source: the nodes of the system, the number of its own node, the number that the line before its first has in the whole
-- text, the names that it names, the number of its last line with an instruction, 0 where there is none, and whether it has a `setd`.
pub record Known : Type 0 where
  pub nodes : List NodePlan
  pub node : ℕ
  pub opening : ℕ
  pub names : List Symbol
  pub last : ℕ
  pub sends : Bool

-- ---- Labels

-- of a label, which is one of the code behind the last instruction or not
abbrev pub doubt_of_label : List Symbol → Bool → List ℕ → Option Doubt
doubt_of_label names behind label =
    if is_named names label then (if behind then Some (NothingBehind label) else None)
    else (if same_name (codes "main") label then None else Some (LabelUnnamed label))

unfoldable pub warnings_of_labels : Site → List Symbol → Bool → List Placed → List Warning
warnings_of_labels site names behind [] = []
warnings_of_labels site names behind (p ∷ labels) =
    warn site (doubt_of_label names behind p.token.bytes) ++ warnings_of_labels site names behind labels

abbrev pub is_text : Section → Bool
is_text Text = true
is_text _ = false

-- whether line n, which stands in a section, is one of the code behind the last instruction
abbrev pub is_behind : Known → ℕ → Section → Bool
is_behind known n section = nat_lt known.last n && is_text section

-- ---- Statements

-- of a statement by its name, and whether it is the last instruction
abbrev pub doubt_of_end : Bool → List ℕ → Option Doubt
doubt_of_end is_last name = if is_last && not (leaves name) then Some CodeEnds else None

-- of what comes after the name, if something is got into a register
abbrev pub doubt_of_register : List Symbol → List ℕ → List Placed → Option Doubt
doubt_of_register names name [] = None
doubt_of_register names name (p ∷ tokens) =
    if gets name && not (is_named names p.token.bytes) then Some (RegisterUnnamed p.token.bytes) else None

-- whether a word is the identifier of a channel end
abbrev pub is_channel_end : ℕ → Bool
is_channel_end value = (value % 256 == 2) && nat_lt (value / 256 % 256) 32

abbrev pub has_id : List NodePlan → ℕ → Bool
has_id nodes id = list_any (λ (node : NodePlan). node.id == id) nodes

abbrev pub doubt_of_number : List NodePlan → Option ℕ → Option Doubt
doubt_of_number nodes None = None
doubt_of_number nodes (Some value) = if is_channel_end value && not (has_id nodes (value / 65536)) then Some (NoSuchId value) else None

-- of a token of a `.word`, after another one
abbrev pub doubt_of_value : List NodePlan → List ℕ → Token → Option Doubt
doubt_of_value nodes before t =
    if is_number_kind t.kind && not (same_name (codes "-") before) then doubt_of_number nodes (number_of t) else None

unfoldable pub warnings_of_values : Site → List NodePlan → List ℕ → List Placed → List Warning
warnings_of_values site nodes before [] = []
warnings_of_values site nodes before (p ∷ tokens) =
    warn site (doubt_of_value nodes before p.token) ++ warnings_of_values site nodes p.token.bytes tokens

-- of the values of a `.word` in a source that has a `setd`
abbrev pub warnings_of_word : Site → Known → List ℕ → List Placed → List Warning
warnings_of_word site known name operands =
    if known.sends && same_name (codes ".word") name then warnings_of_values site known.nodes [] operands else []

-- of the statement of line n
abbrev pub warnings_of_statement : Site → Known → ℕ → List ℕ → List Placed → List Warning
warnings_of_statement site known n name operands =
    warn site (doubt_of_end (n == known.last) name)
    ++ (warn site (doubt_of_register known.names name operands) ++ warnings_of_word site known name operands)

-- ---- Lines

abbrev pub site_in : Known → ℕ → List ℕ → Site
site_in known n l = record { source = Some (record { node = known.node; line = n }); number = known.opening + n; bytes = l }

-- of line n, which stands in a section
abbrev pub warnings_of_line : Known → ℕ → Section → List ℕ → List Warning
warnings_of_line known n section l =
    warnings_of_labels (site_in known n l) known.names (is_behind known n section) (placed_labels (placed_tokens l))
    ++ warnings_of_statement (site_in known n l) known n (name_of_line l) (operands_of l)

-- of some lines, of which the first has number n and stands in a section
unfoldable pub warnings_of_lines : Known → ℕ → Section → List (List ℕ) → List Warning
warnings_of_lines known n section [] = []
warnings_of_lines known n section (l ∷ ls) = warnings_of_line known n section l ++ warnings_of_lines known (n + 1) (section_after_line section l) ls

-- of the source of the node with a number, whose lines come behind the line with the number `opening`
abbrev pub warnings_of_source : List NodePlan → ℕ → ℕ → List (List ℕ) → List Warning
warnings_of_source nodes node opening ls =
    warnings_of_lines
    (record { nodes = nodes; node = node; opening = opening; names = named_in ls; last = last_instruction ls; sends = has_setd ls })
    1 Text ls
