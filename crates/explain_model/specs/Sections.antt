-- The section in which a line stands.
use Rattle.std.specs.Prelude.{ℕ, if◌then◌else◌, List, [], ◌∷◌}
use Rattle.xs_text.specs.Bytes.{all_allowed, begins_with}
use Rattle.source_model.specs.declared.layout.Home.{Home}
use Rattle.source_model.specs.declared.layout.Home.TheVariants.{Anywhere, InText}
use Rattle.source_model.specs.declared.layout.Section.{Section}
use Rattle.source_model.specs.declared.layout.Section.TheVariants.{Text}
use Rattle.source_model.specs.Statement.{is_name_kind, directive}
use Rattle.source_model.specs.Layout.{may_stand, section_after}
use Rattle.explain_model.specs.Placed.{Placed, placed_tokens, placed_statement}

-- where a statement with this name may stand
abbrev pub named_home : List ℕ → Home
named_home name = if begins_with 46 name then (directive name []).home else InText

-- where a statement may stand, by its first token
abbrev pub home_of : List Placed → Home
home_of [] = Anywhere
home_of (p ∷ tokens) = if is_name_kind p.token.kind then named_home p.token.bytes else Anywhere

abbrev pub home_of_line : List ℕ → Home
home_of_line l = home_of (placed_statement (placed_tokens l))

-- what a statement that may stand there makes of the section
abbrev pub section_moved : Section → Home → Section
section_moved section home = if may_stand section home then section_after section home else section

-- the section after a line: one with a byte that is not allowed begins none
abbrev pub section_after_line : Section → List ℕ → Section
section_after_line section l = if all_allowed l then section_moved section (home_of_line l) else section

unfoldable pub section_after_lines : Section → List (List ℕ) → Section
section_after_lines section [] = section
section_after_lines section (l ∷ ls) = section_after_lines (section_after_line section l) ls

-- the section after some lines of a source
abbrev pub section_of : List (List ℕ) → Section
section_of ls = section_after_lines Text ls
