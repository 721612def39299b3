-- What all lines of a source have: the names that they name, the last instruction, and whether a channel end is told where it sends to.
use Rattle.std.specs.Prelude.{ℕ, ◌+◌, Bool, false, ◌||◌, not, is_some, ◌==◌, if◌then◌else◌, List, [], ◌∷◌, drop, codes}
use Rattle.std.specs.List.{list_any}
use Rattle.xs_instructions.specs.Image.{Symbol, address_of, defined, same_name}
use Rattle.source_model.specs.Statement.{is_name_kind}
use Rattle.explain_model.specs.Placed.{Placed, placed_tokens, placed_statement}
use Rattle.explain_model.specs.Meant.{statement_name}

-- ---- The statement of a line

abbrev pub statement_of : List ℕ → List Placed
statement_of l = placed_statement (placed_tokens l)

-- its name, which is empty where there is none, and what comes after that
abbrev pub name_of_line : List ℕ → List ℕ
name_of_line l = statement_name (statement_of l)

abbrev pub behind_name : List Placed → List Placed
behind_name [] = []
behind_name (p ∷ tokens) = tokens

abbrev pub operands_of : List ℕ → List Placed
operands_of l = behind_name (statement_of l)

-- ---- Names

-- What names something, of what comes after the name of a statement: behind `getr` nothing does, and behind `getst` the register that it sets does not.
abbrev pub naming : List ℕ → List Placed → List Placed
naming name operands =
    if same_name (codes "getr") name then [] else (if same_name (codes "getst") name then drop 1 operands else operands)

-- a name more, if the token is one
abbrev pub note_name : Placed → List Symbol → List Symbol
note_name p names = if is_name_kind p.token.kind then defined p.token.bytes 0 names else names

unfoldable pub note_names : List Placed → List Symbol → List Symbol
note_names [] names = names
note_names (p ∷ tokens) names = note_names tokens (note_name p names)

unfoldable pub note_named : List (List ℕ) → List Symbol → List Symbol
note_named [] names = names
note_named (l ∷ ls) names = note_named ls (note_names (naming (name_of_line l) (operands_of l)) names)

-- the names that some lines name, each with the number 0
abbrev pub named_in : List (List ℕ) → List Symbol
named_in ls = note_named ls []

abbrev pub is_named : List Symbol → List ℕ → Bool
is_named names name = is_some (address_of names name)

-- ---- Instructions

-- Whether a statement with this name is an instruction, in a source that is accepted: a directive begins with a dot.
abbrev pub is_instruction : List ℕ → Bool
is_instruction [] = false
is_instruction (b ∷ name) = not (b == 46)

-- the number of the last of these lines that has one, of which the first has number n, and else the number before
unfoldable pub last_from : ℕ → ℕ → List (List ℕ) → ℕ
last_from last n [] = last
last_from last n (l ∷ ls) = last_from (if is_instruction (name_of_line l) then n else last) (n + 1) ls

-- the number of the last line that has an instruction, from 1, and 0 where none has
abbrev pub last_instruction : List (List ℕ) → ℕ
last_instruction ls = last_from 0 1 ls

-- whether a line has a `setd`
unfoldable pub has_setd : List (List ℕ) → Bool
has_setd [] = false
has_setd (l ∷ ls) = same_name (codes "setd") (name_of_line l) || has_setd ls

-- the instructions behind which a thread does not go on with the next one
abbrev pub leaving_names : List (List ℕ)
leaving_names =
    codes "bu" ∷ codes "bru" ∷ codes "bau" ∷ codes "retsp" ∷ codes "kret" ∷ codes "freet" ∷ codes "waiteu" ∷ codes "ssync" ∷ []

abbrev pub leaves : List ℕ → Bool
leaves name = list_any (λ known. same_name known name) leaving_names

-- the instructions that get a resource into the register behind their name
abbrev pub gets : List ℕ → Bool
gets name = same_name (codes "getr") name || same_name (codes "getst") name
