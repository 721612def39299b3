-- The lines of a run that are kept.
use Rattle.std.specs.Prelude.{ℕ, ◌≡◌, List, ◌++◌, length}
use Rattle.issue_model.specs.Issues.{kept_text}
use Rattle.issue_text.specs.declared.lines.Lines.{Lines}

-- of these lines it has the first, and it counts all
pub record IsOf (kept : Lines) (lines : List (List ℕ)) : Type 0 where
  pub text : kept.text ≡ kept_text lines
  pub count : kept.count ≡ length lines

-- these come behind all that there were
abbrev pub Adds : Lines → Lines → List (List ℕ) → Type 0
Adds before after more = (all : List (List ℕ)) → IsOf before all → IsOf after (all ++ more)
