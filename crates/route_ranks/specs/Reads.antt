-- What reading ranks returns.
use Rattle.std.specs.Prelude.{ℕ, ◌≡◌, Result, Ok, Err, List}
use Rattle.rank_model.specs.declared.rank_kind.RankKind.TheVariants as kinds
use Rattle.rank_model.specs.declared.rank_line.RankLine.{RankLine}
use Rattle.rank_model.specs.Lines.{RanksRec, RanksRead, Ranks, BadLine}
use Rattle.route_ranks.specs.declared.rank_error.RankError.{RankError}
use Rattle.route_ranks.specs.declared.rank_error.RankError.TheVariants as errors

-- the ranks of these lines, by the number of the line `system` and the bytes before the system text
abbrev pub ranks_with : List RankLine → ℕ → ℕ → RanksRec
ranks_with lines system rest = record { lines = lines; system = system; rest = rest }

-- what reading a text returns
abbrev pub ReadsRanks : RanksRead → Result RanksRec RankError → Type 0
ReadsRanks read (Ok ranks) = read ≡ Ranks ranks
ReadsRanks read (Err (errors.Fault line kind)) = (read ≡ BadLine line) × (kind ≡ kinds.BadLine)
ReadsRanks read (Err errors.Memory) = Unit {0}

-- these ranks
abbrev pub GivesRanks : RanksRec → Result RanksRec RankError → Type 0
GivesRanks ranks (Ok given) = given ≡ ranks
GivesRanks ranks (Err e) = e ≡ errors.Memory

-- this refusal
abbrev pub RefusesLine : ℕ → Result RanksRec RankError → Type 0
RefusesLine line (Ok given) = ⊥
RefusesLine line (Err (errors.Fault l kind)) = (l ≡ line) × (kind ≡ kinds.BadLine)
RefusesLine line (Err errors.Memory) = Unit {0}
