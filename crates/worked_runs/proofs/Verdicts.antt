-- Verdicts on ranks. Each declaration that names `computes` looks at all ids at most once, for more are too much for one.
use Rattle.std.proofs.Common.{refl}
use Rattle.std.specs.Prelude.{ℕ, ◌≡◌, Option, None, List, [], ◌∷◌}
use Rattle.rank_model.specs.declared.verdict.Verdict.TheVariants.{NoRank}
use Rattle.rank_model.specs.Next.{first_from}
use Rattle.rank_model.specs.Verdicts.{no_way, no_rank, no_rank_after, no_rank_between, verdict_of}
use Rattle.worked_runs.specs.RouteRanks.{one_net, pair_of}
use Rattle.worked_runs.proofs.Computes.{computes}

pub turns : verdict_of (pair_of 1) (1 ∷ 2 ∷ []) ≡ NoRank 1 0 2
unfolding computes
turns = refl

pub equal : verdict_of one_net (2 ∷ 3 ∷ 2 ∷ 3 ∷ []) ≡ NoRank 0 2 2
unfolding computes
equal = refl

-- ---- Equal ranks of the pair

abbrev ones : List ℕ
ones = 1 ∷ 1 ∷ []

pair-0-0 : no_rank_between (pair_of 0) ones 0 0 ≡ None
unfolding computes
pair-0-0 = refl

pair-0-1 : no_rank_between (pair_of 0) ones 0 1 ≡ None
unfolding computes
pair-0-1 = refl

pair-1-0 : no_rank_between (pair_of 0) ones 1 0 ≡ None
unfolding computes
pair-1-0 = refl

pair-1-1 : no_rank_between (pair_of 0) ones 1 1 ≡ None
unfolding computes
pair-1-1 = refl

-- the first of two, neither of which is found
neither : {A : Type 0} → (find : ℕ → Option A) → find 0 ≡ None → find 1 ≡ None → first_from find 0 2 ≡ None
unfolding first_from
neither find zeroth first = rw (zeroth, first)

pub pair-ranks : no_rank (pair_of 0) ones ≡ None
pair-ranks =
    neither (no_rank_after (pair_of 0) ones)
    (neither (no_rank_between (pair_of 0) ones 0) pair-0-0 pair-0-1)
    (neither (no_rank_between (pair_of 0) ones 1) pair-1-0 pair-1-1)

pub pair-ways : no_way (pair_of 0) ≡ None
unfolding computes
pair-ways = refl
