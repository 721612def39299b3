-- The verdicts that a text can be put together for.
use Rattle.std.specs.Prelude.{◌<◌}
use Rattle.sys_plan.specs.Plan.{PlanRec}
use Rattle.rank_model.specs.declared.verdict.Verdict.{Verdict}
use Rattle.rank_model.specs.declared.verdict.Verdict.TheVariants.{Yes, NoWay, NoRank}
use Rattle.rank_model.specs.Next.{link_count}

-- the directed links that it names are there
abbrev pub NamesLinks : PlanRec → Verdict → Type 0
NamesLinks plan Yes = Unit {0}
NamesLinks plan (NoWay from to net) = Unit {0}
NamesLinks plan (NoRank first second dest) = (first < link_count plan) × (second < link_count plan)
