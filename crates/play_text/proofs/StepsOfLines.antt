-- The lines of a play are those of the plan's steps, each of a node that is there.
use Rattle.std.proofs.Common.{◌≡◌, ℕ, ◌<◌, List, [], ◌∷◌, length, map, ap, sym, subst, ◌∙◌, refl}
use Rattle.std.specs.List.{AllByRecursion}
use Rattle.xs_base.specs.Numbers.{Slot}
use Rattle.sys_plan.specs.declared.Step.{Step}
use Rattle.sys_plan.specs.declared.Step.TheVariants.{Take, Run, Send}
use Rattle.sys_plan.specs.Plan.{PlanRec, NamesWhatIsThere}
use Rattle.ahead_limits.specs.Schedule.{ScheduleRec, after_step}
use Rattle.play_model.specs.Play.{PlayedStep, played, played_from}
use Rattle.run_drive.specs.declared.played.PlayLine.{PlayLine}
use Rattle.run_drive.specs.Played.{line_of}
use Rattle.play_text.specs.Steps.{node_of, IsOfNodes}

abbrev step_of : PlayLine → Step
step_of line = line.step

abbrev step_played : PlayedStep → Step
step_played p = p.step

-- a play tells of each step in turn
steps_played : (plan : PlanRec) (limit : Slot) (s : ScheduleRec) (steps : List Step) → map step_played (played_from plan limit s steps) ≡ steps
unfolding played_from
steps_played plan limit s [] = refl
steps_played plan limit s (step ∷ steps) = ap (λ (rest : List Step). step ∷ rest) (steps_played plan limit (after_step plan limit s step) steps)

steps_of_lines : (lines : List PlayLine) → map step_of lines ≡ map step_played (map line_of lines)
steps_of_lines [] = refl
steps_of_lines (line ∷ lines) = ap (λ (rest : List Step). line.step ∷ rest) (steps_of_lines lines)

is_there : (plan : PlanRec) (step : Step) → NamesWhatIsThere plan step → node_of step < length plan.nodes
is_there plan (Take node end) h = h.0
is_there plan (Run node count) h = h
is_there plan (Send node end) h = h.0

are_there : (plan : PlanRec) (lines : List PlayLine) → AllByRecursion (NamesWhatIsThere plan) (map step_of lines) → AllByRecursion (IsOfNodes (length plan.nodes)) lines
are_there plan [] h = tt
are_there plan (line ∷ lines) h = (is_there plan line.step h.0, are_there plan lines h.1)

pub lines_of_nodes : (plan : PlanRec) (limit : Slot) (lines : List PlayLine) → AllByRecursion (NamesWhatIsThere plan) plan.steps → map line_of lines ≡ played plan limit
    → AllByRecursion (IsOfNodes (length plan.nodes)) lines
lines_of_nodes plan limit lines there e =
    let same : map step_of lines ≡ plan.steps = steps_of_lines lines ∙ (ap (map step_played) e ∙ steps_played plan limit _ plan.steps) in
    are_there plan lines (subst (AllByRecursion (NamesWhatIsThere plan)) (sym same) there)
