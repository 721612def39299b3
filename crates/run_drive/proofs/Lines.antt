-- The lines of the steps so far, and what is told of those that are left.
use Rattle.std.proofs.Common.{◌≡◌, ℕ, ◌+◌, ◌<◌, ◌≤◌, List, [], ◌∷◌, ◌++◌, length, map, get_or, drop, refl, sym, ap, ◌∙◌, append_assoc}
use Rattle.std.proofs.lemmas.List.{at_drop_more, at_drop_all, append-nil, map-append}
use Rattle.xs_base.specs.Numbers.{Slot}
use Rattle.sys_plan.specs.declared.Step.{Step}
use Rattle.sys_plan.specs.Plan.{PlanRec}
use Rattle.ahead_limits.specs.Schedule.{ScheduleRec, after_step}
use Rattle.play_model.specs.Play.{PlayedStep, played_step, played_from}
use Rattle.run_drive.specs.declared.played.PlayLine.{PlayLine}
use Rattle.run_drive.specs.declared.stage.Stage.{Stage}
use Rattle.run_drive.specs.Played.{line_of}
use Rattle.run_drive.specs.Stages.{schedule_of, Plays}

module _ (plan : PlanRec) (limit : Slot) where
  one_more : (s : ScheduleRec) (step : Step) (steps : List Step)
      → played_from plan limit s (step ∷ steps) ≡ played_step plan step s (after_step plan limit s step) ∷ played_from plan limit (after_step plan limit s step) steps
  unfolding played_from
  one_more s step steps = refl

  none_left : (s : ScheduleRec) → played_from plan limit s [] ≡ []
  unfolding played_from
  none_left s = refl

  pub told_all : (steps : List Step) (i : ℕ) (s : ScheduleRec) (lines : List PlayLine) (all : List PlayedStep) → length steps ≤ i
      → map line_of lines ++ played_from plan limit s (drop i steps) ≡ all → map line_of lines ≡ all
  told_all steps i s lines all past is =
      sym (append-nil (map line_of lines))
      ∙ sym (ap (λ (rest : List PlayedStep). map line_of lines ++ rest) (at_drop_all (played_from plan limit s) steps i past ∙ none_left s))
      ∙ is

  pub told_more : (steps : List Step) (i : ℕ) (d : Step) (before after : Stage) (lines : List PlayLine) (line : PlayLine) (all : List PlayedStep) → i < length steps
      → Plays plan (get_or steps i d) before after line → before.limit.value ≡ limit
      → map line_of lines ++ played_from plan limit (schedule_of before) (drop i steps) ≡ all
      → map line_of (lines ++ line ∷ []) ++ played_from plan limit (schedule_of after) (drop (i + 1) steps) ≡ all
  told_more steps i d before after lines line all inside plays same_limit is =
      let step = get_or steps i d in
      let s = schedule_of before in
      let rest = drop (i + 1) steps in
      let goes_on : schedule_of after ≡ after_step plan limit s step = plays.goes_on ∙ ap (λ (l : Slot). after_step plan l s step) same_limit in
      let tells : line_of line ≡ played_step plan step s (after_step plan limit s step) = plays.tells ∙ ap (λ (t : ScheduleRec). played_step plan step s t) goes_on in
      let told : line_of line ∷ played_from plan limit (schedule_of after) rest ≡ played_from plan limit s (drop i steps)
      = (λ j. tells j ∷ played_from plan limit (goes_on j) rest) ∙ sym (at_drop_more (played_from plan limit s) steps i d inside ∙ one_more s step rest) in
      ap (λ (ps : List PlayedStep). ps ++ played_from plan limit (schedule_of after) rest) (map-append line_of lines (line ∷ []))
      ∙ append_assoc (map line_of lines) (line_of line ∷ []) (played_from plan limit (schedule_of after) rest)
      ∙ ap (λ (ps : List PlayedStep). map line_of lines ++ ps) told
      ∙ is
