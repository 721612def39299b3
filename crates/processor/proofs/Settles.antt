-- What an outcome makes of the thread is what the effect makes of it.
use Rattle.std.proofs.Common.{◌≡◌, ℕ, List, [], ◌∷◌, ap, ◌∙◌}
use Rattle.xs_model.specs.declared.event.Happen.{Happen}
use Rattle.xs_model.specs.declared.thread.Outcome.{Outcome}
use Rattle.xs_model.specs.declared.thread.Outcome.TheVariants as outcome
use Rattle.xs_model.specs.declared.thread.Run.TheVariants.{Paused}
use Rattle.xs_model.specs.Record.{CoreRec, with_run}
use Rattle.xs_instructions.specs.declared.instr.Instr.{Instr}
use Rattle.step_model.specs.Effect.{Effect, Done, Pause, Trap, Gone}
use Rattle.step_model.specs.Step.{Issued, settled, trap}
use Rattle.core_units.specs.declared.ending.Ending.{Ending}
use Rattle.core_units.specs.declared.ending.Ending.TheVariants as ending
use Rattle.core_units.specs.Units.{Ends, EndsWith}
use Rattle.processor.specs.Issue.{effect_of, effect_with}

-- an issue in which this happens, and one in which nothing does
abbrev happens : CoreRec → List Happen → Issued
happens core happened = record { core = core; happened = happened }

abbrev quiet : CoreRec → Issued
quiet core = happens core []

module _ (code : List Instr) (k : ℕ) (old new : CoreRec) where
  pub same_settled : (o : Outcome) (effect : Effect) → Ends o old new effect → settled code new k (effect_of o new) ≡ settled code old k effect
  same_settled outcome.Done (Done after []) is = ap quiet is
  same_settled outcome.Done (Done after (what ∷ more)) is = absurd is
  same_settled outcome.Done (Pause after wait happened) is = absurd is
  same_settled outcome.Done (Trap number value) is = absurd is
  same_settled outcome.Done (Gone after happened) is = absurd is
  same_settled (outcome.Pause wait) (Pause after waited []) is =
      ap (λ w. quiet (with_run new k (Paused w))) is.0 ∙ ap (λ core. quiet (with_run core k (Paused waited))) is.1
  same_settled (outcome.Pause wait) (Pause after waited (what ∷ more)) is = absurd is
  same_settled (outcome.Pause wait) (Done after happened) is = absurd is
  same_settled (outcome.Pause wait) (Trap number value) is = absurd is
  same_settled (outcome.Pause wait) (Gone after happened) is = absurd is
  same_settled (outcome.Trap et ed) (Trap number value) is =
      ap (λ n. trap code new k n ed) is.0 ∙ ap (λ v. trap code new k number v) is.1 ∙ ap (λ core. trap code core k number value) is.2
  same_settled (outcome.Trap et ed) (Done after happened) is = absurd is
  same_settled (outcome.Trap et ed) (Pause after wait happened) is = absurd is
  same_settled (outcome.Trap et ed) (Gone after happened) is = absurd is
  same_settled outcome.Gone (Gone after []) is = ap quiet is
  same_settled outcome.Gone (Gone after (what ∷ more)) is = absurd is
  same_settled outcome.Gone (Done after happened) is = absurd is
  same_settled outcome.Gone (Pause after wait happened) is = absurd is
  same_settled outcome.Gone (Trap number value) is = absurd is

  pub same_settled_with : (e : Ending) (effect : Effect) → EndsWith e old new effect → settled code new k (effect_with e new) ≡ settled code old k effect
  same_settled_with (ending.Quietly o) effect is = same_settled o effect is
  same_settled_with (ending.Done what) (Done after happened) is =
      ap (λ (h : List Happen). happens new h) is.0 ∙ ap (λ (core : CoreRec). happens core happened) is.1
  same_settled_with (ending.Done what) (Pause after wait happened) is = absurd is
  same_settled_with (ending.Done what) (Trap number value) is = absurd is
  same_settled_with (ending.Done what) (Gone after happened) is = absurd is
  same_settled_with (ending.Pause wait what) (Pause after waited happened) is =
      ap (λ w. happens (with_run new k (Paused w)) (what ∷ [])) is.0
      ∙ ap (λ (h : List Happen). happens (with_run new k (Paused waited)) h) is.1
      ∙ ap (λ core. happens (with_run core k (Paused waited)) happened) is.2
  same_settled_with (ending.Pause wait what) (Done after happened) is = absurd is
  same_settled_with (ending.Pause wait what) (Trap number value) is = absurd is
  same_settled_with (ending.Pause wait what) (Gone after happened) is = absurd is
