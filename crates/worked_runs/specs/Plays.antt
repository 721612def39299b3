-- Plays worked out by hand.
use Rattle.std.specs.Prelude.{ℕ, ◌≡◌, List, [], ◌∷◌, ◌++◌, codes}
use Rattle.xs_base.specs.Numbers.{Slot}
use Rattle.xs_base.specs.declared.entry.Entry.{Entry}
use Rattle.xs_base.specs.declared.token.Token.TheVariants.{Byte, Ctrl}
use Rattle.sys_plan.specs.declared.Step.{Step}
use Rattle.sys_plan.specs.declared.Step.TheVariants.{Take, Run, Send}
use Rattle.sys_plan.specs.Plan.{PlanRec}
use Rattle.worked_runs.specs.Systems.{talking_pair, driven_pair, token_sent, credit_sent}
use Rattle.play_model.specs.Play.{PlayedStep, played}
use Rattle.play_model.specs.PlayText.{play_text}

-- a step that publishes nothing
abbrev pub told : Step → Slot → PlayedStep
told step number = record { step = step; number = number; entries = [] }

abbrev pub sent : Step → Slot → List Entry → PlayedStep
sent step number entries = record { step = step; number = number; entries = entries }

-- the pair whose node 0 sends its header from slot 13 on, and END in slot 25, by a link with a delay of 5; node 1 sends a credit for each
abbrev pub pair_by : List Step → PlanRec
pair_by steps = record talking_pair { steps = steps }

abbrev pub in_turn : List Step
in_turn = Run 0 10 ∷ Send 0 0 ∷ Take 1 0 ∷ Run 1 20 ∷ Send 1 0 ∷ Take 0 0 ∷ Run 0 20 ∷ Send 0 0 ∷ []

-- node 1 takes before anything was sent
abbrev pub alone : List Step
alone = Take 1 0 ∷ Run 1 20 ∷ Send 1 0 ∷ Run 1 20 ∷ []

-- the nodes go on in turn to slot 35
abbrev pub longer : List Step
longer =
    Run 0 5 ∷ Send 0 0 ∷ Take 1 0 ∷ Run 1 10 ∷ Send 1 0 ∷ Take 0 0 ∷ Run 0 10 ∷ Send 0 0 ∷ Send 0 0
    ∷ Take 1 0 ∷ Run 1 10 ∷ Send 1 0 ∷ Take 0 0 ∷ Run 0 10 ∷ Take 1 0 ∷ Send 0 0
    ∷ Take 1 0 ∷ Run 1 10 ∷ Take 0 0 ∷ Send 1 0 ∷ Take 0 0 ∷ Run 0 10 ∷ Send 0 0 ∷ []

pub record PairPlayed : Type 0 where
  pub no_step : played (pair_by []) 40 ≡ []
  pub turns : played (pair_by in_turn) 40
      ≡ told (Run 0 10) 5 ∷ told (Send 0 0) 5 ∷ told (Take 1 0) 5 ∷ told (Run 1 20) 10 ∷ told (Send 1 0) 10 ∷ told (Take 0 0) 10 ∷ told (Run 0 20) 15
      ∷ sent (Send 0 0) 15 (token_sent 13 (Byte 0) ∷ []) ∷ []
  -- the run ends before slot 13, in which the first entry is sent, and then right after it
  pub cut : played (pair_by in_turn) 13
      ≡ told (Run 0 10) 5 ∷ told (Send 0 0) 5 ∷ told (Take 1 0) 5 ∷ told (Run 1 20) 10 ∷ told (Send 1 0) 10 ∷ told (Take 0 0) 10 ∷ told (Run 0 20) 13
      ∷ told (Send 0 0) 13 ∷ []
  pub nothing_heard : played (pair_by alone) 3 ≡ told (Take 1 0) 0 ∷ told (Run 1 20) 3 ∷ told (Send 1 0) 3 ∷ told (Run 1 20) 3 ∷ []
  -- what was published is not published again; a take before a send sees what was published until then
  pub long_turns : played (pair_by longer) 100
      ≡ told (Run 0 5) 5 ∷ told (Send 0 0) 5 ∷ told (Take 1 0) 5 ∷ told (Run 1 10) 10 ∷ told (Send 1 0) 10 ∷ told (Take 0 0) 10 ∷ told (Run 0 10) 15
      ∷ sent (Send 0 0) 15 (token_sent 13 (Byte 0) ∷ []) ∷ told (Send 0 0) 15
      ∷ told (Take 1 0) 15 ∷ told (Run 1 10) 20 ∷ sent (Send 1 0) 20 (credit_sent 18 ∷ []) ∷ told (Take 0 0) 20 ∷ told (Run 0 10) 25
      ∷ told (Take 1 0) 15 ∷ sent (Send 0 0) 25 (token_sent 17 (Byte 1) ∷ token_sent 21 (Byte 0) ∷ [])
      ∷ told (Take 1 0) 25 ∷ told (Run 1 10) 30 ∷ told (Take 0 0) 20 ∷ sent (Send 1 0) 30 (credit_sent 22 ∷ credit_sent 26 ∷ [])
      ∷ told (Take 0 0) 30 ∷ told (Run 0 10) 35 ∷ sent (Send 0 0) 35 (token_sent 25 (Ctrl 1) ∷ []) ∷ []

abbrev pub turns_text : List ℕ
turns_text =
    codes "run 0 clock 5\nsend 0:0 published 5\ntake 1:0 seen 5\nrun 1 clock 10\nsend 1:0 published 10\ntake 0:0 seen 10\n"
    ++ codes "run 0 clock 15\nsend 0:0 published 15\nentry 0:0 13 dt 0\n"

abbrev pub longer_text : List ℕ
longer_text =
    turns_text ++ codes "send 0:0 published 15\ntake 1:0 seen 15\nrun 1 clock 20\nsend 1:0 published 20\nentry 1:0 18 credit\n"
    ++ codes "take 0:0 seen 20\nrun 0 clock 25\ntake 1:0 seen 15\nsend 0:0 published 25\nentry 0:0 17 dt 1\nentry 0:0 21 dt 0\n"
    ++ codes "take 1:0 seen 25\nrun 1 clock 30\ntake 0:0 seen 20\nsend 1:0 published 30\nentry 1:0 22 credit\nentry 1:0 26 credit\n"
    ++ codes "take 0:0 seen 30\nrun 0 clock 35\nsend 0:0 published 35\nentry 0:0 25 ct 1\n"

pub record PairTexts : Type 0 where
  pub no_step : play_text (pair_by []) 40 ≡ codes "end play\n"
  pub turns : play_text (pair_by in_turn) 40 ≡ turns_text ++ codes "end play\n"
  pub nothing_heard : play_text (pair_by alone) 3 ≡ codes "take 1:0 seen 0\nrun 1 clock 3\nsend 1:0 published 3\nrun 1 clock 3\nend play\n"
  pub long_turns : play_text (pair_by longer) 100 ≡ longer_text ++ codes "end play\n"
  -- lines have the numbers of nodes, which here are 3 and 7, and steps their positions
  pub by_number : play_text (record driven_pair { steps = Run 1 4 ∷ Run 0 1 ∷ [] }) 3 ≡ codes "run 7 clock 3\nrun 3 clock 1\nend play\n"
