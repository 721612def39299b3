-- What a load comes to, and the line that tells it.
use Rattle.std.specs.Prelude.{ℕ, List, [], ◌∷◌, ◌++◌, length, sum_by, codes, decimal}
use Rattle.std.specs.List.{range_with_len}
use Rattle.sys_plan.specs.Plan.{PlanRec, link_arcs}
use Rattle.serial_model.specs.Serial.{SystemRec, serial}
use Rattle.trace_model.specs.Trace.{tokens_sent, credits_sent, history_at, events_at}

-- for so many slots a load runs
abbrev pub made_slots : ℕ
made_slots = 60000

-- the tokens and the credits that were sent on all directed links
abbrev pub link_count : PlanRec → ℕ
link_count plan = length (link_arcs plan.links)

abbrev pub all_tokens : PlanRec → SystemRec → ℕ
all_tokens plan system = sum_by (λ link. tokens_sent (history_at system link)) (range_with_len 0 (link_count plan))

abbrev pub all_credits : PlanRec → SystemRec → ℕ
all_credits plan system = sum_by (λ link. credits_sent (history_at system link)) (range_with_len 0 (link_count plan))

-- the events of all nodes, those too that a trace leaves out
abbrev pub all_events : PlanRec → SystemRec → ℕ
all_events plan system = sum_by (λ node. length (events_at system node)) (range_with_len 0 (length plan.nodes))

-- ` tokens A credits B events C`, and the line's end
abbrev pub totals_text : ℕ → ℕ → ℕ → List ℕ
totals_text tokens credits events =
    codes " tokens " ++ (decimal tokens ++ (codes " credits " ++ (decimal credits ++ (codes " events " ++ (decimal events ++ (10 ∷ []))))))

-- `made N nodes K tokens A credits B events C`
abbrev pub numbers_line : ℕ → ℕ → ℕ → ℕ → ℕ → List ℕ
numbers_line n nodes tokens credits events = codes "made " ++ (decimal n ++ (codes " nodes " ++ (decimal nodes ++ totals_text tokens credits events)))

-- what a system of this plan has come to
abbrev pub made_line : ℕ → PlanRec → SystemRec → List ℕ
made_line n plan system = numbers_line n (length plan.nodes) (all_tokens plan system) (all_credits plan system) (all_events plan system)

-- the line of the load with this number and plan
abbrev pub made_text : ℕ → PlanRec → List ℕ
made_text n plan = made_line n plan (serial plan made_slots)
