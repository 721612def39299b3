use Rattle.std.proofs.Common.{◌≡◌, ℕ, refl, ap, ◌∙◌}
use Rattle.std.proofs.lemmas.Result.{IfOk-weaker}
use Rattle.sys_plan.specs.Plan.{PlanRec}
use Rattle.serial_model.specs.Serial.{serial}
use Rattle.trace_model.specs.Trace.{end_of, end_text, trace_text}
use Rattle.trace_text.proofs.whole_trace.trace.Goals as goal

trace_text-is : (plan : PlanRec) (slots : ℕ) → end_text plan slots (end_of (serial plan slots)) ≡ trace_text plan slots
unfolding trace_text
trace_text-is plan slots = refl

-- of a run of the plan
run_text : (run plan : PlanRec) (slots : ℕ) → run ≡ plan → end_text plan slots (end_of (serial run slots)) ≡ trace_text plan slots
run_text run plan slots same = ap (λ (p : PlanRec). end_text plan slots (end_of (serial p slots))) same ∙ trace_text-is plan slots

pub returns : goal.returns
returns c =
    let run = c.args.finished in
    let plan = c.args.plan.now in
    let text = run_text run.plan plan run.limit c.requires.plan in
    record {
      text = IfOk-weaker c.end_text.result (λ t. t ≡ end_text plan run.limit (end_of (serial run.plan run.limit))) (λ t. t ≡ trace_text plan run.limit)
          (λ t is. is ∙ text) c.end_text.ensures.text;
    }
