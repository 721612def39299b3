use Rattle.std.proofs.Common.{◌≡◌, ℕ, List, [], ◌++◌, refl, ap, ◌∙◌}
use Rattle.sys_plan.specs.Plan.{PlanRec}
use Rattle.trace_model.specs.Trace.{EndRec, event_lines, events_in_order, lines_after_events, end_line, end_text}
use Rattle.trace_text.proofs.whole_trace.end_text.Goals as goal

-- the lines of the events that are kept
abbrev first_lines : PlanRec → EndRec → List ℕ
first_lines plan end = event_lines plan.nodes (events_in_order end)

end_text-is : (plan : PlanRec) (slots : ℕ) (end : EndRec) → first_lines plan end ++ (lines_after_events plan end ++ end_line slots) ≡ end_text plan slots end
unfolding end_text
end_text-is plan slots end = refl

text_whole : (plan : PlanRec) (slots last : ℕ) (end : EndRec) (none lines rest empty events whole : List ℕ) → none ≡ [] → lines ≡ none ++ lines_after_events plan end → last ≡ slots → rest ≡ lines ++ end_line last → empty ≡ [] → events ≡ empty ++ first_lines plan end → whole ≡ events ++ rest → whole ≡ end_text plan slots end
text_whole plan slots last end none lines rest empty events whole no_lines after is_last ended no_events first joined =
    let after_is : lines ≡ lines_after_events plan end = after ∙ ap (λ (t : List ℕ). t ++ lines_after_events plan end) no_lines in
    let first_is : events ≡ first_lines plan end = first ∙ ap (λ (t : List ℕ). t ++ first_lines plan end) no_events in
    joined
    ∙ (ap (λ (t : List ℕ). t ++ rest) first_is
    ∙ (ap (λ (t : List ℕ). first_lines plan end ++ t) (ended ∙ (ap (λ (t : List ℕ). t ++ end_line last) after_is ∙ ap (λ (n : ℕ). lines_after_events plan end ++ end_line n) is_last))
    ∙ end_text-is plan slots end))

pub returns : goal.returns
returns g c =
    record {
      text = text_whole c.args.plan.now (g.R.EndedRun.slots c.args.run) c.limit.result (g.R.EndedRun.end c.args.run) _ _ _ _ _ _ c.new-rest.ensures.empty c.in_ok-append_rest.ensures c.limit.ensures.value c.in_ok-append_end_line.ensures c.new-out.ensures.empty c.in_ok-append_events.ensures (c.in_ok-append.ensures.ok ∙ ap (λ (t : List ℕ). c.append_events.new.out ++ t) c.bytes.ensures.value);
    }
