use Rattle.std.proofs.Common.{◌≡◌, ℕ, ◌*◌, List, length, refl, ap, sym, ◌∙◌, arith}
use Rattle.std.specs.Prelude.{sum_by}
use Rattle.std.specs.List.{range_with_len}
use Rattle.sys_plan.specs.declared.LinkPlan.{LinkPlan}
use Rattle.sys_plan.specs.Plan.{PlanRec, link_arcs}
use Rattle.sys_plan.proofs.Arcs.{arcs_length}
use Rattle.sys_plan.proofs.Told.{arcs-count}
use Rattle.serial_model.specs.Serial.{serial}
use Rattle.trace_model.specs.Trace.{tokens_sent, credits_sent, history_at}
use Rattle.load_model.specs.Made.{link_count, all_tokens, all_credits}
use Rattle.made_text.proofs.Sums.{sum_more, sum_done}
use Rattle.made_text.proofs.totals.all_sent.Goals as goal

pub totals-sent-requires : goal.totals-sent-requires
totals-sent-requires c =
    let count : length (link_arcs c.args.finished.now.plan.links) ≡ 2 * length c.links.result.now =
    arcs_length _ ∙ ap (λ (ls : List LinkPlan). 2 * length ls) (ap (λ (p : PlanRec). p.links) c.requires.plan ∙ sym c.links.ensures.value) in
    record { link = omega (arith, count, arcs-count c.args.finished.now.plan, c.loop-link-test.true) }

pub loop-link-preserved : goal.loop-link-preserved
loop-link-preserved c =
    let run = c.args.finished.now in
    let system = serial run.plan run.limit in
    let whole = c.links_tell_ahead.ensures.whole run.plan c.loop-link.link run.limit in
    let tokens : c.from-tokens.result ≡ tokens_sent (history_at system c.loop-link.link) = c.from-tokens.ensures ∙ (c.totals-sent.ensures.tokens ∙ ap tokens_sent whole) in
    let credits : c.from-credits.result ≡ credits_sent (history_at system c.loop-link.link) = c.from-credits.ensures ∙ (c.totals-sent.ensures.credits ∙ ap credits_sent whole) in (
      sum_more (λ k. tokens_sent (history_at system k)) c.loop-link.link _ _ _ _ _ c.loop-link-test.true tokens refl c.loop-link.invariant.0,
      sum_more (λ k. credits_sent (history_at system k)) c.loop-link.link _ _ _ _ _ c.loop-link-test.true credits refl c.loop-link.invariant.1,
      omega (arith, c.loop-link.invariant.2, c.from-tokens.ensures, c.totals-sent.type_inv.0),
      omega (arith, c.loop-link.invariant.3, c.from-credits.ensures, c.totals-sent.type_inv.1),
    )

-- twice as many directed links as links
link_count-is : (plan lent : PlanRec) (links : List LinkPlan) → plan ≡ lent → links ≡ lent.links → 2 * length links ≡ link_count plan
link_count-is plan lent links same value =
    ap (λ (ls : List LinkPlan). 2 * length ls) (value ∙ ap (λ (p : PlanRec). p.links) (sym same)) ∙ sym (arcs_length plan.links)

pub returns-clause-tokens : goal.returns-clause-tokens
returns-clause-tokens c =
    let run = c.args.finished.now in
    let f : ℕ → ℕ = λ k. tokens_sent (history_at (serial run.plan run.limit) k) in
    sum_done f c.loop-link.link _ _ _ c.loop-link-test.false c.loop-link.invariant.0
    ∙ (ap (λ n. sum_by f (range_with_len 0 n)) (link_count-is run.plan c.args.plan.now c.links.result.now c.requires.plan c.links.ensures.value)
    ∙ ap (λ (p : PlanRec). all_tokens p (serial p run.limit)) c.requires.plan)

pub returns-clause-credits : goal.returns-clause-credits
returns-clause-credits c =
    let run = c.args.finished.now in
    let f : ℕ → ℕ = λ k. credits_sent (history_at (serial run.plan run.limit) k) in
    sum_done f c.loop-link.link _ _ _ c.loop-link-test.false c.loop-link.invariant.1
    ∙ (ap (λ n. sum_by f (range_with_len 0 n)) (link_count-is run.plan c.args.plan.now c.links.result.now c.requires.plan c.links.ensures.value)
    ∙ ap (λ (p : PlanRec). all_credits p (serial p run.limit)) c.requires.plan)
