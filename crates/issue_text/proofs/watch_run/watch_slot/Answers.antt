use Rattle.std.proofs.Common.{◌≡◌, rules, ℕ, List, sym, subst, ◌∙◌, Vec, Global}
use Rattle.std.proofs.lemmas.List.{with_items_is, places}
use Rattle.sys_plan.specs.Plan.{PlanRec}
use Rattle.issue_model.specs.Watch.{slot_watched}
use Rattle.issue_text.specs.declared.words.Word.{Word}
use Rattle.issue_text.specs.Kept.{Adds}
use Rattle.issue_text.specs.NodeSlots.{numbers_of}
use Rattle.issue_text.specs.Words.{AreKept}
use Rattle.issue_text.proofs.watch_run.watch_slot.Goals as goal

-- what is kept of words, where plan, slot and words are equal
alike : (plan p : PlanRec) (slot s : ℕ) (addresses : List ℕ) (all words : List (Vec Word Global)) → plan ≡ p → slot ≡ s → all ≡ words → AreKept plan slot addresses all → AreKept p s addresses words
alike plan p slot s addresses all words plan_is slot_is all_is =
    let whole : AreKept plan slot addresses all ≡ AreKept p s addresses words = λ i. AreKept (plan_is i) (slot_is i) addresses (all_is i) in
    subst (λ (T : Type 0). T) whole

pub returns-clause-lines : goal.returns-clause-lines
returns-clause-lines c =
    let a = c.args in
    let addresses = a.watched.now.addresses.now in
    let plan = c.in_ok-step.ensures.plan in
    let words = c.deref.ensures.value ∙ with_items_is a.watched.now.words c.keep_all.new.words (search (rules, places)) in
    subst (Adds a.kept.now c.add_watched.new.kept) (λ i. slot_watched (plan i) (numbers_of a.sources.now) addresses (c.now-slot.ensures i))
    (c.in_ok-add_watched.ensures.lines addresses (alike _ _ _ _ addresses _ _ (sym plan) (sym c.now-slot.ensures) (sym words) c.in_ok-keep_all.ensures.kept))
