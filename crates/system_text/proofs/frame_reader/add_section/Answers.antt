use Rattle.std.proofs.Common.{sym, ◌∙◌, arith}
use Rattle.system_text.proofs.Walk.{good_end, section_unended, section_refused, section_taken}
use Rattle.system_text.proofs.frame_reader.add_section.Goals as goal

pub returns-in_default-clause-read : goal.returns-in_default-clause-read
returns-in_default-clause-read c = rw c.refusal.ensures (section_unended _ _ c.args.frame.now _ c.requires.text c.in_default.ensures.section)

pub returns-then-not-all_allowed-clause-read : goal.returns-then-not-all_allowed-clause-read
returns-then-not-all_allowed-clause-read c =
    rw c.refusal-then-not-all_allowed.ensures
    (section_refused _ _ _ c.args.frame.now _ _ c.requires.text c.in-Some.ensures.section (sym c.all_allowed.ensures ∙ c.if-not-all_allowed.true) (omega (arith, c.in-Some.ensures.counted)))

pub returns-clause-read : goal.returns-clause-read
returns-clause-read c =
    section_taken _ _ _ c.args.frame.now _ _ _ c.requires.text c.in-Some.ensures.section (sym c.all_allowed.ensures ∙ c.if-not-all_allowed.false)
    (omega (arith, c.in-Some.ensures.counted, c.in-Some.ensures.numbered)) c.in_ok-add_section.ensures

pub returns-in_err-add_section-clause-memory : goal.returns-in_err-add_section-clause-memory
returns-in_err-add_section-clause-memory c = λ _. good_end _ _ c.in-Some.ensures.section (sym c.all_allowed.ensures ∙ c.if-not-all_allowed.false)
