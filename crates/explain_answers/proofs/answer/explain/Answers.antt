use Rattle.std.proofs.Common.{◌≡◌, ℕ, List, [], sym, ap, ◌∙◌, append-nil}
use Rattle.xs_text.specs.Lines.{lines_of}
use Rattle.system_model.specs.declared.SysKind.TheVariants.{TooLong}
use Rattle.system_model.specs.System.{Frame, system_of}
use Rattle.answer_model.specs.declared.Answer.{Answer}
use Rattle.answer_model.specs.declared.Status.TheVariants as status
use Rattle.answer_model.specs.OnSystem.{answer_to}
use Rattle.answer_model.specs.Refusals.{frame_text}
use Rattle.system_answers.proofs.Taken.{system_of-long}
use Rattle.explain_frame_model.specs.FrameTold.{frame_told}
use Rattle.explain_whole.specs.Explained.{explained_by}
use Rattle.explain_answers.proofs.answer.explain.Goals as goal

pub returns-then-input-gt-LONGEST_INPUT : goal.returns-then-input-gt-LONGEST_INPUT
unfolding frame_told
returns-then-input-gt-LONGEST_INPUT c =
    let long : system_of c.args.input.now ≡ Frame 0 TooLong = system_of-long c.args.input.now c.if-input-gt-LONGEST_INPUT.true in
    let text : c.in_ok-text.text ≡ frame_text 0 TooLong = c.in_ok-text.ensures ∙ ap (λ s. (answer_to (λ plan. []) s).text) long in
    let answer : List ℕ → Answer = λ t. record { text = t; status = status.SystemFault } in
    ap answer (text ∙ sym (append-nil (frame_text 0 TooLong))) ∙ sym (ap (explained_by (lines_of c.args.input.now)) long)
