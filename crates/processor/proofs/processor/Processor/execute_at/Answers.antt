use Rattle.std.proofs.Common.{◌≡◌, Some, ap, sym, ◌∙◌, subst}
use Rattle.xs_model.specs.Record.{thread_of}
use Rattle.xs_instructions.specs.Code.{code_at}
use Rattle.xs_instructions.specs.declared.instr.Instr.TheVariants.{Resources}
use Rattle.step_model.specs.Effect.{Setting}
use Rattle.step_model.specs.Step.{Issued, executed, settled}
use Rattle.step_model.specs.Rows.{effect}
use Rattle.processor.specs.Issue.{IsIssuedAt, IsLeft, effect_of, effect_with}
use Rattle.processor.proofs.Settles.{same_settled, same_settled_with}
use Rattle.processor.proofs.processor.Processor.execute_at.Given.{Over}
use Rattle.processor.proofs.processor.Processor.execute_at.Goals as goal
use Rattle.processor.proofs.processor.Processor.execute_at.Goals.{After-settle, After-settle_quietly}

-- what the outcome makes of the thread is what the definition executes
its_issue : (g : Over) (c : After-settle_quietly g) (here : Setting) → IsIssuedAt c.args.program.now c.args.slot c.args.pins.now (g.H.Holders.busy c.args.holders.now) here
    → settled c.args.program.now.code c.execute-outcome.new.self c.args.k (effect_of c.execute-outcome.result c.execute-outcome.new.self)
    ≡ executed c.args.program.now.code here c.args.self.now c.args.k (code_at c.args.program.now.code (thread_of c.args.self.now c.args.k).pc)
its_issue g c here at =
    let code = c.args.program.now.code in
    same_settled code c.args.k c.args.self.now c.execute-outcome.new.self c.execute-outcome.result (effect here c.args.self.now c.args.k c.in-Some.ins) (c.execute-outcome.ensures.row here at.edition at.place.id at.place.slot)
    ∙ ap (λ ins. executed code here c.args.self.now c.args.k ins) (sym c.in-Some.is ∙ c.at.ensures.value ∙ ap (code_at code) c.pc_of-pc.ensures)

its_use : (g : Over) (c : After-settle g) (here : Setting) → IsIssuedAt c.args.program.now c.args.slot c.args.pins.now (g.H.Holders.busy c.args.holders.now) here
    → settled c.args.program.now.code c.use_resource-ending.new.self c.args.k (effect_with c.use_resource-ending.result c.use_resource-ending.new.self)
    ≡ executed c.args.program.now.code here c.args.self.now c.args.k (code_at c.args.program.now.code (thread_of c.args.self.now c.args.k).pc)
its_use g c here at =
    let code = c.args.program.now.code in
    same_settled_with code c.args.k c.args.self.now c.use_resource-ending.new.self c.use_resource-ending.result (effect here c.args.self.now c.args.k (Resources c.in-Some-Resources.ins)) (c.use_resource-ending.ensures.row here (record { id = at.place.id ∙ sym c.id.ensures; slot = at.place.slot; outside = at.place.outside; busy = at.place.busy }))
    ∙ ap (λ ins. executed code here c.args.self.now c.args.k ins) (ap Some (sym c.in-Some-Resources.field-0-is) ∙ sym c.in-Some-Resources.is ∙ c.at.ensures.value ∙ ap (code_at code) c.pc_of-pc.ensures)

pub returns-in-Some-Resources : goal.returns-in-Some-Resources
returns-in-Some-Resources g c = λ here at. subst (λ (i : Issued). IsLeft c.args.slot c.args.out.now c.settle.new.self c.settle.new.out i) (its_use g c here at) c.settle.ensures

pub returns-in-Some : goal.returns-in-Some
returns-in-Some g c = λ here at. subst (λ (i : Issued). IsLeft c.args.slot c.args.out.now c.settle_quietly.new.self c.settle_quietly.new.out i) (its_issue g c here at) c.settle_quietly.ensures
