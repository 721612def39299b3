use Rattle.std.proofs.Common.{◌≡◌, ◌++◌, ◌∙◌}
use Rattle.vcd_writer.proofs.Whole.{changes_text, some_slots, no_slots, whole}
use Rattle.vcd_writer.proofs.run_wave.wave.Goals.{then-limit-gt0+in_ok-append_slot_line+in_ok-text, else-limit-gt0}
use Rattle.vcd_writer.proofs.run_wave.wave.Goals as goal

pub returns : goal.returns
returns c =
    let plan = c.args.plan.now in
    let declared = c.append_declarations.new.out in
    let told : c.if-limit-gt0.text ≡ declared ++ changes_text plan c.args.limit = elim c.if-limit-gt0.branch [
      | then-limit-gt0+in_ok-append_slot_line+in_ok-text w ↦
          w.text-is ∙ some_slots plan c.args.limit declared _ _ w.if-limit-gt0.true w.in_ok-append_slot_line.ensures w.in_ok-text.ensures
      | else-limit-gt0 w ↦ w.text-is ∙ no_slots plan c.args.limit declared w.if-limit-gt0.false
    ] in
    record { text = whole plan c.args.limit c.new-text.result declared _ _ c.new-text.ensures.empty c.in_ok-append_declarations.ensures told c.in_ok-append_slot_line-2.ensures }
