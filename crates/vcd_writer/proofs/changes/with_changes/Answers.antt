use Rattle.std.proofs.Common.{◌≡◌, ◌+◌, length, ap, sym, subst, ◌∙◌, arith}
use Rattle.arrayvec.specs.ArrayVec.{array_vec_len}
use Rattle.xs_base.specs.Numbers.{Slot}
use Rattle.serial_model.specs.Serial.{begun_at_start, serial}
use Rattle.wave_model.specs.Runs.{changes_before}
use Rattle.vcd_writer.specs.Tells.{TextRec, Tells, levels_of}
use Rattle.vcd_writer.proofs.Levels.{levels_count, told_no_slot, one_slot, refilled}
use Rattle.vcd_writer.proofs.Steady.{seen_there, told_there}
use Rattle.vcd_writer.proofs.changes.with_changes.Goals as goal

pub loop-slot-init : goal.loop-slot-init
loop-slot-init c =
    let begun = c.in_ok-machine.ensures in
    record {
      plan = begun.plan;
      start = begun.begun;
      run = begun.now;
      within = omega arith;
      seen = c.all_levels-seen.ensures ∙ ap (λ (s : Slot). levels_of (serial c.args.plan.now s).nodes) begun.now;
      tells = told_no_slot c.args.plan.now _ _ c.begun-out.ensures;
    }

pub loop-slot-preserved : goal.loop-slot-preserved
loop-slot-preserved c =
    let plan = c.args.plan.now in
    let slot = c.loop-slot.slot in
    let known = c.loop-slot.invariant in
    let put = c.in_ok-put_slot.ensures in
    let count : length c.put_slot.new.seen ≡ array_vec_len c.loop-slot.seen =
    ap length put.seen ∙ levels_count plan (slot + 1) ∙ sym (ap length known.seen ∙ levels_count plan slot) in
    let passed = c.in_ok-run.ensures in
    let before = c.run.new.self in
    let after = c.pass_steady.new.self in
    let over = c.pass_steady.ensures in
    let of : before.plan ≡ plan = passed.plan ∙ known.plan in
    let start : before.begun ≡ begun_at_start plan = passed.begun ∙ known.start in
    let ran : before.now ≡ slot + 1 = omega (arith, passed.ran, known.run) in
    let text : TextRec = record { text = c.args.text; slot = 0 } in
    let told = subst (λ (s : Slot). Tells text c.put_slot.new.out (changes_before plan s)) (sym ran) (one_slot plan slot _ _ _ known.tells put.tells) in
    let now = c.now-slot.ensures.value in
    record {
      plan = over.plan ∙ of;
      start = over.begun ∙ start;
      run = sym now;
      within = omega (arith, now, over.within);
      seen =
          refilled (array_vec_len c.loop-slot.seen) c.loop-slot.seen.items c.put_slot.new.seen (λ _. array_vec_len c.loop-slot.seen) count
          ∙ put.seen
          ∙ ap (λ (s : Slot). levels_of (serial plan s).nodes) (sym ran)
          ∙ sym (seen_there c.machines_are_serial.ensures.serial plan before after of start over.on over.steady)
          ∙ ap (λ (s : Slot). levels_of (serial plan s).nodes) (sym now);
      tells =
          subst (λ (s : Slot). Tells text c.put_slot.new.out (changes_before plan s)) (sym now)
          (told_there c.machines_are_serial.ensures.serial plan before after of start over.on over.steady text c.put_slot.new.out (omega (arith, ran)) told);
    }
