use Rattle.std.proofs.Common.{◌∙◌}
use Rattle.issue_model.specs.declared.TheConstants.{REGISTERS}
use Rattle.issue_model.specs.Issues.{registers_text, pc_text}
use Rattle.look_words.proofs.Appended.{behind}
use Rattle.issue_text.proofs.registers.append_thread.Goals as goal

pub returns : goal.returns
returns c =
    let a = c.args in
    let p = a.pair.now in
    c.in_ok-append_pc.ensures
    ∙ behind c.append_registers.new.out a.out.now (registers_text p.k a.done p.j p.before.now p.after.now REGISTERS) (pc_text p.k p.j p.before.now.pc p.after.now.pc) c.in_ok-append_registers.ensures
