use Rattle.std.proofs.Common.{ℕ, ◌≤◌, List, length, refl, subst, sym, arith}
use Rattle.xs_text.specs.Lines.{line_bytes}
use Rattle.source_model.specs.Statement.{line_of}
use Rattle.source_model.specs.Layout as model
use Rattle.xs_assembler.specs.Passes.{AreWithin}
use Rattle.xs_assembler.specs.Sofar.{sofar_of}
use Rattle.xs_assembler.proofs.Passing.{SoFar, sofar_next, sofar_small, span_small}
use Rattle.xs_assembler.proofs.CodeLines.{grows, numbers_next, numbers_done}
use Rattle.xs_assembler.proofs.code_lines.lines_of_code.Goals as goal

pub note_line-requires : goal.note_line-requires
note_line-requires c = record {
  before = sofar_small _ _ _ c.requires c.loop-line.invariant.base;
  little = span_small c.args.text.now c.in-Some.line.from c.in-Some.line.to c.requires (subst (λ (t : List ℕ). c.in-Some.line.to ≤ length t) c.loop-line.invariant.base.of_text c.in-Some.ensures.in_text);
}

pub overflow_sub-sofar : goal.overflow_sub-sofar
overflow_sub-sofar c =
    grows (sofar_of c.loop-line.sofar) (sofar_of c.note_line.new.sofar) (line_of (line_bytes c.args.text.now c.in-Some.line)) c.in_ok-note_line.ensures.noted

pub put_number-requires : goal.put_number-requires
put_number-requires c =
    let within : AreWithin 1125899906842624 c.note_line.new.sofar.layout =
    sofar_small c.args.text.now c.next_line.new.self c.note_line.new.sofar.layout c.requires
    (subst (λ (s : model.Sofar). SoFar c.args.text.now c.next_line.new.self s.layout) (sym c.in_ok-note_line.ensures.noted)
    (sofar_next c.args.text.now _ c.next_line.new.self c.in-Some.line _ _ c.loop-line.invariant.base
    (record {
      lines = c.in-Some.ensures.line;
      read = refl;
      begins = c.in-Some.ensures.begins;
      ordered = c.in-Some.ensures.ordered;
      passed = c.in-Some.ensures.passed;
      progress = c.in-Some.ensures.progress;
      same_text = c.in-Some.ensures.same_text;
      within = c.in-Some.ensures.within;
    }))) in
    omega (arith, within.instructions)

pub loop-line-preserved : goal.loop-line-preserved
loop-line-preserved c =
    numbers_next _ _ _ c.in-Some.line _ _ _ _ _ _ _ c.loop-line.invariant
    (record {
      lines = c.in-Some.ensures.line;
      read = refl;
      begins = c.in-Some.ensures.begins;
      ordered = c.in-Some.ensures.ordered;
      passed = c.in-Some.ensures.passed;
      progress = c.in-Some.ensures.progress;
      same_text = c.in-Some.ensures.same_text;
      within = c.in-Some.ensures.within;
    })
    c.in_ok-note_line.ensures.noted refl c.in-Some.ensures.numbered c.in-Some.ensures.counted c.in_ok-put_number.ensures

pub returns : goal.returns
returns c = numbers_done _ _ _ _ c.loop-line.invariant (c.in_default.ensures.end.0 refl)
