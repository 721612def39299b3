use Rattle.std.proofs.Common.{ℕ, ◌≤◌, List, length, refl, subst, sym, ◌∙◌}
use Rattle.xs_assembler.proofs.Passing.{output_first, output_front, output_next, output_fault, output_done, output_has, sofar_small, span_small}
use Rattle.xs_assembler.proofs.assembler.read_output.Goals as goal

pub put_line-requires : goal.put_line-requires
put_line-requires c = record {
  whole = c.requires.within;
  before = sofar_small _ _ _ c.requires.small c.loop-line.invariant.base;
  front = output_front _ _ _ c.next_line.new.self c.in-Some.line _ _ _ c.loop-line.invariant
      (record {
        lines = c.in-Some.ensures.line;
        read = refl;
        begins = c.in-Some.ensures.begins;
        ordered = c.in-Some.ensures.ordered;
        passed = c.in-Some.ensures.passed;
        progress = c.in-Some.ensures.progress;
        same_text = c.in-Some.ensures.same_text;
        within = c.in-Some.ensures.within;
      });
  little = span_small c.args.text.now c.in-Some.line.from c.in-Some.line.to c.requires.small (subst (λ (t : List ℕ). c.in-Some.line.to ≤ length t) c.loop-line.invariant.base.of_text c.in-Some.ensures.in_text);
}

pub loop-line-init : goal.loop-line-init
loop-line-init c = rw (c.new-lines.ensures, c.nothing-before.ensures c.args.whole.now.names.labels) (output_first _ _ _ c.requires.whole c.new-output.ensures.code c.new-output.ensures.data_bytes c.new-output.ensures.constant_bytes)

pub loop-line-preserved : goal.loop-line-preserved
loop-line-preserved c =
    output_next _ _ _ _ c.in-Some.line _ _ _ _ _ c.loop-line.invariant
    (record {
      lines = c.in-Some.ensures.line;
      read = refl;
      begins = c.in-Some.ensures.begins;
      ordered = c.in-Some.ensures.ordered;
      passed = c.in-Some.ensures.passed;
      progress = c.in-Some.ensures.progress;
      same_text = c.in-Some.ensures.same_text;
      within = c.in-Some.ensures.within;
    })
    (c.in-Some.ensures.counted ∙ c.in-Some.ensures.numbered)
    (sym c.in_ok-kind.ensures.fault ∙ c.in_default-2.is)
    c.in_ok-kind.ensures.noted
    (c.in_ok-kind.ensures.output c.in_default-2.is)

pub returns-in-Some-2-clause-fault : goal.returns-in-Some-2-clause-fault
returns-in-Some-2-clause-fault c =
    output_fault _ _ _ c.next_line.new.self c.in-Some.line _ _ _ _ c.loop-line.invariant
    (record {
      lines = c.in-Some.ensures.line;
      read = refl;
      begins = c.in-Some.ensures.begins;
      ordered = c.in-Some.ensures.ordered;
      passed = c.in-Some.ensures.passed;
      progress = c.in-Some.ensures.progress;
      same_text = c.in-Some.ensures.same_text;
      within = c.in-Some.ensures.within;
    })
    c.in-Some.ensures.numbered
    (sym c.in_ok-kind.ensures.fault ∙ c.in-Some-2.is)

pub returns-clause-ok : goal.returns-clause-ok
returns-clause-ok c = output_done _ _ _ _ _ c.loop-line.invariant (c.in_default.ensures.end.0 refl)

pub returns-clause-output : goal.returns-clause-output
returns-clause-output c = output_has _ _ _ _ _ c.loop-line.invariant (c.in_default.ensures.end.0 refl)
