use Rattle.std.proofs.Common.{ℕ, ◌≤◌, List, length, refl, subst, ◌∙◌}
use Rattle.xs_assembler.proofs.Passing.{whole_next, whole_done, sofar_small, span_small}
use Rattle.xs_assembler.proofs.assembler.read_whole.Goals as goal

pub note_line-requires : goal.note_line-requires
note_line-requires c = record {
  before = sofar_small _ _ _ c.requires c.loop-line.invariant.whole.base;
  little = span_small c.args.text.now c.in-Some.line.from c.in-Some.line.to c.requires (subst (λ (t : List ℕ). c.in-Some.line.to ≤ length t) c.loop-line.invariant.whole.base.of_text c.in-Some.ensures.in_text);
}

pub loop-line-preserved : goal.loop-line-preserved
loop-line-preserved c = record {
  whole =
      whole_next _ _ _ c.in-Some.line _ _ _ c.loop-line.invariant.whole
      (record {
        lines = c.in-Some.ensures.line;
        read = refl;
        begins = c.in-Some.ensures.begins;
        ordered = c.in-Some.ensures.ordered;
        passed = c.in-Some.ensures.passed;
        progress = c.in-Some.ensures.progress;
        same_text = c.in-Some.ensures.same_text;
        within = c.in-Some.ensures.within;
      })
      c.in_ok-note_line.ensures.noted;
  keyed = c.in_ok-note_line.ensures.keyed ∙ c.loop-line.invariant.keyed;
}

pub returns-clause-value : goal.returns-clause-value
returns-clause-value c = whole_done _ _ _ c.loop-line.invariant.whole (c.in_default.ensures.end.0 refl)

pub returns-clause-within : goal.returns-clause-within
returns-clause-within c = sofar_small _ _ _ c.requires c.loop-line.invariant.whole.base
