use Rattle.std.proofs.Common.{inl, refl, sym, ap, ◌∙◌, subst}
use Rattle.source_model.specs.Statement.{line_of}
use Rattle.source_model.specs.Layout.{Sofar}
use Rattle.xs_assembler.specs.Before.{before_of, IsNoted}
use Rattle.xs_assembler.specs.Sofar.{sofar_of}
use Rattle.xs_assembler.proofs.Passing.{noted_fits, after_within}
use Rattle.xs_assembler.proofs.Judging.{has_line, resolves_line}
use Rattle.xs_assembler.proofs.assembler.put_line.Goals as goal

pub note-requires : goal.note-requires
note-requires c = record {
  fits = noted_fits c.args.bytes.now c.args.before.now.layout _ c.requires.before c.requires.little refl;
  front = c.requires.front;
}

pub judge-requires : goal.judge-requires
judge-requires c = record { within = after_within c.args.bytes.now (before_of c.args.whole.now.names.labels c.args.before.now) (line_of c.args.bytes.now) _ c.requires.before c.requires.little refl (ap (λ (s : Sofar). s.layout) c.note.ensures.noted) }

pub returns-in-Some-judge-clause-fault : goal.returns-in-Some-judge-clause-fault
returns-in-Some-judge-clause-fault c =
    let whole = sofar_of c.args.whole.now in
    let before = before_of c.args.whole.now.names.labels c.args.before.now in
    let line = line_of c.args.bytes.now in
    let found = subst (IsNoted before line) c.in-Some.is c.note.ensures.found in
    sym c.in-Some-judge.is
    ∙ c.judge.ensures whole before line refl found
    (resolves_line whole line c.in-Some.noted.statement c.in_ok-resolved.resolved found.3 c.in_ok-resolved.ensures.resolved)
    (ap (λ (s : Sofar). s.layout) c.note.ensures.noted)

pub returns-clause-fault : goal.returns-clause-fault
returns-clause-fault c =
    let whole = sofar_of c.args.whole.now in
    let before = before_of c.args.whole.now.names.labels c.args.before.now in
    let line = line_of c.args.bytes.now in
    let found = subst (IsNoted before line) c.in-Some.is c.note.ensures.found in
    sym c.in_default-judge.is
    ∙ c.judge.ensures whole before line refl found
    (resolves_line whole line c.in-Some.noted.statement c.in_ok-resolved.resolved found.3 c.in_ok-resolved.ensures.resolved)
    (ap (λ (s : Sofar). s.layout) c.note.ensures.noted)

pub returns-clause-output : goal.returns-clause-output
returns-clause-output c = λ _.
    let whole = sofar_of c.args.whole.now in
    let before = before_of c.args.whole.now.names.labels c.args.before.now in
    let line = line_of c.args.bytes.now in
    let found = subst (IsNoted before line) c.in-Some.is c.note.ensures.found in
    has_line whole before line c.in-Some.noted.statement c.in_ok-resolved.resolved c.args.output.now c.put_content.new.output found.3 c.in_ok-resolved.ensures.resolved
    (returns-clause-fault c)
    c.in_ok-put_content.ensures

pub returns-in_err-put_content-clause-memory : goal.returns-in_err-put_content-clause-memory
returns-in_err-put_content-clause-memory c = λ _.
    let whole = sofar_of c.args.whole.now in
    let before = before_of c.args.whole.now.names.labels c.args.before.now in
    let line = line_of c.args.bytes.now in
    let found = subst (IsNoted before line) c.in-Some.is c.note.ensures.found in
    let sound =
    sym c.in_default-judge.is
    ∙ c.judge.ensures whole before line refl found
    (resolves_line whole line c.in-Some.noted.statement c.in_ok-resolved.resolved found.3 c.in_ok-resolved.ensures.resolved)
    (ap (λ (s : Sofar). s.layout) c.note.ensures.noted) in
    record { good_bytes = found.0; kept = inl (sym sound) }
