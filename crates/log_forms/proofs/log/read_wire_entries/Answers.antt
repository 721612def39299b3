use Rattle.std.proofs.Common.{◌≡◌, None, List, [], ◌∷◌, ◌++◌, sym, ap, ◌∙◌}
use Rattle.std.specs.List.{last_or}
use Rattle.std.proofs.lemmas.Result.{err_from_is_err_and}
use Rattle.xs_base.specs.declared.entry.Entry.{Entry}
use Rattle.byte_forms.specs.Forms.{Form}
use Rattle.byte_forms.proofs.Lists.{reads_on, refuses_all, reads_all}
use Rattle.log_forms.specs.Entries.{wire_entry}
use Rattle.log_forms.proofs.Pushes.{last_push}
use Rattle.log_forms.proofs.log.read_wire_entries.Goals as goal

pub returns-in_err-e : goal.returns-in_err-e
returns-in_err-e c =
    let p = err_from_is_err_and c.from_residual.result c.from_residual.ensures.1 in
    let form : List Entry → Form Entry = λ before. wire_entry c.args.slot c.args.delay c.args.width (last_or None before) in
    let here = rw c.loop.invariant.last at c.in_err-e.ensures.value in
    let refused = refuses_all form c.args.count c.loop.counter c.loop.entries.entries c.loop.from c.args.from.now
    c.loop.invariant.so_far c.in_err-e.field-0.0 c.loop-test.true here in
    rw (p.1, p.2) (record { value = refused })

pub loop-preserved : goal.loop-preserved
loop-preserved c =
    let form : List Entry → Form Entry = λ before. wire_entry c.args.slot c.args.delay c.args.width (last_or None before) in
    let e = c.in_ok-e.e in
    let items : c.add.new.self.entries ≡ c.loop.entries.entries ++ e ∷ [] = c.add.ensures.entries ∙ ap (λ (xs : List Entry). xs ++ e ∷ []) c.in_ok-reserve.ensures.entries in
    let here = rw c.loop.invariant.last at c.in_ok-e.ensures.value in
    record {
      last = rw items (sym (last_push None c.loop.entries.entries e));
      so_far = rw items (reads_on form c.args.count c.loop.counter c.loop.entries.entries c.loop.from c.args.from.now c.loop.invariant.so_far e c.read_wire_entry.new.from c.loop-test.true here);
    }

pub returns : goal.returns
returns c =
    let form : List Entry → Form Entry = λ before. wire_entry c.args.slot c.args.delay c.args.width (last_or None before) in
    record { value = reads_all form c.args.count c.loop.counter c.loop.entries.entries c.loop.from c.args.from.now c.loop.invariant.so_far c.loop-test.false }
