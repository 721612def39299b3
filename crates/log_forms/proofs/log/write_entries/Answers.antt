use Rattle.std.proofs.Common.{List, [], ◌++◌, take}
use Rattle.std.proofs.lemmas.List.{drop_all}
use Rattle.xs_base.specs.declared.entry.Entry.{Entry}
use Rattle.byte_forms.specs.Forms.{Form, write_chain}
use Rattle.byte_forms.proofs.Lists.{writes_all}
use Rattle.log_forms.specs.Entries.{any_entry}
use Rattle.log_forms.proofs.Writes.{writes_more}
use Rattle.log_forms.proofs.log.write_entries.Goals as goal

pub loop-e-preserved : goal.loop-e-preserved
loop-e-preserved c =
    writes_more c.loop-e.out c.write_entry.new.out c.args.entries.now c.loop-e.e-index _ _ c.loop-e-test.true c.in_ok-write_entry.ensures.value c.loop-e.invariant

pub returns : goal.returns
returns c =
    let form : List Entry → Form Entry = λ before. any_entry in
    let xs = c.args.entries.now in
    let i = c.loop-e.e-index in
    let so_far = rw (drop_all i xs c.loop-e-test.false) at c.loop-e.invariant in
    record { value = writes_all form c.loop-e.out (take i xs) (c.args.out.now ++ write_chain form [] xs) so_far }
