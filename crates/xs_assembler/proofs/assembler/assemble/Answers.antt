use Rattle.xs_assembler.proofs.Outcome.{stands, kept, refuses, fault_so, taken_so, refused_so}
use Rattle.xs_assembler.proofs.assembler.assemble.Goals as goal

pub make_image-requires : goal.make_image-requires
make_image-requires c = record {
  within = c.in_ok-whole.ensures.within;
  kept = kept c.args.text.now _ c.in_ok-output.output c.in_ok-whole.ensures.value c.in_ok-output.ensures.ok c.in_ok-output.ensures.output c.sources_make_images.ensures.of_lines;
}

pub returns-in_err-output-clause-exact : goal.returns-in_err-output-clause-exact
returns-in_err-output-clause-exact c =
    refuses c.args.text.now _ c.from_residual-in_err-output.result c.in_err-output.field-0.0 c.in_ok-whole.ensures.value c.in_err-output.ensures.fault c.from_residual-in_err-output.ensures.1

pub returns-in_err-output-clause-fault : goal.returns-in_err-output-clause-fault
returns-in_err-output-clause-fault c =
    fault_so _ c.from_residual-in_err-output.result (refuses c.args.text.now _ c.from_residual-in_err-output.result c.in_err-output.field-0.0 c.in_ok-whole.ensures.value c.in_err-output.ensures.fault c.from_residual-in_err-output.ensures.1)

pub returns-in_err-output-clause-taken : goal.returns-in_err-output-clause-taken
returns-in_err-output-clause-taken c =
    taken_so _ c.from_residual-in_err-output.result (refuses c.args.text.now _ c.from_residual-in_err-output.result c.in_err-output.field-0.0 c.in_ok-whole.ensures.value c.in_err-output.ensures.fault c.from_residual-in_err-output.ensures.1)

pub returns-in_err-output-clause-refused : goal.returns-in_err-output-clause-refused
returns-in_err-output-clause-refused c =
    refused_so _ c.from_residual-in_err-output.result (refuses c.args.text.now _ c.from_residual-in_err-output.result c.in_err-output.field-0.0 c.in_ok-whole.ensures.value c.in_err-output.ensures.fault c.from_residual-in_err-output.ensures.1)

pub returns-clause-exact : goal.returns-clause-exact
returns-clause-exact c = stands c.args.text.now _ c.in_ok-output.output c.in_ok-make_image.field-0 c.in_ok-whole.ensures.value c.in_ok-output.ensures.ok c.in_ok-output.ensures.output c.in_ok-make_image.ensures

pub returns-clause-ok : goal.returns-clause-ok
returns-clause-ok c = stands c.args.text.now _ c.in_ok-output.output c.in_ok-make_image.field-0 c.in_ok-whole.ensures.value c.in_ok-output.ensures.ok c.in_ok-output.ensures.output c.in_ok-make_image.ensures

pub returns-clause-taken : goal.returns-clause-taken
returns-clause-taken c = λ image e.
    let h = stands c.args.text.now _ c.in_ok-output.output c.in_ok-make_image.field-0 c.in_ok-whole.ensures.value c.in_ok-output.ensures.ok c.in_ok-output.ensures.output c.in_ok-make_image.ensures in
    cc

pub returns-clause-refused : goal.returns-clause-refused
returns-clause-refused c = λ line kind e.
    let h = stands c.args.text.now _ c.in_ok-output.output c.in_ok-make_image.field-0 c.in_ok-whole.ensures.value c.in_ok-output.ensures.ok c.in_ok-output.ensures.output c.in_ok-make_image.ensures in
    cc
