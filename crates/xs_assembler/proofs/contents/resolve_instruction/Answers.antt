use Rattle.std.proofs.Common.{◌≡◌, Option, option_map, subst}
use Rattle.xs_assembler.specs.declared.contents.Found.{Found}
use Rattle.xs_assembler.specs.Contents.{found_in, found_of}
use Rattle.source_model.specs.Operands.{operands_of, amounts_of}
use Rattle.xs_text.specs.Tokens.{tokens_of}
use Rattle.xs_assembler.specs.Sofar.{sofar_of}
use Rattle.xs_assembler.proofs.Found.{instruction_made, instruction_past}
use Rattle.xs_assembler.proofs.contents.resolve_instruction.Goals as goal

pub returns-in-Some-build-clause-instruction : goal.returns-in-Some-build-clause-instruction
returns-in-Some-build-clause-instruction c =
    instruction_made (sofar_of c.args.whole.now) c.args.row (amounts_of c.args.row (operands_of (tokens_of c.args.text.now))) c.in-Some.found c.deref.result.now c.in-Some-build.instruction (subst (λ (o : Option Found). option_map found_of o ≡ found_in (sofar_of c.args.whole.now) (amounts_of c.args.row (operands_of (tokens_of c.args.text.now)))) c.in-Some.is c.in_ok-found.ensures.values) c.deref.ensures.value c.in-Some-build.ensures.value

pub returns-clause-instruction : goal.returns-clause-instruction
returns-clause-instruction c =
    instruction_past (sofar_of c.args.whole.now) c.args.row (amounts_of c.args.row (operands_of (tokens_of c.args.text.now))) c.in-Some.found c.deref.result.now (subst (λ (o : Option Found). option_map found_of o ≡ found_in (sofar_of c.args.whole.now) (amounts_of c.args.row (operands_of (tokens_of c.args.text.now)))) c.in-Some.is c.in_ok-found.ensures.values) c.deref.ensures.value c.in-None.ensures.value
