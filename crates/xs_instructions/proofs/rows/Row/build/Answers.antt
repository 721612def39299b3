use Rattle.std.proofs.Common.{◌≡◌, true, refl, sym, ◌∙◌}
use Rattle.xs_instructions.specs.Operands.{made}
use Rattle.xs_instructions.specs.Instr.{value_parts}
use Rattle.xs_instructions.specs.Find.{are_in_range}
use Rattle.xs_instructions.proofs.Made.{made-facts}
use Rattle.xs_instructions.proofs.Kept.{made_of_kept}
use Rattle.xs_instructions.proofs.rows.Row.build.Goals as goal

pub returns-then-are_in_range : goal.returns-then-are_in_range
returns-then-are_in_range c =
    let row = c.args.self in
    let values = c.args.values.now in
    let test : are_in_range (value_parts row) values ≡ true = rw (sym c.parts.ensures.value) (sym c.are_in_range.ensures ∙ c.if-are_in_range.true) in
    let is_made : c.made.result ≡ made row values = c.made.ensures ∙ made_of_kept row values test in
    let facts = made-facts row values test in
    record {
      value = rw (is_made, test) refl;
      in_range = rw is_made facts.0;
      row = rw is_made facts.1;
      values = rw is_made facts.2;
    }
