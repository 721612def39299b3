use Rattle.std.proofs.Common.{ℕ, List, sym, subst, arith, rules}
use Rattle.std.specs.List.{AllByRecursion}
use Rattle.std.proofs.lemmas.Grind.{common_steps}
use Rattle.source_laws.specs.TextStandsFor.{TextStandsFor}
use Rattle.xs_printer.proofs.Bytes.{IsByte, all_bytes}
use Rattle.xs_printer.proofs.print_image.Goals as goal

pub returns-clause-text : goal.returns-clause-text
returns-clause-text c = grind (arith, common_steps)

pub returns-clause-reads_back : goal.returns-clause-reads_back
returns-clause-reads_back c =
    let image = c.args.image.now in
    let bytes : AllByRecursion IsByte image.bytes = subst (AllByRecursion IsByte) c.bytes-bytes.ensures.value (all_bytes c.bytes-bytes.result.now (search rules)) in
    let P : List ℕ → Type 0 = λ t. TextStandsFor t image in
    subst P (sym (returns-clause-text c)) (c.canonical_is_read_back.ensures image c.bytes-bytes.ensures.image bytes)
