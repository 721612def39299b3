use Rattle.std.proofs.Common.{sym, ap, ◌∙◌, subst, arith}
use Rattle.xs_instructions.specs.Image.{IsImage}
use Rattle.source_model.specs.Source.{bytes_together}
use Rattle.xs_assembler.specs.Sofar.{sofar_of}
use Rattle.xs_assembler.proofs.Labelling.{addresses_small, cp_small}
use Rattle.xs_assembler.proofs.Outcome.{parts_are}
use Rattle.xs_assembler.proofs.assembler.make_image.Goals as goal

pub symbols-symbols-requires : goal.symbols-symbols-requires
symbols-symbols-requires c = record {
  within = c.requires.within;
  addresses = addresses_small _ c.requires.kept;
}

pub overflow_cast-cp_at : goal.overflow_cast-cp_at
overflow_cast-cp_at c = let h = cp_small _ c.requires.kept in omega (arith, h, c.section_start-cp_at.ensures.value)

pub of-requires : goal.of-requires
of-requires c = record {
  parts =
      subst IsImage
      (sym (parts_are (sofar_of c.args.whole) c.args.output c.in_ok-bytes.bytes.items c.section_start-cp_at.result c.symbols-symbols.result.labels
      (c.in_ok-bytes.ensures ∙ ap (λ k. bytes_together c.args.output.data_bytes.items k) c.deref.ensures.value)
      c.section_start-cp_at.ensures.value
      c.symbols-symbols.ensures.labels))
      c.requires.kept;
}

pub returns : goal.returns
returns c =
    c.of.ensures.value
    ∙ parts_are (sofar_of c.args.whole) c.args.output c.in_ok-bytes.bytes.items c.section_start-cp_at.result c.symbols-symbols.result.labels
    (c.in_ok-bytes.ensures ∙ ap (λ k. bytes_together c.args.output.data_bytes.items k) c.deref.ensures.value)
    c.section_start-cp_at.ensures.value
    c.symbols-symbols.ensures.labels
