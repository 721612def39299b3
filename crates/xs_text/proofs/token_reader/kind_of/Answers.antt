use Rattle.std.proofs.Common.{◌∙◌, sym, refl}
use Rattle.xs_text.proofs.FirstToken.{begins_as_name, no_name}
use Rattle.xs_text.proofs.token_reader.kind_of.Goals as goal

pub returns-then-is_name_start : goal.returns-then-is_name_start
returns-then-is_name_start c =
    let h = c.requires.whole (begins_as_name _ (sym c.is_name_start.ensures ∙ c.if-is_name_start.true) c.requires.some) in
    rw h refl

pub returns-then-is_number : goal.returns-then-is_number
returns-then-is_number c =
    let h = no_name c.args.bytes.now (sym c.is_name_start.ensures ∙ c.if-is_name_start.false) c.requires.some in
    rw (h, sym c.is_number.ensures ∙ c.if-is_number.true) refl

pub returns-then-is_mark : goal.returns-then-is_mark
returns-then-is_mark c =
    let h = no_name c.args.bytes.now (sym c.is_name_start.ensures ∙ c.if-is_name_start.false) c.requires.some in
    rw (h, sym c.is_number.ensures ∙ c.if-is_number.false, sym c.is_mark.ensures ∙ c.if-is_mark.true) refl

pub returns-else-is_mark : goal.returns-else-is_mark
returns-else-is_mark c =
    let h = no_name c.args.bytes.now (sym c.is_name_start.ensures ∙ c.if-is_name_start.false) c.requires.some in
    rw (h, sym c.is_number.ensures ∙ c.if-is_number.false, sym c.is_mark.ensures ∙ c.if-is_mark.false) refl
