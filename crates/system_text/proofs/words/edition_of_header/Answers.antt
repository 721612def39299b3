use Rattle.std.proofs.Common.{sym, ◌∙◌}
use Rattle.system_text.proofs.Headers.{two_words, more_words}
use Rattle.system_text.proofs.words.edition_of_header.Goals as goal

pub returns-then-not-is_empty : goal.returns-then-not-is_empty
returns-then-not-is_empty c = sym (more_words _ _ _ _ _ c.in_ok-name.ensures c.in_ok-edition.ensures (sym c.is_empty.ensures ∙ c.if-not-is_empty.true))

pub returns-then-same_name : goal.returns-then-same_name
returns-then-same_name c =
    c.edition_of_word.ensures
    ∙ sym (two_words _ _ _ _ _ _ c.in_ok-name.ensures c.in_ok-edition.ensures (sym c.is_empty.ensures ∙ c.if-not-is_empty.false) (sym c.same_name.ensures.value ∙ c.if-same_name.true))

pub returns-else-same_name : goal.returns-else-same_name
returns-else-same_name c =
    sym (two_words _ _ _ _ _ _ c.in_ok-name.ensures c.in_ok-edition.ensures (sym c.is_empty.ensures ∙ c.if-not-is_empty.false) (sym c.same_name.ensures.value ∙ c.if-same_name.false))
