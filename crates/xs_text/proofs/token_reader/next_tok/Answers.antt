use Rattle.std.proofs.Common.{◌≡◌, ◌+◌, [], drop, ap, ◌∙◌, refl, arith}
use Rattle.std.specs.List.{slice_range, prefix_len}
use Rattle.xs_text.specs.Bytes.{is_blank}
use Rattle.xs_text.specs.Tokens.{tokens_of}
use Rattle.xs_text.proofs.FirstToken.{IsFirst, first_is, tokens_of-word, blanks_end, blanks_first}
use Rattle.std.proofs.lemmas.List.{take_rest}
use Rattle.xs_text.proofs.token_reader.next_tok.Goals as goal

first : (c : goal.After-kind_of) → IsFirst c.args.text.now c.args.at c.args.line.to (c.args.at + c.blank_length-blanks.result) (c.args.at + c.blank_length-blanks.result + c.token_length-length.result) c.kind_of.result
first c = first_is _ _ _ _ _ _ c.requires.to c.requires.in_text c.blank_length-blanks.ensures.within c.blank_length-blanks.ensures.length (c.token_length-length.ensures.some (omega arith)) c.token_length-length.ensures.within c.kind_of.ensures

pub token_length-length-requires : goal.token_length-length-requires
token_length-length-requires c =
    let left = slice_range c.args.text.now c.args.at c.args.line.to in
    ap (λ l. prefix_len is_blank l) (take_rest left c.blank_length-blanks.result)
    ∙ (ap (λ n. prefix_len is_blank (drop n left)) c.blank_length-blanks.ensures.length ∙ blanks_end left)

pub returns-then-length-eq0-clause-none : goal.returns-then-length-eq0-clause-none
returns-then-length-eq0-clause-none c =
    let none : tokens_of (slice_range c.args.text.now c.args.at c.args.line.to) ≡ [] =
    tokens_of-word _ _ _ _ c.requires.to c.requires.in_text c.blank_length-blanks.ensures.length ∙ c.token_length-length.ensures.none c.if-length-eq0.true in
    (λ _. none, λ _. refl)

pub returns-clause-none : goal.returns-clause-none
returns-clause-none c = let h = (first c).token in (λ e. cc, λ e. cc)

pub returns-clause-token : goal.returns-clause-token
returns-clause-token c = (first c).token

pub returns-clause-well_formed : goal.returns-clause-well_formed
returns-clause-well_formed c = (first c).form

pub returns-clause-past_blanks : goal.returns-clause-past_blanks
returns-clause-past_blanks c = blanks_first _ _ _ _ c.requires.to c.requires.in_text c.blank_length-blanks.ensures.within c.blank_length-blanks.ensures.length
