use Rattle.std.proofs.Common.{◌≡◌, ◌≤◌, ◌+◌, length, drop, get_or, ap, sym, ◌∙◌, arith, rules}
use Rattle.xs_text.specs.Tokens.{tail_length}
use Rattle.xs_text.proofs.FirstToken.{tokens_of-nothing, tokens_of-comment, tokens_of-token, some_bytes, begins_comment-rest, tail_length-rest, token_fits, none_begins, comment_begins, whole_name}
use Rattle.std.proofs.lemmas.Bool.Decides.{nat_tests}
use Rattle.xs_text.proofs.token_reader.token_length.Goals as goal

pub returns-then-is_empty-clause-none : goal.returns-then-is_empty-clause-none
returns-then-is_empty-clause-none c = λ _. tokens_of-nothing _ (grind (arith, nat_tests))

pub returns-then-begins_comment-clause-none : goal.returns-then-begins_comment-clause-none
returns-then-begins_comment-clause-none c = λ _.
    tokens_of-comment _ (some_bytes _ _ c.is_empty.ensures c.if-is_empty.false)
    (sym (c.begins_comment.ensures ∙ begins_comment-rest (get_or c.args.bytes.now 0 0) c.args.bytes.now) ∙ c.if-begins_comment.true)

length_is : (c : goal.After-tail_length) → c.tail_length.result ≡ tail_length (get_or c.args.bytes.now 0 0) (drop 1 c.args.bytes.now)
length_is c = c.tail_length.ensures ∙ tail_length-rest (get_or c.args.bytes.now 0 0) c.args.bytes.now

within : (c : goal.After-tail_length) → 1 + c.tail_length.result ≤ length c.args.bytes.now
within c = omega (arith, length_is c, token_fits c.args.bytes.now (get_or c.args.bytes.now 0 0) (some_bytes _ _ c.is_empty.ensures c.if-is_empty.false))

pub overflow_add-result : goal.overflow_add-result
overflow_add-result c = let h = within c in search rules

pub returns-clause-within : goal.returns-clause-within
returns-clause-within c = within c

pub returns-clause-some : goal.returns-clause-some
returns-clause-some c = λ _.
    tokens_of-token _ _ (some_bytes _ _ c.is_empty.ensures c.if-is_empty.false) c.requires
    (sym (c.begins_comment.ensures ∙ begins_comment-rest (get_or c.args.bytes.now 0 0) c.args.bytes.now) ∙ c.if-begins_comment.false)
    (ap (λ n. 1 + n) (length_is c))

pub returns-then-is_empty-clause-whole : goal.returns-then-is_empty-clause-whole
returns-then-is_empty-clause-whole c = none_begins _ (grind (arith, nat_tests))

pub returns-then-begins_comment-clause-whole : goal.returns-then-begins_comment-clause-whole
returns-then-begins_comment-clause-whole c =
    comment_begins _ (sym (c.begins_comment.ensures ∙ begins_comment-rest (get_or c.args.bytes.now 0 0) c.args.bytes.now) ∙ c.if-begins_comment.true)

pub returns-clause-whole : goal.returns-clause-whole
returns-clause-whole c = whole_name _ _ (ap (λ n. 1 + n) (length_is c))
