-- A text that grows by a piece of what is to be written.
use Rattle.std.proofs.Common.{◌≡◌, ℕ, List, [], ◌++◌, sym, ap, ◌∙◌, append_assoc, append-nil}

pub one_more : (so_far after piece left rest all : List ℕ) → after ≡ so_far ++ piece → left ≡ piece ++ rest → so_far ++ left ≡ all → after ++ rest ≡ all
one_more so_far after piece left rest all added split h =
    ap (λ l. l ++ rest) added ∙ (append_assoc so_far piece rest ∙ (ap (λ l. so_far ++ l) (sym split) ∙ h))

-- the same where the piece is put in two parts
pub two_more : (so_far between after p q left rest all : List ℕ) → between ≡ so_far ++ p → after ≡ between ++ q → left ≡ p ++ q ++ rest → so_far ++ left ≡ all → after ++ rest ≡ all
two_more so_far between after p q left rest all first second split h =
    one_more so_far after (p ++ q) left rest all (second ∙ (ap (λ l. l ++ q) first ∙ append_assoc so_far p q)) split h

pub none_left : (so_far left all : List ℕ) → left ≡ [] → so_far ++ left ≡ all → so_far ≡ all
none_left so_far left all e h = sym (append-nil so_far) ∙ (ap (λ l. so_far ++ l) (sym e) ∙ h)

-- the same where the parts of what is left stand the other way
pub pair_more : (so_far between after p q left rest all : List ℕ) → between ≡ so_far ++ p → after ≡ between ++ q → left ≡ p ++ (q ++ rest) → so_far ++ left ≡ all → after ++ rest ≡ all
pair_more so_far between after p q left rest all first second split h =
    two_more so_far between after p q left rest all first second (split ∙ sym (append_assoc p q rest)) h
