-- The lowest of what is free, from one number on.
use Rattle.std.proofs.Common.{ℕ, zero, suc, ◌≡◌, ◌+◌, ◌<◌, ◌≤◌, Bool, true, false, not, cond, Option, Some, None, List, [], ◌∷◌, length, get_or, drop, ◌↔◌, refl, ap, sym, ◌∙◌, arith}
use Rattle.std.proofs.lemmas.List.{drop_more, drop_all}
use Rattle.std.proofs.lemmas.Option.{none-some}
use Rattle.std.proofs.lemmas.Bool.{not-true, not_from_false}
use Rattle.xs_model.specs.Free.{lowest_free}

-- one that is taken is passed by
pub lowest_more : {A : Type 0} (taken : A → Bool) (list : List A) (n : ℕ) (d : A) → n < length list → taken (get_or list n d) ≡ true → lowest_free taken (drop n list) n ≡ lowest_free taken (drop (n + 1) list) (n + 1)
unfolding lowest_free
lowest_more taken list n d h is =
    ap (λ l. lowest_free taken l n) (drop_more list n d h) ∙ ap (λ t. cond t (lowest_free taken (drop (n + 1) list) (n + 1)) (Some n)) is

pub lowest_here : {A : Type 0} (taken : A → Bool) (list : List A) (n : ℕ) (d : A) → n < length list → taken (get_or list n d) ≡ false → lowest_free taken (drop n list) n ≡ Some n
unfolding lowest_free
lowest_here taken list n d h is =
    ap (λ l. lowest_free taken l n) (drop_more list n d h) ∙ ap (λ t. cond t (lowest_free taken (drop (n + 1) list) (n + 1)) (Some n)) is

pub lowest_none : {A : Type 0} (taken : A → Bool) (list : List A) (n : ℕ) → length list ≤ n → lowest_free taken (drop n list) n ≡ None
unfolding lowest_free
lowest_none taken list n h = ap (λ l. lowest_free taken l n) (drop_all n list h)

-- where none is free, all are taken, and the other way round
taken_here : {A : Type 0} (taken : A → Bool) (d first : A) (rest : List A) (n : ℕ) (is_taken : Bool) → taken first ≡ is_taken → cond is_taken (lowest_free taken rest (n + 1)) (Some n) ≡ None → (lowest_free taken rest (n + 1) ≡ None → (i : ℕ) → i < length rest → taken (get_or rest i d) ≡ true) → (i : ℕ) → i < suc (length rest) → taken (get_or (first ∷ rest) i d) ≡ true
taken_here taken d first rest n true is none others zero h = is
taken_here taken d first rest n true is none others (suc i) h = others none i (omega arith)
taken_here taken d first rest n false is none others i h = absurd (none-some n (sym none))

all_taken : {A : Type 0} (taken : A → Bool) (d : A) (list : List A) (n : ℕ) → lowest_free taken list n ≡ None → (i : ℕ) → i < length list → taken (get_or list i d) ≡ true
unfolding lowest_free
all_taken taken d [] n none i h = absurd (omega arith)
all_taken taken d (first ∷ rest) n none i h =
    taken_here taken d first rest n (taken first) refl none (all_taken taken d rest (n + 1)) i h

none_free : {A : Type 0} (taken : A → Bool) (d : A) (list : List A) (n : ℕ) → ((i : ℕ) → i < length list → taken (get_or list i d) ≡ true) → lowest_free taken list n ≡ None
unfolding lowest_free
none_free taken d [] n all = refl
none_free taken d (first ∷ rest) n all =
    ap (λ t. cond t (lowest_free taken rest (n + 1)) (Some n)) (all 0 (omega arith)) ∙ none_free taken d rest (n + 1) (λ i h. all (suc i) (omega arith))

pub none_free_exactly : {A : Type 0} (taken : A → Bool) (d : A) (list : List A) (n : ℕ) (result : Option ℕ) → result ≡ lowest_free taken list 0 → length list ≡ n → (result ≡ None) ↔ ((i : ℕ) → i < n → taken (get_or list i d) ≡ true)
none_free_exactly taken d list n result is long =
    (λ none i h. all_taken taken d list 0 (sym is ∙ none) i (omega (arith, long)), λ all. is ∙ none_free taken d list 0 (λ i h. all i (omega (arith, long))))

-- the same of a search for the first that passes a test
pub none_found_exactly : {A : Type 0} (found : A → Bool) (d : A) (list : List A) (n : ℕ) (result : Option ℕ) → result ≡ lowest_free (λ a. not (found a)) list 0 → length list ≡ n → (result ≡ None) ↔ ((i : ℕ) → i < n → found (get_or list i d) ≡ false)
none_found_exactly found d list n result is long =
    let exactly : (result ≡ None) ↔ ((i : ℕ) → i < n → not (found (get_or list i d)) ≡ true) =
    none_free_exactly (λ a. not (found a)) d list n result is long
    in
    (λ none i h. not-true (found (get_or list i d)) (exactly.0 none i h), λ all. exactly.1 (λ i h. not_from_false (found (get_or list i d)) (all i h)))
