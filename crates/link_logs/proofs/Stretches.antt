-- The entries of one stretch of slots and of the next, how many there are, and how many tokens and credits are among them.
use Rattle.std.proofs.Common.{◌≡◌, ℕ, zero, suc, ◌+◌, ◌*◌, ◌-◌, ◌<◌, ◌^◌, ◌≤◌, Bool, true, false, List, ◌++◌, length, refl, sym, ap, ◌∙◌, arith, not, length-append}
use Rattle.std.specs.Prelude.{filter}
use Rattle.std.proofs.lemmas.List.{append-nil, append_assoc}
use Rattle.std.proofs.lemmas.List.Elements.{filter-append}
use Rattle.std.proofs.lemmas.List.Filters.{length-filter_both}
use Rattle.xs_base.specs.Numbers.{Slot}
use Rattle.xs_base.specs.declared.entry.Entry.{Entry}
use Rattle.link_logs.specs.Entries.{entries_over, between, is_token, is_credit, tokens_in, credits_in}
use Rattle.link_logs.specs.Logs.{IsWhole}

-- ---- How many tokens and credits

tokens_on : (xs ys : List Entry) → tokens_in (xs ++ ys) ≡ tokens_in xs + tokens_in ys
tokens_on xs ys =
    let test = λ (e : Entry). is_token e.what in
    ap (length {A = Entry}) (filter-append test xs ys) ∙ length-append (filter test xs) (filter test ys)

credits_on : (xs ys : List Entry) → credits_in (xs ++ ys) ≡ credits_in xs + credits_in ys
credits_on xs ys =
    let test = λ (e : Entry). is_credit e.what in
    ap (length {A = Entry}) (filter-append test xs ys) ∙ length-append (filter test xs) (filter test ys)

either_way : (b : Bool) → b ≡ not (not b)
either_way true = refl
either_way false = refl

-- each entry is one of the two
all_counted : (es : List Entry) → tokens_in es + credits_in es ≡ length es
all_counted es = length-filter_both (λ (e : Entry). is_token e.what) (λ (e : Entry). is_credit e.what) (λ (e : Entry). either_way (is_credit e.what)) es

module _ (at : Slot → List Entry) where
  -- ---- One stretch and the next

  over_same : (from m n : ℕ) → m ≡ n → entries_over at from m ≡ entries_over at from n
  over_same from m n e = ap (entries_over at from) e

  over_on : (from m n k mid : ℕ) → k ≡ m + n → mid ≡ from + m → entries_over at from m ++ entries_over at mid n ≡ entries_over at from k
  over_on from m zero k mid e f = append-nil (entries_over at from m) ∙ over_same from m k (omega (arith, e))
  over_on from m (suc n) zero mid e f = absurd (omega (arith, e))
  over_on from m (suc n) (suc k) mid e f =
      let same : mid + n ≡ from + k = omega (arith, e, f) in
      sym (append_assoc (entries_over at from m) (entries_over at mid n) (at (mid + n)))
      ∙ (λ i. over_on from m n k mid (omega (arith, e)) f i ++ at (same i))

  between_on : (from mid to : Slot) → from ≤ mid → mid ≤ to → between at from mid ++ between at mid to ≡ between at from to
  between_on from mid to h k = over_on from (mid - from) (to - mid) (to - from) mid (omega (arith, h, k)) (omega (arith, h))

  -- ---- How many entries, where each slot has two at most

  module _ (few : (slot : Slot) → length (at slot) ≤ 2) where
    over_few : (from n : ℕ) → length (entries_over at from n) ≤ 2 * n
    over_few from zero = omega arith
    over_few from (suc n) = omega (arith, length-append (entries_over at from n) (at (from + n)), over_few from n, few (from + n))

    pub between_few : (from to : Slot) → length (between at from to) ≤ 2 * (to - from)
    between_few from to = over_few from (to - from)

    -- so the counts stay small
    pub counts_fit : (to : Slot) → to < 2 ^ 32 → tokens_in (between at 0 to) + credits_in (between at 0 to) < 2 ^ 33
    counts_fit to small = omega (arith, all_counted (between at 0 to), between_few 0 to, small)

  -- ---- A log goes on by the entries of some more slots

  module _ {base published : Slot} {entries : List Entry} {tokens credits : ℕ} (is : IsWhole at base published entries tokens credits) (upto : Slot) (on : published ≤ upto)
      (more : List Entry) (own : more ≡ between at published upto) where
    all : between at 0 published ++ more ≡ between at 0 upto
    all = ap (λ (es : List Entry). between at 0 published ++ es) own ∙ between_on 0 published upto (omega arith) on

    pub tokens_go_on : (n : ℕ) → n ≡ tokens_in more → tokens + n ≡ tokens_in (between at 0 upto)
    tokens_go_on n count = (λ i. is.all_tokens i + count i) ∙ sym (tokens_on (between at 0 published) more) ∙ ap tokens_in all

    pub credits_go_on : (n : ℕ) → n ≡ credits_in more → credits + n ≡ credits_in (between at 0 upto)
    credits_go_on n count = (λ i. is.all_credits i + count i) ∙ sym (credits_on (between at 0 published) more) ∙ ap credits_in all

    pub entries_go_on : entries ++ more ≡ between at base upto
    entries_go_on = (λ i. is.own i ++ own i) ∙ between_on base published upto is.on on
