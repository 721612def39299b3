-- Entries that are counted one after another.
use Rattle.std.proofs.Common.{◌≡◌, ℕ, ◌+◌, ◌<◌, ◌≤◌, Bool, cond, List, [], ◌∷◌, ◌++◌, length, Option, Some, None, refl, ap, ◌∙◌, arith}
use Rattle.std.specs.List.{count_by, sum_by, last_or}
use Rattle.std.proofs.lemmas.List.{length-append}
use Rattle.std.proofs.lemmas.List.Sums.{sum_by-append, sum_by-cons, count_by-le-length}
use Rattle.xs_base.specs.declared.token.Token.TheVariants.{Byte, Ctrl}
use Rattle.xs_base.specs.declared.entry.Entry.{Entry}
use Rattle.xs_base.specs.declared.entry.What.{What}
use Rattle.xs_base.specs.declared.entry.What.TheVariants as what
use Rattle.log_forms.specs.declared.counts.Counts.{Counts}
use Rattle.log_forms.specs.declared.entry.Before.{Before}
use Rattle.snap_parts.specs.InFlight.{is_token, is_credit}
use Rattle.log_forms.specs.Entries.{kind_of, counts_of, counts_with, before_of}

count_push : {X : Type 0} (p : X → Bool) (xs : List X) (x : X) → count_by p (xs ++ x ∷ []) ≡ count_by p xs + cond (p x) 1 0
count_push {X} p xs x =
    let f : X → ℕ = λ y. cond (p y) 1 0 in
    let one : sum_by f (x ∷ []) ≡ f x = sum_by-cons f x [] ∙ omega arith in
    sum_by-append f xs (x ∷ []) ∙ ap (λ (n : ℕ). count_by p xs + n) one

-- the counts with one more entry
pub counts_push : (es : List Entry) (e : Entry)
    → counts_of (es ++ e ∷ []) ≡ record { tokens = (counts_of es).tokens + cond (is_token e.what) 1 0; credits = (counts_of es).credits + cond (is_credit e.what) 1 0 }
counts_push es e = rw (count_push (λ (f : Entry). is_token f.what) es e, count_push (λ (f : Entry). is_credit f.what) es e) refl

abbrev counts_plus : Counts → What → Counts
counts_plus counts w = record { tokens = counts.tokens + cond (is_token w) 1 0; credits = counts.credits + cond (is_credit w) 1 0 }

with_what : (counts : Counts) (w : What) → kind_of w < 3 → counts_plus counts w ≡ counts_with counts (kind_of w)
with_what counts (what.Token (Byte b)) lt = ap (λ (n : ℕ). record { tokens = counts.tokens + 1; credits = n }) (omega arith)
with_what counts (what.Token (Ctrl c)) lt = ap (λ (n : ℕ). record { tokens = counts.tokens + 1; credits = n }) (omega arith)
with_what counts what.Credit lt = ap (λ (n : ℕ). record { tokens = n; credits = counts.credits + 1 }) (omega arith)
with_what counts (what.Level n) lt = absurd (omega (arith, lt))

-- the counts with one more token or credit, by its kind
pub counts_more : (es : List Entry) (e : Entry) → kind_of e.what < 3 → counts_of (es ++ e ∷ []) ≡ counts_with (counts_of es) (kind_of e.what)
counts_more es e lt = counts_push es e ∙ with_what (counts_of es) e.what lt

pub last_push : {X : Type 0} (o : Option X) (xs : List X) (x : X) → last_or o (xs ++ x ∷ []) ≡ Some x
last_push o [] x = refl
last_push o (y ∷ ys) x = last_push (Some y) ys x

pub length_push : {X : Type 0} (xs : List X) (x : X) → length (xs ++ x ∷ []) ≡ length xs + 1
length_push xs x = omega (arith, length-append xs (x ∷ []))

-- what the entry after one more is told
pub before_more : (b : Before) (es : List Entry) (e : Entry) (counts : Counts) → b ≡ before_of es → kind_of e.what < 3 → counts ≡ counts_with b.counts (kind_of e.what)
    → ◌≡◌ {A = Before} (record { place = b.place + 1; last = Some e; counts = counts }) (before_of (es ++ e ∷ []))
before_more b es e counts h lt k = rw (k, h, counts_more es e lt, last_push None es e, length_push es e) refl

-- no more are counted than there are
pub counts_few : (es : List Entry) → ((counts_of es).tokens ≤ length es) × ((counts_of es).credits ≤ length es)
counts_few es = (count_by-le-length (λ (e : Entry). is_token e.what) es, count_by-le-length (λ (e : Entry). is_credit e.what) es)
