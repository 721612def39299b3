-- A slot in which nothing arrives.
use Rattle.std.proofs.Common.{ℕ, ◌≡◌, ◌+◌, ◌<◌, ◌≤◌, ◌⊎◌, inl, inr, Bool, false, Option, Some, None, List, [], ◌∷◌, get_or, length, refl, ap, arith}
use Rattle.std.specs.Prelude.{slice_index_or}
use Rattle.std.proofs.lemmas.Bool.{cases_lt}
use Rattle.std.proofs.lemmas.List.{get_or_past}
use Rattle.xs_base.specs.declared.token.Token.{Token}
use Rattle.xs_model.specs.Record.{LinkRec}
use Rattle.net_model.specs.Links.{links_after_arrivals, link_after_arrivals}

default_at : {A : Type 0} (xs : List A) (n : ℕ) (d : A) → length xs ≡ n → ((e : ℕ) → e < n → get_or xs e d ≡ d) → (e : ℕ) → (e < n) ⊎ (n ≤ e) → get_or xs e d ≡ d
default_at xs n d long below e (inl h) = below e h
default_at xs n d long below e (inr h) = get_or_past xs e d (omega (arith, long, h))

-- where all elements of a list are its default, so is what stands past its end
pub all_default : {A : Type 0} (xs : List A) (n : ℕ) (d : A) → length xs ≡ n → ((e : ℕ) → e < n → get_or xs e d ≡ d) → (e : ℕ) → get_or xs e d ≡ d
all_default xs n d long below e = default_at xs n d long below e (cases_lt e n)

link_stays : (slot : ℕ) (link : Option LinkRec) → link_after_arrivals slot None false link ≡ link
link_stays slot None = refl
link_stays slot (Some link) = refl

-- the link ends stay as they are
pub links_stay : (slot end : ℕ) (tokens : List (Option Token)) (credits : List Bool) (links : List (Option LinkRec)) → ((e : ℕ) → slice_index_or tokens e None ≡ None) → ((e : ℕ) → slice_index_or credits e false ≡ false) → links_after_arrivals slot tokens credits end links ≡ links
unfolding links_after_arrivals
links_stay slot end tokens credits [] none uncredited = refl
links_stay slot end tokens credits (link ∷ links) none uncredited =
    rw (none end, uncredited end, links_stay slot (end + 1) tokens credits links none uncredited) (ap (λ l. l ∷ links) (link_stays slot link))
