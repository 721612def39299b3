-- A row of link ends and its link records, where one of them changes.
use Rattle.std.proofs.Common.{ℕ, zero, suc, ◌≡◌, ◌+◌, ◌≤◌, Bool, true, false, Option, Some, None, List, [], ◌∷◌, ◌++◌, ◌&&◌, cond, ltb, length, get_or, refl, ap, sym, subst, ◌∙◌, arith}
use Rattle.std.specs.Prelude.{slice_set, slice_index, IfSome, All, drop}
use Rattle.std.specs.List.{AllByRecursion}
use Rattle.std.proofs.lemmas.List.{set-get_or}
use Rattle.std.proofs.lemmas.List.Elements.{All-from_recursion}
use Rattle.xs_base.specs.declared.token.Token.{Token}
use Rattle.xs_model.specs.Record.{LinkRec}
use Rattle.net_model.specs.Links.{links_after_arrivals, link_after_arrivals, token_arrives, may_send}
use Rattle.net_model.specs.Switch.{Routes, link_without_first, end_may_send}
use Rattle.link_ends.specs.Counts.{EndCounts, CountsOf}
use Rattle.switch_routes.specs.Rows.{IsCountsOf, AllCountsOf, CreditedBy, SentBy, end_gap, end_gaps, without_first}

pub length-same : (ws : List (Option EndCounts)) (ls : List (Option LinkRec)) → AllCountsOf ws ls → length ws ≡ length ls
length-same [] [] of = refl
length-same [] (l ∷ ls) of = absurd of
length-same (w ∷ ws) [] of = absurd of
length-same (w ∷ ws) (l ∷ ls) of = ap suc (length-same ws ls of.1)

-- what stands in a place of both
pub counts-at : (ws : List (Option EndCounts)) (ls : List (Option LinkRec)) (e : ℕ) → AllCountsOf ws ls → IsCountsOf (get_or ws e None) (get_or ls e None)
counts-at [] [] e of = tt
counts-at [] (l ∷ ls) e of = absurd of
counts-at (w ∷ ws) [] e of = absurd of
counts-at (w ∷ ws) (l ∷ ls) zero of = of.0
counts-at (w ∷ ws) (l ∷ ls) (suc e) of = counts-at ws ls e of.1

pub counts-set : (ws : List (Option EndCounts)) (ls : List (Option LinkRec)) (e : ℕ) (w : Option EndCounts) (l : Option LinkRec) → AllCountsOf ws ls → IsCountsOf w l → AllCountsOf (slice_set ws e w) (slice_set ls e l)
counts-set [] [] e w l of is = tt
counts-set [] (k ∷ ls) e w l of is = absurd of
counts-set (v ∷ ws) [] e w l of is = absurd of
counts-set (v ∷ ws) (k ∷ ls) zero w l of is = (is, of.1)
counts-set (v ∷ ws) (k ∷ ls) (suc e) w l of is = (of.0, counts-set ws ls e w l of.1 is)

-- the gaps stay where a link end's gap stays
pub gaps-set : (ws : List (Option EndCounts)) (e : ℕ) (w : Option EndCounts) → end_gap w ≡ end_gap (get_or ws e None) → end_gaps (slice_set ws e w) ≡ end_gaps ws
gaps-set [] e w same = refl
gaps-set (v ∷ ws) zero w same = ap (λ gap. gap ∷ end_gaps ws) same
gaps-set (v ∷ ws) (suc e) w same = ap (λ gaps. end_gap v ∷ gaps) (gaps-set ws e w same)

pub gap-at : (ws : List (Option EndCounts)) (e : ℕ) → slice_index (end_gaps ws) e ≡ end_gap (get_or ws e None)
gap-at [] e = refl
gap-at (w ∷ ws) zero = refl
gap-at (w ∷ ws) (suc e) = gap-at ws e

-- what holds of each stays so, where one changes to another for which it holds
pub all-set : {X : Type 0} (P : X → Type 0) (xs : List X) (e : ℕ) (x : X) → AllByRecursion P xs → P x → AllByRecursion P (slice_set xs e x)
all-set P [] e x all it = tt
all-set P (y ∷ xs) zero x all it = (it, all.1)
all-set P (y ∷ xs) (suc e) x all it = (all.0, all-set P xs e x all.1 it)

-- what holds of each link record holds in each place, where it holds of none
pub all-at : {X : Type 0} (P : X → Type 0) (xs : List X) (e : ℕ) (d : X) → AllByRecursion P xs → P d → P (get_or xs e d)
all-at P [] e d all it = it
all-at P (x ∷ xs) zero d all it = all.0
all-at P (x ∷ xs) (suc e) d all it = all-at P xs e d all.1 it

is-pop : (w : Option EndCounts) (l : Option LinkRec) → IsCountsOf w l → IsCountsOf (without_first w) (link_without_first l)
is-pop None None of = tt
is-pop None (Some l) of = absurd of
is-pop (Some w) None of = absurd of
is-pop (Some w) (Some l) of = record { buffer = ap (λ (ts : List Token). drop 1 ts) of.buffer; open_tokens = of.open_tokens; last_sent = of.last_sent; rises = of.rises }

-- the first token is taken at one link end
pub counts-pop : (ws : List (Option EndCounts)) (ls : List (Option LinkRec)) (e : ℕ) → AllCountsOf ws ls → AllCountsOf (slice_set ws e (without_first (get_or ws e None))) (slice_set ls e (link_without_first (get_or ls e None)))
counts-pop ws ls e of = counts-set ws ls e _ _ of (is-pop (get_or ws e None) (get_or ls e None) (counts-at ws ls e of))

-- one link end that is there changes, and its link record with it
is-changed : (F : Option LinkRec → Option LinkRec) (v w : EndCounts) (l : Option LinkRec) → ((link : LinkRec) → CountsOf v link → IsCountsOf (Some w) (F (Some link))) → IsCountsOf (Some v) l → IsCountsOf (Some w) (F l)
is-changed F v w None step of = absurd of
is-changed F v w (Some link) step of = step link of

pub change-there : (F : Option LinkRec → Option LinkRec) (ws : List (Option EndCounts)) (ls : List (Option LinkRec)) (e : ℕ) (v w : EndCounts) → get_or ws e None ≡ Some v → ((link : LinkRec) → CountsOf v link → IsCountsOf (Some w) (F (Some link))) → AllCountsOf ws ls → AllCountsOf (slice_set ws e (Some w)) (slice_set ls e (F (get_or ls e None)))
change-there F ws ls e v w there step of =
    counts-set ws ls e (Some w) (F (get_or ls e None)) of (is-changed F v w (get_or ls e None) step (rw there at (counts-at ws ls e of)))

-- where a link end is not there, nothing changes
same-none : (F : Option LinkRec → Option LinkRec) (l : Option LinkRec) → F None ≡ None → IsCountsOf None l → F l ≡ l
same-none F None none of = none
same-none F (Some link) none of = absurd of

pub change-none : (F : Option LinkRec → Option LinkRec) (ws : List (Option EndCounts)) (ls : List (Option LinkRec)) (e : ℕ) → get_or ws e None ≡ None → F None ≡ None → AllCountsOf ws ls → AllCountsOf ws (slice_set ls e (F (get_or ls e None)))
change-none F ws ls e there none of =
    rw (same-none F (get_or ls e None) none (rw there at (counts-at ws ls e of)), set-get_or ls e None) of

-- the link ends below a number after what arrives in a slot
unfoldable pub first_arrivals : ℕ → ℕ → List (Option Token) → List Bool → ℕ → List (Option LinkRec) → List (Option LinkRec)
first_arrivals zero slot tokens credits end links = links
first_arrivals (suc k) slot tokens credits end [] = []
first_arrivals (suc k) slot tokens credits end (link ∷ links) =
    link_after_arrivals slot (get_or tokens end None) (get_or credits end false) link
    ∷ first_arrivals k slot tokens credits (end + 1) links

-- all of them
pub all-arrivals : (n slot : ℕ) (tokens : List (Option Token)) (credits : List Bool) (end : ℕ) (links : List (Option LinkRec)) → length links ≤ n → first_arrivals n slot tokens credits end links ≡ links_after_arrivals slot tokens credits end links
unfolding first_arrivals links_after_arrivals
all-arrivals zero slot tokens credits end [] h = refl
all-arrivals zero slot tokens credits end (link ∷ links) h = absurd (omega arith)
all-arrivals (suc n) slot tokens credits end [] h = refl
all-arrivals (suc n) slot tokens credits end (link ∷ links) h =
    ap (λ rest. link_after_arrivals slot (get_or tokens end None) (get_or credits end false) link ∷ rest) (all-arrivals n slot tokens credits (end + 1) links (omega arith))

pub length-first_arrivals : (k slot : ℕ) (tokens : List (Option Token)) (credits : List Bool) (end : ℕ) (links : List (Option LinkRec)) → length (first_arrivals k slot tokens credits end links) ≡ length links
unfolding first_arrivals
length-first_arrivals zero slot tokens credits end links = refl
length-first_arrivals (suc k) slot tokens credits end [] = refl
length-first_arrivals (suc k) slot tokens credits end (link ∷ links) = ap suc (length-first_arrivals k slot tokens credits (end + 1) links)

-- one more
pub next-arrivals : (k slot : ℕ) (tokens : List (Option Token)) (credits : List Bool) (end at : ℕ) (links : List (Option LinkRec)) → at ≡ end + k → slice_set (first_arrivals k slot tokens credits end links) k (link_after_arrivals slot (get_or tokens at None) (get_or credits at false) (get_or (first_arrivals k slot tokens credits end links) k None)) ≡ first_arrivals (suc k) slot tokens credits end links
unfolding first_arrivals
next-arrivals zero slot tokens credits end at [] is = refl
next-arrivals zero slot tokens credits end at (link ∷ links) is =
    let same : at ≡ end = omega arith in
    ap (λ a. link_after_arrivals slot (get_or tokens a None) (get_or credits a false) link ∷ links) same
next-arrivals (suc k) slot tokens credits end at [] is = refl
next-arrivals (suc k) slot tokens credits end at (link ∷ links) is =
    ap (λ rest. link_after_arrivals slot (get_or tokens end None) (get_or credits end false) link ∷ rest) (next-arrivals k slot tokens credits (end + 1) at links (omega arith))

-- credits are counted in the slot in which they arrive
credits-push : (slot : ℕ) (slots : List ℕ) → AllByRecursion (λ s. s ≤ slot) slots → AllByRecursion (λ s. s ≤ slot) (slots ++ slot ∷ [])
credits-push slot [] all = (omega arith, tt)
credits-push slot (s ∷ slots) all = (all.0, credits-push slot slots all.1)

credits-if : (slot : ℕ) (b : Bool) (link : LinkRec) → AllByRecursion (λ s. s ≤ slot) link.credited → AllByRecursion (λ s. s ≤ slot) (cond b (record link { credited = link.credited ++ slot ∷ [] }) link).credited
credits-if slot true link all = credits-push slot link.credited all
credits-if slot false link all = all

keeps-credited : (b : Bool) (tokens : List Token) (link : LinkRec) → (cond b (record link { buffer = tokens }) link).credited ≡ link.credited
keeps-credited true tokens link = refl
keeps-credited false tokens link = refl

token-keeps : (token : Option Token) (link : LinkRec) → (token_arrives token link).credited ≡ link.credited
token-keeps None link = refl
token-keeps (Some t) link = keeps-credited (ltb (length link.buffer) 8) (link.buffer ++ t ∷ []) link

abbrev pub IsCreditedBy : ℕ → Option LinkRec → Type 0
IsCreditedBy slot l = IfSome l (λ link. AllByRecursion (λ s. s ≤ slot) link.credited)

credited-one : (slot : ℕ) (token : Option Token) (credit : Bool) (l : Option LinkRec) → IsCreditedBy slot l → IsCreditedBy slot (link_after_arrivals slot token credit l)
credited-one slot token credit None by = tt
credited-one slot token credit (Some link) by =
    credits-if slot (credit && ltb (length (token_arrives token link).credited) (length (token_arrives token link).sent)) (token_arrives token link) (rw (token-keeps token link) by)

pub credited-arrivals : (slot : ℕ) (tokens : List (Option Token)) (credits : List Bool) (end : ℕ) (links : List (Option LinkRec)) → CreditedBy slot links → CreditedBy slot (links_after_arrivals slot tokens credits end links)
unfolding links_after_arrivals
credited-arrivals slot tokens credits end [] by = tt
credited-arrivals slot tokens credits end (l ∷ links) by =
    (credited-one slot (get_or tokens end None) (get_or credits end false) l by.0, credited-arrivals slot tokens credits (end + 1) links by.1)

sends-one : (routes : Routes) (l : Option LinkRec) (e slot : ℕ) (w : EndCounts) (result : Bool) → slice_index routes.gaps e ≡ w.gap → ((link : LinkRec) → CountsOf w link → All (λ s. s ≤ slot) link.credited → result ≡ may_send w.gap slot link) → IsCountsOf (Some w) l → IsCreditedBy slot l → result ≡ end_may_send routes slot e l
sends-one routes None e slot w result gap says of by = absurd of
sends-one routes (Some link) e slot w result gap says of by =
    says link of (All-from_recursion (λ s. s ≤ slot) link.credited by) ∙ ap (λ g. may_send g slot link) (sym gap)

-- whether a link end that is there may send
pub sends-there : (routes : Routes) (ws : List (Option EndCounts)) (ls : List (Option LinkRec)) (e slot : ℕ) (w : EndCounts) (result : Bool) → routes.gaps ≡ end_gaps ws → get_or ws e None ≡ Some w → ((link : LinkRec) → CountsOf w link → All (λ s. s ≤ slot) link.credited → result ≡ may_send w.gap slot link) → AllCountsOf ws ls → CreditedBy slot ls → result ≡ end_may_send routes slot e (get_or ls e None)
sends-there routes ws ls e slot w result gaps there says of by =
    sends-one routes (get_or ls e None) e slot w result (ap (λ gs. slice_index gs e) gaps ∙ gap-at ws e ∙ ap end_gap there) says (rw there at (counts-at ws ls e of)) (all-at (IsCreditedBy slot) ls e None by tt)

-- where none is there, it may not
none-sends : (routes : Routes) (e slot : ℕ) (l : Option LinkRec) → IsCountsOf None l → false ≡ end_may_send routes slot e l
none-sends routes e slot None of = refl
none-sends routes e slot (Some link) of = absurd of

pub sends-none : (routes : Routes) (ws : List (Option EndCounts)) (ls : List (Option LinkRec)) (e slot : ℕ) → get_or ws e None ≡ None → AllCountsOf ws ls → false ≡ end_may_send routes slot e (get_or ls e None)
sends-none routes ws ls e slot there of =
    none-sends routes e slot (get_or ls e None) (rw there at (counts-at ws ls e of))

-- a link end that sent its last token in a slot or earlier, or never
abbrev pub IsSentBy : ℕ → Option EndCounts → Type 0
IsSentBy slot w = IfSome w (λ counts. IfSome counts.last_sent (λ s. s ≤ slot))

-- a link end that changes sent its last token when it did before
pub sent-kept : (ws : List (Option EndCounts)) (e slot : ℕ) (now new : EndCounts) → get_or ws e None ≡ Some now → new.last_sent ≡ now.last_sent → SentBy slot ws → SentBy slot (slice_set ws e (Some new))
sent-kept ws e slot now new there same by =
    all-set (IsSentBy slot) ws e (Some new) by
    (subst (λ last. IfSome last (λ s. s ≤ slot)) (sym same) (subst (λ w. IsSentBy slot w) there (all-at (IsSentBy slot) ws e None by tt)))

-- or in the slot itself
pub sent-now : (ws : List (Option EndCounts)) (e slot : ℕ) (new : EndCounts) → new.last_sent ≡ Some slot → SentBy slot ws → SentBy slot (slice_set ws e (Some new))
sent-now ws e slot new is by =
    all-set (IsSentBy slot) ws e (Some new) by (subst (λ last. IfSome last (λ s. s ≤ slot)) (sym is) (omega arith))
