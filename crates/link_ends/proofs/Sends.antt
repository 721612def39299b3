-- The slots in which a link end sent a token, and whether it may send.
use Rattle.std.proofs.Common.{ℕ, ◌≡◌, ◌+◌, ◌<◌, ◌≤◌, Bool, true, false, ◌&&◌, ltb, leb, Some, List, [], ◌∷◌, ◌++◌, length, refl, sym, ap, ◌∙◌, arith, length-append}
use Rattle.std.specs.List.{filter, All}
use Rattle.std.proofs.lemmas.Bool.{leb-true, lt-ltb, le-leb, and_parts}
use Rattle.std.proofs.lemmas.List.Elements.{All-head, All-tail}
use Rattle.std.proofs.Math.Bool.{and-false}
use Rattle.xs_model.specs.Record.{LinkRec}
use Rattle.net_model.specs.Links.{latest, gap_is_over, may_send}
use Rattle.link_ends.specs.Counts.{EndCounts, CountsOf, NeverFall, can_send}

latest-push : (slots : List ℕ) (slot : ℕ) → latest (slots ++ slot ∷ []) ≡ Some slot
latest-push [] slot = refl
latest-push (s ∷ []) slot = refl
latest-push (s ∷ r ∷ rest) slot = latest-push (r ∷ rest) slot

NeverFall-push : (gap slot : ℕ) (slots : List ℕ) → gap_is_over gap slot (latest slots) ≡ true → NeverFall slots → NeverFall (slots ++ slot ∷ [])
NeverFall-push gap slot [] over rises = tt
NeverFall-push gap slot (s ∷ []) over rises = (omega (arith, leb-true (s + gap) slot over), tt)
NeverFall-push gap slot (s ∷ r ∷ rest) over rises = (rises.0, NeverFall-push gap slot (r ∷ rest) over rises.1)

-- where the gap since the last one is over, all were sent before the slot
first_before : (gap slot s : ℕ) (slots : List ℕ) → 1 ≤ gap → gap_is_over gap slot (latest (s ∷ slots)) ≡ true → NeverFall (s ∷ slots) → s < slot
first_before gap slot s [] some over rises = omega (arith, leb-true (s + gap) slot over)
first_before gap slot s (r ∷ rest) some over rises =
    omega (arith, rises.0, first_before gap slot r rest some over rises.1)

sent_before : (gap slot : ℕ) (slots : List ℕ) → 1 ≤ gap → gap_is_over gap slot (latest slots) ≡ true → NeverFall slots → filter (λ s. ltb s slot) slots ≡ slots
sent_before gap slot [] some over rises = refl
sent_before gap slot (s ∷ []) some over rises =
    rw (lt-ltb s slot (first_before gap slot s [] some over rises)) refl
sent_before gap slot (s ∷ r ∷ rest) some over rises =
    rw (lt-ltb s slot (first_before gap slot s (r ∷ rest) some over rises)) (ap (λ kept. s ∷ kept) (sent_before gap slot (r ∷ rest) some over rises.1))

credited_so_far : (slot : ℕ) (slots : List ℕ) → All (λ s. s ≤ slot) slots → filter (λ s. leb s slot) slots ≡ slots
credited_so_far slot [] all = refl
credited_so_far slot (s ∷ rest) all =
    rw (le-leb s slot (All-head (λ x. x ≤ slot) s rest all)) (ap (λ kept. s ∷ kept) (credited_so_far slot rest (All-tail (λ x. x ≤ slot) s rest all)))

fewer : (outstanding credited sent : ℕ) → outstanding + credited ≡ sent → ltb outstanding 8 ≡ ltb sent (8 + credited)
fewer outstanding credited sent e = grind arith

-- the counts allow a token where the lists do
same_room : (counts : EndCounts) (slot : ℕ) (link : LinkRec) → 1 ≤ counts.gap → CountsOf counts link → All (λ s. s ≤ slot) link.credited → (over : Bool) → gap_is_over counts.gap slot (latest link.sent) ≡ over → (ltb counts.outstanding 8 && over) ≡ (ltb (length (filter (λ s. ltb s slot) link.sent)) (8 + length (filter (λ s. leb s slot) link.credited)) && over)
same_room counts slot link some of credited false is = and-false _ ∙ sym (and-false _)
same_room counts slot link some of credited true is =
    rw (sent_before counts.gap slot link.sent some is of.rises, credited_so_far slot link.credited credited) (ap (λ b. b && true) (fewer counts.outstanding (length link.credited) (length link.sent) of.open_tokens))

pub sends_as_counted : (counts : EndCounts) (slot : ℕ) (link : LinkRec) → 1 ≤ counts.gap → CountsOf counts link → All (λ s. s ≤ slot) link.credited → can_send counts slot ≡ may_send counts.gap slot link
sends_as_counted counts slot link some of credited =
    rw of.last_sent (same_room counts slot link some of credited (gap_is_over counts.gap slot (latest link.sent)) refl)

-- the counts with one more token sent
pub stands_after_sent : (counts : EndCounts) (slot : ℕ) (link : LinkRec) → can_send counts slot ≡ true → CountsOf counts link → CountsOf (record counts { outstanding = counts.outstanding + 1; last_sent = Some slot }) (record link { sent = link.sent ++ slot ∷ [] })
stands_after_sent counts slot link room of =
    let its : gap_is_over counts.gap slot counts.last_sent ≡ true = (and_parts (ltb counts.outstanding 8) (gap_is_over counts.gap slot counts.last_sent) room).1 in
    let over : gap_is_over counts.gap slot (latest link.sent) ≡ true = ap (gap_is_over counts.gap slot) (sym of.last_sent) ∙ its in
    record {
      buffer = of.buffer;
      open_tokens = omega (arith, of.open_tokens, length-append link.sent (slot ∷ []));
      last_sent = sym (latest-push link.sent slot);
      rises = NeverFall-push counts.gap slot link.sent over of.rises;
    }
