-- Two link ends that are alike within a slot: what arrives, a token that leaves the buffer and a token that is sent keep them alike,
-- and one may send where the other may.
use Rattle.std.proofs.Common.{◌≡◌, ℕ, ◌+◌, ◌<◌, Bool, true, false, ◌&&◌, nat_lt, nat_le, if◌then◌else◌, Option, Some, None, List, [], ◌∷◌, ◌++◌, length, drop, filter, slice_index, refl, ap, ap₂, sym, ◌∙◌, append-nil, length-append, arith}
use Rattle.std.specs.List.{AllByRecursion}
use Rattle.std.proofs.lemmas.Bool.{lt-ltb, le-leb, le-ltb}
use Rattle.std.proofs.lemmas.List.Elements.{filter-append}
use Rattle.xs_base.specs.Numbers.{Slot, EndNumber}
use Rattle.xs_base.specs.declared.numbers.TheConstants.{BUFFER_TOKENS, WINDOW_TOKENS}
use Rattle.xs_base.specs.declared.token.Token.{Token}
use Rattle.xs_model.specs.Record.{LinkRec}
use Rattle.net_model.specs.Links.{token_arrives, credit_arrives, link_after_arrivals, gap_is_over, may_send}
use Rattle.net_model.specs.Switch.{Routes, buffer_of_link, link_without_first, sent_in, end_may_send}
use Rattle.net_model.specs.Links.{IsLinkBefore}
use Rattle.link_laws.specs.Windows.{LinksAlike, Paired}
use Rattle.link_laws.proofs.SlotAtEnd.{latest_is}

-- ---- Lists of slots

all_before : (slot : Slot) (slots : List Slot) → AllByRecursion (λ s. s < slot) slots → filter (λ s. nat_lt s slot) slots ≡ slots
all_before slot [] before = refl
all_before slot (s ∷ slots) before =
    rw (lt-ltb s slot before.0) (ap (λ kept. s ∷ kept) (all_before slot slots before.1))

all_so_far : (slot : Slot) (slots : List Slot) → AllByRecursion (λ s. s < slot) slots → filter (λ s. nat_le s slot) slots ≡ slots
all_so_far slot [] before = refl
all_so_far slot (s ∷ slots) before =
    let e = le-leb s slot (omega (arith, before.0)) in rw e (ap (λ kept. s ∷ kept) (all_so_far slot slots before.1))

later_on : (slot : Slot) (slots : List Slot) → AllByRecursion (λ s. s < slot) slots → AllByRecursion (λ s. s < slot + 1) slots
later_on slot [] before = tt
later_on slot (s ∷ slots) before = (omega (arith, before.0), later_on slot slots before.1)

with_this : (slot : Slot) (slots : List Slot) → AllByRecursion (λ s. s < slot + 1) slots → AllByRecursion (λ s. s < slot + 1) (slots ++ slot ∷ [])
with_this slot [] before = (omega arith, tt)
with_this slot (s ∷ slots) before = (before.0, with_this slot slots before.1)

-- this slot is not before itself
none_more : (slot : Slot) (slots : List Slot) →
    filter (λ s. nat_lt s slot) (slots ++ slot ∷ []) ≡ filter (λ s. nat_lt s slot) slots
none_more slot slots =
    let e : nat_lt slot slot ≡ false = le-ltb slot slot (omega arith) in
    let last : filter (λ s. nat_lt s slot) (slot ∷ []) ≡ [] = rw e refl in
    filter-append (λ s. nat_lt s slot) slots (slot ∷ []) ∙ ap (λ kept. filter (λ s. nat_lt s slot) slots ++ kept) last ∙ append-nil _

one_more : (slot : Slot) (slots : List Slot) →
    length (filter (λ s. nat_le s slot) (slots ++ slot ∷ [])) ≡ length (filter (λ s. nat_le s slot) slots) + 1
one_more slot slots =
    let e : nat_le slot slot ≡ true = le-leb slot slot (omega arith) in
    let last : filter (λ s. nat_le s slot) (slot ∷ []) ≡ slot ∷ [] = rw e refl in
    let all = filter-append (λ s. nat_le s slot) slots (slot ∷ []) ∙ ap (λ kept. filter (λ s. nat_le s slot) slots ++ kept) last in
    ap length all ∙ length-append (filter (λ s. nat_le s slot) slots) (slot ∷ [])

-- ---- Within a slot

-- alike, also in the tokens and credits that `may_send` counts; and neither keeps a slot after this one
pub record AlikeIn (slot : Slot) (link other : LinkRec) : Type 0 where
  pub alike : LinksAlike link other
  pub open_tokens : length (filter (λ s. nat_lt s slot) link.sent) + length (filter (λ s. nat_le s slot) other.credited)
      ≡ length (filter (λ s. nat_lt s slot) other.sent) + length (filter (λ s. nat_le s slot) link.credited)
  pub one_before : IsLinkBefore (slot + 1) link
  pub other_before : IsLinkBefore (slot + 1) other

still_before : (slot : Slot) (link : LinkRec) → IsLinkBefore slot link → IsLinkBefore (slot + 1) link
still_before slot link before = record {
  sent = later_on slot link.sent before.sent;
  credited = later_on slot link.credited before.credited;
}

pub begins : (slot : Slot) (link other : LinkRec) → IsLinkBefore slot link → IsLinkBefore slot other → LinksAlike link other → AlikeIn slot link other
begins slot link other one two h =
    let sent = all_before slot link.sent one.sent in
    let credited = all_so_far slot link.credited one.credited in
    let other_sent = all_before slot other.sent two.sent in
    let other_credited = all_so_far slot other.credited two.credited in
    record {
      alike = h;
      open_tokens = rw (sent, credited, other_sent, other_credited) h.window;
      one_before = still_before slot link one;
      other_before = still_before slot other two;
    }

module _ (slot : Slot) where
  either : (this that : Bool) (link link' other other' : LinkRec) →
      this ≡ that → AlikeIn slot link other → AlikeIn slot link' other' →
      AlikeIn slot (if this then link else link') (if that then other else other')
  either true true link link' other other' e one two = one
  either false false link link' other other' e one two = two
  either true false link link' other other' e one two = cc
  either false true link link' other other' e one two = cc

  -- ---- What arrives

  with_token : (link other : LinkRec) (t : Token) → AlikeIn slot link other →
      AlikeIn slot (record link { buffer = link.buffer ++ t ∷ [] }) (record other { buffer = other.buffer ++ t ∷ [] })
  with_token link other t h = record {
    alike = record { buffer = ap (λ tokens. tokens ++ t ∷ []) h.alike.buffer; window = h.alike.window; last = h.alike.last };
    open_tokens = h.open_tokens;
    one_before = record { sent = h.one_before.sent; credited = h.one_before.credited };
    other_before = record { sent = h.other_before.sent; credited = h.other_before.credited };
  }

  token_so : (token : Option Token) (link other : LinkRec) → AlikeIn slot link other → AlikeIn slot (token_arrives token link) (token_arrives token other)
  token_so None link other h = h
  token_so (Some t) link other h =
      either (nat_lt (length link.buffer) BUFFER_TOKENS) (nat_lt (length other.buffer) BUFFER_TOKENS) _ link _ other
      (ap (λ tokens. nat_lt (length tokens) BUFFER_TOKENS) h.alike.buffer) (with_token link other t h) h

  with_credit : (link other : LinkRec) → AlikeIn slot link other →
      AlikeIn slot (record link { credited = link.credited ++ slot ∷ [] }) (record other { credited = other.credited ++ slot ∷ [] })
  with_credit link other h = record {
    alike = record {
      buffer = h.alike.buffer;
      window = omega (arith, h.alike.window, length-append link.credited (slot ∷ []), length-append other.credited (slot ∷ []));
      last = h.alike.last;
    };
    open_tokens = omega (arith, h.open_tokens, one_more slot link.credited, one_more slot other.credited);
    one_before = record { sent = h.one_before.sent; credited = with_this slot link.credited h.one_before.credited };
    other_before = record { sent = h.other_before.sent; credited = with_this slot other.credited h.other_before.credited };
  }

  fewer : (sent credited sent' credited' : ℕ) → sent + credited' ≡ sent' + credited → nat_lt credited sent ≡ nat_lt credited' sent'
  fewer sent credited sent' credited' e = grind arith

  credit_so : (credit : Bool) (link other : LinkRec) → AlikeIn slot link other → AlikeIn slot (credit_arrives slot credit link) (credit_arrives slot credit other)
  credit_so credit link other h =
      let less = fewer (length link.sent) (length link.credited) (length other.sent) (length other.credited) h.alike.window in
      either _ _ _ link _ other (ap (λ less. credit && less) less) (with_credit link other h) h

  pub arrives : (token : Option Token) (credit : Bool) (link other : Option LinkRec) →
      Paired (AlikeIn slot) link other → Paired (AlikeIn slot) (link_after_arrivals slot token credit link) (link_after_arrivals slot token credit other)
  arrives token credit None None h = tt
  arrives token credit None (Some other) h = absurd h
  arrives token credit (Some link) None h = absurd h
  arrives token credit (Some link) (Some other) h =
      credit_so credit (token_arrives token link) (token_arrives token other) (token_so token link other h)

  -- ---- What leaves

  pub same_buffer : (link other : Option LinkRec) → Paired (AlikeIn slot) link other → buffer_of_link link ≡ buffer_of_link other
  same_buffer None None h = refl
  same_buffer None (Some other) h = absurd h
  same_buffer (Some link) None h = absurd h
  same_buffer (Some link) (Some other) h = h.alike.buffer

  pub taken : (link other : Option LinkRec) → Paired (AlikeIn slot) link other → Paired (AlikeIn slot) (link_without_first link) (link_without_first other)
  taken None None h = tt
  taken None (Some other) h = absurd h
  taken (Some link) None h = absurd h
  taken (Some link) (Some other) h = record {
    alike = record { buffer = ap (drop 1) h.alike.buffer; window = h.alike.window; last = h.alike.last };
    open_tokens = h.open_tokens;
    one_before = record { sent = h.one_before.sent; credited = h.one_before.credited };
    other_before = record { sent = h.other_before.sent; credited = h.other_before.credited };
  }

  pub sent : (link other : Option LinkRec) → Paired (AlikeIn slot) link other → Paired (AlikeIn slot) (sent_in slot link) (sent_in slot other)
  sent None None h = tt
  sent None (Some other) h = absurd h
  sent (Some link) None h = absurd h
  sent (Some link) (Some other) h = record {
    alike = record {
      buffer = h.alike.buffer;
      window = omega (arith, h.alike.window, length-append link.sent (slot ∷ []), length-append other.sent (slot ∷ []));
      last = latest_is link.sent slot ∙ sym (latest_is other.sent slot);
    };
    open_tokens = rw (none_more slot link.sent, none_more slot other.sent) h.open_tokens;
    one_before = record { sent = with_this slot link.sent h.one_before.sent; credited = h.one_before.credited };
    other_before = record { sent = with_this slot other.sent h.other_before.sent; credited = h.other_before.credited };
  }

  -- whether the window is open, by the tokens sent before this slot and the credits so far
  in_window : (sent credited sent' credited' : ℕ) → sent + credited' ≡ sent' + credited →
      nat_lt sent (WINDOW_TOKENS + credited) ≡ nat_lt sent' (WINDOW_TOKENS + credited')
  in_window sent credited sent' credited' e = grind arith

  may_so : (gap : ℕ) (link other : LinkRec) → AlikeIn slot link other → may_send gap slot link ≡ may_send gap slot other
  may_so gap link other h =
      let room = in_window (length (filter (λ s. nat_lt s slot) link.sent)) (length (filter (λ s. nat_le s slot) link.credited))
      (length (filter (λ s. nat_lt s slot) other.sent)) (length (filter (λ s. nat_le s slot) other.credited)) h.open_tokens in
      ap₂ (λ room last. room && gap_is_over gap slot last) room h.alike.last

  pub same_may : (routes : Routes) (e : EndNumber) (link other : Option LinkRec) →
      Paired (AlikeIn slot) link other → end_may_send routes slot e link ≡ end_may_send routes slot e other
  same_may routes e None None h = refl
  same_may routes e None (Some other) h = absurd h
  same_may routes e (Some link) None h = absurd h
  same_may routes e (Some link) (Some other) h = may_so (slice_index routes.gaps e) link other h
