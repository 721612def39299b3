-- A link end within a slot: what it changes that a token leaves its buffer, or leaves by it.
use Rattle.std.proofs.Common.{◌≡◌, ℕ, ◌+◌, ◌≤◌, Bool, true, false, ◌&&◌, nat_lt, nat_le, Option, Some, None, List, [], ◌∷◌, ◌++◌, length, drop, filter, slice_index, refl, ap, ap₂, sym, ◌∙◌, append-nil, true≢false, arith}
use Rattle.std.proofs.lemmas.Bool.{and_parts, leb-true}
use Rattle.xs_base.specs.Numbers.{Slot, EndNumber}
use Rattle.xs_base.specs.declared.numbers.TheConstants.{WINDOW_TOKENS}
use Rattle.xs_base.specs.declared.token.Token.{Token}
use Rattle.xs_model.specs.Record.{LinkRec}
use Rattle.net_model.specs.Links.{latest, gap_is_over, may_send}
use Rattle.net_model.specs.Switch.{Routes, buffer_of_link, link_without_first, sent_in, end_may_send}
use Rattle.link_laws.specs.LinkSlot.{LinkSlotAt}

-- so far nothing left
pub begins_so : (gap : ℕ) (slot : Slot) (link : Option LinkRec) → LinkSlotAt gap slot link link None false
begins_so gap slot None = (refl, refl)
begins_so gap slot (Some link) = record {
  buffer = refl;
  waited = λ h. absurd (true≢false (sym h));
  allowed = λ h. absurd (true≢false (sym h));
  sent = sym (append-nil link.sent);
  credited = refl;
}

-- the first token leaves the buffer, and a credit by the link end
pub takes_so : (gap : ℕ) (slot : Slot) (before now : Option LinkRec) (token : Option Token) (t : Token) (rest : List Token) →
    buffer_of_link now ≡ t ∷ rest →
    LinkSlotAt gap slot before now token false →
    LinkSlotAt gap slot before (link_without_first now) token true
takes_so gap slot None None token t rest waits h = cc
takes_so gap slot None (Some now) token t rest waits h = absurd h
takes_so gap slot (Some before) None token t rest waits h = absurd h
takes_so gap slot (Some before) (Some now) token t rest waits h = record {
  buffer = ap (drop 1) h.buffer;
  waited = λ _. omega (arith, ap length waits, ap length h.buffer);
  allowed = h.allowed;
  sent = h.sent;
  credited = h.credited;
}

-- ---- Whether it may send

-- whether fewer tokens than the window's are without a credit, of those sent before a slot
abbrev window_is_open : Slot → List Slot → List Slot → Bool
window_is_open slot sent credited =
    nat_lt (length (filter (λ s. nat_lt s slot) sent)) (WINDOW_TOKENS + length (filter (λ s. nat_le s slot) credited))

-- it goes by the two lists of slots alone
abbrev may_by : ℕ → Slot → List Slot → List Slot → Bool
may_by gap slot sent credited = window_is_open slot sent credited && gap_is_over gap slot (latest sent)

may_as_before : (gap : ℕ) (slot : Slot) (before now : LinkRec) →
    now.sent ≡ before.sent → now.credited ≡ before.credited → may_send gap slot now ≡ may_send gap slot before
may_as_before gap slot before now sent credited = ap₂ (may_by gap slot) sent credited

pub latest_is : (slots : List Slot) (slot : Slot) → latest (slots ++ slot ∷ []) ≡ Some slot
latest_is [] slot = refl
latest_is (s ∷ []) slot = refl
latest_is (s ∷ r ∷ rest) slot = latest_is (r ∷ rest) slot

-- a second token may not leave in the same slot
sends_once : (gap : ℕ) (slot : Slot) (now : LinkRec) (slots : List Slot) →
    1 ≤ gap → now.sent ≡ slots ++ slot ∷ [] → may_send gap slot now ≡ true → ⊥
sends_once gap slot now slots long sent may =
    let last : latest now.sent ≡ Some slot = ap latest sent ∙ latest_is slots slot in
    let parts : (window_is_open slot now.sent now.credited ≡ true) × (gap_is_over gap slot (latest now.sent) ≡ true) = and_parts _ _ may in
    let over : gap_is_over gap slot (Some slot) ≡ true = ap (gap_is_over gap slot) (sym last) ∙ parts.1 in
    omega (arith, leb-true (slot + gap) slot over)

-- a token leaves by the link end
pub sends_so : (routes : Routes) (slot : Slot) (e : EndNumber) (before now : Option LinkRec) (token : Option Token) (credit : Bool) (t : Token) →
    let gap = slice_index routes.gaps e in
    1 ≤ gap →
    end_may_send routes slot e now ≡ true →
    LinkSlotAt gap slot before now token credit →
    LinkSlotAt gap slot before (sent_in slot now) (Some t) credit
sends_so routes slot e before None token credit t long may h = absurd (true≢false (sym may))
sends_so routes slot e None (Some now) token credit t long may h = absurd h
sends_so routes slot e (Some before) (Some now) (Some u) credit t long may h =
    absurd (sends_once (slice_index routes.gaps e) slot now before.sent long h.sent may)
sends_so routes slot e (Some before) (Some now) None credit t long may h =
    let same : now.sent ≡ before.sent = h.sent ∙ append-nil before.sent in
    record {
      buffer = h.buffer;
      waited = h.waited;
      allowed = λ _. sym (may_as_before (slice_index routes.gaps e) slot before now same h.credited) ∙ may;
      sent = ap (λ slots. slots ++ slot ∷ []) same;
      credited = h.credited;
    }

-- a token that leaves the buffer does not change whether it may send
pub may_without : (routes : Routes) (slot : Slot) (e : EndNumber) (link : Option LinkRec) →
    end_may_send routes slot e (link_without_first link) ≡ end_may_send routes slot e link
may_without routes slot e None = refl
may_without routes slot e (Some link) = refl
