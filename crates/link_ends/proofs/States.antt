-- Link ends in a snapshot, and back.
use Rattle.std.proofs.Common.{ℕ, zero, suc, ◌≡◌, ◌+◌, ◌≤◌, true, Option, Some, None, List, [], ◌∷◌, replicate, length, refl, sym, ap, ◌∙◌, arith, add-one}
use Rattle.std.proofs.lemmas.List.{length-replicate}
use Rattle.std.specs.List.{All}
use Rattle.xs_model.specs.Record.{LinkRec}
use Rattle.net_model.specs.Links.{latest, may_send}
use Rattle.link_ends.specs.Counts.{EndCounts, CountsOf, NeverFall}
use Rattle.link_ends.specs.States.{end_state, counts_of, sent_of, credited_of, end_of}
use Rattle.link_ends.specs.declared.state.EndState.{EndState}
use Rattle.link_ends.proofs.Sends.{sends_as_counted}

pub counts-again : (counts : EndCounts) → counts_of counts.gap (end_state counts) ≡ counts
counts-again counts = refl

pub state-again : (gap : ℕ) (state : EndState) → state.present ≡ true → end_state (counts_of gap state) ≡ state
state-again gap state there = ap (λ p. record { present = p; buffer = state.buffer; window = state.window; last = state.last }) (sym there)

latest-replicate : (n s : ℕ) → latest (replicate (suc n) s) ≡ Some s
latest-replicate zero s = refl
latest-replicate (suc n) s = latest-replicate n s

NeverFall-replicate : (n s : ℕ) → NeverFall (replicate n s)
NeverFall-replicate zero s = tt
NeverFall-replicate (suc zero) s = tt
NeverFall-replicate (suc (suc n)) s = (omega arith, NeverFall-replicate (suc n) s)

module _ (window : ℕ) where
  counted : (last : Option ℕ) → (last ≡ None → window ≡ 0) → window + length (credited_of last) ≡ length (sent_of window last)
  counted None never = omega (arith, never refl)
  counted (Some s) never = sym (length-replicate (window + 1) s)

  lasts : (last : Option ℕ) → last ≡ latest (sent_of window last)
  lasts None = refl
  lasts (Some s) = rw add-one (sym (latest-replicate window s))

  rises : (last : Option ℕ) → NeverFall (sent_of window last)
  rises None = tt
  rises (Some s) = NeverFall-replicate (window + 1) s

-- a link end with these counts stands for the link record of its state
pub stands : (gap : ℕ) (state : EndState) → (state.last ≡ None → state.window ≡ 0) → CountsOf (counts_of gap state) (end_of state)
stands gap state never = record {
  buffer = refl;
  open_tokens = counted state.window state.last never;
  last_sent = lasts state.window state.last;
  rises = rises state.window state.last;
}

-- where it stands for some link record, it stands for that of its state too, and both may send in the same slots
module _ (counts : EndCounts) (link : LinkRec) (of : CountsOf counts link) where
  latest-none : (slots : List ℕ) → latest slots ≡ None → length slots ≡ 0
  latest-none [] none = refl
  latest-none (s ∷ []) none = absurd cc
  latest-none (s ∷ r ∷ rest) none = absurd (omega (arith, latest-none (r ∷ rest) none))

  pub stands-again : CountsOf counts (end_of (end_state counts))
  stands-again = stands counts.gap (end_state counts) (λ none. omega (arith, of.open_tokens, latest-none link.sent (sym of.last_sent ∙ none)))

  pub sends-alike : (slot : ℕ) → 1 ≤ counts.gap → All (λ s. s ≤ slot) link.credited → All (λ s. s ≤ slot) (credited_of counts.last_sent) → may_send counts.gap slot link ≡ may_send counts.gap slot (end_of (end_state counts))
  sends-alike slot some by last_by = sym (sends_as_counted counts slot link some of by) ∙ sends_as_counted counts slot (end_of (end_state counts)) some stands-again last_by
