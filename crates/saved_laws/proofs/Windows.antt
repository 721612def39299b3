-- The windows of a link's two ends: what its two directed links have in flight, and what its ends hold.
use Rattle.std.proofs.Common.{◌≡◌, ℕ, zero, suc, ◌+◌, ◌-◌, ◌*◌, ◌%◌, ◌≤◌, cond, Option, Some, None, List, [], ◌∷◌, ◌++◌, length, slice_get, refl, ap, ◌∙◌, subst, arith}
use Rattle.std.specs.List.{count_by}
use Rattle.std.proofs.lemmas.Bool.{eq-eqb, ne_eqb}
use Rattle.std.proofs.lemmas.List.Sums.{sum_by-cons}
use Rattle.std.proofs.lemmas.Option.{none-some, same_Some}
use Rattle.xs_base.specs.Numbers.{Slot}
use Rattle.xs_base.specs.declared.numbers.TheConstants.{WINDOW_TOKENS}
use Rattle.xs_base.specs.declared.token.Token.{Token}
use Rattle.xs_base.specs.declared.entry.Entry.{Entry}
use Rattle.xs_base.specs.declared.entry.What.{What}
use Rattle.xs_base.specs.declared.entry.What.TheVariants as what
use Rattle.xs_model.specs.Record.{LinkRec}
use Rattle.sys_plan.specs.declared.LinkPlan.{LinkPlan}
use Rattle.sys_plan.specs.Plan.{PlanRec, Arc, IsPlan, forth, back, link_arcs}
use Rattle.serial_model.specs.Serial.{serial, history}
use Rattle.link_laws.specs.Travel.{Travel, travel_of, link_end, opposite, OfEnds, Window, token_of, tokens_of, count_credit, credits_of, in_flight}
use Rattle.link_laws.proofs.SlotAtEndStep.{slot_at_link_end}
use Rattle.link_laws.proofs.TravelSerial.{window-is-kept}
use Rattle.snap_parts.specs.InFlight.{is_token, is_credit}
use Rattle.locality_laws.proofs.Serial.{upto}
use Rattle.saved_laws.proofs.Flight.{flight_is}

-- ---- How many tokens and credits there are

abbrev pub count_tokens : List Entry → ℕ
count_tokens es = count_by (λ (e : Entry). is_token e.what) es

abbrev pub count_credits : List Entry → ℕ
count_credits es = count_by (λ (e : Entry). is_credit e.what) es

one_token : (w : What) (n : ℕ) (ts : List Token) → n ≡ length ts → cond (is_token w) 1 0 + n ≡ length (token_of w ++ ts)
one_token (what.Token t) n ts h = omega (arith, h)
one_token what.Credit n ts h = omega (arith, h)
one_token (what.Level level) n ts h = omega (arith, h)

tokens_counted : (es : List Entry) → count_tokens es ≡ length (tokens_of es)
tokens_counted [] = refl
tokens_counted (e ∷ es) = sum_by-cons (λ (e : Entry). cond (is_token e.what) 1 0) e es ∙ one_token e.what (count_tokens es) (tokens_of es) (tokens_counted es)

one_credit : (w : What) (n m : ℕ) → n ≡ m → cond (is_credit w) 1 0 + n ≡ count_credit w + m
one_credit (what.Token t) n m h = omega (arith, h)
one_credit what.Credit n m h = omega (arith, h)
one_credit (what.Level level) n m h = omega (arith, h)

credits_counted : (es : List Entry) → count_credits es ≡ credits_of es
credits_counted [] = refl
credits_counted (e ∷ es) = sum_by-cons (λ (e : Entry). cond (is_credit e.what) 1 0) e es ∙ one_credit e.what (count_credits es) (credits_of es) (credits_counted es)

-- ---- A directed link

-- how many tokens of those that a link end sent are without a credit, and how many tokens wait in its buffer
abbrev pub open_of : Option LinkRec → ℕ
open_of None = 0
open_of (Some link) = length link.sent - length link.credited

abbrev pub buffered_of : Option LinkRec → ℕ
buffered_of None = 0
buffered_of (Some link) = length link.buffer

-- The window of the sender, by what is in flight forth and back and what waits at the receiver.
pub record IsWindow (sender receiver : Option LinkRec) (forth back : List Entry) : Type 0 where
  pub most : open_of sender ≤ WINDOW_TOKENS
  pub sum : open_of sender ≡ count_tokens forth + buffered_of receiver + count_credits back

by_ends : (t : Travel) (sender receiver : Option LinkRec) → OfEnds Window t sender receiver → IsWindow sender receiver (in_flight t.slot t.delay t.forth) (in_flight t.slot t.delay t.back)
by_ends t None receiver w = absurd w
by_ends t (Some sender) None w = absurd w
by_ends t (Some sender) (Some receiver) w =
    let tokens = tokens_counted (in_flight t.slot t.delay t.forth) in
    let credits = credits_counted (in_flight t.slot t.delay t.back) in
    record { most = omega (arith, w.few); sum = omega (arith, w.open_tokens, tokens, credits) }

module _ (plan : PlanRec) (is : IsPlan plan) (slot : Slot) where
  abbrev pub end_at : ℕ → ℕ → Option LinkRec
  end_at node end = link_end (serial plan slot) node end

  -- of the directed link with number l, where the one with number m goes back
  window_at : (l m : ℕ) (d : Arc) → slice_get (link_arcs plan.links) l ≡ Some d → opposite l ≡ m
      → IsWindow (end_at d.from d.from_end) (end_at d.to d.to_end) (history plan l (slot - d.delay) slot) (history plan m (slot - d.delay) slot)
  window_at l m d here other =
      let t = travel_of (serial plan slot) slot l d in
      let w = by_ends t t.sender t.receiver (window-is-kept slot_at_link_end plan slot l d is here) in
      rw (flight_is plan l slot d.delay, flight_is plan m slot d.delay) (subst (λ (k : ℕ). IsWindow t.sender t.receiver (in_flight slot d.delay (upto plan l slot)) (in_flight slot d.delay (upto plan k slot))) other w)

-- ---- The two directed links of a link

pub forth_at : (links : List LinkPlan) (k l : ℕ) (link : LinkPlan) → l ≡ 2 * k → slice_get links k ≡ Some link → slice_get (link_arcs links) l ≡ Some (forth link)
forth_at [] k l link e h = absurd (none-some link h)
forth_at (x ∷ links) zero zero link e h = ap (λ (y : LinkPlan). Some (forth y)) (same_Some x link h)
forth_at (x ∷ links) zero (suc l) link e h = absurd (omega (arith, e))
forth_at (x ∷ links) (suc k) zero link e h = absurd (omega (arith, e))
forth_at (x ∷ links) (suc k) (suc zero) link e h = absurd (omega (arith, e))
forth_at (x ∷ links) (suc k) (suc (suc l)) link e h = forth_at links k l link (omega (arith, e)) h

pub back_at : (links : List LinkPlan) (k l : ℕ) (link : LinkPlan) → l ≡ 2 * k + 1 → slice_get links k ≡ Some link → slice_get (link_arcs links) l ≡ Some (back link)
back_at [] k l link e h = absurd (none-some link h)
back_at (x ∷ links) k zero link e h = absurd (omega (arith, e))
back_at (x ∷ links) zero (suc zero) link e h = ap (λ (y : LinkPlan). Some (back y)) (same_Some x link h)
back_at (x ∷ links) zero (suc (suc l)) link e h = absurd (omega (arith, e))
back_at (x ∷ links) (suc k) (suc zero) link e h = absurd (omega (arith, e))
back_at (x ∷ links) (suc k) (suc (suc l)) link e h = back_at links k l link (omega (arith, e)) h

back_of : (k : ℕ) → opposite (2 * k) ≡ 2 * k + 1
back_of k = rw (eq-eqb (2 * k % 2) 0 (omega arith)) refl

forth_of : (k : ℕ) → opposite (2 * k + 1) ≡ 2 * k
forth_of k = rw (ne_eqb ((2 * k + 1) % 2) 0 (λ none. omega (arith, none))) (omega arith)

module _ (plan : PlanRec) (is : IsPlan plan) (slot : Slot) (k : ℕ) (link : LinkPlan) (here : slice_get plan.links k ≡ Some link) where
  abbrev pub flies_forth : List Entry
  flies_forth = history plan (2 * k) (slot - link.delay) slot

  abbrev pub flies_back : List Entry
  flies_back = history plan (2 * k + 1) (slot - link.delay) slot

  pub window_a : IsWindow (end_at plan is slot link.a link.a_end) (end_at plan is slot link.b link.b_end) flies_forth flies_back
  window_a = window_at plan is slot (2 * k) (2 * k + 1) (forth link) (forth_at plan.links k (2 * k) link refl here) (back_of k)

  pub window_b : IsWindow (end_at plan is slot link.b link.b_end) (end_at plan is slot link.a link.a_end) flies_back flies_forth
  window_b = window_at plan is slot (2 * k + 1) (2 * k) (back link) (back_at plan.links k (2 * k + 1) link refl here) (forth_of k)
