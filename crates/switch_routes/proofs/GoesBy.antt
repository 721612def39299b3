-- What the switch's parts stand for, after each of the moves that its rules are made of.
use Rattle.std.proofs.Common.{ℕ, ◌≡◌, ◌+◌, ◌-◌, ◌≤◌, Bool, true, cond, ltb, Option, Some, None, List, [], ◌∷◌, length, get_or, drop, refl, sym, ap, subst, ◌∙◌, arith}
use Rattle.std.specs.Prelude.{slice_set, slice_get, MatchOption}
use Rattle.xs_base.specs.declared.token.Token.{Token}
use Rattle.xs_model.specs.Record.{NodeRec, LinkRec, ChanRec, unused_chan}
use Rattle.xs_model.specs.Outside.{Emitted}
use Rattle.xs_model.specs.AtWork.{AtWork}
use Rattle.switch_routes.specs.Ways.{routes_with}
use Rattle.net_model.specs.Switch.{link_without_first, sent_in, waiting_at, link_at, buffer_of_link}
use Rattle.link_ends.specs.Counts.{EndCounts}
use Rattle.chan_ends.specs.Ends.{chan_at}
use Rattle.switch_routes.specs.Rows.{AllCountsOf, IsCountsOf, CreditedBy, SentBy, end_gaps, end_gap, counts_at, buffer_of, without_first, waiting_in}
use Rattle.switch_routes.specs.declared.work.Work.{Work}
use Rattle.switch_routes.specs.Work.{Begun, Stands, GoesOn, GoesBy}
use Rattle.switch_routes.proofs.Rows.{IsCreditedBy, counts-pop, counts-at, all-set, all-at}

-- the first of the tokens that wait
pub first_cases : (r : Option Token) (ts : List Token) → r ≡ slice_get ts 0 → MatchOption r (ts ≡ []) (λ t. ts ≡ t ∷ drop 1 ts)
first_cases None [] is = refl
first_cases None (t ∷ ts) is = cc
first_cases (Some u) [] is = cc
first_cases (Some u) (t ∷ ts) is = cc

pub same-buffer : (w : Option EndCounts) (l : Option LinkRec) → IsCountsOf w l → buffer_of w ≡ buffer_of_link l
same-buffer None None of = refl
same-buffer None (Some l) of = absurd of
same-buffer (Some w) None of = absurd of
same-buffer (Some w) (Some l) of = of.buffer

IsCreditedBy-pop : (slot : ℕ) (l : Option LinkRec) → IsCreditedBy slot l → IsCreditedBy slot (link_without_first l)
IsCreditedBy-pop slot None by = tt
IsCreditedBy-pop slot (Some link) by = by

credited-pop : (slot : ℕ) (links : List (Option LinkRec)) (e : ℕ) → CreditedBy slot links → CreditedBy slot (slice_set links e (link_without_first (get_or links e None)))
credited-pop slot links e by =
    all-set (IsCreditedBy slot) links e (link_without_first (get_or links e None)) by (IsCreditedBy-pop slot (get_or links e None) (all-at (IsCreditedBy slot) links e None by tt))

IsCreditedBy-sent : (slot : ℕ) (l : Option LinkRec) → IsCreditedBy slot l → IsCreditedBy slot (sent_in slot l)
IsCreditedBy-sent slot None by = tt
IsCreditedBy-sent slot (Some link) by = by

credited-sent : (slot : ℕ) (links : List (Option LinkRec)) (e : ℕ) → CreditedBy slot links → CreditedBy slot (slice_set links e (sent_in slot (get_or links e None)))
credited-sent slot links e by =
    all-set (IsCreditedBy slot) links e (sent_in slot (get_or links e None)) by (IsCreditedBy-sent slot (get_or links e None) (all-at (IsCreditedBy slot) links e None by tt))

gap-pop : (w : Option EndCounts) → end_gap (without_first w) ≡ end_gap w
gap-pop None = refl
gap-pop (Some w) = refl

-- ---- How the work goes on

on-then : {x y z : Work} → (a b n : ℕ) → a + b ≤ n → GoesOn a x y → GoesOn b y z → GoesOn n x z
on-then {x} {y} {z} a b n h f g = record {
  slot = g.slot ∙ f.slot;
  ways = g.ways ∙ f.ways;
  inputs = g.inputs ∙ f.inputs;
  chans = g.chans ∙ f.chans;
  links = g.links ∙ f.links;
  out = g.out ∙ f.out;
  gaps = g.gaps ∙ f.gaps;
  sent = λ by. subst (λ s. SentBy s z.links.now) f.slot (g.sent (subst (λ s. SentBy s y.links.now) (sym f.slot) (f.sent by)));
  events = omega (arith, h, f.events, g.events);
}

-- by one rule and then by another
pub goes-then : {x y z : Work} → {f g : Begun → AtWork → AtWork} → (a b n : ℕ) → a + b ≤ n → GoesBy a f x y → GoesBy b g y z → GoesBy n (λ begun m. g begun (f begun m)) x z
goes-then {x} {y} {z} {f} {g} a b n h p q = record { on = on-then a b n h p.on q.on; by = λ begun m s. q.by begun (f begun m) (p.by begun m s) }

-- by a rule that makes the same of the nodes at work for which the work stands
pub goes-as : {x y : Work} → {f g : Begun → AtWork → AtWork} → (n : ℕ) → ((begun : Begun) (m : AtWork) → Stands begun x m → f begun m ≡ g begun m) → GoesBy n f x y → GoesBy n g x y
goes-as {x} {y} {f} {g} n same p = record { on = p.on; by = λ begun m s. subst (λ r. Stands begun y r) (same begun m s) (p.by begun m s) }

-- nowhere
pub goes-nowhere : (n : ℕ) (x : Work) → GoesBy n (λ begun m. m) x x
goes-nowhere n x = record {
  on = record {
    slot = refl;
    ways = refl;
    inputs = refl;
    chans = refl;
    links = refl;
    out = refl;
    gaps = refl;
    sent = λ by. by;
    events = omega arith;
  };
  by = λ begun m s. s;
}

pub goes-at_most : {x y : Work} → {f : Begun → AtWork → AtWork} → (a n : ℕ) → a ≤ n → GoesBy a f x y → GoesBy n f x y
goes-at_most {x} {y} {f} a n h p = record { on = on-then a 0 n (omega (arith, h)) p.on (goes-nowhere 0 y).on; by = p.by }

-- a token is taken at a link end
pub goes-pop : (w : Work) (e : ℕ) (row : List (Option EndCounts)) (out : Emitted) → end_gaps row ≡ end_gaps w.links.now → (SentBy w.slot w.links.now → SentBy w.slot row) → row ≡ slice_set w.links.now e (without_first (counts_at w.links.now e)) → out ≡ record w.out.now { credits = slice_set w.out.now.credits e true } → GoesBy 0 (λ begun m. record m {
  rec = record m.rec { links = slice_set m.rec.links e (link_without_first (link_at m.rec e)) };
  credits = slice_set m.credits e true;
}) w (record w { links = record w.links { now = row }; out = record w.out { now = out } })
goes-pop w e row out gaps sent value credits = record {
  on = record {
    slot = refl;
    ways = refl;
    inputs = refl;
    chans = refl;
    links = refl;
    out = refl;
    gaps = gaps;
    sent = sent;
    events = omega (arith, ap (λ (o : Emitted). length o.events) credits);
  };
  by = λ begun m s. record {
    routes = ap (routes_with w.ways) gaps ∙ s.routes;
    slot = s.slot;
    inputs = s.inputs;
    chans = s.chans;
    links = subst (λ (r : List (Option EndCounts)). AllCountsOf r (slice_set m.rec.links e (link_without_first (link_at m.rec e)))) (sym value) (counts-pop w.links.now m.rec.links e s.links);
    credited = credited-pop begun.slot m.rec.links e s.credited;
    events = ap (λ (o : Emitted). o.events) credits ∙ s.events;
    tokens = ap (λ (o : Emitted). o.tokens) credits ∙ s.tokens;
    credits = ap (λ (o : Emitted). o.credits) credits ∙ ap (λ (cs : List Bool). slice_set cs e true) s.credits;
    rest = ap (λ (r : NodeRec). record r { links = slice_set m.rec.links e (link_without_first (link_at m.rec e)) }) s.rest;
  };
}

-- the tokens that wait at an input
pub waits_of : (ends : List ChanRec) (row : List (Option EndCounts)) (rec : NodeRec) → ends ≡ rec.core.chans → AllCountsOf row rec.links → (i : ℕ) → waiting_in ends row i ≡ waiting_at rec i
waits_of ends row rec chans links i =
    ap (λ (ts : List Token). cond (ltb i 8) ts (chan_at ends (i - 8)).output) (same-buffer (counts_at row i) (link_at rec i) (counts-at row rec.links i links))
    ∙ ap (λ (cs : List ChanRec). cond (ltb i 8) (buffer_of_link (link_at rec i)) (get_or cs (i - 8) unused_chan).output) chans

pub waits : (begun : Begun) (w : Work) (m : AtWork) → Stands begun w m → (i : ℕ) → waiting_in w.chans.now w.links.now i ≡ waiting_at m.rec i
waits begun w m s i = waits_of w.chans.now w.links.now m.rec s.chans s.links i
