-- All arcs, one after the other: what each sender has run is handed on.
use Rattle.std.proofs.Common.{◌≡◌, ◌≢◌, ℕ, ◌+◌, ◌<◌, ◌≤◌, None, List, length, map, get_or, set, refl, sym, ap, ◌∙◌, arith, inl, inr}
use mathlib.Core.Logic.{◌⊎◌}
use Rattle.std.proofs.lemmas.Bool.{cases_eq}
use Rattle.std.proofs.lemmas.List.{get_or-set_same, get_or-set_other, get_or-map, get_or_default, length-map, same_lists}
use Rattle.xs_base.specs.Numbers.{Slot}
use Rattle.sys_plan.specs.Plan.{PlanRec, Arc, arcs, arc_count}
use Rattle.plan_lanes.specs.declared.lane.Lane.{Lane}
use Rattle.plan_lanes.specs.Lanes.{clocks_of, seen_of, published_of}
use Rattle.node_rounds.specs.declared.seat.Seat.{Seat}
use Rattle.node_rounds.specs.Rounds.{AreBetween, all_told, sender_of, run_by_senders}
use Rattle.node_rounds.specs.Sends.{Sends, Takes, HandsOn, HandsAllOn}

number_at : (ns : List ℕ) (link v : ℕ) (after : List ℕ) → link < length ns → after ≡ set ns link v → get_or after link 0 ≡ v
number_at ns link v after below is = ap (λ (xs : List ℕ). get_or xs link 0) is ∙ get_or-set_same ns link v 0 below

number_beside : (ns : List ℕ) (link k v : ℕ) (after : List ℕ) → k ≢ link → after ≡ set ns link v → get_or after k 0 ≡ get_or ns k 0
number_beside ns link k v after apart is = ap (λ (xs : List ℕ). get_or xs k 0) is ∙ get_or-set_other ns link k v 0 apart

-- a send and a take after it
pub both : (plan : PlanRec) (link node : ℕ) (limit : Slot) (seats : List Seat) (lanes : List Lane) (seats_too : List Seat) (lanes_too : List Lane) (seats_after : List Seat) (lanes_after : List Lane)
    → sender_of plan link ≡ node → link < length (published_of lanes) → Sends plan link node limit seats lanes seats_too lanes_too → Takes plan link limit seats_too lanes_too seats_after lanes_after
    → HandsOn plan link limit seats lanes seats_after lanes_after
both plan link node limit seats lanes seats_too lanes_too seats_after lanes_after sender below sends takes =
    let run : ℕ → ℕ = λ n. get_or (clocks_of (all_told seats)) n 0 in
    let published_is = number_at (published_of lanes) link (run node) (published_of lanes_too) below sends.published in
    record {
      between = takes.between;
      same_clocks = takes.same_clocks ∙ sends.same_clocks;
      published = takes.same_published ∙ sends.published ∙ ap (λ n. set (published_of lanes) link (run n)) (sym sender);
      seen = takes.seen ∙ (λ i. set (sends.same_seen i) link ((published_is ∙ ap run (sym sender)) i));
    }

-- so it is of the arcs below a number
pub record HandedTo (plan : PlanRec) (limit : Slot) (seats : List Seat) (lanes : List Lane) (below : ℕ) (seats_after : List Seat) (lanes_after : List Lane) : Type 0 where
  pub between : AreBetween plan limit seats_after lanes_after
  pub same_clocks : clocks_of (all_told seats_after) ≡ clocks_of (all_told seats)
  pub published : (k : ℕ) → k < below → get_or (published_of lanes_after) k 0 ≡ get_or (clocks_of (all_told seats)) (sender_of plan k) 0
  pub seen : (k : ℕ) → k < below → get_or (seen_of lanes_after) k 0 ≡ get_or (clocks_of (all_told seats)) (sender_of plan k) 0

pub none_yet : (plan : PlanRec) (limit : Slot) (seats : List Seat) (lanes : List Lane) → AreBetween plan limit seats lanes → HandedTo plan limit seats lanes 0 seats lanes
none_yet plan limit seats lanes between = record { between = between; same_clocks = refl; published = λ k h. absurd (omega (arith, h)); seen = λ k h. absurd (omega (arith, h)) }

module _ (plan : PlanRec) (limit : Slot) (seats : List Seat) (lanes : List Lane) (below : ℕ) (seats_now : List Seat) (lanes_now : List Lane)
    (so_far : HandedTo plan limit seats lanes below seats_now lanes_now) where
  more_at : (ns after : List ℕ) → below < length ns → after ≡ set ns below (get_or (clocks_of (all_told seats_now)) (sender_of plan below) 0)
      → ((k : ℕ) → k < below → get_or ns k 0 ≡ get_or (clocks_of (all_told seats)) (sender_of plan k) 0)
      → (k : ℕ) → k < below + 1 → get_or after k 0 ≡ get_or (clocks_of (all_told seats)) (sender_of plan k) 0
  more_at ns after inside is earlier k h = by_case (cases_eq k below)
    where
      by_case : (k ≡ below) ⊎ (k ≡ below → ⊥) → get_or after k 0 ≡ get_or (clocks_of (all_told seats)) (sender_of plan k) 0
      by_case (inl same) =
          ap (λ j. get_or after j 0) same
          ∙ number_at ns below (get_or (clocks_of (all_told seats_now)) (sender_of plan below) 0) after inside is
          ∙ (λ i. get_or (so_far.same_clocks i) (sender_of plan (sym same i)) 0)
      by_case (inr other) =
          number_beside ns below k (get_or (clocks_of (all_told seats_now)) (sender_of plan below) 0) after other is ∙ earlier k (omega (arith, h, other))

  pub one_more : (seats_after : List Seat) (lanes_after : List Lane) → below < length lanes_now → HandsOn plan below limit seats_now lanes_now seats_after lanes_after
      → HandedTo plan limit seats lanes (below + 1) seats_after lanes_after
  one_more seats_after lanes_after inside on = record {
    between = on.between;
    same_clocks = on.same_clocks ∙ so_far.same_clocks;
    published = more_at (published_of lanes_now) (published_of lanes_after) (omega (arith, inside, length-map lanes_now (λ (l : Lane). l.log.published))) on.published so_far.published;
    seen = more_at (seen_of lanes_now) (seen_of lanes_after) (omega (arith, inside, length-map lanes_now (λ (l : Lane). l.r.got))) on.seen so_far.seen;
  }

  abbrev no_arc : Arc
  no_arc = record { from = 0; from_end = 0; to = 0; to_end = 0; delay = 0; gap = 0; joins = None }

  all_at : (ns : List ℕ) → length ns ≡ arc_count plan → ((k : ℕ) → k < arc_count plan → get_or ns k 0 ≡ get_or (clocks_of (all_told seats)) (sender_of plan k) 0) → ns ≡ run_by_senders plan (clocks_of (all_told seats))
  all_at ns count each =
      let run : ℕ → ℕ = λ n. get_or (clocks_of (all_told seats)) n 0 in
      let of_arc : Arc → ℕ = λ d. run d.from in
      same_lists ns (map of_arc (arcs plan)) (count ∙ sym (length-map (arcs plan) of_arc))
      (λ k x h.
      let inside : k < length (arcs plan) = omega (arith, h, count) in
      get_or_default ns k x 0 h
      ∙ each k inside
      ∙ ap run (get_or-map (λ (d : Arc). d.from) (arcs plan) k no_arc 0 inside)
      ∙ sym (get_or-map of_arc (arcs plan) k no_arc x inside))

  pub all_handed : length lanes_now ≤ below → HandsAllOn plan limit seats lanes seats_now lanes_now
  all_handed done =
      let count = so_far.between.are_at.link_count in
      record {
        between = so_far.between;
        same_clocks = so_far.same_clocks;
        published = all_at (published_of lanes_now) (length-map lanes_now (λ (l : Lane). l.log.published) ∙ count) (λ k h. so_far.published k (omega (arith, h, done, count)));
        seen = all_at (seen_of lanes_now) (length-map lanes_now (λ (l : Lane). l.r.got) ∙ count) (λ k h. so_far.seen k (omega (arith, h, done, count)));
      }
