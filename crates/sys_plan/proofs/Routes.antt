-- Arcs by number, and the ends that they join: each end of a node has one that leaves and one that comes at most.
use Rattle.std.proofs.Common.{◌≡◌, ◌≢◌, ℕ, zero, suc, ◌+◌, ◌<◌, ◌≤◌, Bool, true, false, ◌&&◌, eqb, cond, Some, None, List, [], ◌∷◌}
use Rattle.std.proofs.Common.{◌++◌, length, map, get_or, slice_get, slice_index, option_map, refl, sym, ap, ◌∙◌, subst, arith, inl, inr}
use mathlib.Core.Logic.{◌⊎◌}
use Rattle.std.specs.List.{AllByRecursion}
use Rattle.std.proofs.lemmas.Bool.{eq-eqb, eqb-true, cases_Bool, and_left, and_right, and_parts}
use Rattle.std.proofs.lemmas.List.{length-map}
use Rattle.std.proofs.lemmas.Option.{none-some, same_Some, slice_get-map, slice_get-get_or, get_or_from_slice_get}
use Rattle.xs_base.specs.Ids.{port_width}
use Rattle.sys_plan.specs.declared.LinkPlan.{LinkPlan}
use Rattle.sys_plan.specs.declared.WirePlan.{WirePlan}
use Rattle.sys_plan.specs.Plan.{PlanRec, Arc, Joined, IsPlan, IsLink, IsWire, AreDistinct, forth, back, arcs, link_arcs, wire_arcs, places_of, leaves_by}
use Rattle.sys_plan.specs.Plan.{comes_to, first_arc, outgoing, incoming, delay_of, gap_of, gap_by, gaps_of, link_ends, numbers_from, ends_in, ends_out, count_from, count_to}
use Rattle.sys_plan.specs.declared.system_plan.TheConstants.{ENDS}
use Rattle.sys_plan.proofs.Past.{leaves_none, comes_none}
use Rattle.sys_plan.proofs.Firsts.{none-then, then-none}
use Rattle.sys_plan.proofs.Wires.{none-at-links, none-after, counts-few, places-distinct, ends-from-8, ends-below}

-- ---- What holds of each link holds of its arcs, and what holds of each wire of its own

-- the arc of a link within its ranges
pub record IsDirected (nodes : ℕ) (d : Arc) : Type 0 where
  pub from : d.from < nodes
  pub to : d.to < nodes
  pub from_end : d.from_end < 8
  pub to_end : d.to_end < 8
  pub delay : 1 ≤ d.delay
  pub most_delay : d.delay ≤ 1000
  pub gap : 4 ≤ d.gap
  pub joins : d.joins ≡ None

-- the arc of a wire within its ranges
pub record IsAlong (nodes : ℕ) (d : Arc) : Type 0 where
  pub from : d.from < nodes
  pub to : d.to < nodes
  pub delay : 1 ≤ d.delay
  pub most_delay : d.delay ≤ 1000
  pub joined : Joined
  pub joins : d.joins ≡ Some joined
  pub from_port : joined.from_port < 29
  pub to_port : joined.to_port < 29
  pub widths : port_width joined.from_port ≡ port_width joined.to_port

-- an arc of either kind
pub record IsWithin (nodes : ℕ) (d : Arc) : Type 0 where
  pub from : d.from < nodes
  pub to : d.to < nodes
  pub from_end : d.from_end < ENDS
  pub to_end : d.to_end < ENDS
  pub delay : 1 ≤ d.delay
  pub most_delay : d.delay ≤ 1000

forth-is : (nodes : ℕ) (link : LinkPlan) → IsLink nodes link → IsDirected nodes (forth link)
forth-is nodes link h = record { from = h.a; to = h.b; from_end = h.a_end; to_end = h.b_end; delay = h.least_delay; most_delay = h.most_delay; gap = h.least_gap; joins = refl }

back-is : (nodes : ℕ) (link : LinkPlan) → IsLink nodes link → IsDirected nodes (back link)
back-is nodes link h = record { from = h.b; to = h.a; from_end = h.b_end; to_end = h.a_end; delay = h.least_delay; most_delay = h.most_delay; gap = h.least_gap; joins = refl }

all-directed : (nodes : ℕ) (links : List LinkPlan) → AllByRecursion (IsLink nodes) links → AllByRecursion (IsDirected nodes) (link_arcs links)
all-directed nodes [] all = tt
all-directed nodes (link ∷ links) all = (forth-is nodes link all.0, (back-is nodes link all.0, all-directed nodes links all.1))

all-along : (nodes : ℕ) (earlier wires : List WirePlan) → AllByRecursion (IsWire nodes) wires → AllByRecursion (IsAlong nodes) (wire_arcs earlier wires)
all-along nodes earlier [] all = tt
all-along nodes earlier (wire ∷ wires) all = (
  record {
    from = all.0.a;
    to = all.0.b;
    delay = all.0.least_delay;
    most_delay = all.0.most_delay;
    joined = record { from_port = wire.a_port; to_port = wire.b_port };
    joins = refl;
    from_port = all.0.a_port;
    to_port = all.0.b_port;
    widths = all.0.widths;
  },
  all-along nodes (wire ∷ earlier) wires all.1,
)

module _ {X : Type 0} (P : X → Type 0) where
  pub all-get : (xs : List X) (k : ℕ) (x : X) → AllByRecursion P xs → slice_get xs k ≡ Some x → P x
  all-get [] k x all h = absurd (none-some x h)
  all-get (y ∷ ys) zero x all h = subst P (same_Some y x h) all.0
  all-get (y ∷ ys) (suc k) x all h = all-get ys k x all.1 h

  pub all-both : (xs ys : List X) → AllByRecursion P xs → AllByRecursion P ys → AllByRecursion P (xs ++ ys)
  all-both [] ys all also = also
  all-both (x ∷ xs) ys all also = (all.0, all-both xs ys all.1 also)

all-within : (nodes : ℕ) (ds : List Arc) → AllByRecursion (IsDirected nodes) ds → AllByRecursion (IsWithin nodes) ds
all-within nodes [] all = tt
all-within nodes (d ∷ ds) all =
    let h = all.0 in
    (record { from = h.from; to = h.to; from_end = omega (arith, h.from_end); to_end = omega (arith, h.to_end); delay = h.delay; most_delay = h.most_delay }, all-within nodes ds all.1)

wires-within : (nodes : ℕ) (ds : List Arc) → AllByRecursion (IsAlong nodes) ds → AllByRecursion (λ (d : Arc). d.from_end < 8 + 32) ds
    → AllByRecursion (λ (d : Arc). d.to_end < 8 + 32) ds → AllByRecursion (IsWithin nodes) ds
wires-within nodes [] all from to = tt
wires-within nodes (d ∷ ds) all from to = (
  record { from = all.0.from; to = all.0.to; from_end = omega (arith, from.0); to_end = omega (arith, to.0); delay = all.0.delay; most_delay = all.0.most_delay },
  wires-within nodes ds all.1 from.1 to.1,
)

-- ---- What is told of each end of a node

pub at-link-end : {X : Type 0} (f : ℕ → X) (default : X) (end : ℕ) → end < 8 → get_or (map f link_ends) end default ≡ f end
at-link-end f default zero h = refl
at-link-end f default (suc zero) h = refl
at-link-end f default (suc (suc zero)) h = refl
at-link-end f default (suc (suc (suc zero))) h = refl
at-link-end f default (suc (suc (suc (suc zero)))) h = refl
at-link-end f default (suc (suc (suc (suc (suc zero))))) h = refl
at-link-end f default (suc (suc (suc (suc (suc (suc zero)))))) h = refl
at-link-end f default (suc (suc (suc (suc (suc (suc (suc zero))))))) h = refl
at-link-end f default (suc (suc (suc (suc (suc (suc (suc (suc n)))))))) h = absurd (omega arith)

-- what is told of numbers from one on
at-number-from : {X : Type 0} (f : ℕ → X) (default : X) (n count k : ℕ) → k < count → get_or (map f (numbers_from n count)) k default ≡ f (n + k)
at-number-from f default n zero k h = absurd (omega arith)
at-number-from f default n (suc count) zero h = ap f (omega arith)
at-number-from f default n (suc count) (suc k) h = at-number-from f default (n + 1) count k (omega arith) ∙ ap f (omega arith)

-- what is told of each of the link ends and of so many ends of wires
at-each-end : {X : Type 0} (f : ℕ → X) (default : X) (count end : ℕ) → end < 8 + count → get_or (map f (link_ends ++ numbers_from 8 count)) end default ≡ f end
at-each-end f default count zero h = refl
at-each-end f default count (suc zero) h = refl
at-each-end f default count (suc (suc zero)) h = refl
at-each-end f default count (suc (suc (suc zero))) h = refl
at-each-end f default count (suc (suc (suc (suc zero)))) h = refl
at-each-end f default count (suc (suc (suc (suc (suc zero))))) h = refl
at-each-end f default count (suc (suc (suc (suc (suc (suc zero)))))) h = refl
at-each-end f default count (suc (suc (suc (suc (suc (suc (suc zero))))))) h = refl
at-each-end f default count (suc (suc (suc (suc (suc (suc (suc (suc k)))))))) h = at-number-from f default 8 count k (omega arith) ∙ ap f (omega arith)

-- what is told of each end to which arcs may come, and of each by which they may leave
pub at-end-in : {X : Type 0} (plan : PlanRec) (node : ℕ) (f : ℕ → X) (default : X) (end : ℕ) → end < ENDS → get_or (map f (ends_in plan node)) end default ≡ f end
at-end-in plan node f default end h = at-each-end f default 32 end (omega arith)

pub at-end-out : {X : Type 0} (plan : PlanRec) (node : ℕ) (f : ℕ → X) (default : X) (end : ℕ) → end < ENDS → get_or (map f (ends_out plan node)) end default ≡ f end
at-end-out plan node f default end h = at-each-end f default 32 end (omega arith)

pub found-at-end-in : {X : Type 0} (plan : PlanRec) (node : ℕ) (f : ℕ → X) (end : ℕ) → end < ENDS → slice_get (map f (ends_in plan node)) end ≡ Some (f end)
found-at-end-in plan node f end h = slice_get-get_or (map f (ends_in plan node)) end (f end) h ∙ ap (λ x. Some x) (at-end-in plan node f (f end) end h)

-- ---- No two arcs leave by one end of a node, and no two come to one

abbrev Place : Type 0
Place = ℕ × ℕ

abbrev from_place : Arc → Place
from_place d = (d.from, d.from_end)

abbrev to_place : Arc → Place
to_place d = (d.to, d.to_end)

from-places : (links : List LinkPlan) → map from_place (link_arcs links) ≡ places_of links
from-places [] = refl
from-places (link ∷ links) = ap (λ l. (link.a, link.a_end) ∷ ((link.b, link.b_end) ∷ l)) (from-places links)

module _ (P : Place → Type 0) where
  all-turned : (links : List LinkPlan) → AllByRecursion P (places_of links) → AllByRecursion P (map to_place (link_arcs links))
  all-turned [] h = tt
  all-turned (link ∷ links) h = (h.1.0, (h.0, all-turned links h.1.1))

to-distinct : (links : List LinkPlan) → AreDistinct (places_of links) → AreDistinct (map to_place (link_arcs links))
to-distinct [] h = tt
to-distinct (link ∷ links) h =
    let a : Place = (link.a, link.a_end) in
    let b : Place = (link.b, link.b_end) in (
      (λ same. h.0.0 (sym same), all-turned (λ y. b ≢ y) links h.1.0),
      (all-turned (λ y. a ≢ y) links h.0.1, to-distinct links h.1.1),
    )

-- the places of links and of wires together
module _ (place : Arc → Place) where
  apart-all : (x : Place) (ds : List Arc) → x.1 < 8 → AllByRecursion (λ d. 8 ≤ (place d).1) ds → AllByRecursion (λ y. x ≢ y) (map place ds)
  apart-all x [] near far = tt
  apart-all x (d ∷ ds) near far = ((λ same. absurd (omega (arith, near, far.0, ap (λ (p : Place). p.1) same))), apart-all x ds near far.1)

  distinct-both : (ds ws : List Arc) → AllByRecursion (λ d. (place d).1 < 8) ds → AllByRecursion (λ d. 8 ≤ (place d).1) ws
      → AreDistinct (map place ds) → AreDistinct (map place ws) → AreDistinct (map place (ds ++ ws))
  distinct-both [] ws near far one other = other
  distinct-both (d ∷ ds) ws near far one other = (both ds one.0, distinct-both ds ws near.1 far one.1 other)
    where
      both : (es : List Arc) → AllByRecursion (λ y. place d ≢ y) (map place es) → AllByRecursion (λ y. place d ≢ y) (map place (es ++ ws))
      both [] h = apart-all (place d) ws near.0 far
      both (e ∷ es) h = (h.0, both es h.1)

both-equal : (a b c d : ℕ) → a ≡ c → b ≡ d → (eqb a c && eqb b d) ≡ true
both-equal a b c d p q = rw (eq-eqb a c p, eq-eqb b d q) refl

not-both : (a b c d : ℕ) → (◌≡◌ {A = Place} (a, b) (c, d) → ⊥) → (eqb a c && eqb b d) ≡ false
not-both a b c d ne = by-first (cases_Bool (eqb a c)) (cases_Bool (eqb b d))
  where
    by-first : (eqb a c ≡ true) ⊎ (eqb a c ≡ false) → (eqb b d ≡ true) ⊎ (eqb b d ≡ false) → (eqb a c && eqb b d) ≡ false
    by-first (inr other) q = and_left (eqb a c) (eqb b d) other
    by-first (inl same) (inr other) = and_right (eqb a c) (eqb b d) other
    by-first (inl same) (inl also) = absurd (ne (λ i. (eqb-true a c same i, eqb-true b d also i)))

-- the first arc at a place, by a test of its place
module _ (place : Arc → Place) (test : Place → Arc → Bool)
    (hits : (d : Arc) → test (place d) d ≡ true)
    (misses : (p : Place) (d : Arc) → (place d ≡ p → ⊥) → test p d ≡ false) where
  not-among : (x : Arc) (ds : List Arc) (l : ℕ) (d : Arc) → AllByRecursion (λ y. place x ≢ y) (map place ds) → slice_get ds l ≡ Some d → place x ≡ place d → ⊥
  not-among x [] l d all h same = none-some d h
  not-among x (y ∷ ds) zero d all h same = all.0 (same ∙ ap place (sym (same_Some y d h)))
  not-among x (y ∷ ds) (suc l) d all h same = not-among x ds l d all.1 h same

  first-at : (ds : List Arc) (n l : ℕ) (d : Arc) → AreDistinct (map place ds) → slice_get ds l ≡ Some d → first_arc (test (place d)) n ds ≡ Some (n + l)
  first-at [] n l d distinct h = absurd (none-some d h)
  first-at (x ∷ ds) n zero d distinct h =
      let e : test (place d) x ≡ true = subst (λ (y : Arc). test (place y) x ≡ true) (same_Some x d h) (hits x) in
      rw e (ap (λ (k : ℕ). Some k) (omega arith))
  first-at (x ∷ ds) n (suc l) d distinct h =
      let e : test (place d) x ≡ false = misses (place d) x (not-among x ds l d distinct.0 h) in
      let more : n + 1 + l ≡ n + suc l = omega arith in
      rw e (first-at ds (n + 1) l d distinct.1 h ∙ ap (λ (k : ℕ). Some k) more)

module _ (plan : PlanRec) (is : IsPlan plan) where
  abbrev pub nodes : ℕ
  nodes = length plan.nodes

  directed-all : AllByRecursion (IsDirected nodes) (link_arcs plan.links)
  directed-all = all-directed nodes plan.links is.links

  along-all : AllByRecursion (IsAlong nodes) (wire_arcs [] plan.wires)
  along-all = all-along nodes [] plan.wires is.wires

  near : (place : Arc → Place) → ((d : Arc) → IsDirected nodes d → (place d).1 < 8) → (ds : List Arc) → AllByRecursion (IsDirected nodes) ds → AllByRecursion (λ d. (place d).1 < 8) ds
  near place h [] all = tt
  near place h (d ∷ ds) all = (h d all.0, near place h ds all.1)

  from-distinct : AreDistinct (map from_place (arcs plan))
  from-distinct =
      distinct-both from_place (link_arcs plan.links) (wire_arcs [] plan.wires) (near from_place (λ d h. h.from_end) (link_arcs plan.links) directed-all)
      (ends-from-8 (λ (w : WirePlan). w.a) (λ (d : Arc). d.from) (λ (d : Arc). d.from_end) (λ e w. refl) (λ e w. refl) [] plan.wires)
      (subst AreDistinct (sym (from-places plan.links)) is.places)
      (places-distinct (λ (w : WirePlan). w.a) (λ (d : Arc). d.from) (λ (d : Arc). d.from_end) (λ e w. refl) (λ e w. refl) [] plan.wires)

  to-distinct-all : AreDistinct (map to_place (arcs plan))
  to-distinct-all =
      distinct-both to_place (link_arcs plan.links) (wire_arcs [] plan.wires) (near to_place (λ d h. h.to_end) (link_arcs plan.links) directed-all)
      (ends-from-8 (λ (w : WirePlan). w.b) (λ (d : Arc). d.to) (λ (d : Arc). d.to_end) (λ e w. refl) (λ e w. refl) [] plan.wires)
      (to-distinct plan.links is.places)
      (places-distinct (λ (w : WirePlan). w.b) (λ (d : Arc). d.to) (λ (d : Arc). d.to_end) (λ e w. refl) (λ e w. refl) [] plan.wires)

  pub within-all : AllByRecursion (IsWithin nodes) (arcs plan)
  within-all = all-both (IsWithin nodes) (link_arcs plan.links) (wire_arcs [] plan.wires) (all-within nodes (link_arcs plan.links) directed-all)
      (wires-within nodes (wire_arcs [] plan.wires) along-all
      (ends-below (λ (w : WirePlan). w.a) (λ (d : Arc). d.from) (λ (d : Arc). d.from_end) (λ e w. refl) (λ e w. refl) 32 [] plan.wires (omega (arith, is.few_wires)))
      (ends-below (λ (w : WirePlan). w.b) (λ (d : Arc). d.to) (λ (d : Arc). d.to_end) (λ e w. refl) (λ e w. refl) 32 [] plan.wires (omega (arith, is.few_wires))))

  -- the arc of a link is one of the plan
  module _ (l : ℕ) (d : Arc) (here : slice_get (link_arcs plan.links) l ≡ Some d) where
    pub directed : IsDirected nodes d
    directed = all-get (IsDirected nodes) (link_arcs plan.links) l d directed-all here

    pub link-arc : slice_get (arcs plan) l ≡ Some d
    link-arc = at-first (link_arcs plan.links) l here
      where
        at-first : (ds : List Arc) (k : ℕ) → slice_get ds k ≡ Some d → slice_get (ds ++ wire_arcs [] plan.wires) k ≡ Some d
        at-first [] k h = absurd (none-some d h)
        at-first (x ∷ ds) zero h = h
        at-first (x ∷ ds) (suc k) h = at-first ds k h

module _ (plan : PlanRec) (is : IsPlan plan) (l : ℕ) (d : Arc) (here : slice_get (arcs plan) l ≡ Some d) where
  zero-on : 0 + l ≡ l
  zero-on = omega arith

  pub outgoing-is : outgoing plan d.from d.from_end ≡ Some l
  outgoing-is =
      first-at from_place (λ p. leaves_by p.0 p.1) (λ d. both-equal d.from d.from_end d.from d.from_end refl refl) (λ p d ne. not-both d.from d.from_end p.0 p.1 ne)
      (arcs plan) 0 l d (from-distinct plan is) here
      ∙ ap (λ (k : ℕ). Some k) zero-on

  pub incoming-is : incoming plan d.to d.to_end ≡ Some l
  incoming-is =
      first-at to_place (λ p. comes_to p.0 p.1) (λ d. both-equal d.to d.to_end d.to d.to_end refl refl) (λ p d ne. not-both d.to d.to_end p.0 p.1 ne)
      (arcs plan) 0 l d (to-distinct-all plan is) here
      ∙ ap (λ (k : ℕ). Some k) zero-on

  at-number : (f : Arc → ℕ) → get_or (map f (arcs plan)) l 0 ≡ f d
  at-number f = get_or_from_slice_get (map f (arcs plan)) l (f d) 0 (slice_get-map f (arcs plan) l ∙ ap (option_map f) here)

  pub delay-is : delay_of plan l ≡ d.delay
  delay-is = at-number (λ (d : Arc). d.delay)

  gap-is : gap_of plan l ≡ d.gap
  gap-is = at-number (λ (d : Arc). d.gap)

  pub within : IsWithin (length plan.nodes) d
  within = all-get (IsWithin (length plan.nodes)) (arcs plan) l d (within-all plan is) here

-- the gap of the arc of a link
module _ (plan : PlanRec) (is : IsPlan plan) (l : ℕ) (d : Arc) (here : slice_get (link_arcs plan.links) l ≡ Some d) where
  pub gap-at : slice_index (gaps_of plan d.from) d.from_end ≡ d.gap
  gap-at =
      at-link-end (λ end. gap_by plan (outgoing plan d.from end)) 0 d.from_end (directed plan is l d here).from_end
      ∙ ap (gap_by plan) (outgoing-is plan is l d (link-arc plan is l d here))
      ∙ gap-is plan is l d (link-arc plan is l d here)

-- ---- The arc at an end of a node

-- the first that passes a test, which does
module _ (test : Arc → Bool) where
  pub found : (k l : ℕ) (ds : List Arc) → first_arc test k ds ≡ Some l → (m : ℕ) × (d : Arc) × (l ≡ k + m) × (slice_get ds m ≡ Some d) × (test d ≡ true)
  found k l [] h = absurd (none-some l h)
  found k l (d ∷ ds) h = by_test (λ e. found (k + 1) l ds e) (cases_Bool (test d))
    where
      by_test : (first_arc test (k + 1) ds ≡ Some l → (m : ℕ) × (d : Arc) × (l ≡ k + 1 + m) × (slice_get ds m ≡ Some d) × (test d ≡ true))
          → (test d ≡ true) ⊎ (test d ≡ false) → (m : ℕ) × (e : Arc) × (l ≡ k + m) × (slice_get (d ∷ ds) m ≡ Some e) × (test e ≡ true)
      by_test rest (inl hit) =
          (0, d, omega (arith, same_Some k l (ap (λ b. cond b (Some k) (first_arc test (k + 1) ds)) (sym hit) ∙ h)), refl, hit)
      by_test rest (inr miss) =
          let more = rest (ap (λ b. cond b (Some k) (first_arc test (k + 1) ds)) (sym miss) ∙ h) in
          (suc more.0, more.1, omega (arith, more.2), more.3, more.4)

-- the arc with a number leads from or to an end
pub record LeadsFrom (plan : PlanRec) (link n end : ℕ) : Type 0 where
  pub arc : Arc
  pub here : slice_get (arcs plan) link ≡ Some arc
  pub from : arc.from ≡ n
  pub from_end : arc.from_end ≡ end

pub record LeadsTo (plan : PlanRec) (link n end : ℕ) : Type 0 where
  pub arc : Arc
  pub here : slice_get (arcs plan) link ≡ Some arc
  pub to : arc.to ≡ n
  pub to_end : arc.to_end ≡ end

module _ (plan : PlanRec) (n end link : ℕ) where
  pub leads-from : outgoing plan n end ≡ Some link → LeadsFrom plan link n end
  leads-from h =
      let f = found (leaves_by n end) 0 link (arcs plan) h in
      let both = and_parts (eqb f.1.from n) (eqb f.1.from_end end) f.4 in
      record {
        arc = f.1;
        here = subst (λ m. slice_get (arcs plan) m ≡ Some f.1) (omega (arith, f.2)) f.3;
        from = eqb-true f.1.from n both.0;
        from_end = eqb-true f.1.from_end end both.1;
      }

  pub leads-to : incoming plan n end ≡ Some link → LeadsTo plan link n end
  leads-to h =
      let f = found (comes_to n end) 0 link (arcs plan) h in
      let both = and_parts (eqb f.1.to n) (eqb f.1.to_end end) f.4 in
      record {
        arc = f.1;
        here = subst (λ m. slice_get (arcs plan) m ≡ Some f.1) (omega (arith, f.2)) f.3;
        to = eqb-true f.1.to n both.0;
        to_end = eqb-true f.1.to_end end both.1;
      }

-- an arc leaves by one end, and comes to one
module _ (plan : PlanRec) (link n m end far : ℕ) where
  pub leaves-once : outgoing plan n end ≡ Some link → outgoing plan m far ≡ Some link → (n ≡ m) × (end ≡ far)
  leaves-once a b =
      let x = leads-from plan n end link a in
      let y = leads-from plan m far link b in
      let same : x.arc ≡ y.arc = same_Some x.arc y.arc (sym x.here ∙ y.here) in
      (sym x.from ∙ ap (λ (d : Arc). d.from) same ∙ y.from, sym x.from_end ∙ ap (λ (d : Arc). d.from_end) same ∙ y.from_end)

  pub comes-once : incoming plan n end ≡ Some link → incoming plan m far ≡ Some link → (n ≡ m) × (end ≡ far)
  comes-once a b =
      let x = leads-to plan n end link a in
      let y = leads-to plan m far link b in
      let same : x.arc ≡ y.arc = same_Some x.arc y.arc (sym x.here ∙ y.here) in
      (sym x.to ∙ ap (λ (d : Arc). d.to) same ∙ y.to, sym x.to_end ∙ ap (λ (d : Arc). d.to_end) same ∙ y.to_end)

-- ---- Of the arcs of a plan

-- at a link end none but the arc of a link is found
module _ (plan : PlanRec) (n end : ℕ) (below : end < 8) where
  pub outgoing-of-link : outgoing plan n end ≡ first_arc (leaves_by n end) 0 (link_arcs plan.links)
  outgoing-of-link = then-none (leaves_by n end) (link_arcs plan.links) (wire_arcs [] plan.wires) 0
      (none-at-links (λ (w : WirePlan). w.a) (λ (d : Arc). d.from) (λ (d : Arc). d.from_end) (λ e w. refl) (λ e w. refl) n end below [] plan.wires)

  pub incoming-of-link : incoming plan n end ≡ first_arc (comes_to n end) 0 (link_arcs plan.links)
  incoming-of-link = then-none (comes_to n end) (link_arcs plan.links) (wire_arcs [] plan.wires) 0
      (none-at-links (λ (w : WirePlan). w.b) (λ (d : Arc). d.to) (λ (d : Arc). d.to_end) (λ e w. refl) (λ e w. refl) n end below [] plan.wires)

  -- so the arc that leaves by it, and the one that comes to it, are arcs of links
  pub link-leaves : (link : ℕ) → outgoing plan n end ≡ Some link → (d : Arc) × (slice_get (link_arcs plan.links) link ≡ Some d)
  link-leaves link h =
      let f = found (leaves_by n end) 0 link (link_arcs plan.links) (sym outgoing-of-link ∙ h) in
      (f.1, subst (λ m. slice_get (link_arcs plan.links) m ≡ Some f.1) (omega (arith, f.2)) f.3)

  pub link-comes : (link : ℕ) → incoming plan n end ≡ Some link → (d : Arc) × (slice_get (link_arcs plan.links) link ≡ Some d)
  link-comes link h =
      let f = found (comes_to n end) 0 link (link_arcs plan.links) (sym incoming-of-link ∙ h) in
      (f.1, subst (λ m. slice_get (link_arcs plan.links) m ≡ Some f.1) (omega (arith, f.2)) f.3)

module _ (plan : PlanRec) (is : IsPlan plan) (n end : ℕ) where
  -- from an end of a wire on no link is found
  pub outgoing-of-wire : 8 ≤ end → outgoing plan n end ≡ first_arc (leaves_by n end) (length (link_arcs plan.links)) (wire_arcs [] plan.wires)
  outgoing-of-wire far =
      none-then (leaves_by n end) (link_arcs plan.links) (wire_arcs [] plan.wires) 0 (leaves_none (length plan.nodes) n end far plan.links 0 is.links)
      ∙ ap (λ i. first_arc (leaves_by n end) i (wire_arcs [] plan.wires)) (omega arith)

  pub incoming-of-wire : 8 ≤ end → incoming plan n end ≡ first_arc (comes_to n end) (length (link_arcs plan.links)) (wire_arcs [] plan.wires)
  incoming-of-wire far =
      none-then (comes_to n end) (link_arcs plan.links) (wire_arcs [] plan.wires) 0 (comes_none (length plan.nodes) n end far plan.links 0 is.links)
      ∙ ap (λ i. first_arc (comes_to n end) i (wire_arcs [] plan.wires)) (omega arith)

  pub outgoing-past : 8 + count_from n plan.wires ≤ end → outgoing plan n end ≡ None
  outgoing-past past = outgoing-of-wire (omega arith) ∙
      none-after (λ (w : WirePlan). w.a) (λ (d : Arc). d.from) (λ (d : Arc). d.from_end) (λ e w. refl) (λ e w. refl) n end plan.wires (length (link_arcs plan.links)) past

  pub incoming-past : 8 + count_to n plan.wires ≤ end → incoming plan n end ≡ None
  incoming-past past = incoming-of-wire (omega arith) ∙
      none-after (λ (w : WirePlan). w.b) (λ (d : Arc). d.to) (λ (d : Arc). d.to_end) (λ e w. refl) (λ e w. refl) n end plan.wires (length (link_arcs plan.links)) past

  module _ (link : ℕ) where
    pub outgoing-end : outgoing plan n end ≡ Some link → end < ENDS
    outgoing-end h = let l = leads-from plan n end link h in subst (λ e. e < ENDS) l.from_end (within plan is link l.arc l.here).from_end

    pub incoming-end : incoming plan n end ≡ Some link → end < ENDS
    incoming-end h = let l = leads-to plan n end link h in subst (λ e. e < ENDS) l.to_end (within plan is link l.arc l.here).to_end

    pub incoming-delay : incoming plan n end ≡ Some link → 1 ≤ delay_of plan link
    incoming-delay h =
        let l = leads-to plan n end link h in
        omega (arith, (within plan is link l.arc l.here).delay, delay-is plan is link l.arc l.here)

-- a node has no more ends than there may be
pub count_to_few : (plan : PlanRec) (is : IsPlan plan) (n : ℕ) → 8 + count_to n plan.wires ≤ ENDS
count_to_few plan is n = omega (arith, counts-few (λ (w : WirePlan). w.b) n plan.wires, is.few_wires)

pub count_from_few : (plan : PlanRec) (is : IsPlan plan) (n : ℕ) → 8 + count_from n plan.wires ≤ ENDS
count_from_few plan is n = omega (arith, counts-few (λ (w : WirePlan). w.a) n plan.wires, is.few_wires)
