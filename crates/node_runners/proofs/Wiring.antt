-- The wires of a node by its ends, as they stand in the plan.
use Rattle.std.proofs.Common.{◌≡◌, ◌≢◌, ℕ, zero, suc, ◌+◌, ◌<◌, ◌≤◌, Bool, true, false, ◌&&◌, Some, None, List, [], ◌∷◌, ◌++◌, length, take, filter, get_or, slice_get, refl, sym, ap, ◌∙◌, subst, arith, inl, inr}
use mathlib.Core.Logic.{◌⊎◌}
use Rattle.std.specs.Prelude.{◌==◌}
use Rattle.std.specs.List.{AllByRecursion}
use Rattle.std.proofs.lemmas.Bool.{cases_Bool, eq-eqb, ne_eqb, eqb-true, and_left, and_right}
use Rattle.std.proofs.lemmas.List.{length-append, take_all}
use Rattle.std.proofs.lemmas.List.Elements.{filter-append}
use Rattle.std.proofs.lemmas.Option.{none-some, same_Some, slice_get-get_or}
use Rattle.xs_base.specs.Numbers.{Position}
use Rattle.sys_plan.specs.declared.LinkPlan.{LinkPlan}
use Rattle.sys_plan.specs.declared.WirePlan.{WirePlan}
use Rattle.sys_plan.specs.Plan.{PlanRec, Arc, IsPlan, IsWire, AreDistinct, forth, back, arcs, link_arcs, wire_arcs, along, first_arc, comes_to_pin, incoming, wire_to, targets_of, count_from, count_to}
use Rattle.sys_plan.proofs.Firsts.{none-then}
use Rattle.sys_plan.proofs.Wires.{count_at, counts-here, counts-elsewhere}
use Rattle.sys_plan.proofs.Routes.{all-get, incoming-is, delay-is}
use Rattle.node_runners.specs.declared.wire_inlets.WireInlet.{WireInlet}
use Rattle.node_runners.specs.Queue.{InletRec}
use Rattle.node_runners.specs.Wires.{no_wire_in, wire_in}
use Rattle.node_runners.specs.Sent.{WireOutRec, no_batch, no_wire_out, wire_out}
use Rattle.node_runners.specs.Starts.{first_inlet, FirstIn, FirstOut}

-- ---- One more at the end of a list

pub each-more : {X : Type 0} (P : ℕ → X → Type 0) (d : X) (xs : List X) (x : X) → ((k : ℕ) → k < length xs → P k (get_or xs k d)) → P (length xs) x
    → (k : ℕ) → k < length (xs ++ x ∷ []) → P k (get_or (xs ++ x ∷ []) k d)
each-more P d [] x all last zero h = last
each-more P d [] x all last (suc k) h = absurd (omega (arith, h))
each-more P d (y ∷ xs) x all last zero h = all 0 (omega arith)
each-more P d (y ∷ xs) x all last (suc k) h = each-more (λ j. P (suc j)) d xs x (λ j l. all (suc j) (omega (arith, l))) last k (omega (arith, h))

-- ---- How many are there

module _ (of : WirePlan → ℕ) (node : ℕ) where
  count-move : (x : WirePlan) (xs ys : List WirePlan) → count_at of node (x ∷ xs) + count_at of node ys ≡ count_at of node xs + count_at of node (x ∷ ys)
  count-move x xs ys = by (cases_Bool (of x == node))
    where
      by : ((of x == node) ≡ true) ⊎ ((of x == node) ≡ false) → count_at of node (x ∷ xs) + count_at of node ys ≡ count_at of node xs + count_at of node (x ∷ ys)
      by (inl is) = omega (arith, counts-here of node x xs is, counts-here of node x ys is)
      by (inr is) = omega (arith, counts-elsewhere of node x xs is, counts-elsewhere of node x ys is)

  count-both : (xs ys : List WirePlan) → count_at of node (xs ++ ys) ≡ count_at of node xs + count_at of node ys
  count-both xs ys =
      ap length (filter-append (λ (w : WirePlan). of w == node) xs ys) ∙ length-append (filter (λ (w : WirePlan). of w == node) xs) (filter (λ (w : WirePlan). of w == node) ys)

  taken-more : (ws : List WirePlan) (i : ℕ) (w : WirePlan) → slice_get ws i ≡ Some w → take (i + 1) ws ≡ take i ws ++ w ∷ []
  taken-more [] i w h = absurd (none-some w h)
  taken-more (x ∷ ws) zero w h = λ j. same_Some x w h j ∷ []
  taken-more (x ∷ ws) (suc i) w h =
      let on : suc i + 1 ≡ suc (i + 1) = omega arith in
      ap (λ m. take m (x ∷ ws)) on ∙ ap (λ (l : List WirePlan). x ∷ l) (taken-more ws i w h)

  module _ (ws : List WirePlan) (i : ℕ) (w : WirePlan) (here : slice_get ws i ≡ Some w) where
    pub count-on : of w ≡ node → count_at of node (take (i + 1) ws) ≡ count_at of node (take i ws) + 1
    count-on same =
        ap (count_at of node) (taken-more ws i w here) ∙ count-both (take i ws) (w ∷ [])
        ∙ omega (arith, counts-here of node w [] (eq-eqb (of w) node same))

    pub count-stays : (of w == node) ≡ false → count_at of node (take (i + 1) ws) ≡ count_at of node (take i ws)
    count-stays other =
        ap (count_at of node) (taken-more ws i w here) ∙ count-both (take i ws) (w ∷ [])
        ∙ omega (arith, counts-elsewhere of node w [] other)

-- ---- The arc of a wire

record IsArcOf (earlier before : List WirePlan) (w : WirePlan) (d : Arc) : Type 0 where
  from : d.from ≡ w.a
  from_end : d.from_end ≡ 8 + (count_from w.a earlier + count_from w.a before)
  to : d.to ≡ w.b
  to_end : d.to_end ≡ 8 + (count_to w.b earlier + count_to w.b before)
  delay : d.delay ≡ w.delay
  joins : d.joins ≡ Some (record { from_port = w.a_port; to_port = w.b_port })

record HasArc (earlier ws : List WirePlan) (i : ℕ) (w : WirePlan) : Type 0 where
  arc : Arc
  here : slice_get (wire_arcs earlier ws) i ≡ Some arc
  is : IsArcOf earlier (take i ws) w arc

first-arc : (earlier : List WirePlan) (w : WirePlan) → IsArcOf earlier [] w (along earlier w)
first-arc earlier w =
    let out : count_from w.a [] ≡ 0 = refl in
    let into : count_to w.b [] ≡ 0 = refl in
    record { from = refl; from_end = omega (arith, out); to = refl; to_end = omega (arith, into); delay = refl; joins = refl }

arc-at : (earlier ws : List WirePlan) (i : ℕ) (w : WirePlan) → slice_get ws i ≡ Some w → HasArc earlier ws i w
arc-at earlier [] i w h = absurd (none-some w h)
arc-at earlier (x ∷ ws) zero w h = record { arc = along earlier x; here = refl; is = subst (λ (v : WirePlan). IsArcOf earlier [] v (along earlier x)) (same_Some x w h) (first-arc earlier x) }
arc-at earlier (x ∷ ws) (suc i) w h =
    let a = arc-at (x ∷ earlier) ws i w h in
    record {
      arc = a.arc;
      here = a.here;
      is = record {
        from = a.is.from;
        from_end = a.is.from_end ∙ ap (λ m. 8 + m) (count-move (λ (v : WirePlan). v.a) w.a x earlier (take i ws));
        to = a.is.to;
        to_end = a.is.to_end ∙ ap (λ m. 8 + m) (count-move (λ (v : WirePlan). v.b) w.b x earlier (take i ws));
        delay = a.is.delay;
        joins = a.is.joins;
      };
    }

past-links : (ds es : List Arc) (i : ℕ) → slice_get (ds ++ es) (length ds + i) ≡ slice_get es i
past-links [] es i = let same : 0 + i ≡ i = omega arith in ap (slice_get es) same
past-links (d ∷ ds) es i =
    let on : length (d ∷ ds) + i ≡ suc (length ds + i) = omega arith in
    ap (slice_get (d ∷ (ds ++ es))) on ∙ past-links ds es i

-- ---- The wire that comes to a pin

module _ (n port : ℕ) where
  links-none : (links : List LinkPlan) (m : ℕ) → first_arc (comes_to_pin n port) m (link_arcs links) ≡ None
  links-none [] m = refl
  links-none (link ∷ links) m =
      let there : comes_to_pin n port (forth link) ≡ false = and_right (link.b == n) false refl in
      let here : comes_to_pin n port (back link) ≡ false = and_right (link.a == n) false refl in
      rw (there, here) (links-none links (m + 1 + 1))

  abbrev comes : WirePlan → Bool
  comes w = (w.b == n) && (w.b_port == port)

  comes-not : (x w : WirePlan) → w.b ≡ n → w.b_port ≡ port → (◌≡◌ {A = ℕ × ℕ} (x.b, x.b_port) (w.b, w.b_port) → ⊥) → comes x ≡ false
  comes-not x w node at ne = by (cases_Bool (x.b == n)) (cases_Bool (x.b_port == port))
    where
      by : ((x.b == n) ≡ true) ⊎ ((x.b == n) ≡ false) → ((x.b_port == port) ≡ true) ⊎ ((x.b_port == port) ≡ false) → comes x ≡ false
      by (inr other) q = and_left (x.b == n) (x.b_port == port) other
      by (inl same) (inr other) = and_right (x.b == n) (x.b_port == port) other
      by (inl same) (inl also) = absurd (ne (λ i. ((eqb-true x.b n same ∙ sym node) i, (eqb-true x.b_port port also ∙ sym at) i)))

  other-target : (x w : WirePlan) (ws : List WirePlan) (i : ℕ) → AllByRecursion (λ y. (x.b, x.b_port) ≢ y) (targets_of ws) → slice_get ws i ≡ Some w → ◌≡◌ {A = ℕ × ℕ} (x.b, x.b_port) (w.b, w.b_port) → ⊥
  other-target x w [] i all h same = none-some w h
  other-target x w (y ∷ ws) zero all h same = all.0 (same ∙ sym (ap (λ (v : WirePlan). (v.b, v.b_port)) (same_Some y w h)))
  other-target x w (y ∷ ws) (suc i) all h same = other-target x w ws i all.1 h same

  first-to-pin : (earlier ws : List WirePlan) (m i : ℕ) (w : WirePlan) → AreDistinct (targets_of ws) → slice_get ws i ≡ Some w → w.b ≡ n → w.b_port ≡ port
      → first_arc (comes_to_pin n port) m (wire_arcs earlier ws) ≡ Some (m + i)
  first-to-pin earlier [] m i w distinct h node at = absurd (none-some w h)
  first-to-pin earlier (x ∷ ws) m zero w distinct h node at =
      let own = same_Some x w h in
      let one : (x.b == n) ≡ true = eq-eqb x.b n (ap (λ (v : WirePlan). v.b) own ∙ node) in
      let two : (x.b_port == port) ≡ true = eq-eqb x.b_port port (ap (λ (v : WirePlan). v.b_port) own ∙ at) in
      rw (one, two) (ap (λ (k : ℕ). Some k) (omega arith))
  first-to-pin earlier (x ∷ ws) m (suc i) w distinct h node at =
      let not-here : comes x ≡ false = comes-not x w node at (other-target x w ws i distinct.0 h) in
      let more : m + 1 + i ≡ m + suc i = omega arith in
      rw not-here (first-to-pin (x ∷ earlier) ws (m + 1) i w distinct.1 h node at ∙ ap (λ (k : ℕ). Some k) more)

-- ---- A wire of the plan

module _ (plan : PlanRec) (is : IsPlan plan) (n : Position) (i : ℕ) (w : WirePlan) (here : slice_get plan.wires i ≡ Some w) where
  abbrev links : ℕ
  links = length (link_arcs plan.links)

  abbrev number : ℕ
  number = links + i

  has : HasArc [] plan.wires i w
  has = arc-at [] plan.wires i w here

  at-number : slice_get (arcs plan) number ≡ Some has.arc
  at-number = past-links (link_arcs plan.links) (wire_arcs [] plan.wires) i ∙ has.here

  wire-is : IsWire (length plan.nodes) w
  wire-is = all-get (IsWire (length plan.nodes)) plan.wires i w is.wires here

  -- that comes to the node
  module _ (node : w.b ≡ n) where
    in-end : has.arc.to_end ≡ 8 + count_to n (take i plan.wires)
    in-end =
        let none : count_to n [] ≡ 0 = refl in
        has.is.to_end ∙ ap (λ m. 8 + (count_to m [] + count_to m (take i plan.wires))) node ∙ omega (arith, none)

    comes-in : incoming plan n (8 + count_to n (take i plan.wires)) ≡ Some number
    comes-in = (λ j. incoming plan ((sym node ∙ sym has.is.to) j) (sym in-end j)) ∙ incoming-is plan is number has.arc at-number

    to-pin : wire_to plan n w.b_port ≡ Some number
    to-pin =
        none-then (comes_to_pin n w.b_port) (link_arcs plan.links) (wire_arcs [] plan.wires) 0 (links-none n w.b_port plan.links 0)
        ∙ first-to-pin n w.b_port [] plan.wires (0 + links) i w is.targets here node refl
        ∙ ap (λ (k : ℕ). Some k) (omega arith)

    first-inlet-is : ◌≡◌ {A = InletRec} (record { delay = w.delay; queue = [] }) (first_inlet plan (incoming plan n (8 + count_to n (take i plan.wires))))
    first-inlet-is =
        (λ j. let r : InletRec = record { delay = (sym has.is.delay ∙ sym (delay-is plan is number has.arc at-number)) j; queue = [] } in r)
        ∙ sym (ap (first_inlet plan) comes-in)

    pub first-in : FirstIn plan n (8 + count_to n (take i plan.wires)) (record { port = w.b_port; inlet = record { delay = w.delay; queue = [] } })
    first-in = record {
      comes = record { there = wire-is.b_port; wire = number; comes = comes-in; pin = to-pin };
      inlet = first-inlet-is;
    }

  -- that leaves it
  module _ (node : w.a ≡ n) where
    out-end : has.arc.from_end ≡ 8 + count_from n (take i plan.wires)
    out-end =
        let none : count_from n [] ≡ 0 = refl in
        has.is.from_end ∙ ap (λ m. 8 + (count_from m [] + count_from m (take i plan.wires))) node ∙ omega (arith, none)

    pub first-out : FirstOut plan n (8 + count_from n (take i plan.wires)) (record { port = w.a_port; sent = 0; batch = no_batch })
    first-out = record {
      leaves = record {
        there = wire-is.a_port;
        wire = number;
        leaves = record { arc = has.arc; here = at-number; from = has.is.from ∙ node; from_end = out-end };
        joined = record { from_port = w.a_port; to_port = w.b_port };
        joins = has.is.joins;
        from = refl;
      };
      nothing = refl;
    }

-- ---- Of the wires that were looked at

pub record InSoFar (plan : PlanRec) (n : Position) (i : ℕ) (ends : List WireInlet) : Type 0 where
  pub all : length ends ≡ count_to n (take i plan.wires)
  pub fresh : (k : ℕ) → k < length ends → FirstIn plan n (8 + k) (wire_in ends k)

pub record OutSoFar (plan : PlanRec) (n : Position) (i : ℕ) (ends : List WireOutRec) : Type 0 where
  pub all : length ends ≡ count_from n (take i plan.wires)
  pub fresh : (k : ℕ) → k < length ends → FirstOut plan n (8 + k) (wire_out ends k)

one-longer : {X : Type 0} (xs : List X) (x : X) → length (xs ++ x ∷ []) ≡ length xs + 1
one-longer [] x = refl
one-longer (y ∷ xs) x = omega (arith, one-longer xs x)

not-equal : (a b : ℕ) → a ≢ b → (a == b) ≡ false
not-equal a b ne = ne_eqb a b ne

-- the wire at a place of the list that the plan lends
abbrev pub lent_wire : List WirePlan → ℕ → WirePlan
lent_wire lent i = get_or lent i (record { a = 0; a_port = 0; b = 0; b_port = 0; delay = 0 })

pub wire-here : (plan : PlanRec) (lent : List WirePlan) (i : ℕ) → lent ≡ plan.wires → i < length lent → slice_get plan.wires i ≡ Some (lent_wire lent i)
wire-here plan lent i same within = subst (λ (ws : List WirePlan). slice_get ws i ≡ Some (lent_wire lent i)) same (slice_get-get_or lent i _ within)

-- one more was looked at, which is this
module _ {plan : PlanRec} (is : IsPlan plan) {n : Position} {i : ℕ} {w : WirePlan} (here : slice_get plan.wires i ≡ Some w) where
  pub in-more : {ends later : List WireInlet} → w.b ≡ n → InSoFar plan n i ends → later ≡ ends ++ record { port = w.b_port; inlet = record { delay = w.delay; queue = [] } } ∷ [] → InSoFar plan n (i + 1) later
  in-more {ends} node so_far is_later =
      let new : WireInlet = record { port = w.b_port; inlet = record { delay = w.delay; queue = [] } } in
      subst (InSoFar plan n (i + 1)) (sym is_later) (record {
        all = one-longer ends new ∙ ap (λ m. m + 1) so_far.all ∙ sym (count-on (λ (v : WirePlan). v.b) n plan.wires i w here node);
        fresh =
            each-more (λ k x. FirstIn plan n (8 + k) x) no_wire_in ends new so_far.fresh
            (subst (λ m. FirstIn plan n (8 + m) new) (sym so_far.all) (first-in plan is n i w here node));
      })

  pub in-stays : {ends later : List WireInlet} → w.b ≢ n → InSoFar plan n i ends → later ≡ ends → InSoFar plan n (i + 1) later
  in-stays ne so_far same = subst (InSoFar plan n (i + 1)) (sym same) (record {
    all = so_far.all ∙ sym (count-stays (λ (v : WirePlan). v.b) n plan.wires i w here (not-equal w.b n ne));
    fresh = so_far.fresh;
  })

  pub out-more : {ends later : List WireOutRec} → w.a ≡ n → OutSoFar plan n i ends → later ≡ ends ++ record { port = w.a_port; sent = 0; batch = no_batch } ∷ [] → OutSoFar plan n (i + 1) later
  out-more {ends} node so_far is_later =
      let new : WireOutRec = record { port = w.a_port; sent = 0; batch = no_batch } in
      subst (OutSoFar plan n (i + 1)) (sym is_later) (record {
        all = one-longer ends new ∙ ap (λ m. m + 1) so_far.all ∙ sym (count-on (λ (v : WirePlan). v.a) n plan.wires i w here node);
        fresh =
            each-more (λ k x. FirstOut plan n (8 + k) x) no_wire_out ends new so_far.fresh
            (subst (λ m. FirstOut plan n (8 + m) new) (sym so_far.all) (first-out plan is n i w here node));
      })

  pub out-stays : {ends later : List WireOutRec} → w.a ≢ n → OutSoFar plan n i ends → later ≡ ends → OutSoFar plan n (i + 1) later
  out-stays ne so_far same = subst (OutSoFar plan n (i + 1)) (sym same) (record {
    all = so_far.all ∙ sym (count-stays (λ (v : WirePlan). v.a) n plan.wires i w here (not-equal w.a n ne));
    fresh = so_far.fresh;
  })

-- all were
pub all-in : (plan : PlanRec) (n : Position) (i : ℕ) (ends : List WireInlet) → length plan.wires ≤ i → InSoFar plan n i ends → length ends ≡ count_to n plan.wires
all-in plan n i ends past so_far = so_far.all ∙ ap (count_to n) (take_all i plan.wires past)

pub all-out : (plan : PlanRec) (n : Position) (i : ℕ) (ends : List WireOutRec) → length plan.wires ≤ i → OutSoFar plan n i ends → length ends ≡ count_from n plan.wires
all-out plan n i ends past so_far = so_far.all ∙ ap (count_from n) (take_all i plan.wires past)
