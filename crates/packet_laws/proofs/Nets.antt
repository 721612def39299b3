-- The network of a link end: whose mask it is in, and that both ends of a directed link know it.
use Rattle.std.proofs.Common.{◌≡◌, ◌≢◌, ℕ, zero, suc, ◌+◌, ◌*◌, ◌/◌, ◌==◌, eqb, cond, Bool, true, false, ◌&&◌, ◌||◌, if◌then◌else◌, Option, Some, None, List, [], ◌∷◌, get_or}
use Rattle.std.proofs.Common.{slice_get, slice_index, bit_and, refl, sym, ap, subst, ◌∙◌, arith}
use Rattle.std.specs.List.{AllByRecursion}
use Rattle.std.specs.Int.{bit_at}
use Rattle.std.proofs.lemmas.Nat.Bits.{bit_at_and, bit_at-lt, bit_at_lowest, bit_at-suc, bit_at-zero}
use Rattle.std.proofs.lemmas.Bool.{eq-eqb, and_parts, eqb-true, false_from_ne_true, false≢true, or_from}
use Rattle.std.proofs.lemmas.Option.{none-some, same_Some}
use Rattle.xs_base.specs.Numbers.{EndNumber}
use Rattle.net_model.specs.Ways.{ends_of_net, way_at}
use Rattle.sys_plan.specs.declared.LinkPlan.{LinkPlan}
use Rattle.sys_plan.specs.declared.NodePlan.{NodePlan}
use Rattle.sys_plan.specs.Plan.{PlanRec, Arc, IsPlan, AreDistinct, AllKnowNets, forth, back, link_arcs, places_of, net_at, nets_at}
use Rattle.sys_plan.proofs.Routes.{directed, at-link-end}
use Rattle.rank_model.specs.Next.{is_behind}

-- ---- A link end that is in the mask of a network is of that network

module _ (net : ℕ) where
  lowest : (b : Bool) (rest : ℕ) → bit_at (cond b 1 0 + 2 * rest) 0 ≡ 1 → b ≡ true
  lowest true rest is = refl
  lowest false rest is = absurd (omega (arith, is, bit_at_lowest (0 + 2 * rest)))

  above : (b : Bool) (rest end : ℕ) → bit_at (cond b 1 0 + 2 * rest) (suc end) ≡ bit_at rest end
  above true rest end =
      let half : (1 + 2 * rest) / 2 ≡ rest = omega arith in bit_at-suc (1 + 2 * rest) end ∙ ap (λ n. bit_at n end) half
  above false rest end =
      let half : (0 + 2 * rest) / 2 ≡ rest = omega arith in bit_at-suc (0 + 2 * rest) end ∙ ap (λ n. bit_at n end) half

  pub is_of_net : (nets : List ℕ) (end : ℕ) → bit_at (ends_of_net nets net) end ≡ 1 → get_or nets end 0 ≡ net
  is_of_net [] end is = absurd (omega (arith, is, bit_at-zero end))
  is_of_net (n ∷ nets) zero is = eqb-true n net (lowest (eqb n net) (ends_of_net nets net) is)
  is_of_net (n ∷ nets) (suc end) is = is_of_net nets end (sym (above (eqb n net) (ends_of_net nets net) end) ∙ is)

-- a way in a network leads out by link ends of the network
pub way_of_net : (ways nets : List ℕ) (net : ℕ) (end : EndNumber) (found : Option ℕ) → is_behind end (way_at ways (ends_of_net nets net) found) ≡ true →
    get_or nets end 0 ≡ net
way_of_net ways nets net end None is = absurd (false≢true is)
way_of_net ways nets net end (Some bit) is =
    let mask : ℕ = ends_of_net nets net in
    let way : ℕ = slice_index ways bit in
    let both : bit_at (bit_and way mask) end ≡ 1 = eqb-true (bit_at (bit_and way mask) end) 1 is in
    is_of_net net nets end (omega (arith, bit_at_and way mask end, both, bit_at-lt mask end))

-- ---- Both ends of a directed link

-- the places of a directed link are among those of all links
abbrev AtBoth : (ℕ × ℕ → Type 0) → Arc → Type 0
AtBoth P d = P (d.from, d.from_end) × P (d.to, d.to_end)

in_places : (P : ℕ × ℕ → Type 0) (links : List LinkPlan) (l : ℕ) (d : Arc) →
    slice_get (link_arcs links) l ≡ Some d → AllByRecursion P (places_of links) → AtBoth P d
in_places P [] l d h all = absurd (none-some d h)
in_places P (link ∷ links) zero d h all = subst (AtBoth P) (same_Some (forth link) d h) (all.0, all.1.0)
in_places P (link ∷ links) (suc zero) d h all = subst (AtBoth P) (same_Some (back link) d h) (all.1.0, all.0)
in_places P (link ∷ links) (suc (suc l)) d h all = in_places P links l d h all.1.1

its_first : (n end : ℕ) (link : LinkPlan) (links : List LinkPlan) → link.a ≡ n → link.a_end ≡ end → net_at (link ∷ links) n end ≡ link.net
its_first n end link links a a_end = rw (eq-eqb link.a n a, eq-eqb link.a_end end a_end) refl

its_second : (n end : ℕ) (link : LinkPlan) (links : List LinkPlan) → link.b ≡ n → link.b_end ≡ end → net_at (link ∷ links) n end ≡ link.net
its_second n end link links b b_end = rw (eq-eqb link.b n b, eq-eqb link.b_end end b_end) (by ((link.a == n) && (link.a_end == end)))
  where
    by : (first : Bool) → (if first || true then link.net else net_at links n end) ≡ link.net
    by true = refl
    by false = refl

-- a link that is at other places says nothing
abbrev Apart : ℕ × ℕ → ℕ × ℕ → Type 0
Apart one other = one ≢ other

is_apart : (a a_end n end : ℕ) → Apart (a, a_end) (n, end) → ((a == n) && (a_end == end)) ≡ false
is_apart a a_end n end apart =
    false_from_ne_true _ (λ same.
    let parts = and_parts (a == n) (a_end == end) same in
    apart (λ i. (eqb-true a n parts.0 i, eqb-true a_end end parts.1 i)))

not_there : (n end : ℕ) (link : LinkPlan) (links : List LinkPlan) → Apart (link.a, link.a_end) (n, end) → Apart (link.b, link.b_end) (n, end) →
    net_at (link ∷ links) n end ≡ net_at links n end
not_there n end link links first second =
    ap (λ test. if test then link.net else net_at links n end)
    (or_from _ _ (is_apart link.a link.a_end n end first) (is_apart link.b link.b_end n end second))

abbrev SameNet : List LinkPlan → Arc → Type 0
SameNet links d = net_at links d.from d.from_end ≡ net_at links d.to d.to_end

both_ends : (links : List LinkPlan) (l : ℕ) (d : Arc) → AreDistinct (places_of links) → slice_get (link_arcs links) l ≡ Some d → SameNet links d
both_ends [] l d distinct h = absurd (none-some d h)
both_ends (link ∷ links) zero d distinct h =
    subst (SameNet (link ∷ links)) (same_Some (forth link) d h)
    (its_first link.a link.a_end link links refl refl ∙ sym (its_second link.b link.b_end link links refl refl))
both_ends (link ∷ links) (suc zero) d distinct h =
    subst (SameNet (link ∷ links)) (same_Some (back link) d h)
    (its_second link.b link.b_end link links refl refl ∙ sym (its_first link.a link.a_end link links refl refl))
both_ends (link ∷ links) (suc (suc l)) d distinct h =
    let first = in_places (Apart (link.a, link.a_end)) links l d h distinct.0.1 in
    let second = in_places (Apart (link.b, link.b_end)) links l d h distinct.1.0 in
    not_there d.from d.from_end link links first.0 second.0
    ∙ both_ends links l d distinct.1.1 h
    ∙ sym (not_there d.to d.to_end link links first.1 second.1)

-- what the node at a position knows
knows : (links : List LinkPlan) (n : ℕ) (nodes : List NodePlan) (k m : ℕ) (node : NodePlan) → m ≡ n + k → AllKnowNets links n nodes →
    slice_get nodes k ≡ Some node → node.nets ≡ nets_at links m
knows links n [] k m node e all h = absurd (none-some node h)
knows links n (x ∷ nodes) zero m node e all h =
    let same : n ≡ m = omega arith in
    ap (λ (y : NodePlan). y.nets) (sym (same_Some x node h)) ∙ all.0 ∙ ap (nets_at links) same
knows links n (x ∷ nodes) (suc k) m node e all h = knows links (n + 1) nodes k m node (omega arith) all.1 h

pub nets_are_same : (plan : PlanRec) → IsPlan plan → (l : ℕ) (d : Arc) → slice_get (link_arcs plan.links) l ≡ Some d →
    (from to : NodePlan) → slice_get plan.nodes d.from ≡ Some from → slice_get plan.nodes d.to ≡ Some to →
    slice_index from.nets d.from_end ≡ slice_index to.nets d.to_end
nets_are_same plan is l d here from to from_is to_is =
    let within = directed plan is l d here in
    ap (λ nets. slice_index nets d.from_end) (knows plan.links 0 plan.nodes d.from d.from from (omega arith) is.nets from_is)
    ∙ at-link-end (net_at plan.links d.from) 0 d.from_end within.from_end
    ∙ both_ends plan.links l d is.places here
    ∙ sym (at-link-end (net_at plan.links d.to) 0 d.to_end within.to_end)
    ∙ sym (ap (λ nets. slice_index nets d.to_end) (knows plan.links 0 plan.nodes d.to d.to to (omega arith) is.nets to_is))
