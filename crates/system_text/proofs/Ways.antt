-- The ways of a node lead out by links.
use Rattle.std.proofs.Common.{◌≡◌, ℕ, zero, suc, ◌+◌, Bool, true, false, ◌&&◌, ◌||◌, List, [], ◌∷◌, map, get_or, Option, Some, refl, subst, arith}
use Rattle.std.specs.Prelude.{◌==◌, if◌then◌else◌, IsSome}
use Rattle.std.specs.List.{AllByRecursion, list_any}
use Rattle.std.specs.Int.{bit_at}
use Rattle.std.proofs.lemmas.Bool.Decides.{nat_tests}
use Rattle.std.proofs.lemmas.Nat.Bits.{bit_at-zero}
use Rattle.sys_plan.specs.Plan.{PlanRec, WaysLead, outgoing, link_arcs, wire_arcs, first_arc, leaves_by, comes_to}
use Rattle.system_model.specs.declared.frame_line.EndName.{EndName}
use Rattle.system_model.specs.declared.frame_line.GivenNode.{GivenNode}
use Rattle.system_model.specs.declared.frame_line.LinkLine.{LinkLine}
use Rattle.system_model.specs.Bits.{BitRec}
use Rattle.system_model.specs.Frame.{has_link_end, has_link_ends, is_same_end}
use Rattle.system_model.specs.System.{ends_for, way, ways_of, id_bits, link_plan, position_by_number}
use Rattle.system_text.proofs.Masks.{passes}
use Rattle.system_text.proofs.WireEnds.{in_first}

-- A link end that is in a link has a way out.

leaving : (a b rest p q : Bool) (first second : ℕ) (later : Option ℕ) → (a || b || rest) ≡ true → (a ≡ true → p ≡ true) → (b ≡ true → q ≡ true) →
    (rest ≡ true → IsSome later) → IsSome (if p then Some first else (if q then Some second else later))
leaving a b rest true q first second later e f g h = refl
leaving a b rest false true first second later e f g h = refl
leaving true b rest false false first second later e f g h = cc (f refl)
leaving false true rest false false first second later e f g h = cc (g refl)
leaving false false rest false false first second later e f g h = h e

at_place : (place : ℕ → ℕ) (x y e d : ℕ) → ((x == y) && (e == d)) ≡ true → ((place x == place y) && (e == d)) ≡ true
at_place place x y e d h = grind (arith, nat_tests)

pub leaves : (nodes : List GivenNode) (number end : ℕ) (links : List LinkLine) (n : ℕ) → has_link_end links (record { node = number; end = end }) ≡ true →
    IsSome (first_arc (leaves_by (position_by_number nodes number) end) n (link_arcs (map (link_plan nodes) links)))
leaves nodes number end [] n e = absurd cc
leaves nodes number end (link ∷ links) n e =
    let name : EndName = record { node = number; end = end } in
    let place : ℕ → ℕ = position_by_number nodes in
    leaving (is_same_end link.a name) (is_same_end link.b name) (has_link_end links name) _ _ n (n + 1) _ e
    (at_place place link.a.node number link.a.end end) (at_place place link.b.node number link.b.end end) (leaves nodes number end links (n + 1 + 1))

-- It has a way in too.

coming : (a b rest p q : Bool) (first second : ℕ) (later : Option ℕ) → (a || b || rest) ≡ true → (a ≡ true → q ≡ true) → (b ≡ true → p ≡ true) →
    (rest ≡ true → IsSome later) → IsSome (if p then Some first else (if q then Some second else later))
coming a b rest true q first second later e f g h = refl
coming a b rest false true first second later e f g h = refl
coming true b rest false false first second later e f g h = cc (f refl)
coming false true rest false false first second later e f g h = cc (g refl)
coming false false rest false false first second later e f g h = h e

pub comes : (nodes : List GivenNode) (number end : ℕ) (links : List LinkLine) (n : ℕ) → has_link_end links (record { node = number; end = end }) ≡ true →
    IsSome (first_arc (comes_to (position_by_number nodes number) end) n (link_arcs (map (link_plan nodes) links)))
comes nodes number end [] n e = absurd cc
comes nodes number end (link ∷ links) n e =
    let name : EndName = record { node = number; end = end } in
    let place : ℕ → ℕ = position_by_number nodes in
    coming (is_same_end link.a name) (is_same_end link.b name) (has_link_end links name) _ _ n (n + 1) _ e
    (at_place place link.a.node number link.a.end end) (at_place place link.b.node number link.b.end end) (comes nodes number end links (n + 1 + 1))

-- The link ends of a bit are in links.

abbrev Has : List LinkLine → ℕ → ℕ → Type 0
Has links number end = has_link_end links (record { node = number; end = end }) ≡ true

both : (a b : Bool) → (a && b) ≡ true → (a ≡ true) × (b ≡ true)
both true b e = (refl, e)
both false b e = cc

this_or_later : (links : List LinkLine) (number end x : ℕ) (later b : Bool) → (x == end) ≡ b → Has links number x → (later ≡ true → Has links number end) →
    (b || later) ≡ true → Has links number end
this_or_later links number end x later true f h k e =
    let same : x ≡ end = grind (arith, nat_tests) in subst (λ (n : ℕ). Has links number n) same h
this_or_later links number end x later false f h k e = k e

one_of_these : (links : List LinkLine) (number end : ℕ) (ends : List ℕ) → has_link_ends links number ends ≡ true → list_any (λ e. e == end) ends ≡ true → Has links number end
one_of_these links number end [] h e = absurd cc
one_of_these links number end (x ∷ ends) h e =
    let has = both (has_link_end links (record { node = number; end = x })) (has_link_ends links number ends) h in
    this_or_later links number end x (list_any (λ e. e == end) ends) (x == end) refl has.0 (one_of_these links number end ends has.1) e

this_bit_or_later : (links : List LinkLine) (number bit end : ℕ) (b : BitRec) (later : List ℕ) (t : Bool) → ((b.node == number) && (b.bit == bit)) ≡ t →
    has_link_ends links b.node b.ends ≡ true → (list_any (λ e. e == end) later ≡ true → Has links number end) →
    list_any (λ e. e == end) (if t then b.ends else later) ≡ true → Has links number end
this_bit_or_later links number bit end b later true f h k e =
    let same : b.node ≡ number = grind (arith, nat_tests) in
    one_of_these links number end b.ends (subst (λ (n : ℕ). has_link_ends links n b.ends ≡ true) same h) e
this_bit_or_later links number bit end b later false f h k e = k e

-- the link ends of each bit are in links
abbrev AreJoined : List LinkLine → List BitRec → Type 0
AreJoined links bits = AllByRecursion (λ (b : BitRec). has_link_ends links b.node b.ends ≡ true) bits

joined : (links : List LinkLine) (number bit end : ℕ) (bits : List BitRec) → AreJoined links bits → list_any (λ e. e == end) (ends_for bits number bit) ≡ true → Has links number end
joined links number bit end [] k e = absurd cc
joined links number bit end (b ∷ bits) k e =
    this_bit_or_later links number bit end b (ends_for bits number bit) ((b.node == number) && (b.bit == bit)) refl k.0 (joined links number bit end bits k.1) e

-- each bit of these ways leads out
abbrev LeadOut : PlanRec → ℕ → ℕ → Type 0
LeadOut plan node way = (end : ℕ) → bit_at way end ≡ 1 → IsSome (outgoing plan node end)

module _ (plan : PlanRec) (nodes : List GivenNode) (links : List LinkLine) (bits : List BitRec) (is : plan.links ≡ map (link_plan nodes) links) (kept : AreJoined links bits) where
  way_leads : (number bit : ℕ) → LeadOut plan (position_by_number nodes number) (way bits number bit)
  way_leads number bit = λ end e.
      let there = joined links number bit end bits kept (passes (λ n. list_any (λ e. e == n) (ends_for bits number bit)) 8 end e) in
      let place = position_by_number nodes number in
      rw is (in_first (leaves_by place end) (link_arcs (map (link_plan nodes) links)) (wire_arcs [] plan.wires) 0 (leaves nodes number end links 0 there))

  all_lead : (number : ℕ) (ns : List ℕ) → AllByRecursion (LeadOut plan (position_by_number nodes number)) (map (way bits number) ns)
  all_lead number [] = tt
  all_lead number (n ∷ ns) = (way_leads number n, all_lead number ns)

  no_way : (node : ℕ) → LeadOut plan node 0
  no_way node = λ end e. absurd (omega (arith, bit_at-zero end, e))

  at : (P : ℕ → Type 0) → P 0 → (ws : List ℕ) (k : ℕ) → AllByRecursion P ws → P (get_or ws k 0)
  at P z [] k all = z
  at P z (w ∷ ws) zero all = all.0
  at P z (w ∷ ws) (suc k) all = at P z ws k all.1

  pub ways_lead : (number : ℕ) → WaysLead plan (position_by_number nodes number) (ways_of bits number)
  ways_lead number = λ bit end h k e.
      at (LeadOut plan (position_by_number nodes number)) (no_way (position_by_number nodes number)) (ways_of bits number) bit (all_lead number id_bits) end e
