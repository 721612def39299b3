-- What comes to the link ends of nodes comes by directed links alone, whose histories stand before those of wires.
use Rattle.std.proofs.Common.{◌≡◌, ℕ, zero, suc, ◌+◌, ◌<◌, Option, Some, None, List, [], ◌∷◌, ◌++◌, length, map, get_or, slice_get, refl, sym, ap, ◌∙◌, arith}
use Rattle.std.specs.List.{AllByRecursion}
use Rattle.std.proofs.lemmas.Option.{none-some, same_Some}
use Rattle.xs_base.specs.Numbers.{Slot, Position, EndNumber, LinkNumber}
use Rattle.xs_base.specs.declared.entry.Entry.{Entry}
use Rattle.sys_plan.specs.Plan.{PlanRec, Arc, link_arcs, wire_arcs, incoming, link_ends}
use Rattle.sys_plan.proofs.Routes.{link-comes, leads-to}
use Rattle.sys_plan.proofs.Told.{delay-of-link}
use Rattle.serial_model.specs.Serial.{arriving, arriving_by}
use Rattle.run_plan.specs.Inbound.{IsBelow}

-- ---- Lists

pub get-within : {X : Type 0} (xs : List X) (k : ℕ) (x : X) → slice_get xs k ≡ Some x → k < length xs
get-within [] k x here = absurd (none-some x here)
get-within (y ∷ ys) zero x here = omega arith
get-within (y ∷ ys) (suc k) x here = omega (arith, get-within ys k x here)

get-both : {X : Type 0} (xs ys : List X) (k : ℕ) (x : X) → slice_get xs k ≡ Some x → slice_get (xs ++ ys) k ≡ Some x
get-both [] ys k x here = absurd (none-some x here)
get-both (y ∷ xs) ys zero x here = here
get-both (y ∷ xs) ys (suc k) x here = get-both xs ys k x here

pub front-at : {X : Type 0} (xs ys : List X) (k : ℕ) (d : X) → k < length xs → get_or (xs ++ ys) k d ≡ get_or xs k d
front-at [] ys k d h = absurd (omega arith)
front-at (x ∷ xs) ys zero d h = refl
front-at (x ∷ xs) ys (suc k) d h = front-at xs ys k d (omega arith)

pub back-at : {X : Type 0} (xs ys : List X) (k m : ℕ) (d : X) → k ≡ length xs + m → get_or (xs ++ ys) k d ≡ get_or ys m d
back-at [] ys k m d h = ap (λ i. get_or ys i d) (omega arith)
back-at (x ∷ xs) ys zero m d h = absurd (omega arith)
back-at (x ∷ xs) ys (suc k) m d h = back-at xs ys k m d (omega arith)

map-on : {X Y : Type 0} (P : X → Type 0) (f g : X → Y) → ((x : X) → P x → f x ≡ g x) → (xs : List X) → AllByRecursion P xs → map f xs ≡ map g xs
map-on P f g h [] all = refl
map-on P f g h (x ∷ xs) all = λ i. h x all.0 i ∷ map-on P f g h xs all.1 i

-- what is told of each link end
pub map-ends : {Y : Type 0} (f g : EndNumber → Y) → ((end : EndNumber) → end < 8 → f end ≡ g end) → map f link_ends ≡ map g link_ends
map-ends f g h =
    map-on (λ end. end < 8) f g h link_ends (omega arith, (omega arith, (omega arith, (omega arith, (omega arith, (omega arith, (omega arith, (omega arith, tt))))))))

-- ---- Directed links

-- what arrives by one of these arcs, with these histories
abbrev pub arriving_of : List Arc → List (List Entry) → Slot → Option LinkNumber → List Entry
arriving_of ds histories slot None = []
arriving_of ds histories slot (Some k) = arriving slot (get_or (map (λ (d : Arc). d.delay) ds) k 0) (get_or histories k [])

module _ (plan : PlanRec) (n : Position) (end : EndNumber) (below : end < 8) where
  pub is-below : (link : Option LinkNumber) → link ≡ incoming plan n end → IsBelow (length (link_arcs plan.links)) link
  is-below None is = tt
  is-below (Some k) is = let there = link-comes plan n end below k (sym is) in get-within (link_arcs plan.links) k there.0 there.1

  -- the arc that comes to it leads to the node
  pub link-leads : (k : LinkNumber) → incoming plan n end ≡ Some k → (d : Arc) × (slice_get (link_arcs plan.links) k ≡ Some d) × (d.to ≡ n)
  link-leads k is =
      let there = link-comes plan n end below k is in
      let leads = leads-to plan n end k is in
      let same = same_Some leads.arc there.0 (sym leads.here ∙ get-both (link_arcs plan.links) (wire_arcs [] plan.wires) k there.0 there.1) in
      (there.0, there.1, sym (ap (λ (d : Arc). d.to) same) ∙ leads.to)

  module _ (link_histories wire_histories histories : List (List Entry)) (split : histories ≡ link_histories ++ wire_histories) (long : length link_histories ≡ length (link_arcs plan.links)) (slot : Slot) where
    by-option : (link : Option LinkNumber) → incoming plan n end ≡ link → arriving_by plan histories slot link ≡ arriving_of (link_arcs plan.links) link_histories slot link
    by-option None is = refl
    by-option (Some k) is =
        let there = link-comes plan n end below k is in
        let inside = get-within (link_arcs plan.links) k there.0 there.1 in
        let delay = sym (delay-of-link plan k inside) in
        let history = ap (λ (hs : List (List Entry)). get_or hs k []) split ∙ front-at link_histories wire_histories k [] (omega (arith, inside, long)) in
        λ i. arriving slot (delay i) (history i)

    pub by-link : arriving_by plan histories slot (incoming plan n end) ≡ arriving_of (link_arcs plan.links) link_histories slot (incoming plan n end)
    by-link = by-option (incoming plan n end) refl
