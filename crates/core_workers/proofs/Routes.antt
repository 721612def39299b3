-- Where the ends of a node are: each at the end of its arc, and no two at one.
use Rattle.std.proofs.Common.{◌≡◌, ◌≢◌, ℕ, ◌<◌, Option, Some, None, option_map, List, map, slice_get, refl, sym, ap, ◌∙◌}
use Rattle.std.proofs.lemmas.Option.{none-some, same_Some, slice_get-map}
use Rattle.xs_base.specs.Numbers.{Position, EndNumber, LinkNumber}
use Rattle.sys_plan.specs.declared.system_plan.TheConstants.{ENDS}
use Rattle.sys_plan.specs.Plan.{PlanRec, IsPlan, outgoing, incoming}
use Rattle.sys_plan.proofs.Routes.{outgoing-end}
use Rattle.plan_cells.specs.declared.ends.Outgoing.{Outgoing}
use Rattle.plan_cells.specs.declared.ends.Incoming.{Incoming}
use Rattle.plan_cells.specs.Ends.{LinkAt, leaving, coming, leaves_at, comes_at}
use Rattle.plan_cells.proofs.Places.{leaving_is, leaving_once, coming_has, coming_is, coming_once}

module _ {X : Type 0} (place : X → LinkAt) where
  -- what stands at a place of the list of an end
  at_place : (ends : List X) (places : List LinkAt) → map place ends ≡ places → (k : ℕ) (x : X) → slice_get ends k ≡ Some x → slice_get places k ≡ Some (place x)
  at_place ends places is k x at = ap (λ ps. slice_get ps k) (sym is) ∙ slice_get-map place ends k ∙ ap (option_map place) at

  of_place : (o : Option X) (p : LinkAt) → option_map place o ≡ Some p → (x : X) × (o ≡ Some x) × (place x ≡ p)
  of_place None p is = absurd (none-some p is)
  of_place (Some x) p is = (x, refl, same_Some (place x) p is)

module _ (plan : PlanRec) (is : IsPlan plan) (n : Position) where
  module _ (ends : List Incoming) (places : map comes_at ends ≡ coming plan n) where
    pub comes_by : (k : ℕ) (i : Incoming) → slice_get ends k ≡ Some i → incoming plan n i.end ≡ Some i.link
    comes_by k i at = coming_is plan n is k i.end i.link (at_place comes_at ends (coming plan n) places k i at)

    pub comes_apart : (j k : ℕ) (a b : Incoming) → slice_get ends j ≡ Some a → slice_get ends k ≡ Some b → j ≢ k → a.end ≢ b.end
    comes_apart j k a b first second apart same =
        let here : slice_get (coming plan n) j ≡ Some (b.end, a.link) = at_place comes_at ends (coming plan n) places j a first ∙ ap (λ (e : EndNumber). Some (e, a.link)) same in
        apart (coming_once plan n is j k b.end a.link b.link here (at_place comes_at ends (coming plan n) places k b second))

    -- the end at which an arc comes to the node
    pub record ComesTo (end : EndNumber) (link : LinkNumber) : Type 0 where
      pub place : ℕ
      pub reader : Incoming
      pub at : slice_get ends place ≡ Some reader
      pub end_is : reader.end ≡ end
      pub link_is : reader.link ≡ link

    pub comes_there : (end : EndNumber) (link : LinkNumber) → incoming plan n end ≡ Some link → ComesTo end link
    comes_there end link there =
        let has = coming_has plan n end link there in
        let of = of_place comes_at (slice_get ends has.0) (end, link) (sym (slice_get-map comes_at ends has.0) ∙ ap (λ ps. slice_get ps has.0) places ∙ has.1) in
        record { place = has.0; reader = of.0; at = of.1; end_is = ap (λ (p : LinkAt). p.0) of.2; link_is = ap (λ (p : LinkAt). p.1) of.2 }

  module _ (ends : List Outgoing) (places : map leaves_at ends ≡ leaving plan n) where
    pub leaves_by : (k : ℕ) (o : Outgoing) → slice_get ends k ≡ Some o → outgoing plan n o.end ≡ Some o.link
    leaves_by k o at = leaving_is plan n is k o.end o.link (at_place leaves_at ends (leaving plan n) places k o at)

    pub leaves_end : (k : ℕ) (o : Outgoing) → slice_get ends k ≡ Some o → o.end < ENDS
    leaves_end k o at = outgoing-end plan is n o.end o.link (leaves_by k o at)

    pub leaves_apart : (j k : ℕ) (a b : Outgoing) → slice_get ends j ≡ Some a → slice_get ends k ≡ Some b → j ≢ k → a.end ≢ b.end
    leaves_apart j k a b first second apart same =
        let here : slice_get (leaving plan n) j ≡ Some (b.end, a.link) = at_place leaves_at ends (leaving plan n) places j a first ∙ ap (λ (e : EndNumber). Some (e, a.link)) same in
        apart (leaving_once plan n is j k b.end a.link b.link here (at_place leaves_at ends (leaving plan n) places k b second))
