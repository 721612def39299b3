-- Ids for which a packet may go on from a directed link to another.
use Rattle.std.proofs.Common.{ℕ, zero, suc, ◌≡◌, ◌+◌, Bool, true, false, cond, eqb, Option, Some, None, refl, sym, ap, ◌∙◌}
use Rattle.std.proofs.lemmas.Bool.{ne_eqb, and_left, and_right}
use Rattle.xs_base.specs.Numbers.{LinkNumber}
use Rattle.net_model.specs.Ways.{way_to}
use Rattle.sys_plan.specs.Plan.{PlanRec}
use Rattle.rank_model.specs.Next.{or_first, first_from, arc_at, id_at, ways_at, nets_at, net_of, is_behind, is_next}
use Rattle.rank_model.specs.Verdicts.{goes_on, dest_if, first_dest}

nowhere : {A : Type 0} (find : ℕ → Option A) → ((n : ℕ) → find n ≡ None) → (n count : ℕ) → first_from find n count ≡ None
unfolding first_from
nowhere find none n zero = refl
nowhere {A} find none n (suc count) = ap (λ (o : Option A). or_first o (first_from find (n + 1) count)) (none n) ∙ nowhere find none (n + 1) count

module _ (plan : PlanRec) (l k : LinkNumber) where
  pub not_for : (dest : ℕ) → goes_on plan l k dest ≡ false → dest_if plan l k dest ≡ None
  not_for dest is = ap (λ (b : Bool). cond b (Some dest) None) is

  pub just_for : (dest : ℕ) → goes_on plan l k dest ≡ true → dest_if plan l k dest ≡ Some dest
  just_for dest is = ap (λ (b : Bool). cond b (Some dest) None) is

  -- the one leads elsewhere than to where the other begins
  pub elsewhere : ((arc_at plan l).to ≡ (arc_at plan k).from → ⊥) → first_dest plan l k ≡ None
  elsewhere apart = nowhere (dest_if plan l k) none 0 65536
    where
      none : (dest : ℕ) → dest_if plan l k dest ≡ None
      none dest =
          let v = (arc_at plan l).to in
          let net = net_of plan l in
          let begins : eqb (arc_at plan k).from v ≡ false = ne_eqb (arc_at plan k).from v (λ same. apart (sym same)) in
          not_for dest
          (and_right (is_next plan (arc_at plan l).from net dest l) (is_next plan v net dest k)
          (and_left (eqb (arc_at plan k).from v) (is_behind (arc_at plan k).from_end (way_to (id_at plan v) (ways_at plan v) (nets_at plan v) net dest)) begins))
