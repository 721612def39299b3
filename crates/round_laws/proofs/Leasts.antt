-- The least of a limit and of what the arcs say that pass a test.
use Rattle.std.proofs.Common.{◌≡◌, ℕ, zero, suc, ◌≤◌, Bool, true, Some, List, [], ◌∷◌, filter, map, slice_get, slice_index, refl, ap, ◌∙◌, arith}
use Rattle.std.proofs.lemmas.Bool.{cond_both, both_ways}
use Rattle.std.proofs.lemmas.Option.{none-some, same_Some}
use Rattle.xs_base.specs.Numbers.{Slot}
use Rattle.sys_plan.specs.Plan.{Arc}
use Rattle.round_laws.specs.Rounds.{least, reach}

module _ (limit : Slot) where
  pub least_within : (slots : List Slot) → least limit slots ≤ limit
  least_within [] = omega arith
  least_within (slot ∷ slots) = omega (arith, least_within slots)

  -- more is known, and so the least is no less
  pub least_rises : (before after : List Slot) → ((n : ℕ) → slice_index before n ≤ slice_index after n) → (ds : List Arc) → least limit (map (reach before) ds) ≤ least limit (map (reach after) ds)
  least_rises before after more [] = omega arith
  least_rises before after more (d ∷ ds) = omega (arith, more d.from, least_rises before after more ds)

  module _ (f : Arc → Slot) (test : Arc → Bool) where
    abbrev of_those : List Arc → Slot
    of_those ds = least limit (map f (filter test ds))

    -- what is at most the limit, and at most what each of them says, is at most the least
    pub from_each : (m : Slot) → m ≤ limit → (ds : List Arc) → ((l : ℕ) (d : Arc) → slice_get ds l ≡ Some d → test d ≡ true → m ≤ f d) → m ≤ of_those ds
    from_each m within [] each = within
    from_each m within (x ∷ ds) each =
        let rest : m ≤ of_those ds = from_each m within ds (λ l d at hit. each (suc l) d at hit) in
        cond_both (test x) (x ∷ filter test ds) (filter test ds) (λ (xs : List Arc). m ≤ least limit (map f xs)) (λ hit. omega (arith, rest, each 0 x refl hit)) (λ miss. rest)

    -- the least is at most what each of them says
    pub to_each : (ds : List Arc) (l : ℕ) (d : Arc) → slice_get ds l ≡ Some d → test d ≡ true → of_those ds ≤ f d
    to_each [] l d at hit = absurd (none-some d at)
    to_each (x ∷ ds) zero d at hit =
        let same : x ≡ d = same_Some x d at in
        cond_both (test x) (x ∷ filter test ds) (filter test ds) (λ (xs : List Arc). least limit (map f xs) ≤ f d)
        (λ e. omega (arith, ap f same)) (λ miss. absurd (both_ways (test x) miss (ap test same ∙ hit)))
    to_each (x ∷ ds) (suc l) d at hit =
        let rest : of_those ds ≤ f d = to_each ds l d at hit in
        cond_both (test x) (x ∷ filter test ds) (filter test ds) (λ (xs : List Arc). least limit (map f xs) ≤ f d) (λ e. omega (arith, rest)) (λ miss. rest)
