-- What arrives at a node by the link ends up to the last that an arc reaches.
use Rattle.std.proofs.Common.{◌≡◌, ℕ, zero, suc, ◌+◌, ◌<◌, Bool, false, Option, None, List, [], ◌∷◌, length, drop, get_or, replicate, refl, sym, ap, ◌∙◌, arith}
use Rattle.std.specs.Prelude.{slice_set}
use Rattle.std.specs.List.{AllByRecursion}
use Rattle.xs_base.specs.declared.token.Token.{Token}
use Rattle.core_step.specs.Core.{NothingArrives}
use Rattle.crossings.specs.declared.crossing.Crossing.{Crossing}
use Rattle.run_plan.specs.declared.track.Track.{Track}
use Rattle.run_plan.specs.declared.inbound.TheConstants.{NOTHING}
use Rattle.run_plan.specs.Inbound.{IsNowhere, Gathers, arrived_by, arrivals_by}

module _ (tracks : List Track) where
  -- one more link end is looked at
  pub gathers-next : (i : ℕ) (links : List (Option ℕ)) (tokens : List (Option Token)) (credits : List Bool) (d : Option ℕ) (c : Crossing) → Gathers tracks i links tokens credits → i < length links
      → c ≡ arrived_by tracks (get_or links i d) → Gathers tracks (i + 1) links (slice_set tokens i c.token) (slice_set credits i c.credit)
  gathers-next zero (link ∷ links) (token ∷ tokens) (credit ∷ credits) d c g h e = ((ap (λ (x : Crossing). x.token) e, ap (λ (x : Crossing). x.credit) e), g.1)
  gathers-next (suc i) (link ∷ links) (token ∷ tokens) (credit ∷ credits) d c g h e =
      let p : suc i + 1 ≡ suc (i + 1) = omega arith in
      rw p (g.0, gathers-next i links tokens credits d c g.1 (omega arith) e)
  gathers-next i [] tokens credits d c g h e = absurd (omega arith)
  gathers-next zero (link ∷ links) [] credits d c g h e = absurd g
  gathers-next zero (link ∷ links) (token ∷ tokens) [] d c g h e = absurd g
  gathers-next (suc i) (link ∷ links) [] credits d c g h e = absurd g
  gathers-next (suc i) (link ∷ links) (token ∷ tokens) [] d c g h e = absurd g

  -- where none of the rest is reached, that is all
  pub gathers-all : (i : ℕ) (links : List (Option ℕ)) (tokens : List (Option Token)) (credits : List Bool) → Gathers tracks i links tokens credits → AllByRecursion IsNowhere (drop i links)
      → record { tokens = tokens; credits = credits } ≡ arrivals_by tracks links
  gathers-all zero [] [] [] g none = refl
  gathers-all zero (link ∷ links) (token ∷ tokens) (credit ∷ credits) g none =
      let here = g.0 none.0 in
      let is_token = here.0 ∙ (λ k. (arrived_by tracks (sym none.0 k)).token) in
      let is_credit = here.1 ∙ (λ k. (arrived_by tracks (sym none.0 k)).credit) in
      let rest = gathers-all zero links tokens credits g.1 none.1 in
      λ k. record { tokens = is_token k ∷ (rest k).tokens; credits = is_credit k ∷ (rest k).credits }
  gathers-all (suc i) (link ∷ links) (token ∷ tokens) (credit ∷ credits) g none =
      let rest = gathers-all i links tokens credits g.1 none in
      λ k. record { tokens = g.0.0 k ∷ (rest k).tokens; credits = g.0.1 k ∷ (rest k).credits }
  gathers-all _ _ _ _ g none = absurd g

-- to begin with, nothing arrives by any link end
module _ (tracks : List Track) where
  pub gathers-none : (n : ℕ) (links : List (Option ℕ)) → length links ≡ n → Gathers tracks 0 links (replicate n None) (replicate n false)
  gathers-none zero [] e = tt
  gathers-none zero (link ∷ links) e = absurd (omega arith)
  gathers-none (suc n) [] e = absurd (omega arith)
  gathers-none (suc n) (link ∷ links) e = (λ _. (refl, refl), gathers-none n links (omega arith))

-- where the default is all there is
all-default : {X : Type 0} (d : X) (xs : List X) (e : ℕ) → AllByRecursion (λ x. x ≡ d) xs → get_or xs e d ≡ d
all-default d [] e all = refl
all-default d (x ∷ xs) zero all = all.0
all-default d (x ∷ xs) (suc e) all = all-default d xs e all.1

pub nothing-arrives : NothingArrives NOTHING
nothing-arrives = record {
  tokens = λ end. all-default None NOTHING.tokens end (refl, (refl, (refl, (refl, (refl, (refl, (refl, (refl, tt))))))));
  credits = λ end. all-default false NOTHING.credits end (refl, (refl, (refl, (refl, (refl, (refl, (refl, (refl, tt))))))));
}
