-- One comparison with the least bound says what all link ends say.
use Rattle.std.proofs.Common.{◌≡◌, ℕ, min, Bool, true, false, ◌&&◌, ltb, Option, Some, None, List, [], ◌∷◌, refl, sym, ap, ◌∙◌, arith}
use Rattle.std.specs.List.{list_all}
use Rattle.std.proofs.lemmas.Bool.Decides.{nat_tests}
use Rattle.xs_base.specs.Numbers.{Slot}
use Rattle.ahead_limits.specs.declared.horizon.Seen.{Seen}
use Rattle.ahead_limits.specs.Horizon.{HorizonRec, horizon_at, may_run, lets_run}
use Rattle.ahead_limits.specs.Bound.{nearer, least_bound}

below_min : (clock a b : ℕ) → ltb clock (min a b) ≡ ltb clock a && ltb clock b
below_min clock a b = grind (arith, nat_tests)

and_assoc : (a b c : Bool) → (a && b) && c ≡ a && (b && c)
and_assoc true b c = refl
and_assoc false b c = refl

and_true : (a : Bool) → a && true ≡ a
and_true true = refl
and_true false = refl

below_nearer : (clock bound : Slot) (s : Option Seen) → ltb clock (nearer bound s) ≡ ltb clock bound && lets_run clock s
below_nearer clock bound None = sym (and_true (ltb clock bound))
below_nearer clock bound (Some s) = below_min clock bound (horizon_at s)

below_least : (clock bound : Slot) (ends : List (Option Seen)) → ltb clock (least_bound bound ends) ≡ ltb clock bound && list_all (lets_run clock) ends
below_least clock bound [] = sym (and_true (ltb clock bound))
below_least clock bound (s ∷ ends) =
    below_least clock (nearer bound s) ends
    ∙ ap (λ b. b && list_all (lets_run clock) ends) (below_nearer clock bound s)
    ∙ and_assoc (ltb clock bound) (lets_run clock s) (list_all (lets_run clock) ends)

pub may_run_is : (h : HorizonRec) (clock now bound : Slot) → now ≡ clock → bound ≡ least_bound h.limit h.ends → ltb now bound ≡ may_run h clock
may_run_is h clock now bound same is = (λ i. ltb (same i) (is i)) ∙ below_least clock h.limit h.ends
