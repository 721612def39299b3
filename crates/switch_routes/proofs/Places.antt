-- The link ends that are there, in their places.
use Rattle.std.proofs.Common.{ℕ, zero, suc, ◌≡◌, ◌<◌, Bool, true, false, cond, Option, Some, None, List, [], ◌∷◌, ◌++◌, length, get_or, take, drop, refl, sym, ap, ◌∙◌, arith}
use Rattle.std.specs.Prelude.{slice_set, IsSome, IfSome, MatchOption, ◌↔◌}
use Rattle.std.specs.Borrow.{MutBor}
use Rattle.std.proofs.lemmas.Bool.{false≢true}
use Rattle.std.proofs.lemmas.List.{length-set, take_at}
use Rattle.link_ends.specs.Counts.{EndCounts}
use Rattle.switch_routes.specs.Inside.{ends_in}

pub length-ends_in : (present : List Bool) (ends : List EndCounts) → length present ≡ length ends → length (ends_in present ends) ≡ length ends
length-ends_in [] [] same = refl
length-ends_in [] (w ∷ ends) same = absurd (omega arith)
length-ends_in (p ∷ present) [] same = refl
length-ends_in (p ∷ present) (w ∷ ends) same = ap suc (length-ends_in present ends (omega arith))

-- a link end is put in its place
pub ends_in-set : (present : List Bool) (ends : List EndCounts) (e : ℕ) (w : EndCounts) → ends_in (slice_set present e true) (slice_set ends e w) ≡ slice_set (ends_in present ends) e (Some w)
ends_in-set [] ends e w = refl
ends_in-set (p ∷ present) [] zero w = refl
ends_in-set (p ∷ present) [] (suc e) w = refl
ends_in-set (p ∷ present) (v ∷ ends) zero w = refl
ends_in-set (p ∷ present) (v ∷ ends) (suc e) w = ap (λ rest. cond p (Some v) None ∷ rest) (ends_in-set present ends e w)

-- the same, where all places were lent as a slice
pub put_in_place : (present : List Bool) (ends : List EndCounts) (e : ℕ) (w : EndCounts) → ends_in (slice_set present e true) (take (length ends) (slice_set ends e w ++ drop (length (slice_set ends e w)) ends)) ≡ slice_set (ends_in present ends) e (Some w)
put_in_place present ends e w =
    ap (ends_in (slice_set present e true)) (take_at (slice_set ends e w) (drop (length (slice_set ends e w)) ends) (length ends) (length-set ends e w))
    ∙ ends_in-set present ends e w

-- a link end that is there changes
pub ends_in-change : (present : List Bool) (ends : List EndCounts) (e : ℕ) (w : EndCounts) → get_or present e false ≡ true → ends_in present (slice_set ends e w) ≡ slice_set (ends_in present ends) e (Some w)
ends_in-change [] ends e w there = refl
ends_in-change (p ∷ present) [] zero w there = refl
ends_in-change (p ∷ present) [] (suc e) w there = refl
ends_in-change (p ∷ present) (v ∷ ends) zero w there = ap (λ (b : Bool). cond b (Some w) None ∷ ends_in present ends) there
ends_in-change (p ∷ present) (v ∷ ends) (suc e) w there = ap (λ rest. cond p (Some v) None ∷ rest) (ends_in-change present ends e w there)

-- what stands in a place
pub get_or-ends_in : (present : List Bool) (ends : List EndCounts) (e : ℕ) (d : EndCounts) → e < length ends → get_or (ends_in present ends) e None ≡ cond (get_or present e false) (Some (get_or ends e d)) None
get_or-ends_in [] [] e d h = absurd (omega arith)
get_or-ends_in [] (w ∷ ends) e d h = refl
get_or-ends_in (p ∷ present) [] e d h = absurd (omega arith)
get_or-ends_in (p ∷ present) (w ∷ ends) zero d h = refl
get_or-ends_in (p ∷ present) (w ∷ ends) (suc e) d h = get_or-ends_in present ends e d (omega arith)

-- what is lent
pub end_cases : (r : Option (MutBor EndCounts)) (present : List Bool) (ends : List EndCounts) (e : ℕ) → e < length ends → get_or present e false ≡ true → IsSome r ↔ (e < length ends) → IfSome r (λ x. x.now ≡ get_or ends e x.now) → MatchOption r (get_or (ends_in present ends) e None ≡ None) (λ x. get_or (ends_in present ends) e None ≡ Some x.now)
end_cases None present ends e h there some value = absurd (false≢true (some.1 h))
end_cases (Some x) present ends e h there some value =
    get_or-ends_in present ends e x.now h ∙ ap (λ (b : Bool). cond b (Some (get_or ends e x.now)) None) there ∙ ap Some (sym value)

-- no link end is in its place, or there is no such place
pub not_there : (present : List Bool) (ends : List EndCounts) (e : ℕ) → get_or present e false ≡ false → get_or (ends_in present ends) e None ≡ None
not_there [] ends e there = refl
not_there (p ∷ present) [] e there = refl
not_there (p ∷ present) (w ∷ ends) zero there = ap (λ (b : Bool). cond b (Some w) None) there
not_there (p ∷ present) (w ∷ ends) (suc e) there = not_there present ends e there

-- a link end that is there has a place
pub has_place : (present : List Bool) (e : ℕ) → get_or present e false ≡ true → e < length present
has_place [] e there = absurd (false≢true there)
has_place (p ∷ present) zero there = omega arith
has_place (p ∷ present) (suc e) there = omega (arith, has_place present e there)

-- a link end that is read from its place
pub there : (present : List Bool) (ends : List EndCounts) (e : ℕ) (w : EndCounts) → e < length ends → get_or present e false ≡ true → w ≡ get_or ends e w → get_or (ends_in present ends) e None ≡ Some w
there present ends e w h is read =
    get_or-ends_in present ends e w h ∙ ap (λ (b : Bool). cond b (Some (get_or ends e w)) None) is ∙ ap Some (sym read)
