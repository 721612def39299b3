-- What a list of what a function gives for each element says of the elements.
use Rattle.std.proofs.Common.{◌≡◌, suc, List, [], ◌∷◌, length, Option, Some, None, refl, ap}
use Rattle.source_model.specs.Each.{put_first, all_some}

pub put_first_none : {A : Type 0} (first : Option A) (after : Option (List A)) → put_first first after ≡ Some [] → ⊥
put_first_none None after h = cc
put_first_none (Some x) None h = cc
put_first_none (Some x) (Some xs) h = cc

put_first_parts : {A : Type 0} (first : Option A) (after : Option (List A)) (x : A) (xs : List A) → put_first first after ≡ Some (x ∷ xs) → (first ≡ Some x) × (after ≡ Some xs)
put_first_parts None after x xs h = cc
put_first_parts (Some y) None x xs h = cc
put_first_parts (Some y) (Some ys) x xs h =
    let both : y ∷ ys ≡ x ∷ xs = cc in
    let head : y ≡ x = cc in
    let tail : ys ≡ xs = cc in
    (ap Some head, ap Some tail)

pub some_for_none : {A B : Type 0} (f : A → Option B) (y : B) (ys : List B) → all_some f [] ≡ Some (y ∷ ys) → ⊥
unfolding all_some
some_for_none f y ys h = cc

pub none_for_some : {A B : Type 0} (f : A → Option B) (x : A) (xs : List A) → all_some f (x ∷ xs) ≡ Some [] → ⊥
unfolding all_some
none_for_some f x xs h = put_first_none (f x) (all_some f xs) h

pub each_parts : {A B : Type 0} (f : A → Option B) (x : A) (xs : List A) (y : B) (ys : List B) → all_some f (x ∷ xs) ≡ Some (y ∷ ys) → (f x ≡ Some y) × (all_some f xs ≡ Some ys)
unfolding all_some
each_parts f x xs y ys h = put_first_parts (f x) (all_some f xs) y ys h

-- one for each
pub all_some-length : {A B : Type 0} (f : A → Option B) (xs : List A) (ys : List B) → all_some f xs ≡ Some ys → length ys ≡ length xs
all_some-length f [] [] h = refl
all_some-length f [] (y ∷ ys) h = absurd (some_for_none f y ys h)
all_some-length f (x ∷ xs) [] h = absurd (none_for_some f x xs h)
all_some-length f (x ∷ xs) (y ∷ ys) h = let parts = each_parts f x xs y ys h in ap suc (all_some-length f xs ys parts.1)
