-- Lists by place, the last of a list, and what holds of each.
use Rattle.std.proofs.Common.{◌≡◌, ℕ, zero, suc, ◌<◌, Option, Some, None, List, [], ◌∷◌, ◌++◌, length, map, get_or, set, slice_get, option_map, refl, sym, ap, ◌∙◌, subst, arith}
use Rattle.std.specs.List.{AllByRecursion}
use Rattle.std.proofs.Math.Seq.{map-set_same}
use Rattle.std.proofs.lemmas.List.{get_or_push, length_push, append_cancel_right, map-set, get_or-map, length-map, get_or-set_same, set-set, set-get_or}
use Rattle.std.proofs.lemmas.Option.{none-some, same_Some, slice_get-map, get_or_from_slice_get}
use Rattle.plan_cells.specs.Inside.{handed}

module _ {X : Type 0} where
  -- at a place inside a list something stands
  pub some_at : (xs : List X) (k : ℕ) → k < length xs → (x : X) × (slice_get xs k ≡ Some x)
  some_at [] k below = absurd (omega arith)
  some_at (x ∷ xs) zero below = (x, refl)
  some_at (x ∷ xs) (suc k) below = some_at xs k (omega arith)

  pub no_items : (xs : List X) → length xs ≡ 0 → xs ≡ []
  no_items [] none = refl
  no_items (x ∷ xs) none = absurd (omega arith)

  -- what stands before the last one more stands there still, and that one is last
  pub before_push : (xs : List X) (y x : X) (k : ℕ) → slice_get xs k ≡ Some x → slice_get (xs ++ y ∷ []) k ≡ Some x
  before_push [] y x k h = absurd (none-some x h)
  before_push (z ∷ xs) y x zero h = h
  before_push (z ∷ xs) y x (suc k) h = before_push xs y x k h

  pub at_push : (xs : List X) (y : X) (k : ℕ) → k ≡ length xs → slice_get (xs ++ y ∷ []) k ≡ Some y
  at_push [] y k h = ap (slice_get (y ∷ [])) h
  at_push (z ∷ xs) y zero h = absurd (omega arith)
  at_push (z ∷ xs) y (suc k) h = at_push xs y k (omega arith)

  -- two lists with one more are the same where those without it are, and the ones more
  pub same_last : (xs ys : List X) (x y : X) → xs ++ x ∷ [] ≡ ys ++ y ∷ [] → (xs ≡ ys) × (x ≡ y)
  same_last xs ys x y e =
      let long : length xs ≡ length ys = omega (arith, ap (length {A = X}) e, length_push xs x, length_push ys y) in
      let last : x ≡ y = sym (get_or_push xs x x (length ys) long) ∙ ap (λ (l : List X). get_or l (length ys) x) e ∙ get_or_push ys y x (length ys) refl in
      (append_cancel_right xs ys (y ∷ []) (ap (λ (z : X). xs ++ z ∷ []) (sym last) ∙ e), last)

  -- what holds of each
  module _ {P Q : X → Type 0} (gives : (x : X) → P x → Q x) where
    pub all_give : (xs : List X) → AllByRecursion P xs → AllByRecursion Q xs
    all_give [] all = tt
    all_give (x ∷ xs) all = (gives x all.0, all_give xs all.1)

  module _ (P : X → Type 0) where
    pub all_push : (xs : List X) (y : X) → AllByRecursion P xs → P y → AllByRecursion P (xs ++ y ∷ [])
    all_push [] y all here = (here, tt)
    all_push (x ∷ xs) y all here = (all.0, all_push xs y all.1 here)

    pub all_but_last : (xs : List X) (y : X) → AllByRecursion P (xs ++ y ∷ []) → AllByRecursion P xs × P y
    all_but_last [] y all = (tt, all.0)
    all_but_last (x ∷ xs) y all = let rest = all_but_last xs y all.1 in ((all.0, rest.0), rest.1)

    pub all_at : (xs : List X) (k : ℕ) (x : X) → AllByRecursion P xs → slice_get xs k ≡ Some x → P x
    all_at [] k x all h = absurd (none-some x h)
    all_at (y ∷ xs) zero x all h = subst P (same_Some y x h) all.0
    all_at (y ∷ xs) (suc k) x all h = all_at xs k x all.1 h

-- what a function gives of what stands at a place
module _ {X Y : Type 0} (f : X → Y) (xs : List X) where
  pub map_at : (k : ℕ) (x : X) → slice_get xs k ≡ Some x → slice_get (map f xs) k ≡ Some (f x)
  map_at k x h = slice_get-map f xs k ∙ ap (option_map f) h

  pub map_or_at : (k : ℕ) (x : X) (default : Y) → slice_get xs k ≡ Some x → get_or (map f xs) k default ≡ f x
  map_or_at k x default h = get_or_from_slice_get (map f xs) k (f x) default (map_at k x h)

  pub from_map : (k : ℕ) (y : Y) → slice_get (map f xs) k ≡ Some y → (x : X) × (slice_get xs k ≡ Some x) × (f x ≡ y)
  from_map k y h = by_found (slice_get xs k) refl
    where
      by_found : (found : Option X) → slice_get xs k ≡ found → (x : X) × (slice_get xs k ≡ Some x) × (f x ≡ y)
      by_found None e = absurd (none-some y (ap (option_map f) (sym e) ∙ sym (slice_get-map f xs k) ∙ h))
      by_found (Some x) e = (x, e, same_Some (f x) y (ap (option_map f) (sym e) ∙ sym (slice_get-map f xs k) ∙ h))

-- lists that stand at the places of a list, of which that at one place becomes another
module _ {X Y : Type 0} (field : Y → List X) (all : List Y) (n : ℕ) (now after : Y) (inside : n < length all) (is : now ≡ get_or all n now) where
  field_at : get_or (map field all) n [] ≡ field now
  field_at = get_or-map field all n now [] inside ∙ ap field (sym is)

  pub given_one : (x : X) → field after ≡ field now ++ x ∷ [] → map field (set all n after) ≡ handed (map field all) n x
  given_one x more = map-set field all n after ∙ (λ i. set (map field all) n ((more ∙ (λ j. sym field_at j ++ x ∷ [])) i))

  pub given_none : field after ≡ field now → map field (set all n after) ≡ map field all
  given_none same = map-set_same field all n after now (same ∙ ap field is)

  pub taken_one : (x : X) → field now ≡ field after ++ x ∷ [] → map field all ≡ handed (map field (set all n after)) n x
  taken_one x more =
      let lists = map field all in
      let then_at : get_or (set lists n (field after)) n [] ≡ field after = get_or-set_same lists n (field after) [] (omega (arith, length-map all field, inside)) in
      sym (
      (λ i. handed (map-set field all n after i) n x)
      ∙ set-set lists n (field after) (get_or (set lists n (field after)) n [] ++ x ∷ [])
      ∙ (λ i. set lists n ((ap (λ (xs : List X). xs ++ x ∷ []) then_at ∙ sym more ∙ sym field_at) i))
      ∙ set-get_or lists n []
      )
