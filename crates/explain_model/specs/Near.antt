-- Names that are near a name: what may have been meant by it.
use Rattle.std.specs.Prelude.{ℕ, Bool, false, ◌||◌, ◌&&◌, ◌==◌, nat_lt, if◌then◌else◌, Option, Some, None, List, [], ◌∷◌, ◌++◌, length, take, flat_map, codes}
use Rattle.std.specs.List.{list_any}
use Rattle.std.specs.Str.{str_eq_ignore_ascii_case}
use Rattle.xs_instructions.specs.Image.{same_name}
use Rattle.explain_model.specs.declared.Nearness.{Nearness}
use Rattle.explain_model.specs.declared.Nearness.TheVariants.{Case, Edit, Beginning}
use Rattle.explain_model.specs.declared.TheConstants.{MOST_NEAR}

-- two neighbours swapped, where the names differ first at a and b
abbrev pub is_swapped : ℕ → List ℕ → ℕ → List ℕ → Bool
is_swapped a (c ∷ cs) b (d ∷ ds) = (a == d) && ((c == b) && same_name cs ds)
is_swapped a cs b ds = false

-- one edit at a and b: another byte, a byte less, a byte more, or two neighbours swapped
abbrev pub is_edit_here : ℕ → List ℕ → ℕ → List ℕ → Bool
is_edit_here a cs b ds = same_name cs ds || (same_name (a ∷ cs) ds || (same_name cs (b ∷ ds) || is_swapped a cs b ds))

-- whether names that are not the same differ by one edit
unfoldable pub is_one_edit : List ℕ → List ℕ → Bool
is_one_edit [] ds = length ds == 1
is_one_edit (a ∷ cs) [] = length (a ∷ cs) == 1
is_one_edit (a ∷ cs) (b ∷ ds) = if a == b then is_one_edit cs ds else is_edit_here a cs b ds

-- whether a name of two bytes at least begins the other
abbrev pub begins_name : List ℕ → List ℕ → Bool
begins_name front name = nat_lt 1 (length front) && same_name front (take (length front) name)

-- in what a name is near another one, if it is
abbrev pub nearness : List ℕ → List ℕ → Option Nearness
nearness name other =
    if str_eq_ignore_ascii_case name other then Some Case
    else (if is_one_edit name other then Some Edit
    else (if begins_name name other || begins_name other name then Some Beginning else None))

-- a name that is near another one
pub record Near : Type 0 where
  pub name : List ℕ
  pub how : Nearness

abbrev pub is_found : List Near → List ℕ → Bool
is_found found name = list_any (λ (near : Near). same_name near.name name) found

abbrev pub put_near : List Near → List ℕ → Option Nearness → List Near
put_near found other None = found
put_near found other (Some how) = if is_found found other then found else found ++ record { name = other; how = how } ∷ []

-- with another name, if it is near, and if there are not enough yet
abbrev pub add_near : List ℕ → List Near → List ℕ → List Near
add_near name found other = if nat_lt (length found) MOST_NEAR then put_near found other (nearness name other) else found

-- the first of some names that are near a name, each once
unfoldable pub near_from : List ℕ → List Near → List (List ℕ) → List Near
near_from name found [] = found
near_from name found (other ∷ others) = near_from name (add_near name found other) others

-- ---- In words

abbrev pub nearness_text : Nearness → List ℕ
nearness_text Case = codes " (case counts)"
nearness_text Edit = codes " (one edit away)"
nearness_text Beginning = codes " (begins alike)"

abbrev pub near_text : Near → List ℕ
near_text near = near.name ++ nearness_text near.how

-- `; near: NAME (HOW), ..`, the end of a line
abbrev pub near_line : List Near → List ℕ
near_line [] = codes "; near: none\n"
near_line (near ∷ found) = codes "; near: " ++ (near_text near ++ (flat_map (λ (n : Near). codes ", " ++ near_text n) found ++ codes "\n"))
