-- What a map of names says of the list of its symbols.
use Rattle.std.proofs.Common.{◌≡◌, ℕ, zero, suc, ◌+◌, Bool, false, cond, ◌++◌, List, [], ◌∷◌, map, Option, Some, None, refl, sym, ap, ◌∙◌, subst}
use Rattle.std.specs.Prelude.{bytes_eq, IsUtf8, String, string_bytes, is_some, position}
use Rattle.std.specs.List.{position_from}
use Rattle.std.specs.Map.{lookup, keys_of}
use Rattle.std.proofs.lemmas.Bool.{cond-false, false_from_ne_true}
use Rattle.std.proofs.lemmas.Iterator.Adapters.{position_from-zero}
use Rattle.std.proofs.lemmas.List.{map-append}
use Rattle.std.proofs.lemmas.Str.{IsUtf8-string_bytes}
use Rattle.indexmap.specs.IndexMap.{set_value_at}
use Rattle.xs_instructions.specs.Words.{same_name}
use Rattle.xs_instructions.specs.Image.{Symbol, address_of, defined, number_from, number_of, symbol_of_entry, with_address}
use Rattle.xs_instructions.proofs.Names.{same_name-is, same_name-Decides}

module _ {A : Type 0} where
  abbrev pub is_key : List ℕ → String A → Bool
  is_key name key = bytes_eq name (string_bytes key)

  pub look_up-is : (name : List ℕ) (entries : List (String A × ℕ)) → lookup (is_key name) entries ≡ address_of (map symbol_of_entry entries) name
  look_up-is name [] = refl
  look_up-is name (e ∷ entries) =
      ap (λ b. cond b (Some e.1) (lookup (is_key name) entries)) (sym (same_name-is (string_bytes e.0) name))
      ∙ ap (λ o. cond (same_name (string_bytes e.0) name) (Some e.1) o) (look_up-is name entries)

  number-is : (k : ℕ) (name : List ℕ) (entries : List (String A × ℕ)) → position_from (is_key name) k (keys_of entries) ≡ number_from k (map symbol_of_entry entries) name
  number-is k name [] = refl
  number-is k name (e ∷ entries) =
      ap (λ b. cond b (Some k) (position_from (is_key name) (k + 1) (keys_of entries))) (sym (same_name-is (string_bytes e.0) name))
      ∙ ap (λ o. cond (same_name (string_bytes e.0) name) (Some k) o) (number-is (k + 1) name entries)

  pub position-is : (name : List ℕ) (entries : List (String A × ℕ)) → position (is_key name) (keys_of entries) ≡ number_of (map symbol_of_entry entries) name
  position-is name entries = position_from-zero (is_key name) (keys_of entries) ∙ number-is 0 name entries

  -- bytes that are no text are no name of the map

  other_name : (name : List ℕ) (key : String A) → (IsUtf8 name → ⊥) → same_name (string_bytes key) name ≡ false
  other_name name key h =
      false_from_ne_true _ (λ same. h (subst IsUtf8 ((same_name-Decides (string_bytes key) name).0 same) (IsUtf8-string_bytes key)))

  pub no_address : (name : List ℕ) (entries : List (String A × ℕ)) → (IsUtf8 name → ⊥) → None ≡ address_of (map symbol_of_entry entries) name
  no_address name [] h = refl
  no_address name (e ∷ entries) h = no_address name entries h ∙ sym (cond-false _ _ _ (other_name name e.0 h))

  number_none : (k : ℕ) (name : List ℕ) (entries : List (String A × ℕ)) → (IsUtf8 name → ⊥) → None ≡ number_from k (map symbol_of_entry entries) name
  number_none k name [] h = refl
  number_none k name (e ∷ entries) h = number_none (k + 1) name entries h ∙ sym (cond-false _ _ _ (other_name name e.0 h))

  pub no_number : (name : List ℕ) (entries : List (String A × ℕ)) → (IsUtf8 name → ⊥) → None ≡ number_of (map symbol_of_entry entries) name
  no_number name entries h = number_none 0 name entries h

  -- a key that no entry has is put at the end
  pub one_more : (entries more : List (String A × ℕ)) (key : String A) (name : List ℕ) (at : ℕ) (labels : List Symbol)
      → map symbol_of_entry entries ≡ labels → string_bytes key ≡ name → address_of labels name ≡ None
      → (lookup (is_key (string_bytes key)) entries ≡ None → more ≡ entries ++ (key, at) ∷ [])
      → map symbol_of_entry more ≡ defined name at labels
  one_more entries more key name at labels is text none inserted =
      let absent : lookup (is_key (string_bytes key)) entries ≡ None =
      look_up-is (string_bytes key) entries ∙ (ap (λ ls. address_of ls (string_bytes key)) is ∙ (ap (λ n. address_of labels n) text ∙ none)) in
      ap (λ es. map symbol_of_entry es) (inserted absent)
      ∙ (map-append symbol_of_entry entries ((key, at) ∷ [])
      ∙ (ap (λ ls. ls ++ (string_bytes key, at) ∷ []) is
      ∙ (ap (λ n. labels ++ (n, at) ∷ []) text ∙ sym (cond-false _ _ _ (ap (λ o. is_some o) none)))))

pub not_some : (o : Option ℕ) → is_some o ≡ false → o ≡ None
not_some (Some x) e = cc
not_some None e = refl

pub address-set : {A : Type 0} (k at : ℕ) (entries : List (String A × ℕ)) → map symbol_of_entry (set_value_at entries k at) ≡ with_address k at (map symbol_of_entry entries)
address-set k at [] = refl
address-set zero at (e ∷ entries) = refl
address-set (suc k) at (e ∷ entries) = ap (λ ss. symbol_of_entry e ∷ ss) (address-set k at entries)
