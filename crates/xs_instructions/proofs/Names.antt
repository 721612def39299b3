-- The names of labels: what a map's look-up says of `address_of`, and that a name's bytes are text.
use Rattle.std.proofs.Common.{◌≡◌, ℕ, ◌<◌, ◌≤◌, true, false, List, [], ◌∷◌, length, refl, sym, ap, IsTrue, arith, rules, nat_lt}
use Rattle.std.specs.Prelude.{bytes_eq, IsUtf8, IsAscii}
use Rattle.std.specs.Bool.{Decides}
use Rattle.std.specs.List.{list_all, list_any}
use Rattle.std.proofs.lemmas.Slice.Eq.{compares_Decides, bytes_eq-Decides}
use Rattle.std.proofs.lemmas.Bool.{false_from_ne_true, and_parts, ltb-true}
use Rattle.std.proofs.lemmas.Bool.Decides.{same_from_decides, nat_tests}
use Rattle.std.proofs.lemmas.Str.{IsUtf8-nil, IsUtf8-from_ascii}
use Rattle.std.proofs.lemmas.Str.Ascii.{IsAscii-nil, IsAscii-cons}
use Rattle.xs_text.specs.Bytes.{is_name_byte, is_name_start}
use Rattle.xs_text.specs.Tokens.{is_name}
use Rattle.xs_instructions.specs.Words.{same_name}
use Rattle.xs_instructions.specs.Image.{is_reserved, reserved_names}

pub same_name-Decides : (xs ys : List ℕ) → Decides (same_name xs ys) (xs ≡ ys)
same_name-Decides = compares_Decides same_name (search rules)

pub same_name-same : (name : List ℕ) → same_name name name ≡ true
same_name-same name = (same_name-Decides name name).1 refl

-- a name is compared as a map compares the text that is looked up with a key
pub same_name-is : (key name : List ℕ) → same_name key name ≡ bytes_eq name key
same_name-is key name =
    let same = same_name-Decides key name in
    let equal = bytes_eq-Decides name key in
    same_from_decides _ _ same (λ t. sym (equal.0 t), λ e. equal.1 (sym e))

name_start_ascii : (b : ℕ) → is_name_start b ≡ true → b < 128
name_start_ascii b h = grind (arith, nat_tests)

name_byte_ascii : (b : ℕ) → is_name_byte b ≡ true → b < 128
name_byte_ascii b h = grind (arith, nat_tests)

name_bytes_ascii : (bytes : List ℕ) → list_all is_name_byte bytes ≡ true → IsAscii bytes
name_bytes_ascii [] h = IsAscii-nil
name_bytes_ascii (b ∷ bytes) h =
    let parts = and_parts (is_name_byte b) (list_all is_name_byte bytes) h in
    IsAscii-cons b bytes (name_byte_ascii b parts.0) (name_bytes_ascii bytes parts.1)

pub IsUtf8-from_is_name : (name : List ℕ) → IsTrue (is_name name) → IsUtf8 name
IsUtf8-from_is_name [] h = IsUtf8-nil
IsUtf8-from_is_name (b ∷ rest) h =
    let parts = and_parts (is_name_start b) (list_all is_name_byte rest) h in
    IsUtf8-from_ascii (b ∷ rest) (IsAscii-cons b rest (name_start_ascii b parts.0) (name_bytes_ascii rest parts.1))

-- a name longer than others is none of them
same_name-longer : (key name : List ℕ) → length key < length name → same_name key name ≡ false
same_name-longer key name h =
    false_from_ne_true _ (λ t. let e : length key ≡ length name = ap length ((same_name-Decides key name).0 t) in omega arith)

none_of_shorter : (n : ℕ) (name : List ℕ) → n ≤ length name → (names : List (List ℕ)) → list_all (λ r. nat_lt (length r) n) names ≡ true → list_any (λ r. same_name r name) names ≡ false
none_of_shorter n name long [] h = refl
none_of_shorter n name long (r ∷ names) h =
    let parts = and_parts (nat_lt (length r) n) (list_all (λ r. nat_lt (length r) n) names) h in
    let shorter : length r < length name = omega (arith, ltb-true _ _ parts.0) in
    rw (same_name-longer r name shorter, none_of_shorter n name long names parts.1) refl

-- no reserved name has four bytes
pub is_reserved_long : (name : List ℕ) → 4 ≤ length name → is_reserved name ≡ false
is_reserved_long name long = none_of_shorter 4 name long reserved_names refl
