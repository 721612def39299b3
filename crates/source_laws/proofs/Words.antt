-- The names of registers, the fixed words and marks, and names of labels: what kind of token each is, and its shape.
use Rattle.std.proofs.Common.{◌≡◌, ℕ, ◌+◌, ◌<◌, Bool, true, false, ◌||◌, not, ◌==◌, List, [], ◌∷◌, get_or, refl, sym, ap, ◌∙◌, rules, nat_le}
use Rattle.std.specs.Prelude.{Option, Some, None}
use Rattle.std.specs.List.{list_all, AllByRecursion}
use Rattle.std.specs.Bool.{Decides}
use Rattle.std.proofs.lemmas.Slice.Eq.{compares_Decides}
use Rattle.std.proofs.lemmas.Bool.{and_parts, cond-true, cond-false, false_from_ne_true, not-true}
use Rattle.xs_text.specs.Bytes.{all_allowed}
use Rattle.xs_text.specs.Tokens.{kind_of, is_name, is_mark}
use Rattle.xs_text.specs.declared.token_reader.TokKind.TheVariants.{Name}
use Rattle.xs_instructions.specs.Words.{same_name, register_names, register_number, fixed_words, fixed, fixed_text, place_from}
use Rattle.xs_instructions.specs.Image.{is_reserved, may_be_label}
use Rattle.xs_instructions.specs.declared.shape.Shape.TheVariants as shape
use Rattle.source_model.specs.declared.layout.Section.{Section}
use Rattle.source_model.specs.Operands.{shape_by_kind}
use Rattle.source_laws.proofs.Below.{AllBelow, below}

pub same_name-Decides : (xs ys : List ℕ) → Decides (same_name xs ys) (xs ≡ ys)
same_name-Decides = compares_Decides same_name (search rules)

pub same_name-self : (name : List ℕ) → same_name name name ≡ true
same_name-self name = (same_name-Decides name name).1 refl

abbrev pub register_name : ℕ → List ℕ
register_name n = get_or register_names n []

-- what a register's name is as a token
pub record IsRegisterName (n : ℕ) : Type 0 where
  pub kind : kind_of (register_name n) ≡ Name
  pub named : is_name (register_name n) ≡ true
  pub number : register_number (register_name n) ≡ Some n
  pub allowed : all_allowed (register_name n) ≡ true
  pub no_colon : same_name (58 ∷ []) (register_name n) ≡ false

registers : AllBelow IsRegisterName 16
unfolding register_number
registers = let r : (n : ℕ) → kind_of (register_name n) ≡ Name → is_name (register_name n) ≡ true → register_number (register_name n) ≡ Some n → all_allowed (register_name n) ≡ true → same_name (58 ∷ []) (register_name n) ≡ false → IsRegisterName n = λ n a b c d e. record { kind = a; named = b; number = c; allowed = d; no_colon = e } in (
  r 15 refl refl refl refl refl,
  (
    r 14 refl refl refl refl refl,
    (
      r 13 refl refl refl refl refl,
      (
        r 12 refl refl refl refl refl,
        (
          r 11 refl refl refl refl refl,
          (
            r 10 refl refl refl refl refl,
            (
              r 9 refl refl refl refl refl,
              (
                r 8 refl refl refl refl refl,
                (
                  r 7 refl refl refl refl refl,
                  (
                    r 6 refl refl refl refl refl,
                    (
                      r 5 refl refl refl refl refl,
                      (
                        r 4 refl refl refl refl refl,
                        (r 3 refl refl refl refl refl, (r 2 refl refl refl refl refl, (r 1 refl refl refl refl refl, (r 0 refl refl refl refl refl, tt)))),
                      ),
                    ),
                  ),
                ),
              ),
            ),
          ),
        ),
      ),
    ),
  ),
)

pub is_register_name : (n : ℕ) → n < 16 → IsRegisterName n
is_register_name n h = below IsRegisterName 16 registers n h

-- what a fixed word or mark is as a token
pub record IsFixedText (n : ℕ) : Type 0 where
  pub shape : (base : Option Section) → shape_by_kind (kind_of (fixed_text n)) base (fixed_text n) ≡ Some (shape.Word n)
  pub allowed : all_allowed (fixed_text n) ≡ true
  pub named : is_name (fixed_text n) ≡ not (nat_le 11 n)
  pub mark : is_mark (fixed_text n) ≡ nat_le 11 n
  pub colon : same_name (58 ∷ []) (fixed_text n) ≡ (12 == n)
  pub comma : same_name (44 ∷ []) (fixed_text n) ≡ (11 == n)

fixed_texts : AllBelow IsFixedText 16
unfolding register_number fixed
fixed_texts = let r : (n : ℕ) → ((base : Option Section) → shape_by_kind (kind_of (fixed_text n)) base (fixed_text n) ≡ Some (shape.Word n)) → all_allowed (fixed_text n) ≡ true → is_name (fixed_text n) ≡ not (nat_le 11 n) → is_mark (fixed_text n) ≡ nat_le 11 n → same_name (58 ∷ []) (fixed_text n) ≡ (12 == n) → same_name (44 ∷ []) (fixed_text n) ≡ (11 == n) → IsFixedText n = λ n a b c m d e. record { shape = a; allowed = b; named = c; mark = m; colon = d; comma = e } in (
  r 15 (λ base. refl) refl refl refl refl refl,
  (
    r 14 (λ base. refl) refl refl refl refl refl,
    (
      r 13 (λ base. refl) refl refl refl refl refl,
      (
        r 12 (λ base. refl) refl refl refl refl refl,
        (
          r 11 (λ base. refl) refl refl refl refl refl,
          (
            r 10 (λ base. refl) refl refl refl refl refl,
            (
              r 9 (λ base. refl) refl refl refl refl refl,
              (
                r 8 (λ base. refl) refl refl refl refl refl,
                (
                  r 7 (λ base. refl) refl refl refl refl refl,
                  (
                    r 6 (λ base. refl) refl refl refl refl refl,
                    (
                      r 5 (λ base. refl) refl refl refl refl refl,
                      (
                        r 4 (λ base. refl) refl refl refl refl refl,
                        (r 3 (λ base. refl) refl refl refl refl refl, (r 2 (λ base. refl) refl refl refl refl refl, (r 1 (λ base. refl) refl refl refl refl refl, (r 0 (λ base. refl) refl refl refl refl refl, tt)))),
                      ),
                    ),
                  ),
                ),
              ),
            ),
          ),
        ),
      ),
    ),
  ),
)

pub is_fixed_text : (n : ℕ) → n < 16 → IsFixedText n
is_fixed_text n h = below IsFixedText 16 fixed_texts n h

-- a label's name is no register, and no fixed word

not_among : (k : ℕ) (texts : List (List ℕ)) (name : List ℕ) → AllByRecursion (λ (t : List ℕ). same_name t name ≡ false) texts → place_from k texts name ≡ None
not_among k [] name h = refl
not_among k (t ∷ texts) name h = cond-false _ _ _ h.0 ∙ not_among (k + 1) texts name h.1

-- whether no label has the name
abbrev excluded : List ℕ → Bool
excluded t = is_reserved t || not (is_name t)

differs : (t name : List ℕ) → excluded t ≡ true → may_be_label name ≡ true → same_name t name ≡ false
differs t name h k =
    let p = and_parts (is_name name) (not (is_reserved name)) k in
    let free : is_reserved name ≡ false = not-true _ p.1 in
    false_from_ne_true _ (λ e. let same : t ≡ name = (same_name-Decides t name).0 e in
    let f : excluded name ≡ false = ap (λ b. b || not (is_name name)) free ∙ ap not p.0 in
    let g : excluded name ≡ true = ap excluded (sym same) ∙ h in
    let no : true ≡ false = sym g ∙ f in cc)

all_differ : (texts : List (List ℕ)) (name : List ℕ) → list_all excluded texts ≡ true → may_be_label name ≡ true → AllByRecursion (λ (t : List ℕ). same_name t name ≡ false) texts
all_differ [] name h k = tt
all_differ (t ∷ texts) name h k =
    let p = and_parts (excluded t) (list_all excluded texts) h in (differs t name p.0 k, all_differ texts name p.1 k)

pub label_no_register : (name : List ℕ) → may_be_label name ≡ true → register_number name ≡ None
unfolding register_number
label_no_register name k = not_among 0 register_names name (all_differ register_names name refl k)

pub label_not_fixed : (name : List ℕ) → may_be_label name ≡ true → fixed name ≡ None
unfolding fixed
label_not_fixed name k = not_among 0 fixed_words name (all_differ fixed_words name refl k)

pub name_kind : (name : List ℕ) → is_name name ≡ true → kind_of name ≡ Name
name_kind name h = cond-true _ _ _ h
