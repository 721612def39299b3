-- The tokens of an instruction's text are its pieces.
use Rattle.std.proofs.Common.{◌≡◌, ℕ, true, List, [], ◌∷◌, ◌++◌, ◌⊎◌, map, refl, sym, ap, ◌∙◌, subst, inl, inr}
use Rattle.std.specs.Prelude.{decimal}
use Rattle.std.specs.List.{flat_map}
use Rattle.std.specs.Char.{is_ascii_digit, is_ascii_alphanumeric}
use Rattle.std.proofs.lemmas.Bool.{cond-true, cond-false, cases_Bool}
use Rattle.xs_text.specs.Bytes.{is_name_byte}
use Rattle.xs_text.specs.Tokens.{Token, tokens_of, token_of, is_name, is_run, is_mark}
use Rattle.xs_text.proofs.FirstToken.{tokens_of-none}
use Rattle.xs_instructions.specs.Words.{same_name}
use Rattle.xs_instructions.specs.Spelling.{Spelled, Text, Reg, Num, Place}
use Rattle.xs_instructions.specs.Code.{place_address}
use Rattle.xs_instructions.specs.Image.{Symbol}
use Rattle.source_model.specs.Canonical.{piece_text, operands_text, first_name_at}
use Rattle.source_laws.proofs.TokenText.{stops, name_first, digits_first, mark_first, mark_stops, blank_first}
use Rattle.source_laws.proofs.Words.{register_name, same_name-Decides}

module _ (symbols : List Symbol) where
  -- the bytes of a piece, without the blank behind a comma
  abbrev pub piece_bytes : Spelled → List ℕ
  piece_bytes (Text bytes) = bytes
  piece_bytes (Reg n) = register_name n
  piece_bytes (Num n) = decimal n
  piece_bytes (Place p) = first_name_at symbols (place_address p)

  abbrev pub piece_token : Spelled → Token
  piece_token p = token_of (piece_bytes p)

  abbrev pub IsMarkPiece : Spelled → Type 0
  IsMarkPiece p = is_mark (piece_bytes p) ≡ true

  -- a name or a number
  abbrev pub IsWordPiece : Spelled → Type 0
  IsWordPiece p = (is_name (piece_bytes p) ≡ true) ⊎ (is_run is_ascii_digit (piece_bytes p) ≡ true)

  -- a mark stands between any two names or numbers
  abbrev pub ArePartedPieces : List Spelled → Type 0
  ArePartedPieces [] = Unit {0}
  ArePartedPieces (p ∷ []) = IsMarkPiece p ⊎ IsWordPiece p
  ArePartedPieces (p ∷ q ∷ pieces) = (IsMarkPiece p ⊎ (IsWordPiece p × IsMarkPiece q)) × ArePartedPieces (q ∷ pieces)

  -- the text of a piece is its bytes, or a comma and a blank
  pub text_is : (p : Spelled) → (piece_text symbols p ≡ piece_bytes p) ⊎ ((piece_bytes p ≡ 44 ∷ []) × (piece_text symbols p ≡ 44 ∷ 32 ∷ []))
  text_is (Text bytes) =
      elim (cases_Bool (same_name (44 ∷ []) bytes)) [
        | inl t ↦ inr (sym ((same_name-Decides (44 ∷ []) bytes).0 t), cond-true _ _ _ t)
        | inr f ↦ inl (cond-false _ _ _ f)
      ]
  text_is (Reg n) = inl refl
  text_is (Num n) = inl refl
  text_is (Place p) = inl refl

  mark_piece : (p : Spelled) (rest : List ℕ) → IsMarkPiece p → tokens_of (piece_text symbols p ++ rest) ≡ piece_token p ∷ tokens_of rest
  mark_piece p rest h =
      elim (text_is p) [
        | inl e ↦ ap (λ t. tokens_of (t ++ rest)) e ∙ mark_first (piece_bytes p) rest h
        | inr e ↦ ap (λ t. tokens_of (t ++ rest)) e.1
            ∙ (mark_first (44 ∷ []) (32 ∷ rest) refl
            ∙ (ap (λ t. token_of (44 ∷ []) ∷ t) (blank_first rest) ∙ ap (λ t. token_of t ∷ tokens_of rest) (sym e.0)))
      ]

  mark_piece_stops : (p : Spelled) (rest : List ℕ) → IsMarkPiece p → (stops is_name_byte (piece_text symbols p ++ rest) ≡ true) × (stops is_ascii_alphanumeric (piece_text symbols p ++ rest) ≡ true)
  mark_piece_stops p rest h =
      let Stops : List ℕ → Type 0 = λ t. (stops is_name_byte (t ++ rest) ≡ true) × (stops is_ascii_alphanumeric (t ++ rest) ≡ true) in
      elim (text_is p) [
        | inl e ↦ subst Stops (sym e) (mark_stops (piece_bytes p) rest h)
        | inr e ↦ subst Stops (sym e.1) (refl, refl)
      ]

  no_comma : (p : Spelled) → IsWordPiece p → piece_text symbols p ≡ piece_bytes p
  no_comma p h =
      elim (text_is p) [
        | inl e ↦ e
        | inr e ↦ elim h [
          | inl n ↦ absurd (let f : is_name (44 ∷ []) ≡ true = ap is_name (sym e.0) ∙ n in cc)
          | inr n ↦ absurd (let f : is_run is_ascii_digit (44 ∷ []) ≡ true = ap (λ t. is_run is_ascii_digit t) (sym e.0) ∙ n in cc)
        ]
      ]

  pub word_piece : (p : Spelled) (rest : List ℕ) → IsWordPiece p → stops is_name_byte rest ≡ true → stops is_ascii_alphanumeric rest ≡ true → tokens_of (piece_text symbols p ++ rest) ≡ piece_token p ∷ tokens_of rest
  word_piece p rest h a b =
      ap (λ t. tokens_of (t ++ rest)) (no_comma p h)
      ∙ elim h [ inl n ↦ name_first (piece_bytes p) rest n a | inr n ↦ digits_first (piece_bytes p) rest n b ]

  -- the text of the pieces
  abbrev pub pieces_text : List Spelled → List ℕ
  pieces_text pieces = flat_map (piece_text symbols) pieces

  last_piece : (p : Spelled) → IsMarkPiece p ⊎ IsWordPiece p → tokens_of (piece_text symbols p ++ []) ≡ piece_token p ∷ []
  last_piece p h =
      elim h [
        | inl m ↦ mark_piece p [] m ∙ ap (λ l. piece_token p ∷ l) tokens_of-none
        | inr w ↦ word_piece p [] w refl refl ∙ ap (λ l. piece_token p ∷ l) tokens_of-none
      ]

  pub pieces_tokens : (pieces : List Spelled) → ArePartedPieces pieces → tokens_of (pieces_text pieces) ≡ map piece_token pieces
  pieces_tokens [] h = tokens_of-none
  pieces_tokens (p ∷ []) h = last_piece p h
  pieces_tokens (p ∷ q ∷ pieces) h =
      let rest = pieces_text (q ∷ pieces) in
      let more = ap (λ l. piece_token p ∷ l) (pieces_tokens (q ∷ pieces) h.1) in
      elim h.0 [
        | inl m ↦ mark_piece p rest m ∙ more
        | inr w ↦ let s = mark_piece_stops q (pieces_text pieces) w.1 in word_piece p rest w.0 s.0 s.1 ∙ more
      ]

  -- the operands behind a blank
  pub operands_tokens : (pieces : List Spelled) → ArePartedPieces pieces → tokens_of (operands_text symbols pieces) ≡ map piece_token pieces
  operands_tokens [] h = tokens_of-none
  operands_tokens (p ∷ pieces) h = blank_first (pieces_text (p ∷ pieces)) ∙ pieces_tokens (p ∷ pieces) h

  pub operands_stop : (pieces : List Spelled) → (stops is_name_byte (operands_text symbols pieces) ≡ true) × (stops is_ascii_alphanumeric (operands_text symbols pieces) ≡ true)
  operands_stop [] = (refl, refl)
  operands_stop (p ∷ pieces) = (refl, refl)
