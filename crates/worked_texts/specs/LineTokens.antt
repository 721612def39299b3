-- Worked examples of lines and tokens, which the proof computes.
use Rattle.std.specs.Prelude.{◌≡◌, ℕ, List, [], ◌∷◌, codes}
use Rattle.xs_text.specs.Lines.{lines_of}
use Rattle.xs_text.specs.Tokens.{Token, tokens_of}
use Rattle.xs_text.specs.declared.token_reader.TokKind.{TokKind}
use Rattle.xs_text.specs.declared.token_reader.TokKind.TheVariants.{Name, Number, Mark, Stray}

abbrev pub a : TokKind → List ℕ → Token
a kind bytes = record { kind = kind; bytes = bytes }

pub record LineExamples : Type 0 where
  -- a, CR, LF, CR, CR, LF, b, CR: the last CR is not before a line feed
  pub returns : lines_of (97 ∷ 13 ∷ 10 ∷ 13 ∷ 13 ∷ 10 ∷ 98 ∷ 13 ∷ []) ≡ (97 ∷ []) ∷ (13 ∷ []) ∷ (98 ∷ 13 ∷ []) ∷ []
  pub empty_text : lines_of [] ≡ []
  pub lone_feed : lines_of (10 ∷ []) ≡ [] ∷ []

pub record TokenExamples : Type 0 where
  pub words : tokens_of (codes "add r0, r1 // x") ≡ a Name (codes "add") ∷ a Name (codes "r0") ∷ a Mark (codes ",") ∷ a Name (codes "r1") ∷ []
  pub malformed : tokens_of (codes "12ab") ≡ a Stray (codes "12ab") ∷ []
  pub parted : tokens_of (codes "1_0") ≡ a Number (codes "1") ∷ a Name (codes "_0") ∷ []
  pub bases : tokens_of (codes "0xFf 0b01 0x 0X1") ≡ a Number (codes "0xFf") ∷ a Number (codes "0b01") ∷ a Stray (codes "0x") ∷ a Stray (codes "0X1") ∷ []
  pub comment_in_word : tokens_of (codes "a#b") ≡ a Name (codes "a") ∷ []
  pub slash : tokens_of (codes "a/$") ≡ a Name (codes "a") ∷ a Stray (codes "/") ∷ a Stray (codes "$") ∷ []
