-- The edition that a first line gives, by its words.
use Rattle.std.proofs.Common.{◌≡◌, ℕ, Bool, true, false, List, [], ◌∷◌, None, refl, ap, ◌∙◌, cond}
use Rattle.std.specs.Prelude.{codes}
use Rattle.xs_instructions.specs.Image.{same_name}
use Rattle.system_model.specs.FrameLines.{edition_of_word, edition_of_header}
use Rattle.system_model.specs.Frame.{is_empty}

-- two words, of which the first is `xs1` or is not
of_two : (name edition : List ℕ) (rest : List (List ℕ)) (named : Bool) → is_empty rest ≡ true → same_name (codes "xs1") name ≡ named
    → edition_of_header (name ∷ edition ∷ rest) ≡ cond named (edition_of_word edition) None
of_two name edition [] named e h = ap (λ b. cond b (edition_of_word edition) None) h
of_two name edition (w ∷ ws) named e h = cc

pub two_words : (words others rest : List (List ℕ)) (name edition : List ℕ) (named : Bool) → words ≡ name ∷ others → others ≡ edition ∷ rest → is_empty rest ≡ true
    → same_name (codes "xs1") name ≡ named → edition_of_header words ≡ cond named (edition_of_word edition) None
two_words words others rest name edition named w o e h =
    ap (λ ws. edition_of_header ws) w ∙ (ap (λ ws. edition_of_header (name ∷ ws)) o ∙ of_two name edition rest named e h)

-- more than two
of_more : (name edition : List ℕ) (rest : List (List ℕ)) → is_empty rest ≡ false → edition_of_header (name ∷ edition ∷ rest) ≡ None
of_more name edition [] e = cc
of_more name edition (w ∷ ws) e = refl

pub more_words : (words others rest : List (List ℕ)) (name edition : List ℕ) → words ≡ name ∷ others → others ≡ edition ∷ rest → is_empty rest ≡ false → edition_of_header words ≡ None
more_words words others rest name edition w o e =
    ap (λ ws. edition_of_header ws) w ∙ (ap (λ ws. edition_of_header (name ∷ ws)) o ∙ of_more name edition rest e)
