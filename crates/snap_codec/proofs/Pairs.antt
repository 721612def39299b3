-- Directed links by number, and as pairs.
use Rattle.std.proofs.Common.{◌≡◌, ◌*◌, List, [], ◌∷◌, ◌++◌, length, refl, sym, ap, ◌∙◌, arith}
use Rattle.snap_parts.specs.Parts.{LogRec}
use Rattle.snap_codec.specs.Body.{by_number, in_pairs}

pub pairs_again : (ps : List (LogRec × LogRec)) → in_pairs (by_number ps) ≡ ps
pairs_again [] = refl
pairs_again (p ∷ ps) = ap (λ (rest : List (LogRec × LogRec)). p ∷ rest) (pairs_again ps)

pub by_number_length : (ps : List (LogRec × LogRec)) → length (by_number ps) ≡ 2 * length ps
by_number_length [] = refl
by_number_length (p ∷ ps) = omega (arith, by_number_length ps)

pub by_number_append : (ps qs : List (LogRec × LogRec)) → by_number (ps ++ qs) ≡ by_number ps ++ by_number qs
by_number_append [] qs = refl
by_number_append (p ∷ ps) qs = ap (λ (rest : List LogRec). p.0 ∷ (p.1 ∷ rest)) (by_number_append ps qs)

-- two more after pairs
pub pairs_push : (ls : List LogRec) (a b : LogRec) → by_number (in_pairs ls) ≡ ls → in_pairs (ls ++ (a ∷ (b ∷ []))) ≡ in_pairs ls ++ ((a, b) ∷ [])
pairs_push [] a b e = refl
pairs_push (x ∷ []) a b e = absurd cc
pairs_push (x ∷ (y ∷ rest)) a b e =
    let more : by_number (in_pairs rest) ≡ rest = cc in
    ap (λ (ps : List (LogRec × LogRec)). (x, y) ∷ ps) (pairs_push rest a b more)

-- the same where all of them are pairs: they still are
pub pushed_pairs : (ls new : List LogRec) (a b : LogRec) → by_number (in_pairs ls) ≡ ls → new ≡ ls ++ (a ∷ (b ∷ [])) → in_pairs new ≡ in_pairs ls ++ ((a, b) ∷ [])
pushed_pairs ls new a b even e = ap in_pairs e ∙ pairs_push ls a b even

pub pushed_even : (ls new : List LogRec) (a b : LogRec) → by_number (in_pairs ls) ≡ ls → new ≡ ls ++ (a ∷ (b ∷ [])) → by_number (in_pairs new) ≡ new
pushed_even ls new a b even e =
    ap by_number (pushed_pairs ls new a b even e) ∙ by_number_append (in_pairs ls) ((a, b) ∷ []) ∙ ap (λ (xs : List LogRec). xs ++ (a ∷ (b ∷ []))) even ∙ sym e
