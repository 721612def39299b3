-- Texts that are written and inputs that are read in pieces.
use Rattle.std.proofs.Common.{◌≡◌, ℕ, ◌+◌, ◌≤◌, min, List, [], ◌++◌, length, take, drop, ◌↔◌, Option, Some, None, IfSome, Result, Ok, Err, OnErr, sym, ap, ◌∙◌, append_assoc, subst, arith, inl, inr}
use Rattle.std.proofs.lemmas.Bool.{cases_lt}
use Rattle.std.proofs.lemmas.List.{take_all, take_at, append-nil, take-append-drop}
use Rattle.std.proofs.KnownBytes.{Appends-trans, Consumes-trans}
use Rattle.std.proofs.Math.Seq.{take-add}
use Rattle.std.specs.Io.KnownBytes.{Appends, Consumes}
use Rattle.xs_edge.specs.Edge.{AppendsPart}

-- the first done bytes of the text, and then n more
pub Appends-more : (a b c : Option (List ℕ)) (text : List ℕ) (done n : ℕ) → Appends a b (take done text) → Appends b c (take n (drop done text)) → Appends a c (take (done + n) text)
Appends-more a b c text done n p q =
    subst (Appends a c) (sym (take-add done n text)) (Appends-trans a b c (take done text) (take n (drop done text)) p q)

-- the first done bytes of the text, and then a front of the rest
pub AppendsPart-more : (a b c : Option (List ℕ)) (text : List ℕ) (done : ℕ) → Appends a b (take done text) → AppendsPart b c (drop done text) → AppendsPart a c text
AppendsPart-more a b c text done p (front, back, split, q) =
    let whole : text ≡ take done text ++ (front ++ back) =
    sym (take-append-drop done text) ∙ ap (λ rest. take done text ++ rest) split in
    (take done text ++ front, back, whole ∙ sym (append_assoc (take done text) front back), Appends-trans a b c (take done text) front p q)

-- what holds holds on an error too
pub OnErr-held : {T E P : Type 0} (r : Result T E) → P → OnErr r P
OnErr-held (Ok x) h = tt
OnErr-held (Err e) h = h

-- what was taken so far, with one more piece at its end
pub Consumes-longer : (a b c : Option (List ℕ)) (x y xy : List ℕ) → Consumes a b x → Consumes b c y → xy ≡ x ++ y → Consumes a c xy
Consumes-longer a b c x y xy p q e = subst (Consumes a c) (sym e) (Consumes-trans a b c x y p q)

-- so many bytes were taken
pub taken_full : (most : ℕ) (old new : Option (List ℕ)) (piece : List ℕ) → Consumes old new piece → length piece ≡ most → IfSome old (λ bytes. piece ≡ take most bytes)
taken_full most (Some old) (Some new) piece p e = sym (ap (take most) p ∙ take_at piece new most e)
taken_full most (Some old) None piece p e = absurd p
taken_full most None new piece p e = tt

-- at most so many were taken, and nothing is left
pub taken_whole : (most : ℕ) (old new : Option (List ℕ)) (piece : List ℕ) → Consumes old new piece → IfSome new (λ bytes. bytes ≡ []) → length piece ≤ most → IfSome old (λ bytes. piece ≡ take most bytes)
taken_whole most (Some old) (Some new) piece p e h =
    let whole : old ≡ piece = p ∙ (ap (λ t. piece ++ t) e ∙ append-nil piece) in
    sym (ap (take most) whole ∙ take_all most piece h)
taken_whole most (Some old) None piece p e h = absurd p
taken_whole most None new piece p e h = tt

-- a read that took nothing shows the end
pub left_none : (left : Option (List ℕ)) (n : ℕ) → n ≡ 0 → IfSome left (λ bytes. (n ≡ 0) ↔ (bytes ≡ [])) → IfSome left (λ bytes. bytes ≡ [])
left_none None n e h = tt
left_none (Some bytes) n e h = h.0 e

-- as many as there are, or at most so many
pub take_min : (most : ℕ) (bytes : List ℕ) → take (min (length bytes) most) bytes ≡ take most bytes
take_min most bytes =
    elim (cases_lt (length bytes) most) [
      | inl h ↦ take_all (min (length bytes) most) bytes (omega arith) ∙ sym (take_all most bytes (omega arith))
      | inr h ↦ let e : min (length bytes) most ≡ most = omega arith in ap (λ n. take n bytes) e
    ]
