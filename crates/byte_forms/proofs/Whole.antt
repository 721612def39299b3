-- The bytes of a form as a whole.
use Rattle.std.proofs.Common.{◌≡◌, ℕ, ◌≤◌, cond, eqb, List, [], ◌++◌, length, Ok, Err, refl, ap, subst, ◌∙◌, arith, inl, inr}
use Rattle.std.proofs.lemmas.Bool.{eqb-true}
use Rattle.std.proofs.lemmas.List.{append-nil, length-append, nil_from_length}
use Rattle.byte_forms.specs.Forms.{Form, AreBytes, read_whole}
use Rattle.byte_forms.specs.Laws.{Lawful}
use Rattle.byte_forms.proofs.Steps.{bind_ok, bind_err, fact_ok, fact_err}

module _ {A : Type 0} {f : Form A} (law : Lawful f) where
  -- what is read of all the bytes has the form, and they are its bytes
  pub whole_found : (bytes : List ℕ) (a : A) → AreBytes bytes → read_whole f bytes ≡ Ok a → (bytes ≡ f.write a) × f.Holds a
  whole_found bytes a fit e =
      let b = bind_ok (f.read bytes) (λ x. cond (eqb (length x.1) 0) (Ok x.0) (Err (length x.1))) a e in
      let g = fact_ok (eqb (length b.0.1) 0) (length b.0.1) b.0.0 a b.2 in
      let nothing : b.0.1 ≡ [] = nil_from_length b.0.1 (eqb-true _ _ g.0) in
      let t = law.found bytes b.0.0 b.0.1 fit b.1 in
      let all : bytes ≡ f.write b.0.0 = t.0 ∙ ap (λ (rest : List ℕ). f.write b.0.0 ++ rest) nothing ∙ append-nil (f.write b.0.0) in
      subst (λ (x : A). (bytes ≡ f.write x) × f.Holds x) g.1 (all, t.1)

  -- the bytes of what has the form are read as it
  pub whole_again : (a : A) → f.Holds a → read_whole f (f.write a) ≡ Ok a
  whole_again a h =
      let e : f.read (f.write a) ≡ Ok (a, []) = subst (λ (bytes : List ℕ). f.read bytes ≡ Ok (a, [])) (append-nil (f.write a)) (law.again a [] h) in
      rw e refl

  -- what is wrong stands in the bytes
  pub whole_within : (bytes : List ℕ) (left : ℕ) → AreBytes bytes → read_whole f bytes ≡ Err left → left ≤ length bytes
  whole_within bytes left fit e =
      elim (bind_err (f.read bytes) (λ x. cond (eqb (length x.1) 0) (Ok x.0) (Err (length x.1))) left e) [
        | inl h ↦ law.within bytes left fit h
        | inr h ↦
            let t = law.found bytes h.0.0 h.0.1 fit h.1 in
            let k = fact_err (eqb (length h.0.1) 0) (length h.0.1) left h.0.0 h.2 in
            omega (arith, ap length t.0, length-append (f.write h.0.0) h.0.1)
      ]
