-- The laws of lists, and the steps of a loop that reads or writes one.
use Rattle.std.proofs.Common.{◌≡◌, ℕ, zero, suc, ◌+◌, ◌-◌, ◌≤◌, ◌<◌, List, [], ◌∷◌, ◌++◌, length, Ok, Err, refl, sym, ap, subst, ◌∙◌, append_assoc, arith, inl, inr}
use Rattle.std.proofs.lemmas.List.{append-nil, length-append}
use Rattle.byte_forms.specs.Forms.{Form, AreBytes, read_chain, write_chain, HoldInChain, chain, repeat, with_length, the_list, counted}
use Rattle.byte_forms.specs.Laws.{Lawful}
use Rattle.byte_forms.specs.Reading.{Refuses}
use Rattle.byte_forms.specs.declared.fault.Fault.{Fault}
use Rattle.byte_forms.specs.declared.fault.Fault.TheVariants.{Memory, Wrong}
use Rattle.byte_forms.proofs.Steps.{ok_is, bind_ok, bind_err, bytes_after}
use Rattle.byte_forms.proofs.Parts.{both-lawful, seen-lawful}

-- what was read after `before`
record IsChain {A : Type 0} (form : List A → Form A) (n : ℕ) (before : List A) (bytes : List ℕ) (all : List A) (rest : List ℕ) : Type 0 where
  more : List A
  parts : all ≡ before ++ more
  spelled : bytes ≡ write_chain form before more ++ rest
  len : length more ≡ n
  hold : HoldInChain form before more

module _ {A : Type 0} {form : List A → Form A} (laws : (before : List A) → Lawful (form before)) where
  chain_found : (n : ℕ) (before : List A) (bytes : List ℕ) (all : List A) (rest : List ℕ) → AreBytes bytes → read_chain form n before bytes ≡ Ok (all, rest) → IsChain form n before bytes all rest
  unfolding read_chain write_chain HoldInChain
  chain_found zero before bytes all rest fit e =
      subst (λ (x : List A × List ℕ). IsChain form 0 before bytes x.0 x.1) (ok_is (before, bytes) (all, rest) e)
      (record { more = []; parts = sym (append-nil before); spelled = refl; len = refl; hold = tt })
  chain_found (suc n) before bytes all rest fit e =
      let b = bind_ok ((form before).read bytes) (λ x. read_chain form n (before ++ x.0 ∷ []) x.1) (all, rest) e in
      let t = (laws before).found bytes b.0.0 b.0.1 fit b.1 in
      let u = chain_found n (before ++ b.0.0 ∷ []) b.0.1 all rest (bytes_after bytes ((form before).write b.0.0) b.0.1 fit t.0) b.2 in
      record {
        more = b.0.0 ∷ u.more;
        parts = u.parts ∙ append_assoc before (b.0.0 ∷ []) u.more;
        spelled = t.0 ∙ ap (λ (xs : List ℕ). (form before).write b.0.0 ++ xs) u.spelled ∙ sym (append_assoc ((form before).write b.0.0) (write_chain form (before ++ b.0.0 ∷ []) u.more) rest);
        len = ap suc u.len;
        hold = (t.1, u.hold);
      }

  chain_again : (more before : List A) (rest : List ℕ) → HoldInChain form before more → read_chain form (length more) before (write_chain form before more ++ rest) ≡ Ok (before ++ more, rest)
  unfolding read_chain write_chain HoldInChain
  chain_again [] before rest h = ap (λ (xs : List A). Ok (xs, rest)) (sym (append-nil before))
  chain_again (x ∷ more) before rest h =
      let others = write_chain form (before ++ x ∷ []) more in
      let e = (laws before).again x (others ++ rest) h.0 in
      let k = chain_again more (before ++ x ∷ []) rest h.1 in
      rw (append_assoc ((form before).write x) others rest, e, k, append_assoc before (x ∷ []) more) refl

  chain_within : (n : ℕ) (before : List A) (bytes : List ℕ) (left : ℕ) → AreBytes bytes → read_chain form n before bytes ≡ Err left → left ≤ length bytes
  unfolding read_chain
  chain_within zero before bytes left fit e = absurd cc
  chain_within (suc n) before bytes left fit e =
      elim (bind_err ((form before).read bytes) (λ x. read_chain form n (before ++ x.0 ∷ []) x.1) left e) [
        | inl h ↦ (laws before).within bytes left fit h
        | inr h ↦
            let t = (laws before).found bytes h.0.0 h.0.1 fit h.1 in
            let l = chain_within n (before ++ h.0.0 ∷ []) h.0.1 left (bytes_after bytes ((form before).write h.0.0) h.0.1 fit t.0) h.2 in
            omega (arith, ap length t.0, length-append ((form before).write h.0.0) h.0.1)
      ]

  pub chain-lawful : (n : ℕ) → Lawful (chain n form)
  chain-lawful n = record {
    found = λ bytes xs rest fit e.
        let t = chain_found n [] bytes xs rest fit e in
        let same : t.more ≡ xs = sym t.parts in
        subst (λ (ys : List A). (bytes ≡ write_chain form [] ys ++ rest) × ((length ys ≡ n) × HoldInChain form [] ys)) same (t.spelled, (t.len, t.hold));
    again = λ xs rest h. subst (λ (k : ℕ). read_chain form k [] (write_chain form [] xs ++ rest) ≡ Ok (xs, rest)) h.0 (chain_again xs [] rest h.1);
    within = λ bytes left fit e. chain_within n [] bytes left fit e;
  }

pub repeat-lawful : {A : Type 0} {f : Form A} (n : ℕ) → Lawful f → Lawful (repeat n f)
repeat-lawful n law = chain-lawful (λ before. law) n

-- the form of so many elements has lists of so many
pub counted-lawful : {A : Type 0} {count : Form ℕ} {form : ℕ → Form (List A)} → Lawful count → ((n : ℕ) → Lawful (form n)) → ((n : ℕ) (xs : List A) → (form n).Holds xs → length xs ≡ n)
    → Lawful (counted count form)
counted-lawful law laws len = seen-lawful the_list with_length (both-lawful law laws) (λ p h. ap (λ (n : ℕ). (n, p.1)) (len p.0 p.1 h.1)) (λ xs. refl)

-- ---- a loop that reads a list: what is still read of it from here gives what all of it gives

module _ {A : Type 0} (form : List A → Form A) (count i : ℕ) (before : List A) (bytes all : List ℕ) (so_far : read_chain form (count - i) before bytes ≡ read_chain form count [] all) where
  pub reads_on : (x : A) (after : List ℕ) → i < count → (form before).read bytes ≡ Ok (x, after) → read_chain form (count - (i + 1)) (before ++ x ∷ []) after ≡ read_chain form count [] all
  unfolding read_chain
  reads_on x after lt e =
      let k : count - i ≡ suc (count - (i + 1)) = omega arith in
      let one : read_chain form (count - i) before bytes ≡ read_chain form (count - (i + 1)) (before ++ x ∷ []) after = rw (k, e) refl in
      sym one ∙ so_far

  pub refuses_all : (fault : Fault) → i < count → Refuses (form before) bytes fault → Refuses (chain count form) all fault
  unfolding read_chain
  refuses_all Memory lt e = tt
  refuses_all (Wrong left) lt e =
      let k : count - i ≡ suc (count - (i + 1)) = omega arith in
      let one : read_chain form (count - i) before bytes ≡ Err left = rw (k, e) refl in
      sym so_far ∙ one

  pub reads_all : count ≤ i → read_chain form count [] all ≡ Ok (before, bytes)
  unfolding read_chain
  reads_all le =
      let k : count - i ≡ 0 = omega arith in
      let one : read_chain form (count - i) before bytes ≡ Ok (before, bytes) = rw k refl in
      sym so_far ∙ one

-- ---- a loop that writes a list: what was written and what is still to be written is all of it

pub writes_on : {A : Type 0} (form : List A → Form A) (out : List ℕ) (before : List A) (x : A) (more : List A) (total : List ℕ) → out ++ write_chain form before (x ∷ more) ≡ total
    → (out ++ (form before).write x) ++ write_chain form (before ++ x ∷ []) more ≡ total
unfolding write_chain
writes_on form out before x more total so_far = append_assoc out ((form before).write x) (write_chain form (before ++ x ∷ []) more) ∙ so_far

pub writes_all : {A : Type 0} (form : List A → Form A) (out : List ℕ) (before : List A) (total : List ℕ) → out ++ write_chain form before [] ≡ total → out ≡ total
unfolding write_chain
writes_all form out before total so_far = sym (append-nil out) ∙ so_far
