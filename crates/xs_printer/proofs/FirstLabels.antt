-- The numbers of the first labels, a place more each time.
use Rattle.std.proofs.Common.{◌≡◌, ℕ, ◌+◌, ◌≤◌, List, [], ◌∷◌, ◌++◌, length, get_or, drop, sym, ap, ◌∙◌, subst, arith, below_more}
use Rattle.std.specs.Prelude.{Result, IfOk}
use Rattle.std.proofs.lemmas.Result.{IfOk-weaker}
use Rattle.std.proofs.lemmas.List.{length_push, get_or_push, get_or_append_left}
use Rattle.xs_instructions.specs.Code.{place_address}
use Rattle.xs_instructions.specs.Image.{Symbol}
use Rattle.source_laws.specs.LabelOrder.{past_address, symbols_from, IsNext}
use Rattle.xs_printer.specs.Firsts.{AreFirstLabels, IsFirstFrom}

pub none_yet : (symbols : List Symbol) (firsts : List ℕ) → firsts ≡ [] → AreFirstLabels symbols 0 firsts
none_yet symbols firsts e = record { count = ap length e; each = λ p h. absurd (omega (arith, h)) }

pub one_more_first : (symbols : List Symbol) (p next : ℕ) (firsts pushed : List ℕ) → pushed ≡ firsts ++ next ∷ [] → drop next symbols ≡ symbols_from (place_address p) symbols → AreFirstLabels symbols p firsts → AreFirstLabels symbols (p + 1) pushed
one_more_first symbols p next firsts pushed e here h =
    let long : length firsts ≡ p = h.count in
    record {
      count = ap length e ∙ (length_push firsts next ∙ ap (λ n. n + 1) long);
      each = below_more (λ (q : ℕ). drop (get_or pushed q 0) symbols ≡ symbols_from (place_address q) symbols) p
          (λ q below. ap (λ (l : List ℕ). drop (get_or l q 0) symbols) e ∙ (ap (λ n. drop n symbols) (get_or_append_left firsts (next ∷ []) 0 q (omega (arith, long, below))) ∙ h.each q below))
          (ap (λ (l : List ℕ). drop (get_or l p 0) symbols) e ∙ (ap (λ n. drop n symbols) (get_or_push firsts next 0 p long) ∙ here));
    }

-- past the labels of a place the symbols from the next place on are left
pub past_place : (symbols : List Symbol) (p next after : ℕ) → past_address (place_address p) (symbols_from (place_address p) symbols) ≡ symbols_from (place_address (p + 1)) symbols → drop next symbols ≡ symbols_from (place_address p) symbols → drop after symbols ≡ past_address (place_address p) (drop next symbols) → drop after symbols ≡ symbols_from (place_address (p + 1)) symbols
past_place symbols p next after later here past = past ∙ (ap (past_address (place_address p)) here ∙ later)

-- past the symbols of an address the number of the first symbol from the next address on
pub first_past : (at next k after : ℕ) (symbols : List Symbol) → past_address at (symbols_from at symbols) ≡ symbols_from next symbols → IsFirstFrom symbols at k → after ≤ length symbols → drop after symbols ≡ past_address at (drop k symbols) → IsFirstFrom symbols next after
first_past at next k after symbols later here within past = record { within = within; rest = past ∙ (ap (past_address at) here.rest ∙ later) }

-- the same of a call that gives the number
pub first_of_result : {E : Type 0} (symbols : List Symbol) (at next : ℕ) (r : Result ℕ E) → IsNext at next symbols → IfOk r (λ k. (n : ℕ) → IsNext at n symbols → IsFirstFrom symbols n k) → IfOk r (λ k. IsFirstFrom symbols next k)
first_of_result symbols at next r n h =
    IfOk-weaker r (λ k. (m : ℕ) → IsNext at m symbols → IsFirstFrom symbols m k) (λ k. IsFirstFrom symbols next k) (λ k f. f next n) h

-- the next place, by the place's address
pub next_place_at : (symbols : List Symbol) (p at : ℕ) → IsNext (place_address p) (place_address (p + 1)) symbols → at ≡ place_address p → IsNext at (at + 4) symbols
next_place_at symbols p at h e =
    let n : place_address (p + 1) ≡ at + 4 = omega (arith, e) in
    let Q : ℕ → Type 0 = λ x. IsNext x (at + 4) symbols in
    let R : ℕ → Type 0 = λ x. IsNext (place_address p) x symbols in
    subst Q (sym e) (subst R n h)

-- the same where the address is said in another way
pub next_at : (symbols : List Symbol) (at other next : ℕ) → IsNext other next symbols → at ≡ other → IsNext at next symbols
next_at symbols at other next h e = let Q : ℕ → Type 0 = λ x. IsNext x next symbols in subst Q (sym e) h
