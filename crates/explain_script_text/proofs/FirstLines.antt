-- The first lines of a script, so many, one by one.
use Rattle.std.proofs.Common.{◌≡◌, ℕ, zero, suc, ◌+◌, ◌-◌, ◌≤◌, true, false, List, [], ◌∷◌, take, Option, Some, None, refl, ap, sym, ◌∙◌, arith}
use Rattle.std.specs.Prelude.{if◌then◌else◌}
use Rattle.std.proofs.lemmas.Bool.{cond-true, cond-false}
use Rattle.xs_text.specs.Lines.{lines_of}
use Rattle.explain_frame_model.specs.declared.SlotLine.{SlotLine}
use Rattle.explain_frame_model.specs.declared.SlotPin.{SlotPin}
use Rattle.explain_frame_model.specs.Script.{slot_line, last_slot, gives, first_giving, slot_pin_of}

-- no lines are left where no bytes are
pub none-left : (xs : List ℕ) → xs ≡ [] → lines_of xs ≡ []
unfolding lines_of
none-left xs e = ap lines_of e

-- ---- One line more

take-next : (count number : ℕ) (ls : List (List ℕ)) (l : List ℕ) (rest : List (List ℕ)) → ls ≡ l ∷ rest → number + 1 ≤ count → take (count - number) ls ≡ l ∷ take (count - (number + 1)) rest
take-next count number ls l rest e h =
    let one : count - number ≡ suc (count - (number + 1)) = omega arith in
    ap (λ (x : List (List ℕ)). take (count - number) x) e ∙ ap (λ n. take n (l ∷ rest)) one

take-nil : (n : ℕ) (ls : List (List ℕ)) → ls ≡ [] → take n ls ≡ []
take-nil zero ls e = refl
take-nil (suc n) ls e = ap (λ (x : List (List ℕ)). take (suc n) x) e

-- ---- The last slot

pub slot-next : (first count number : ℕ) (ls : List (List ℕ)) (l : List ℕ) (rest : List (List ℕ)) (before after : Option SlotLine) → ls ≡ l ∷ rest → number + 1 ≤ count
    → after ≡ slot_line (first + number) (slot_pin_of l) before
    → last_slot (first + (number + 1)) after (take (count - (number + 1)) rest) ≡ last_slot (first + number) before (take (count - number) ls)
unfolding last_slot
slot-next first count number ls l rest before after e h is =
    let next : first + (number + 1) ≡ first + number + 1 = omega arith in
    ap (λ n. last_slot n after (take (count - (number + 1)) rest)) next
    ∙ (ap (λ (x : Option SlotLine). last_slot (first + number + 1) x (take (count - (number + 1)) rest)) is
    ∙ sym (ap (λ (x : List (List ℕ)). last_slot (first + number) before x) (take-next count number ls l rest e h)))

pub slot-all : (n k : ℕ) (ls : List (List ℕ)) (before : Option SlotLine) → ls ≡ [] → last_slot n before (take k ls) ≡ before
unfolding last_slot
slot-all n k ls before e = ap (λ (x : List (List ℕ)). last_slot n before x) (take-nil k ls e)

-- ---- The first that gives a pin in a slot

giving-here : (given : SlotPin) (n : ℕ) (l : List ℕ) (rest : List (List ℕ)) → first_giving given n (l ∷ rest) ≡ (if gives given (slot_pin_of l) then Some n else first_giving given (n + 1) rest)
unfolding first_giving
giving-here given n l rest = refl

pub giving-found : (given : SlotPin) (first count number : ℕ) (ls : List (List ℕ)) (l : List ℕ) (rest : List (List ℕ)) → ls ≡ l ∷ rest → number + 1 ≤ count → gives given (slot_pin_of l) ≡ true
    → first_giving given (first + number) (take (count - number) ls) ≡ Some (first + number)
giving-found given first count number ls l rest e h is =
    ap (λ (x : List (List ℕ)). first_giving given (first + number) x) (take-next count number ls l rest e h)
    ∙ (giving-here given (first + number) l (take (count - (number + 1)) rest) ∙ cond-true _ _ _ is)

pub giving-next : (given : SlotPin) (first count number : ℕ) (ls : List (List ℕ)) (l : List ℕ) (rest : List (List ℕ)) → ls ≡ l ∷ rest → number + 1 ≤ count → gives given (slot_pin_of l) ≡ false
    → first_giving given (first + (number + 1)) (take (count - (number + 1)) rest) ≡ first_giving given (first + number) (take (count - number) ls)
giving-next given first count number ls l rest e h is =
    let next : first + (number + 1) ≡ first + number + 1 = omega arith in
    ap (λ n. first_giving given n (take (count - (number + 1)) rest)) next
    ∙ sym (ap (λ (x : List (List ℕ)). first_giving given (first + number) x) (take-next count number ls l rest e h)
    ∙ (giving-here given (first + number) l (take (count - (number + 1)) rest) ∙ cond-false _ _ _ is))

pub giving-all : (given : SlotPin) (n k : ℕ) (ls : List (List ℕ)) → ls ≡ [] → first_giving given n (take k ls) ≡ None
unfolding first_giving
giving-all given n k ls e = ap (λ (x : List (List ℕ)). first_giving given n x) (take-nil k ls e)
