-- The least line with a fault decides.
use Rattle.std.proofs.Common.{◌≡◌, ℕ, zero, suc, ◌+◌, Bool, true, false, List, [], ◌∷◌, Option, Some, None, get_or, refl, sym, ap, ◌∙◌, inl, inr}
use Rattle.std.specs.Prelude.{find, ◌⊎◌}
use Rattle.std.proofs.lemmas.Bool.{cases_Bool, cond-true, cond-false}
use Rattle.xs_text.specs.Bytes.{all_allowed}
use Rattle.source_model.proofs.LeastLine.{none_of_each, first_in, fault_in, Tells, first_is_least, least_is_first, none_has_none, no_fault_none}
use Rattle.system_model.specs.declared.SysKind.{SysKind}
use Rattle.system_model.specs.declared.SysKind.TheVariants.{FirstLine, BadLine, GivenTwice, IdTwice, LinkEndTwice, LinkToItself, NumberOutOfRange, NodeWithoutSource, SectionNotEnded, TooLong, BitTwice, NoSuchNode, TooMany, WireWithinNode, WidthsDiffer, PinWiredTwice, TooManyWires}
use Rattle.system_model.specs.Frame.{Given, Framed, Refused, Whole, nothing_given, given_after, says, has_frame_kind, frame_order, fault_of, unless_faulty, at_the_end, frame_from, framed, have_no_words}
use Rattle.system_model.specs.FirstFault.{has_frame_fault_after, has_frame_fault, IsFirstFrameFault, HasNoFrameFault, given_after_lines, decided_at_the_end}

-- of no kind in the order, so of none, where the other kinds are none
none_at : (p : SysKind → Bool) → p NodeWithoutSource ≡ false → p SectionNotEnded ≡ false → p TooLong ≡ false → find p frame_order ≡ None → (k : SysKind) → p k ≡ false
none_at p no_source no_end too_long e k =
    let all = none_of_each p frame_order e in
    elim k as (λ k. p k ≡ false) [
      | FirstLine ↦ all.0
      | BadLine ↦ all.1.0
      | GivenTwice ↦ all.1.1.1.1.0
      | IdTwice ↦ all.1.1.1.1.1.0
      | LinkEndTwice ↦ all.1.1.1.1.1.1.1.0
      | LinkToItself ↦ all.1.1.1.1.1.1.0
      | NumberOutOfRange ↦ all.1.1.0
      | NodeWithoutSource ↦ no_source
      | SectionNotEnded ↦ no_end
      | TooLong ↦ too_long
      | BitTwice ↦ all.1.1.1.1.1.1.1.1.0
      | NoSuchNode ↦ all.1.1.1.0
      | TooMany ↦ all.1.1.1.1.1.1.1.1.1.1.1.1.1.0
      | WireWithinNode ↦ all.1.1.1.1.1.1.1.1.1.0
      | WidthsDiffer ↦ all.1.1.1.1.1.1.1.1.1.1.0
      | PinWiredTwice ↦ all.1.1.1.1.1.1.1.1.1.1.1.0
      | TooManyWires ↦ all.1.1.1.1.1.1.1.1.1.1.1.1.0
    ]

-- the kinds that no line has a fault of
abbrev IsOfNoLine : SysKind → Type 0
IsOfNoLine kind = (given : Given) (l : List ℕ) → has_frame_kind kind given (all_allowed l) (says given l) ≡ false

of_no_line : (kind : SysKind) → IsOfNoLine kind → (n : ℕ) (given : Given) (i : ℕ) (ls : List (List ℕ)) → has_frame_fault_after kind n given i ls ≡ false
unfolding has_frame_fault_after
of_no_line kind none n given i [] = refl
of_no_line kind none n given zero (l ∷ ls) = none given l
of_no_line kind none n given (suc i) (l ∷ ls) = of_no_line kind none (n + 1) (given_after n l given) i ls

not_in : (ls : List (List ℕ)) (kind : SysKind) → IsOfNoLine kind → (number : ℕ) → has_frame_fault ls kind number ≡ false
not_in ls kind none zero = refl
not_in ls kind none (suc i) = of_no_line kind none 1 nothing_given i ls

-- what each line has
unfoldable faults_of : ℕ → Given → List (List ℕ) → List (Option SysKind)
faults_of n given [] = []
faults_of n given (l ∷ ls) = fault_of given l ∷ faults_of (n + 1) (given_after n l given) ls

first_kind : (n : ℕ) (given : Given) (i : ℕ) (ls : List (List ℕ)) → find (λ k. has_frame_fault_after k n given i ls) frame_order ≡ get_or (faults_of n given ls) i None
unfolding has_frame_fault_after faults_of
first_kind n given i [] = refl
first_kind n given zero (l ∷ ls) = refl
first_kind n given (suc i) (l ∷ ls) = first_kind (n + 1) (given_after n l given) i ls

first_kind_in : (ls : List (List ℕ)) (number : ℕ) → find (λ k. has_frame_fault ls k number) frame_order ≡ fault_in number (faults_of 1 nothing_given ls)
first_kind_in ls zero = refl
first_kind_in ls (suc i) = first_kind 1 nothing_given i ls

tells : (ls : List (List ℕ)) → Tells (has_frame_fault ls) frame_order (faults_of 1 nothing_given ls)
tells ls = record {
  first = first_kind_in ls;
  complete = λ n e. none_at (λ k. has_frame_fault ls k n) (not_in ls NodeWithoutSource (λ given l. refl) n) (not_in ls SectionNotEnded (λ given l. refl) n) (not_in ls TooLong (λ given l. refl) n) e;
}

-- the first fault refuses, and the end decides where there is none
abbrev refused_by : Option (ℕ × SysKind) → Framed → Framed
refused_by None end = end
refused_by (Some fault) end = Refused fault.0 fault.1

refused_step : (n : ℕ) (later end : Framed) (faults : List (Option SysKind)) (fault : Option SysKind) → later ≡ refused_by (first_in (n + 1) faults) end → unless_faulty fault n later ≡ refused_by (first_in n (fault ∷ faults)) end
refused_step n later end faults (Some kind) e = refl
refused_step n later end faults None e = e

frame_is : (ls : List (List ℕ)) (n : ℕ) (given : Given) → frame_from n given ls ≡ refused_by (first_in n (faults_of n given ls)) (at_the_end (given_after_lines n given ls) (given_after_lines n given ls).reading)
unfolding frame_from faults_of given_after_lines
frame_is [] n given = refl
frame_is (l ∷ ls) n given =
    let next = given_after n l given in
    refused_step n (frame_from (n + 1) next ls) (at_the_end (given_after_lines (n + 1) next ls) (given_after_lines (n + 1) next ls).reading) (faults_of (n + 1) next ls) (fault_of given l) (frame_is ls (n + 1) next)

abbrev first_of : List (List ℕ) → Option (ℕ × SysKind)
first_of ls = first_in 1 (faults_of 1 nothing_given ls)

framed_is : (ls : List (List ℕ)) → have_no_words ls ≡ false → framed ls ≡ refused_by (first_of ls) (decided_at_the_end ls)
unfolding framed
framed_is ls e = cond-false _ _ _ e ∙ frame_is ls 1 nothing_given

pub no_words_refuse : (ls : List (List ℕ)) → have_no_words ls ≡ true → framed ls ≡ Refused 1 FirstLine
unfolding framed
no_words_refuse ls e = cond-true _ _ _ e

pub first_fault_refuses : (ls : List (List ℕ)) (line : ℕ) (kind : SysKind) → have_no_words ls ≡ false → IsFirstFrameFault ls line kind → framed ls ≡ Refused line kind
first_fault_refuses ls line kind e first =
    framed_is ls e ∙ ap (λ o. refused_by o (decided_at_the_end ls)) (least_is_first _ _ _ (tells ls) line kind first)

pub no_fault_ends : (ls : List (List ℕ)) → have_no_words ls ≡ false → HasNoFrameFault ls → framed ls ≡ decided_at_the_end ls
no_fault_ends ls e none = framed_is ls e ∙ ap (λ o. refused_by o (decided_at_the_end ls)) (no_fault_none _ _ _ (tells ls) none)

-- what refuses is a fault, or the end
refused_parts : (o : Option (ℕ × SysKind)) (end : Framed) (line : ℕ) (kind : SysKind) → refused_by o end ≡ Refused line kind → (o ≡ Some (line, kind)) ⊎ ((o ≡ None) × (end ≡ Refused line kind))
refused_parts None end line kind e = inr (refl, e)
refused_parts (Some fault) end line kind e =
    let a : fault.0 ≡ line = cc in
    let b : fault.1 ≡ kind = cc in
    inl (ap (λ n. Some (n, fault.1)) a ∙ ap (λ k. Some (line, k)) b)

pub refused_at : (ls : List (List ℕ)) (line : ℕ) (kind : SysKind) → have_no_words ls ≡ false → framed ls ≡ Refused line kind → IsFirstFrameFault ls line kind ⊎ (HasNoFrameFault ls × (decided_at_the_end ls ≡ Refused line kind))
refused_at ls line kind e h =
    elim (refused_parts (first_of ls) (decided_at_the_end ls) line kind (sym (framed_is ls e) ∙ h)) [
      | inl is ↦ inl (first_is_least _ _ _ (tells ls) line kind is)
      | inr at ↦ inr (none_has_none _ _ _ (tells ls) at.0, at.1)
    ]

taken_parts : (o : Option (ℕ × SysKind)) (end : Framed) (given : Given) → refused_by o end ≡ Whole given → (o ≡ None) × (end ≡ Whole given)
taken_parts None end given e = (refl, e)
taken_parts (Some fault) end given e = cc

has_words : (ls : List (List ℕ)) (given : Given) → framed ls ≡ Whole given → have_no_words ls ≡ false
has_words ls given h =
    elim (cases_Bool (have_no_words ls)) [
      | inl e ↦ let no : Refused 1 FirstLine ≡ Whole given = sym (no_words_refuse ls e) ∙ h in cc
      | inr e ↦ e
    ]

pub taken_at : (ls : List (List ℕ)) (given : Given) → framed ls ≡ Whole given → HasNoFrameFault ls × (decided_at_the_end ls ≡ Whole given)
taken_at ls given h =
    let at = taken_parts (first_of ls) (decided_at_the_end ls) given (sym (framed_is ls (has_words ls given h)) ∙ h) in
    (none_has_none _ _ _ (tells ls) at.0, at.1)
