-- The inputs of the switch, where one of them changes.
use Rattle.std.proofs.Common.{◌≡◌, ℕ, zero, suc, Bool, true, false, List, [], ◌∷◌, get_or, slice_set, replicate, refl, sym, ap, subst, ◌∙◌}
use Rattle.std.proofs.lemmas.Bool.{false≢true, or_parts, or_right, or_left, eqb-true}
use Rattle.std.specs.List.{list_any}
use Rattle.xs_base.specs.Numbers.{ChanNumber, EndNumber, InputNumber}
use Rattle.xs_model.specs.Record.{InputRec, Idle, Local}
use Rattle.net_model.specs.Switch.{is_local_to, is_out_by}
use Rattle.state_laws.specs.Facts.{InputFits, InputsFit}

abbrev pub at : List InputRec → InputNumber → InputRec
at inputs i = get_or inputs i Idle

-- a place of a list in which one was set
pub data SetAt (inputs : List InputRec) (i : InputNumber) (state : InputRec) (j : InputNumber) : Type 0 where
  is_old : at (slice_set inputs i state) j ≡ at inputs j → SetAt inputs i state j
  is_new : j ≡ i → at (slice_set inputs i state) j ≡ state → SetAt inputs i state j

next_place : (first : InputRec) (inputs : List InputRec) (i : InputNumber) (state : InputRec) (j : InputNumber) → SetAt inputs i state j → SetAt (first ∷ inputs) (suc i) state (suc j)
next_place first inputs i state j (is_old same) = is_old same
next_place first inputs i state j (is_new here is) = is_new (ap suc here) is

pub set_place : (inputs : List InputRec) (i : InputNumber) (state : InputRec) (j : InputNumber) → SetAt inputs i state j
set_place [] i state j = is_old refl
set_place (first ∷ inputs) zero state zero = is_new refl refl
set_place (first ∷ inputs) zero state (suc j) = is_old refl
set_place (first ∷ inputs) (suc i) state zero = is_old refl
set_place (first ∷ inputs) (suc i) state (suc j) = next_place first inputs i state j (set_place inputs i state j)

-- no other input than this one holds what it holds in a state
pub record NoOther (i : InputNumber) (state : InputRec) (inputs : List InputRec) : Type 0 where
  pub chan : (c : ChanNumber) (j : InputNumber) → is_local_to c state ≡ true → is_local_to c (at inputs j) ≡ true → j ≡ i
  pub end : (e : EndNumber) (j : InputNumber) → is_out_by e state ≡ true → is_out_by e (at inputs j) ≡ true → j ≡ i

module _ (i : InputNumber) (state : InputRec) (inputs : List InputRec) where
  -- what of it is said by a test of inputs
  module _ (test : InputRec → Bool) (none : (j : InputNumber) → test state ≡ true → test (at inputs j) ≡ true → j ≡ i) where
    old_one : (other : InputRec) → ((j : InputNumber) → test other ≡ true → test (at inputs j) ≡ true → j ≡ i) → (j : InputNumber) → test other ≡ true → test (at (slice_set inputs i state) j) ≡ true → j ≡ i
    old_one other others j mine its = by (set_place inputs i state j)
      where
        by : SetAt inputs i state j → j ≡ i
        by (is_old same) = others j mine (sym (ap test same) ∙ its)
        by (is_new here is) = here

    is_one : ((j l : InputNumber) → test (at inputs j) ≡ true → test (at inputs l) ≡ true → j ≡ l) → (j l : InputNumber) → test (at (slice_set inputs i state) j) ≡ true → test (at (slice_set inputs i state) l) ≡ true → j ≡ l
    is_one one j l mine its = by (set_place inputs i state j) (set_place inputs i state l)
      where
        by : SetAt inputs i state j → SetAt inputs i state l → j ≡ l
        by (is_old same) (is_old too) = one j l (sym (ap test same) ∙ mine) (sym (ap test too) ∙ its)
        by (is_old same) (is_new here is) = none j (sym (ap test is) ∙ its) (sym (ap test same) ∙ mine) ∙ sym here
        by (is_new here is) (is_old too) = here ∙ sym (none l (sym (ap test is) ∙ mine) (sym (ap test too) ∙ its))
        by (is_new here is) (is_new too its_is) = here ∙ sym too

  pub still_no_other : (other : InputRec) → NoOther i state inputs → NoOther i other inputs → NoOther i other (slice_set inputs i state)
  still_no_other other none others = record {
    chan = λ c. old_one (is_local_to c) (none.chan c) other (others.chan c);
    end = λ e. old_one (is_out_by e) (none.end e) other (others.end e);
  }

  pub set_fits : (used : ChanNumber → Bool) (there : EndNumber → Bool) → InputFits used there i state → NoOther i state inputs → InputsFit used there inputs → InputsFit used there (slice_set inputs i state)
  set_fits used there new none all = record {
    each = λ j. by j (set_place inputs i state j);
    chans = λ c. is_one (is_local_to c) (none.chan c) (all.chans c);
    ends = λ e. is_one (is_out_by e) (none.end e) (all.ends e);
  }
    where
      by : (j : InputNumber) → SetAt inputs i state j → InputFits used there j (at (slice_set inputs i state) j)
      by j (is_old same) = subst (InputFits used there j) (sym same) (all.each j)
      by j (is_new here is) = subst (InputFits used there j) (sym is) (subst (λ n. InputFits used there n state) (sym here) new)

-- an input that holds nothing
pub holds_nothing : (i : InputNumber) (state : InputRec) (inputs : List InputRec) → ((c : ChanNumber) → is_local_to c state ≡ false) → ((e : EndNumber) → is_out_by e state ≡ false) → NoOther i state inputs
holds_nothing i state inputs chans ends = record {
  chan = λ c j mine its. absurd (false≢true (sym (chans c) ∙ mine));
  end = λ e j mine its. absurd (false≢true (sym (ends e) ∙ mine));
}

-- what passes a test that no input passes, and that the rest of a list would not pass
none_passes : (test : InputRec → Bool) (inputs : List InputRec) (j : InputNumber) → test Idle ≡ false → list_any test inputs ≡ false → test (at inputs j) ≡ true → ⊥
none_passes test [] j rest none its = false≢true (sym rest ∙ its)
none_passes test (first ∷ inputs) zero rest none its = false≢true (sym (or_parts (test first) (list_any test inputs) none).0 ∙ its)
none_passes test (first ∷ inputs) (suc j) rest none its = none_passes test inputs j rest (or_parts (test first) (list_any test inputs) none).1 its

pub some_passes : (test : InputRec → Bool) (inputs : List InputRec) (j : InputNumber) → test Idle ≡ false → test (at inputs j) ≡ true → list_any test inputs ≡ true
some_passes test [] j rest its = absurd (false≢true (sym rest ∙ its))
some_passes test (first ∷ inputs) zero rest its = or_left (test first) (list_any test inputs) its
some_passes test (first ∷ inputs) (suc j) rest its = or_right (test first) (list_any test inputs) (some_passes test inputs j rest its)

pub chan_not_held : (i : InputNumber) (c : ChanNumber) (inputs : List InputRec) → list_any (is_local_to c) inputs ≡ false → NoOther i (Local c) inputs
chan_not_held i c inputs none = record {
  chan = λ d j mine its.
      let same : c ≡ d = eqb-true c d mine in
      absurd (none_passes (is_local_to c) inputs j refl none (subst (λ n. is_local_to n (at inputs j) ≡ true) (sym same) its));
  end = λ e j mine its. absurd (false≢true mine);
}

pub end_not_held : (i : InputNumber) (e headers : ℕ) (inputs : List InputRec) (state : InputRec) → ((d : ℕ) → is_local_to d state ≡ false) → ((d : ℕ) → is_out_by d state ≡ true → e ≡ d) → list_any (is_out_by e) inputs ≡ false → NoOther i state inputs
end_not_held i e headers inputs state chans same none = record {
  chan = λ c j mine its. absurd (false≢true (sym (chans c) ∙ mine));
  end = λ d j mine its. absurd (none_passes (is_out_by e) inputs j refl none (subst (λ n. is_out_by n (at inputs j) ≡ true) (sym (same d mine)) its));
}

-- an input as it is has none other
pub as_it_is : (used : ChanNumber → Bool) (there : EndNumber → Bool) (inputs : List InputRec) (i : InputNumber) → InputsFit used there inputs → NoOther i (at inputs i) inputs
as_it_is used there inputs i all = record {
  chan = λ c j mine its. all.chans c j i its mine;
  end = λ e j mine its. all.ends e j i its mine;
}

idle_at : (n i : ℕ) → at (replicate n Idle) i ≡ Idle
idle_at zero i = refl
idle_at (suc n) zero = refl
idle_at (suc n) (suc i) = idle_at n i

pub first_inputs : (used : ChanNumber → Bool) (there : EndNumber → Bool) (n : ℕ) → InputsFit used there (replicate n Idle)
first_inputs used there n = record {
  each = λ i. subst (InputFits used there i) (sym (idle_at n i)) tt;
  chans = λ c i j mine its. absurd (false≢true (sym (ap (is_local_to c) (idle_at n i)) ∙ mine));
  ends = λ e i j mine its. absurd (false≢true (sym (ap (is_out_by e) (idle_at n i)) ∙ mine));
}
