-- One input of a node changes, and what is true of a link end by which tokens leave stays true.
use Rattle.std.proofs.Common.{◌≡◌, inl, inr, ℕ, ◌<◌, Bool, true, false, Some, List, length, get_or, slice_set, refl, ap, sym, subst, ◌∙◌, get_or-set_same, get_or-set_other}
use Rattle.std.proofs.lemmas.Bool.{both_ways, cases_eq, eq-eqb}
use Rattle.xs_base.specs.Numbers.{NodeId, EndNumber, InputNumber}
use Rattle.xs_base.specs.declared.token.Token.{Token}
use Rattle.xs_model.specs.declared.dest.Dest.{Dest}
use Rattle.xs_model.specs.Record.{InputRec, Idle, Out}
use Rattle.net_model.specs.Switch.{is_out_by}
use Rattle.packet_laws.specs.Packets.{Place, Between, place_of, place_sent}
use Rattle.packet_laws.specs.Whole.{Sends}

abbrev pub at : List InputRec → InputNumber → InputRec
at inputs i = get_or inputs i Idle

-- an input that holds a link end passes the test for it
pub is_out : (e : EndNumber) (headers : ℕ) (dest : Dest) (state : InputRec) → state ≡ Out e headers dest → is_out_by e state ≡ true
is_out e headers dest state is = ap (is_out_by e) is ∙ eq-eqb e e refl

-- the packet that is cut at a place is that of an input, where this holds a link end
abbrev pub IsCutAt : (NodeId → Bool) → Place → InputRec → Type 0
IsCutAt passes place (Out end headers dest) = (passes dest.node ≡ true) × (place ≡ place_sent headers dest)
IsCutAt passes place _ = Unit {0}

module _ (passes : NodeId → Bool) (e : EndNumber) (inputs : List InputRec) (i : InputNumber) (state : InputRec) (within : i < length inputs) where
  abbrev others : List InputRec
  others = slice_set inputs i state

  here : at others i ≡ state
  here = get_or-set_same inputs i state Idle within

  there : (j : InputNumber) → (j ≡ i → ⊥) → at others j ≡ at inputs j
  there j other = get_or-set_other inputs i j state Idle other

  -- ---- It did not hold the link end, and does not

  module _ (before : is_out_by e (at inputs i) ≡ false) (after : is_out_by e state ≡ false) where
    same_test : (j : InputNumber) → is_out_by e (at others j) ≡ is_out_by e (at inputs j)
    same_test j = elim (cases_eq j i) [
      | inl same ↦ subst (λ k. is_out_by e (at others k) ≡ is_out_by e (at inputs k)) (sym same) (ap (is_out_by e) here ∙ after ∙ sym before)
      | inr other ↦ ap (is_out_by e) (there j other)
    ]

    same_holder : (j : InputNumber) → is_out_by e (at others j) ≡ true → at others j ≡ at inputs j
    same_holder j holds = elim (cases_eq j i) [
      | inl same ↦ absurd (both_ways _ (ap (λ k. is_out_by e (at others k)) same ∙ ap (is_out_by e) here ∙ after) holds)
      | inr other ↦ there j other
    ]

    pub still_sends : (tokens : List Token) → Sends passes e inputs tokens → Sends passes e others tokens
    still_sends tokens h = record {
      place = h.place;
      packets = h.packets;
      held = λ j headers dest is. h.held j headers dest (sym (same_holder j (is_out e headers dest (at others j) is)) ∙ is);
      one = λ j k this that. h.one j k (sym (same_test j) ∙ this) (sym (same_test k) ∙ that);
      free = λ none. h.free (λ j. sym (same_test j) ∙ none j);
    }

  -- ---- No other input holds the link end

  pub alone_sends : (place : Place) (tokens : List Token) →
      ((j : InputNumber) → (j ≡ i → ⊥) → is_out_by e (at inputs j) ≡ false) →
      place_of passes tokens ≡ Some place →
      IsCutAt passes place state →
      (is_out_by e state ≡ false → place ≡ Between) →
      Sends passes e others tokens
  alone_sends place tokens alone packets cut free = record {
    place = place;
    packets = packets;
    held = λ j headers dest is.
        let its : state ≡ Out e headers dest = sym here ∙ ap (at others) (sym (holder j (is_out e headers dest (at others j) is))) ∙ is in
        subst (IsCutAt passes place) its cut;
    one = λ j k this that. holder j this ∙ sym (holder k that);
    free = λ none. free (sym (ap (is_out_by e) here) ∙ none i);
  }
    where
      holder : (j : InputNumber) → is_out_by e (at others j) ≡ true → j ≡ i
      holder j holds = elim (cases_eq j i) [
        | inl same ↦ same
        | inr other ↦ absurd (both_ways _ (ap (is_out_by e) (there j other) ∙ alone j other) holds)
      ]
