-- The link ends of a node within a slot, and what left by them: what it changes at one of them that a token leaves the buffer of
-- some link end, or leaves by some link end.
use Rattle.std.proofs.Common.{◌≡◌, ◌≢◌, inl, inr, ℕ, zero, suc, ◌<◌, ◌≤◌, Bool, true, false, Option, Some, None, List, [], ◌∷◌, length, get_or, slice_index, slice_set, refl, sym, subst, subst₂, ◌∙◌, length-set, get_or-set_same, get_or-set_other, arith}
use Rattle.std.proofs.lemmas.Bool.{cases_eq}
use Rattle.xs_base.specs.Numbers.{Slot, EndNumber, InputNumber}
use Rattle.xs_base.specs.declared.token.Token.{Token}
use Rattle.xs_model.specs.Record.{LinkRec}
use Rattle.net_model.specs.Switch.{Routes, buffer_of_link, link_without_first, sent_in, end_may_send}
use Rattle.link_laws.specs.LinkSlot.{LinkSlotAt}
use Rattle.link_laws.proofs.SlotAtEnd.{takes_so, sends_so, may_without}

-- the link ends when one of them is changed
abbrev pub changed : (Option LinkRec → Option LinkRec) → List (Option LinkRec) → EndNumber → List (Option LinkRec)
changed change links i = slice_set links i (change (get_or links i None))

-- where it is not there, it is not there after that
its_change : (change : Option LinkRec → Option LinkRec) (links : List (Option LinkRec)) (i : EndNumber) →
    change None ≡ None → get_or (changed change links i) i None ≡ change (get_or links i None)
its_change change [] i none = sym none
its_change change (link ∷ links) zero none = refl
its_change change (link ∷ links) (suc i) none = its_change change links i none

-- a token that leaves a buffer does not change whether a link end, which has place j here, may send
may_without_one : (routes : Routes) (slot : Slot) (end : EndNumber) (links : List (Option LinkRec)) (i j : ℕ) →
    end_may_send routes slot end (get_or (changed link_without_first links i) j None) ≡ end_may_send routes slot end (get_or links j None)
may_without_one routes slot end [] i j = refl
may_without_one routes slot end (link ∷ links) zero zero = may_without routes slot end link
may_without_one routes slot end (link ∷ links) zero (suc j) = refl
may_without_one routes slot end (link ∷ links) (suc i) zero = refl
may_without_one routes slot end (link ∷ links) (suc i) (suc j) = may_without_one routes slot end links i j

module _ (routes : Routes) (slot : Slot) where
  abbrev pub may_send_by : List (Option LinkRec) → EndNumber → Bool
  may_send_by links end = end_may_send routes slot end (get_or links end None)

  pub may_after_take : (links : List (Option LinkRec)) (i end : EndNumber) →
      may_send_by (changed link_without_first links i) end ≡ may_send_by links end
  may_after_take links i end = may_without_one routes slot end links i end

module _ (routes : Routes) (slot : Slot) (e : EndNumber) (before : Option LinkRec) where
  abbrev IsSo : Option LinkRec → Option Token → Bool → Type 0
  IsSo link token credit = LinkSlotAt (slice_index routes.gaps e) slot before link token credit

  -- link end e so far, when the inputs below number n have made their steps
  pub record SoFar (n : InputNumber) (links : List (Option LinkRec)) (tokens : List (Option Token)) (credits : List Bool) : Type 0 where
    pub has_token : e < length tokens
    pub has_credit : e < length credits
    pub untaken : n ≤ e → get_or credits e false ≡ false
    pub so_far : IsSo (get_or links e None) (get_or tokens e None) (get_or credits e false)

  pub passes : (n : InputNumber) (links : List (Option LinkRec)) (tokens : List (Option Token)) (credits : List Bool) →
      SoFar n links tokens credits → SoFar (suc n) links tokens credits
  passes n links tokens credits h = record {
    has_token = h.has_token;
    has_credit = h.has_credit;
    untaken = λ below. h.untaken (omega arith);
    so_far = h.so_far;
  }

  -- ---- A token leaves a buffer

  -- the link end's own, where none has left it so far
  takes_own : (links : List (Option LinkRec)) (tokens : List (Option Token)) (credits : List Bool) (t : Token) (rest : List Token) →
      buffer_of_link (get_or links e None) ≡ t ∷ rest →
      SoFar e links tokens credits →
      SoFar (suc e) (changed link_without_first links e) tokens (slice_set credits e true)
  takes_own links tokens credits t rest waits h =
      let gap = slice_index routes.gaps e in
      let link = get_or links e None in
      let token = get_or tokens e None in
      let kept : IsSo link token false = subst (IsSo link token) (h.untaken (omega arith)) h.so_far in
      let taken : IsSo (link_without_first link) token true = takes_so gap slot before link token t rest waits kept in
      let its_link = its_change link_without_first links e refl in
      let its_credit = get_or-set_same credits e true false h.has_credit in
      record {
        has_token = h.has_token;
        has_credit = omega (arith, length-set credits e true, h.has_credit);
        untaken = λ below. absurd (omega arith);
        so_far = subst₂ (λ link credit. IsSo link token credit) (sym its_link) (sym its_credit) taken;
      }

  -- another link end's
  takes_other : (i : InputNumber) (link : Option LinkRec) (links : List (Option LinkRec)) (tokens : List (Option Token)) (credits : List Bool) →
      e ≢ i → SoFar i links tokens credits → SoFar (suc i) (slice_set links i link) tokens (slice_set credits i true)
  takes_other i link links tokens credits other h =
      let token = get_or tokens e None in
      let same_link = get_or-set_other links i e link None other in
      let same_credit = get_or-set_other credits i e true false other in
      record {
        has_token = h.has_token;
        has_credit = omega (arith, length-set credits i true, h.has_credit);
        untaken = λ below. same_credit ∙ h.untaken (omega arith);
        so_far = subst₂ (λ link credit. IsSo link token credit) (sym same_link) (sym same_credit) h.so_far;
      }

  abbrev Takes : List (Option LinkRec) → List (Option Token) → List Bool → List Token → InputNumber → Type 0
  Takes links tokens credits waiting i =
      buffer_of_link (get_or links i None) ≡ waiting →
      SoFar i links tokens credits →
      SoFar (suc i) (changed link_without_first links i) tokens (slice_set credits i true)

  pub takes : (i : InputNumber) (links : List (Option LinkRec)) (tokens : List (Option Token)) (credits : List Bool) (t : Token) (rest : List Token) →
      Takes links tokens credits (t ∷ rest) i
  takes i links tokens credits t rest = λ waits h. elim (cases_eq e i) [
    | inl same ↦ subst (Takes links tokens credits (t ∷ rest)) same (takes_own links tokens credits t rest) waits h
    | inr other ↦ takes_other i _ links tokens credits other h
  ]

  -- ---- A token leaves by a link end

  module _ (long : 1 ≤ slice_index routes.gaps e) (n : InputNumber) where
    -- by this one
    sends_own : (links : List (Option LinkRec)) (tokens : List (Option Token)) (credits : List Bool) (t : Token) →
        may_send_by routes slot links e ≡ true →
        SoFar n links tokens credits →
        SoFar n (changed (sent_in slot) links e) (slice_set tokens e (Some t)) credits
    sends_own links tokens credits t may h =
        let link = get_or links e None in
        let token = get_or tokens e None in
        let credit = get_or credits e false in
        let sent : IsSo (sent_in slot link) (Some t) credit = sends_so routes slot e before link token credit t long may h.so_far in
        let its_link = its_change (sent_in slot) links e refl in
        let its_token = get_or-set_same tokens e (Some t) None h.has_token in
        record {
          has_token = omega (arith, length-set tokens e (Some t), h.has_token);
          has_credit = h.has_credit;
          untaken = h.untaken;
          so_far = subst₂ (λ link token. IsSo link token credit) (sym its_link) (sym its_token) sent;
        }

    -- by another
    sends_other : (end : EndNumber) (link : Option LinkRec) (links : List (Option LinkRec)) (tokens : List (Option Token)) (credits : List Bool) (t : Token) →
        e ≢ end → SoFar n links tokens credits → SoFar n (slice_set links end link) (slice_set tokens end (Some t)) credits
    sends_other end link links tokens credits t other h =
        let credit = get_or credits e false in
        let same_link = get_or-set_other links end e link None other in
        let same_token = get_or-set_other tokens end e (Some t) None other in
        record {
          has_token = omega (arith, length-set tokens end (Some t), h.has_token);
          has_credit = h.has_credit;
          untaken = h.untaken;
          so_far = subst₂ (λ link token. IsSo link token credit) (sym same_link) (sym same_token) h.so_far;
        }

    abbrev Sends : List (Option LinkRec) → List (Option Token) → List Bool → Token → EndNumber → Type 0
    Sends links tokens credits t end =
        may_send_by routes slot links end ≡ true →
        SoFar n links tokens credits →
        SoFar n (changed (sent_in slot) links end) (slice_set tokens end (Some t)) credits

    pub sends : (end : EndNumber) (links : List (Option LinkRec)) (tokens : List (Option Token)) (credits : List Bool) (t : Token) →
        Sends links tokens credits t end
    sends end links tokens credits t = λ may h. elim (cases_eq e end) [
      | inl same ↦ subst (Sends links tokens credits t) same (sends_own links tokens credits t) may h
      | inr other ↦ sends_other end _ links tokens credits t other h
    ]
