-- What the parts of an input's step do to the buffers of a node, and to what has left by its link ends.
use Rattle.std.proofs.Common.{◌≡◌, ◌≢◌, ◌⊎◌, inl, inr, ℕ, zero, suc, ◌<◌, ◌≤◌, ◌==◌, Bool, true, false, is_some, if◌then◌else◌, Option, Some, None, List, [], ◌∷◌, ◌++◌}
use Rattle.std.proofs.Common.{length, get_or, slice_index, slice_set, drop, refl, sym, ap, subst, ◌∙◌, arith, append-nil, length-set, get_or-set_same, get_or-set_other}
use Rattle.std.proofs.lemmas.Bool.{both_ways, cases_eq, cond_both, eq-eqb, ne_eqb, ltb-false}
use Rattle.std.specs.Prelude.{option_to_list}
use Rattle.xs_base.specs.Numbers.{Slot, ChanNumber, EndNumber, InputNumber}
use Rattle.xs_base.specs.declared.numbers.TheConstants.{LINK_ENDS}
use Rattle.xs_base.specs.declared.token.Token.{Token}
use Rattle.xs_model.specs.Record.{CoreRec, ChanRec, LinkRec, unused_chan, chan_of}
use Rattle.xs_model.specs.AtWork.{AtWork}
use Rattle.net_model.specs.Switch.{Routes, is_link_input, chan_of_input, buffer_of_link, link_at, waiting_at, link_without_first, chan_without_first, sent_in, take_first, put_into, send, end_may_send}
use Rattle.link_laws.proofs.SlotAtEndLists.{may_after_take}
use Rattle.packet_laws.specs.Flow.{Move, Rests, TakesOff, Forwards, Delivers, SendsHeader, takes, sends, puts, left_by, Works}
use Rattle.packet_laws.proofs.LinkEnds.{not_again_at}
use Rattle.packet_laws.proofs.Alike.{send_buffer}

-- ---- Lists of which one is changed

either_same : {A : Type 0} (test : Bool) (a b c d : A) → (test ≡ true → a ≡ c) → (test ≡ false → b ≡ d) → (if test then a else b) ≡ (if test then c else d)
either_same true a b c d on off = on refl
either_same false a b c d on off = off refl

-- a change of a link end leaves it there
is_some_still : (change : Option LinkRec → Option LinkRec) → ((link : Option LinkRec) → is_some (change link) ≡ is_some link) → (links : List (Option LinkRec)) (i j : ℕ)
    → is_some (get_or (slice_set links i (change (get_or links i None))) j None) ≡ is_some (get_or links j None)
is_some_still change each [] i j = refl
is_some_still change each (link ∷ links) zero zero = each link
is_some_still change each (link ∷ links) zero (suc j) = refl
is_some_still change each (link ∷ links) (suc i) zero = refl
is_some_still change each (link ∷ links) (suc i) (suc j) = is_some_still change each links i j

some_without : (link : Option LinkRec) → is_some (link_without_first link) ≡ is_some link
some_without None = refl
some_without (Some link) = refl

some_sent : (slot : Slot) (link : Option LinkRec) → is_some (sent_in slot link) ≡ is_some link
some_sent slot None = refl
some_sent slot (Some link) = refl

is_within : (links : List (Option LinkRec)) (e : ℕ) → is_some (get_or links e None) ≡ true → e < length links
is_within [] e is = cc
is_within (link ∷ links) zero is = omega arith
is_within (link ∷ links) (suc e) is = let less = is_within links e is in omega (arith, less)

without_buffer : (link : Option LinkRec) → buffer_of_link (link_without_first link) ≡ drop 1 (buffer_of_link link)
without_buffer None = refl
without_buffer (Some link) = refl

taken_buffer : (links : List (Option LinkRec)) (i : ℕ) → buffer_of_link (get_or (slice_set links i (link_without_first (get_or links i None))) i None) ≡ drop 1 (buffer_of_link (get_or links i None))
taken_buffer [] i = refl
taken_buffer (link ∷ links) zero = without_buffer link
taken_buffer (link ∷ links) (suc i) = taken_buffer links i

taken_output : (chans : List ChanRec) (c : ℕ) → (get_or (slice_set chans c (chan_without_first (get_or chans c unused_chan))) c unused_chan).output ≡ drop 1 (get_or chans c unused_chan).output
taken_output [] c = refl
taken_output (chan ∷ chans) zero = refl
taken_output (chan ∷ chans) (suc c) = taken_output chans c

-- what is read of a channel end stays, whichever one is set, if that one keeps it
module _ {A : Type 0} (read : ChanRec → A) where
  chan_same : (chans : List ChanRec) (c : ℕ) (new : ChanRec) (d : ℕ) → read new ≡ read (get_or chans c unused_chan)
      → read (get_or (slice_set chans c new) d unused_chan) ≡ read (get_or chans d unused_chan)
  chan_same [] c new d same = refl
  chan_same (x ∷ chans) zero new zero same = same
  chan_same (x ∷ chans) zero new (suc d) same = refl
  chan_same (x ∷ chans) (suc c) new zero same = refl
  chan_same (x ∷ chans) (suc c) new (suc d) same = chan_same chans c new d same

-- one that is in use is one of the list
used_within : (chans : List ChanRec) (n : ℕ) → (get_or chans n unused_chan).used ≡ true → n < length chans
used_within [] n is = cc
used_within (chan ∷ chans) zero is = omega arith
used_within (chan ∷ chans) (suc n) is = let less = used_within chans n is in omega (arith, less)

-- ---- A move, up to some point of the step

abbrev pub waits : CoreRec → List (Option LinkRec) → InputNumber → List Token
waits core links j = if is_link_input j then buffer_of_link (get_or links j None) else (chan_of core (chan_of_input j)).output

module _ (routes : Routes) (slot : Slot) (i : InputNumber) (m0 : AtWork) where
  abbrev waited : InputNumber → List Token
  waited j = waits m0.rec.core m0.rec.links j

  pub record Flowed (move : Move) (core : CoreRec) (links : List (Option LinkRec)) (tokens : List (Option Token)) : Type 0 where
    pub own : waited i ≡ takes move ++ waits core links i
    pub others : (j : InputNumber) → j ≢ i → waits core links j ≡ waited j
    pub out : (e : EndNumber) → option_to_list (get_or tokens e None) ≡ left_by m0 e ++ sends move e
    pub into : (n : ChanNumber) → (chan_of core n).input ≡ (chan_of m0.rec.core n).input ++ puts move n
    pub many_links : length links ≡ LINK_ENDS
    pub used : (n : ChanNumber) → (chan_of core n).used ≡ (chan_of m0.rec.core n).used
    pub many_tokens : length tokens ≡ LINK_ENDS
    pub gaps : (e : EndNumber) → is_some (get_or links e None) ≡ true → 1 ≤ slice_index routes.gaps e
    pub once : (e : EndNumber) → is_some (get_or tokens e None) ≡ true → end_may_send routes slot e (get_or links e None) ≡ false

  abbrev pub IsFlowed : Move → AtWork → Type 0
  IsFlowed move m = Flowed move m.rec.core m.rec.links m.tokens

  pub flowed_itself : Works routes slot m0 → IsFlowed Rests m0
  flowed_itself works = record {
    own = refl;
    others = λ j other. refl;
    out = λ e. sym (append-nil (left_by m0 e));
    into = λ n. sym (append-nil (chan_of m0.rec.core n).input);
    many_links = works.switch.links;
    used = λ n. refl;
    many_tokens = works.tokens;
    gaps = works.switch.gap;
    once = works.once;
  }

  -- ---- The first token is taken

  link_flowed : (t : Token) (rest : List Token) (m : AtWork) → is_link_input i ≡ true → waiting_at m.rec i ≡ t ∷ rest → IsFlowed Rests m
      → Flowed (TakesOff t) m.rec.core (slice_set m.rec.links i (link_without_first (link_at m.rec i))) m.tokens
  link_flowed t rest m link first h =
      let links = slice_set m.rec.links i (link_without_first (link_at m.rec i)) in
      let there = is_some_still link_without_first some_without m.rec.links i in
      record {
        own = h.own ∙ first ∙ ap (λ r. t ∷ r) (sym (ap (drop 1) (sym (its m.rec.links) ∙ first)) ∙ sym (taken_buffer m.rec.links i) ∙ sym (its links));
        others = λ j other. either_same (is_link_input j) _ _ _ _ (λ link. ap buffer_of_link (get_or-set_other m.rec.links i j _ None other)) (λ chan. refl) ∙ h.others j other;
        out = h.out;
        into = h.into;
        many_links = length-set m.rec.links i _ ∙ h.many_links;
        used = h.used;
        many_tokens = h.many_tokens;
        gaps = λ e is. h.gaps e (sym (there e) ∙ is);
        once = λ e gone. may_after_take routes slot m.rec.links i e ∙ h.once e gone;
      }
    where
      its : (links : List (Option LinkRec)) → waits m.rec.core links i ≡ buffer_of_link (get_or links i None)
      its links = ap (λ test. if test then buffer_of_link (get_or links i None) else (chan_of m.rec.core (chan_of_input i)).output) link

  chan_flowed : (t : Token) (rest : List Token) (m : AtWork) → is_link_input i ≡ false → waiting_at m.rec i ≡ t ∷ rest → IsFlowed Rests m
      → Flowed (TakesOff t) (record m.rec.core { chans = slice_set m.rec.core.chans (chan_of_input i) (chan_without_first (chan_of m.rec.core (chan_of_input i))) }) m.rec.links m.tokens
  chan_flowed t rest m chan first h =
      let c = chan_of_input i in
      let chans = slice_set m.rec.core.chans c (chan_without_first (chan_of m.rec.core c)) in
      record {
        own = h.own ∙ first ∙ ap (λ r. t ∷ r) (sym (ap (drop 1) (sym (its m.rec.core) ∙ first)) ∙ sym (taken_output m.rec.core.chans c) ∙ sym (its (record m.rec.core { chans = chans })));
        others = λ j other. either_same (is_link_input j) _ _ _ _ (λ link. refl) (λ also. other_output j (apart j other also)) ∙ h.others j other;
        out = h.out;
        into = λ n. chan_same (λ x. x.input) m.rec.core.chans c _ n refl ∙ h.into n;
        many_links = h.many_links;
        used = λ n. chan_same (λ x. x.used) m.rec.core.chans c _ n refl ∙ h.used n;
        many_tokens = h.many_tokens;
        gaps = h.gaps;
        once = h.once;
      }
    where
      its : (core : CoreRec) → waits core m.rec.links i ≡ (chan_of core (chan_of_input i)).output
      its core = ap (λ test. if test then buffer_of_link (get_or m.rec.links i None) else (chan_of core (chan_of_input i)).output) chan

      new : ChanRec
      new = chan_without_first (chan_of m.rec.core (chan_of_input i))

      other_output : (j : InputNumber) → chan_of_input j ≢ chan_of_input i
          → (get_or (slice_set m.rec.core.chans (chan_of_input i) new) (chan_of_input j) unused_chan).output ≡ (chan_of m.rec.core (chan_of_input j)).output
      other_output j other = ap (λ (x : ChanRec). x.output) (get_or-set_other m.rec.core.chans (chan_of_input i) (chan_of_input j) new unused_chan other)

      apart : (j : InputNumber) → j ≢ i → is_link_input j ≡ false → chan_of_input j ≢ chan_of_input i
      apart j other also same =
          let above = ltb-false i LINK_ENDS chan in
          let above_too = ltb-false j LINK_ENDS also in
          other (omega (arith, above, above_too, same))

  pub takes_flowed : (t : Token) (rest : List Token) (m : AtWork) → waiting_at m.rec i ≡ t ∷ rest → IsFlowed Rests m → IsFlowed (TakesOff t) (take_first i m)
  takes_flowed t rest m first h = cond_both (is_link_input i) _ _ (IsFlowed (TakesOff t)) (λ link. link_flowed t rest m link first h) (λ chan. chan_flowed t rest m chan first h)

  -- ---- It is put into the input buffer of a channel end

  pub puts_flowed : (n : ChanNumber) (t : Token) (m : AtWork) → (chan_of m0.rec.core n).used ≡ true → IsFlowed (TakesOff t) m → IsFlowed (Delivers n t) (put_into n t m)
  puts_flowed n t m is h =
      let same = λ (j : InputNumber).
      either_same (is_link_input j) (buffer_of_link (get_or m.rec.links j None)) _ _ _ (λ link. refl) (λ chan. chan_same (λ x. x.output) m.rec.core.chans n new (chan_of_input j) refl) in
      record {
        own = h.own ∙ ap (λ r. t ∷ r) (sym (same i));
        others = λ j other. same j ∙ h.others j other;
        out = h.out;
        into = λ k. put_at k (cases_eq k n);
        many_links = h.many_links;
        used = λ k. chan_same (λ x. x.used) m.rec.core.chans n new k refl ∙ h.used k;
        many_tokens = h.many_tokens;
        gaps = h.gaps;
        once = h.once;
      }
    where
      new : ChanRec
      new = record (chan_of m.rec.core n) { input = (chan_of m.rec.core n).input ++ t ∷ [] }

      before : (k : ChanNumber) → (chan_of m.rec.core k).input ≡ (chan_of m0.rec.core k).input
      before k = h.into k ∙ append-nil _

      put_at : (k : ChanNumber) → (k ≡ n) ⊎ (k ≡ n → ⊥) → (get_or (slice_set m.rec.core.chans n new) k unused_chan).input ≡ (chan_of m0.rec.core k).input ++ puts (Delivers n t) k
      put_at k (inl same) =
          subst (λ k. (get_or (slice_set m.rec.core.chans n new) k unused_chan).input ≡ (chan_of m0.rec.core k).input ++ puts (Delivers n t) k) (sym same)
          (ap (λ (x : ChanRec). x.input) (get_or-set_same m.rec.core.chans n new unused_chan (used_within m.rec.core.chans n (h.used n ∙ is)))
          ∙ ap (λ xs. xs ++ t ∷ []) (before n) ∙ ap (λ test. (chan_of m0.rec.core n).input ++ (if test then t ∷ [] else [])) (sym (eq-eqb n n refl)))
      put_at k (inr other) =
          ap (λ (x : ChanRec). x.input) (get_or-set_other m.rec.core.chans n k new unused_chan other)
          ∙ before k ∙ sym (append-nil _) ∙ ap (λ test. (chan_of m0.rec.core k).input ++ (if test then t ∷ [] else [])) (sym (ne_eqb n k (λ same. other (sym same))))

  -- ---- A token leaves by a link end

  module _ (e : EndNumber) (t : Token) where
    abbrev only : EndNumber → List Token
    only k = if e == k then t ∷ [] else []

    -- where none has left by this move, to a move that takes the same and puts the same
    sends_flowed : (move next : Move) (m : AtWork) → ((k : EndNumber) → sends move k ≡ []) → ((k : EndNumber) → sends next k ≡ only k)
        → takes next ≡ takes move → ((n : ChanNumber) → puts next n ≡ puts move n)
        → end_may_send routes slot e (link_at m.rec e) ≡ true → IsFlowed move m → IsFlowed next (send slot e t m)
    sends_flowed move next m none one as_taken as_put may h =
        let same = λ (j : InputNumber). either_same (is_link_input j) _ (chan_of m.rec.core (chan_of_input j)).output _ _ (λ link. send_buffer slot m.rec.links e j) (λ chan. refl) in
        record {
          own = h.own ∙ ap (λ xs. xs ++ waits m.rec.core m.rec.links i) (sym as_taken) ∙ ap (λ r. takes next ++ r) (sym (same i));
          others = λ j other. same j ∙ h.others j other;
          out = λ k. sent_at k (cases_eq k e) ∙ ap (λ xs. left_by m0 k ++ xs) (sym (one k));
          into = λ n. h.into n ∙ ap (λ xs. (chan_of m0.rec.core n).input ++ xs) (sym (as_put n));
          many_links = length-set m.rec.links e _ ∙ h.many_links;
          used = h.used;
          many_tokens = length-set m.tokens e (Some t) ∙ h.many_tokens;
          gaps = λ k is. h.gaps k (sym (is_some_still (sent_in slot) (some_sent slot) m.rec.links e k) ∙ is);
          once = λ k. once_at k (cases_eq k e);
        }
      where
        there : is_some (link_at m.rec e) ≡ true
        there = by (link_at m.rec e) may
          where
            by : (link : Option LinkRec) → end_may_send routes slot e link ≡ true → is_some link ≡ true
            by None may = may
            by (Some link) may = refl

        nothing : (token : Option Token) → (is_some token ≡ true → ⊥) → option_to_list token ≡ []
        nothing None never = refl
        nothing (Some t) never = absurd (never refl)

        before : (k : EndNumber) → left_by m0 k ≡ left_by m k
        before k = sym (append-nil _) ∙ ap (λ xs. left_by m0 k ++ xs) (sym (none k)) ∙ sym (h.out k)

        low : e < length m.tokens
        low = let inside = is_within m.rec.links e there in omega (arith, inside, h.many_links, h.many_tokens)

        sent_at : (k : EndNumber) → (k ≡ e) ⊎ (k ≡ e → ⊥) → option_to_list (get_or (slice_set m.tokens e (Some t)) k None) ≡ left_by m0 k ++ only k
        sent_at k (inl same) =
            subst (λ k. option_to_list (get_or (slice_set m.tokens e (Some t)) k None) ≡ left_by m0 k ++ only k) (sym same)
            (ap option_to_list (get_or-set_same m.tokens e (Some t) None low) ∙ ap (λ test. if test then t ∷ [] else []) (sym (eq-eqb e e refl))
            ∙ ap (λ xs. xs ++ only e) (sym (before e ∙ nothing _ (λ gone. both_ways _ (h.once e gone) may))))
        sent_at k (inr other) =
            ap option_to_list (get_or-set_other m.tokens e k (Some t) None other) ∙ sym (before k)
            ∙ sym (append-nil _) ∙ ap (λ test. left_by m0 k ++ (if test then t ∷ [] else [])) (sym (ne_eqb e k (λ same. other (sym same))))

        once_at : (k : EndNumber) → (k ≡ e) ⊎ (k ≡ e → ⊥) → is_some (get_or (slice_set m.tokens e (Some t)) k None) ≡ true
            → end_may_send routes slot k (get_or (slice_set m.rec.links e (sent_in slot (link_at m.rec e))) k None) ≡ false
        once_at k (inl same) gone =
            subst (λ k. end_may_send routes slot k (get_or (slice_set m.rec.links e (sent_in slot (link_at m.rec e))) k None) ≡ false) (sym same)
            (not_again_at routes slot e (h.gaps e there) m.rec.links e)
        once_at k (inr other) gone =
            ap (end_may_send routes slot k) (get_or-set_other m.rec.links e k _ None other)
            ∙ h.once k (sym (ap is_some (get_or-set_other m.tokens e k (Some t) None other)) ∙ gone)

    pub forwards_flowed : (m : AtWork) → end_may_send routes slot e (link_at m.rec e) ≡ true → IsFlowed (TakesOff t) m → IsFlowed (Forwards e t) (send slot e t m)
    forwards_flowed m may h = sends_flowed (TakesOff t) (Forwards e t) m (λ k. refl) (λ k. refl) refl (λ n. refl) may h

    pub header_flowed : (m : AtWork) → end_may_send routes slot e (link_at m.rec e) ≡ true → IsFlowed Rests m → IsFlowed (SendsHeader e t) (send slot e t m)
    header_flowed m may h = sends_flowed Rests (SendsHeader e t) m (λ k. refl) (λ k. refl) refl (λ n. refl) may h
