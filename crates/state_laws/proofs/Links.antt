-- Of the tokens that a link end sent at most eight stay without a credit, and it stays there or not there.
use Rattle.std.proofs.Common.{◌≡◌, ◌≢◌, ◌↔◌, ℕ, zero, suc, ◌+◌, ◌<◌, ◌≤◌, ◌==◌, ◌&&◌, nat_lt, nat_le, Bool, true, false, if◌then◌else◌, is_some, Option, Some, None, List, [], ◌∷◌, ◌++◌, length, map, filter, get_or, slice_index, slice_index_or, refl, sym, ap, subst, ◌∙◌, length-append, arith, inl, inr}
use Rattle.std.proofs.lemmas.Bool.{lt-ltb, ltb-true, and_parts, cases_lt, cases_Bool, false≢true, cond_both, eqb-true, eqb-false}
use Rattle.std.proofs.lemmas.List.{length-map, get_or_past}
use Rattle.std.specs.List.{AllByRecursion}
use Rattle.std.specs.Prelude.{IfSome}
use Rattle.xs_base.specs.Numbers.{Slot, EndNumber}
use Rattle.xs_base.specs.declared.numbers.TheConstants.{LINK_ENDS, BUFFER_TOKENS, WINDOW_TOKENS}
use Rattle.xs_base.specs.declared.token.Token.{Token}
use Rattle.xs_model.specs.declared.outside.Arrivals.{Arrivals}
use Rattle.xs_model.specs.declared.outside.PinView.{PinView}
use Rattle.xs_model.specs.Record.{NodeRec, LinkRec}
use Rattle.net_model.specs.Links.{fresh_link, token_arrives, credit_arrives, link_after_arrivals, IsLinkBefore, latest, gap_is_over, may_send}
use Rattle.net_model.specs.Switch.{link_at}
use Rattle.step_model.specs.Fixed.{Fixed}
use Rattle.step_model.specs.Start.{link_with_gap}
use Rattle.step_model.specs.Step.{node_step}
use Rattle.link_laws.specs.LinkSlot.{LinkSlot, LinkSlotAt}
use Rattle.link_laws.proofs.SlotAtEndStep.{slot_at_link_end}
use Rattle.link_laws.proofs.WindowStep.{step_stays_before}
use Rattle.state_laws.specs.Facts.{end_is_there, HaveGaps, LinksFit}
use Rattle.state_laws.specs.Laws.{IsSoAtFirstWith, StaysSoWith}
use Rattle.state_laws.proofs.Switch.{any_before}

-- at most eight are without a credit
abbrev InWindow : LinkRec → Type 0
InWindow link = length link.sent ≤ length link.credited + WINDOW_TOKENS

-- ---- As a node starts

there_by_gap : (gap : ℕ) → (is_some (link_with_gap gap) ≡ true) ↔ (0 < gap)
there_by_gap gap =
    cond_both (gap == 0) None (Some fresh_link) (λ (link : Option LinkRec). (is_some link ≡ true) ↔ (0 < gap))
    (λ none. let e : gap ≡ 0 = eqb-true gap 0 none in (λ is. absurd (false≢true is), λ some. absurd (omega (arith, some, e))))
    (λ some. let e : gap ≢ 0 = eqb-false gap 0 some in (λ is. omega (arith, e), λ more. refl))

pub first_gaps : (gaps : List ℕ) (e : ℕ) → (is_some (get_or (map link_with_gap gaps) e None) ≡ true) ↔ (0 < slice_index gaps e)
first_gaps [] e = (λ is. absurd (false≢true is), λ some. absurd (omega (arith, some)))
first_gaps (gap ∷ gaps) zero = there_by_gap gap
first_gaps (gap ∷ gaps) (suc e) = first_gaps gaps e

gap_window : (gap : ℕ) → IfSome (link_with_gap gap) InWindow
gap_window gap = cond_both (gap == 0) None (Some fresh_link) (λ (link : Option LinkRec). IfSome link InWindow) (λ none. tt) (λ some. omega arith)

first_windows : (gaps : List ℕ) (e : ℕ) → IfSome (get_or (map link_with_gap gaps) e None) InWindow
first_windows [] e = tt
first_windows (gap ∷ gaps) zero = gap_window gap
first_windows (gap ∷ gaps) (suc e) = first_windows gaps e

gap_before : (gap : ℕ) → IfSome (link_with_gap gap) (IsLinkBefore 0)
gap_before gap =
    cond_both (gap == 0) None (Some fresh_link) (λ (link : Option LinkRec). IfSome link (IsLinkBefore 0)) (λ none. tt) (λ some. record { sent = tt; credited = tt })

first_before : (gaps : List ℕ) → AllByRecursion (λ link. IfSome link (IsLinkBefore 0)) (map link_with_gap gaps)
first_before [] = tt
first_before (gap ∷ gaps) = (gap_before gap, first_before gaps)

pub first_links : IsSoAtFirstWith (λ gaps rec. LinksFit gaps 0 rec)
first_links plan gaps eight = record {
  many = length-map gaps link_with_gap ∙ eight;
  windows = first_windows gaps;
  before = first_before gaps;
  ends = first_gaps gaps;
}

-- ---- One slot of a link end

module _ (slot : Slot) where
  -- a link end whose slots are before this one counts all that it sent
  all_counted : (slots : List Slot) → AllByRecursion (λ s. s < slot) slots → length (filter (λ s. nat_lt s slot) slots) ≡ length slots
  all_counted [] before = refl
  all_counted (s ∷ slots) before =
      let e : nat_lt s slot ≡ true = lt-ltb s slot before.0 in rw e (ap suc (all_counted slots before.1))

  few_counted : (test : Slot → Bool) (slots : List Slot) → length (filter test slots) ≤ length slots
  few_counted test [] = omega arith
  few_counted test (s ∷ slots) = by (test s) (few_counted test slots)
    where
      by : (passes : Bool) → length (filter test slots) ≤ length slots → length (if passes then s ∷ filter test slots else filter test slots) ≤ suc (length slots)
      by true few = omega (arith, few)
      by false few = omega (arith, few)

  may_has_room : (gap : ℕ) (link : LinkRec) → AllByRecursion (λ s. s < slot) link.sent → may_send gap slot link ≡ true → length link.sent < length link.credited + WINDOW_TOKENS
  may_has_room gap link before may =
      let opens = and_parts (nat_lt (length (filter (λ s. nat_lt s slot) link.sent)) (WINDOW_TOKENS + length (filter (λ s. nat_le s slot) link.credited))) (gap_is_over gap slot (latest link.sent)) may in
      omega (arith, ltb-true _ _ opens.0, all_counted link.sent before, few_counted (λ s. nat_le s slot) link.credited)

  token_same : (token : Option Token) (link : LinkRec) → ((token_arrives token link).sent ≡ link.sent) × ((token_arrives token link).credited ≡ link.credited)
  token_same None link = (refl, refl)
  token_same (Some t) link = by (nat_lt (length link.buffer) BUFFER_TOKENS)
    where
      by : (room : Bool) → ((if room then record link { buffer = link.buffer ++ t ∷ [] } else link).sent ≡ link.sent) × ((if room then record link { buffer = link.buffer ++ t ∷ [] } else link).credited ≡ link.credited)
      by true = (refl, refl)
      by false = (refl, refl)

  credit_more : (credit : Bool) (link : LinkRec) → ((credit_arrives slot credit link).sent ≡ link.sent) × (length link.credited ≤ length (credit_arrives slot credit link).credited)
  credit_more credit link = by (credit && nat_lt (length link.credited) (length link.sent))
    where
      by : (counts : Bool) → ((if counts then record link { credited = link.credited ++ slot ∷ [] } else link).sent ≡ link.sent) × (length link.credited ≤ length (if counts then record link { credited = link.credited ++ slot ∷ [] } else link).credited)
      by true = (refl, omega (arith, length-append link.credited (slot ∷ [])))
      by false = (refl, omega arith)

  -- what arrives leaves what was sent, and no credit fewer
  arrived_same : (token : Option Token) (credit : Bool) (link : LinkRec) → ((credit_arrives slot credit (token_arrives token link)).sent ≡ link.sent) × (length link.credited ≤ length (credit_arrives slot credit (token_arrives token link)).credited)
  arrived_same token credit link =
      let one = token_same token link in
      let two = credit_more credit (token_arrives token link) in
      (two.0 ∙ one.0, omega (arith, ap length one.1, two.1))

  sent_window : (gap : ℕ) (before after : LinkRec) (token : Option Token) (credit : Bool) → LinkSlot gap slot before after token credit → AllByRecursion (λ s. s < slot) before.sent → InWindow before → InWindow after
  sent_window gap before after None credit h old window =
      omega (arith, ap length h.sent, length-append before.sent [], ap length h.credited, window)
  sent_window gap before after (Some t) credit h old window =
      omega (arith, ap length h.sent, length-append before.sent (slot ∷ []), ap length h.credited, may_has_room gap before old (h.allowed refl))

  slot_window : (gap : ℕ) (link after : Option LinkRec) (arrives token : Option Token) (credit credits : Bool) → IfSome link (IsLinkBefore slot) → IfSome link InWindow → LinkSlotAt gap slot (link_after_arrivals slot arrives credits link) after token credit → IfSome after InWindow
  slot_window gap None None arrives token credit credits old window h = tt
  slot_window gap None (Some after) arrives token credit credits old window h = absurd h
  slot_window gap (Some link) None arrives token credit credits old window h = absurd h
  slot_window gap (Some link) (Some after) arrives token credit credits old window h =
      let came = credit_arrives slot credits (token_arrives arrives link) in
      let same = arrived_same arrives credits link in
      sent_window gap came after token credit h (subst (AllByRecursion (λ s. s < slot)) (sym same.0) old.sent) (omega (arith, ap length same.0, same.1, window))

before_at : (slot : Slot) (links : List (Option LinkRec)) (e : ℕ) → AllByRecursion (λ link. IfSome link (IsLinkBefore slot)) links → IfSome (get_or links e None) (IsLinkBefore slot)
before_at slot [] e all = tt
before_at slot (link ∷ links) zero all = all.0
before_at slot (link ∷ links) (suc e) all = before_at slot links e all.1

-- ---- The slot

module _ (fixed : Fixed) (rec : NodeRec) (slot : Slot) (arrivals : Arrivals) (pins : PinView) where
  abbrev after : NodeRec
  after = (node_step fixed rec slot arrivals pins).rec

  if_there : (link : Option LinkRec) → (is_some link ≡ false) → IfSome link InWindow
  if_there None is = tt
  if_there (Some link) is = absurd (false≢true (sym is))

  -- a link end that is not there has no window
  at_end : LinksFit fixed.routes.gaps slot rec → HaveGaps fixed.routes.gaps after → length after.links ≡ LINK_ENDS → (e : EndNumber) → IfSome (link_at after e) InWindow
  at_end h gaps many e = elim (cases_Bool (end_is_there after e)) [
    | inr absent ↦ if_there (link_at after e) absent
    | inl present ↦
        let gap : 0 < slice_index fixed.routes.gaps e = (gaps e).0 present in
        elim (cases_lt e LINK_ENDS) [
          | inl low ↦
              slot_window slot (slice_index fixed.routes.gaps e) (link_at rec e) (link_at after e) (slice_index_or arrivals.tokens e None) _ _ (slice_index_or arrivals.credits e false)
              (before_at slot rec.links e h.before) (h.windows e) (slot_at_link_end fixed rec slot arrivals pins e low (omega (arith, gap)))
          | inr high ↦ subst (λ (link : Option LinkRec). IfSome link InWindow) (sym (get_or_past after.links e None (omega (arith, many, high)))) tt
        ]
  ]

same_gaps : (gaps : List ℕ) (rec later : NodeRec) → ((e : EndNumber) → end_is_there later e ≡ end_is_there rec e) → HaveGaps gaps rec → HaveGaps gaps later
same_gaps gaps rec later same h e = (λ is. (h e).0 (sym (same e) ∙ is), λ some. same e ∙ (h e).1 some)

-- the link ends after a slot, of which an issue changes none
after_ends : (fixed : Fixed) (rec : NodeRec) (slot : Slot) (arrivals : Arrivals) (pins : PinView) (e : EndNumber) → end_is_there (node_step fixed rec slot arrivals pins).rec e ≡ end_is_there rec e
unfolding node_step
after_ends fixed rec slot arrivals pins e = (any_before fixed rec slot arrivals pins).ends e

after_many : (fixed : Fixed) (rec : NodeRec) (slot : Slot) (arrivals : Arrivals) (pins : PinView) → length (node_step fixed rec slot arrivals pins).rec.links ≡ length rec.links
unfolding node_step
after_many fixed rec slot arrivals pins = (any_before fixed rec slot arrivals pins).as_many

pub after_gaps : (fixed : Fixed) (rec : NodeRec) (slot : Slot) (arrivals : Arrivals) (pins : PinView) (gaps : List ℕ) → HaveGaps gaps rec → HaveGaps gaps (node_step fixed rec slot arrivals pins).rec
after_gaps fixed rec slot arrivals pins gaps h = same_gaps gaps rec (node_step fixed rec slot arrivals pins).rec (after_ends fixed rec slot arrivals pins) h

pub slot_links : StaysSoWith (λ gaps slot rec. LinksFit gaps slot rec)
slot_links fixed rec slot arrivals pins h =
    let gaps = after_gaps fixed rec slot arrivals pins fixed.routes.gaps h.ends in
    let many = after_many fixed rec slot arrivals pins ∙ h.many in
    record {
      many = many;
      windows = at_end fixed rec slot arrivals pins h gaps many;
      before = step_stays_before fixed rec slot arrivals pins h.before;
      ends = gaps;
    }
