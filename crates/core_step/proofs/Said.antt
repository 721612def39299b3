-- The link ends of a core that a snapshot says.
use Rattle.std.proofs.Common.{ℕ, zero, suc, ◌≡◌, ◌+◌, ◌-◌, ◌<◌, Bool, true, false, cond, List, [], ◌∷◌, Option, Some, None, length, get_or, replicate, refl, ap, ap₂, ◌∙◌, arith}
use Rattle.std.specs.Prelude.{map, IfSome, ◌↔◌}
use Rattle.std.specs.List.{AllByRecursion}
use Rattle.xs_model.specs.Record.{LinkRec}
use Rattle.net_model.specs.Links.{IsLinkBefore}
use Rattle.link_ends.specs.Counts.{EndCounts, CountsOf}
use Rattle.link_ends.specs.States.{end_state, counts_of, sent_of, credited_of, end_of, absent_end, IsEndState}
use Rattle.link_ends.specs.declared.state.EndState.{EndState}
use Rattle.link_ends.proofs.States.{stands}
use Rattle.switch_routes.specs.Rows.{end_gap, end_gaps, IsCountsOf, AllCountsOf}
use Rattle.switch_routes.specs.States.{place_state, link_of}
use Rattle.core_step.specs.Core.{SentBefore}
use Rattle.core_step.specs.Network.{counts_by, row_by}
use Rattle.core_step.specs.States.{link_state}

-- ---- place by place

pub row_at : (gaps : List ℕ) (states : List EndState) (k : ℕ) → k < length gaps → k < length states → get_or (row_by gaps states) k None ≡ counts_by (get_or gaps k 0) (get_or states k absent_end)
row_at [] states k within there = absurd (omega (arith, within))
row_at (gap ∷ gaps) [] k within there = absurd (omega (arith, there))
row_at (gap ∷ gaps) (state ∷ states) zero within there = refl
row_at (gap ∷ gaps) (state ∷ states) (suc k) within there = row_at gaps states k (omega (arith, within)) (omega (arith, there))

pub length-row : (gaps : List ℕ) (states : List EndState) → length gaps ≡ length states → length (row_by gaps states) ≡ length gaps
length-row [] states same = refl
length-row (gap ∷ gaps) [] same = absurd (omega (arith, same))
length-row (gap ∷ gaps) (state ∷ states) same = omega (arith, length-row gaps states (omega (arith, same)))

-- ---- what they stand for

both_by : (there : Bool) (counts : EndCounts) (link : LinkRec) → CountsOf counts link → IsCountsOf (cond there (Some counts) None) (cond there (Some link) None)
both_by true counts link of = of
both_by false counts link of = tt

pub row_stands : (gaps : List ℕ) (states : List EndState) → length gaps ≡ length states → AllByRecursion IsEndState states → AllCountsOf (row_by gaps states) (map link_of states)
row_stands [] [] same are = tt
row_stands [] (state ∷ states) same are = absurd (omega (arith, same))
row_stands (gap ∷ gaps) [] same are = absurd (omega (arith, same))
row_stands (gap ∷ gaps) (state ∷ states) same are =
    (both_by state.present (counts_of gap state) (end_of state) (stands gap state are.0.never), row_stands gaps states (omega (arith, same)) are.1)

gap_by : (there : Bool) (gap : ℕ) (counts : EndCounts) → counts.gap ≡ gap → (there ≡ true ↔ 0 < gap) → end_gap (cond there (Some counts) None) ≡ gap
gap_by true gap counts is both = is
gap_by false zero counts is both = refl
gap_by false (suc gap) counts is both = let wrong : false ≡ true = both.1 (omega arith) in absurd cc

pub row_gaps : (gaps : List ℕ) (states : List EndState) → length gaps ≡ length states
    → ((k : ℕ) → k < length gaps → (get_or states k absent_end).present ≡ true ↔ 0 < get_or gaps k 0) → end_gaps (row_by gaps states) ≡ gaps
row_gaps [] states same both = refl
row_gaps (gap ∷ gaps) [] same both = absurd (omega (arith, same))
row_gaps (gap ∷ gaps) (state ∷ states) same both =
    ap₂ (λ (g : ℕ) (rest : List ℕ). g ∷ rest) (gap_by state.present gap (counts_of gap state) refl (both 0 (omega arith)))
    (row_gaps gaps states (omega (arith, same)) (λ k h. both (suc k) (omega (arith, h))))

-- ---- the slots that they keep

module _ (slot : ℕ) where
  all_before : (n s : ℕ) → s < slot → AllByRecursion (λ r. r < slot) (replicate n s)
  all_before zero s before = tt
  all_before (suc n) s before = (before, all_before n s before)

  sent_before : (window : ℕ) (last : Option ℕ) → IfSome last (λ s. s < slot) → AllByRecursion (λ r. r < slot) (sent_of window last)
  sent_before window None before = tt
  sent_before window (Some s) before = all_before (window + 1) s before

  credited_before : (last : Option ℕ) → IfSome last (λ s. s < slot) → AllByRecursion (λ r. r < slot) (credited_of last)
  credited_before None before = tt
  credited_before (Some s) before = (before, tt)

  link_before : (there : Bool) (link : LinkRec) → IsLinkBefore slot link → IfSome (cond there (Some link) None) (IsLinkBefore slot)
  link_before true link before = before
  link_before false link before = tt

  pub links_before : (states : List EndState) → AllByRecursion (λ end. IfSome end.last (λ s. s < slot)) states → AllByRecursion (λ l. IfSome l (IsLinkBefore slot)) (map link_of states)
  links_before [] before = tt
  links_before (state ∷ states) before = (
    link_before state.present (end_of state) (record { sent = sent_before state.window state.last before.0; credited = credited_before state.last before.0 }),
    links_before states before.1,
  )

  counts_before : (there : Bool) (counts : EndCounts) → IfSome counts.last_sent (λ s. s < slot) → IfSome (cond there (Some counts) None) (λ c. IfSome c.last_sent (λ s. s < slot))
  counts_before true counts before = before
  counts_before false counts before = tt

  pub row_before : (gaps : List ℕ) (states : List EndState) → AllByRecursion (λ end. IfSome end.last (λ s. s < slot)) states → SentBefore slot (row_by gaps states)
  row_before [] states before = tt
  row_before (gap ∷ gaps) [] before = tt
  row_before (gap ∷ gaps) (state ∷ states) before = (counts_before state.present (counts_of gap state) before.0, row_before gaps states before.1)

-- ---- what a snapshot keeps of them

end_is : (counts : EndCounts) (link : LinkRec) → CountsOf counts link → end_state counts ≡ link_state (Some link)
end_is counts link of =
    ap (λ (b : List _). record { present = true; buffer = record { items = b }; window = counts.outstanding; last = counts.last_sent }) of.buffer
    ∙ ap (λ (w : ℕ). record { present = true; buffer = record { items = link.buffer }; window = w; last = counts.last_sent }) (omega (arith, of.open_tokens))
    ∙ ap (λ (l : Option ℕ). record { present = true; buffer = record { items = link.buffer }; window = length link.sent - length link.credited; last = l }) of.last_sent

pub ends_are : (row : List (Option EndCounts)) (links : List (Option LinkRec)) → AllCountsOf row links → map place_state row ≡ map link_state links
ends_are [] [] of = refl
ends_are [] (link ∷ links) of = absurd of
ends_are (end ∷ row) [] of = absurd of
ends_are (None ∷ row) (None ∷ links) of = ap (λ (rest : List EndState). absent_end ∷ rest) (ends_are row links of.1)
ends_are (None ∷ row) (Some link ∷ links) of = absurd of.0
ends_are (Some counts ∷ row) (None ∷ links) of = absurd of.0
ends_are (Some counts ∷ row) (Some link ∷ links) of = ap₂ (λ (e : EndState) (rest : List EndState). e ∷ rest) (end_is counts link of.0) (ends_are row links of.1)
