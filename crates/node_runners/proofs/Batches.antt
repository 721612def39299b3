-- Batches by link end, of which one is changed.
use Rattle.std.proofs.Common.{◌≡◌, ℕ, zero, suc, ◌+◌, ◌<◌, ◌≤◌, List, [], ◌∷◌, ◌++◌, length, refl, sym, ap, ◌∙◌, subst, arith, inl, inr}
use Rattle.std.specs.Prelude.{slice_set}
use Rattle.std.proofs.lemmas.Bool.{cases_eq}
use Rattle.std.proofs.lemmas.List.{get_or-set_same, get_or-set_other}
use Rattle.xs_base.specs.Numbers.{Slot}
use Rattle.xs_base.specs.Batch.{BatchRec}
use Rattle.xs_model.specs.Outside.{Emitted}
use Rattle.serial_model.specs.Serial.{sent_by}
use Rattle.node_runners.specs.Sent.{no_batch, batch_at}

abbrev pub SameEntries : List BatchRec → List BatchRec → Type 0
SameEntries now old = (end : ℕ) → (batch_at now end).entries ≡ (batch_at old end).entries

abbrev pub RoomBelow : ℕ → List BatchRec → Type 0
RoomBelow i now = (end : ℕ) → end < i → 2 ≤ (batch_at now end).spare

abbrev pub PutBelow : Slot → Emitted → ℕ → List BatchRec → List BatchRec → Type 0
PutBelow slot given i now old = (end : ℕ) → end < i → (batch_at now end).entries ≡ (batch_at old end).entries ++ sent_by slot given end

abbrev pub SameFrom : ℕ → List BatchRec → List BatchRec → Type 0
SameFrom i now old = (end : ℕ) → i ≤ end → batch_at now end ≡ batch_at old end

module _ (now old : List BatchRec) (i : ℕ) (b : BatchRec) (within : i < length now) where
  pub here : batch_at (slice_set now i b) i ≡ b
  here = get_or-set_same now i b no_batch within

  pub there : (end : ℕ) → (end ≡ i → ⊥) → batch_at (slice_set now i b) end ≡ batch_at now end
  there end ne = get_or-set_other now i end b no_batch ne

  pub same-more : SameEntries now old → b.entries ≡ (batch_at now i).entries → SameEntries (slice_set now i b) old
  same-more same e end = elim (cases_eq end i) [
    | inl at ↦ ap (λ k. (batch_at (slice_set now i b) k).entries) at ∙ ap (λ (x : BatchRec). x.entries) here ∙ e ∙ ap (λ k. (batch_at now k).entries) (sym at) ∙ same end
    | inr ne ↦ ap (λ (x : BatchRec). x.entries) (there end ne) ∙ same end
  ]

  pub room-more : RoomBelow i now → 2 ≤ b.spare → RoomBelow (i + 1) (slice_set now i b)
  room-more room r end below = elim (cases_eq end i) [
    | inl at ↦ subst (λ (x : BatchRec). 2 ≤ x.spare) (sym (ap (λ k. batch_at (slice_set now i b) k) at ∙ here)) r
    | inr ne ↦ subst (λ (x : BatchRec). 2 ≤ x.spare) (sym (there end ne)) (room end (omega (arith, below, ne)))
  ]

  pub put-more : (slot : Slot) (given : Emitted) → PutBelow slot given i now old → b.entries ≡ (batch_at old i).entries ++ sent_by slot given i → PutBelow slot given (i + 1) (slice_set now i b) old
  put-more slot given put e end below = elim (cases_eq end i) [
    | inl at ↦ ap (λ k. (batch_at (slice_set now i b) k).entries) at ∙ ap (λ (x : BatchRec). x.entries) here ∙ e ∙ ap (λ k. (batch_at old k).entries ++ sent_by slot given k) (sym at)
    | inr ne ↦ ap (λ (x : BatchRec). x.entries) (there end ne) ∙ put end (omega (arith, below, ne))
  ]

  pub from-more : SameFrom i now old → SameFrom (i + 1) (slice_set now i b) old
  from-more same end above = there end (λ at. omega (arith, above, at)) ∙ same end (omega (arith, above))

-- one more batch with nothing in it
pub empty_more : (xs : List BatchRec) (b : BatchRec) → ((end : ℕ) → (batch_at xs end).entries ≡ []) → b.entries ≡ [] → (end : ℕ) → (batch_at (xs ++ b ∷ []) end).entries ≡ []
empty_more [] b all e zero = e
empty_more [] b all e (suc end) = refl
empty_more (x ∷ xs) b all e zero = all 0
empty_more (x ∷ xs) b all e (suc end) = empty_more xs b (λ k. all (suc k)) e end
