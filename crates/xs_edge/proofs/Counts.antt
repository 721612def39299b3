-- The count of a stream through the calls that a source makes of it.
use Rattle.std.proofs.Common.{ℕ, zero, suc, ◌≡◌, ◌⊎◌, inl, inr, Result, Ok, Err, IsErr, OnOk, OnErr, sym, ap, ◌∙◌, subst}
use Rattle.std.proofs.lemmas.Bool.{false≢true}
use Rattle.std.specs.declared.io.Error.{Error}
use Rattle.xs_edge.specs.Calls.{Gives, Interruptions, TellsRead, ToldOfRead, CountsCall}
use Rattle.xs_edge.specs.Edge.{HasRisen}
use Rattle.xs_edge.specs.declared.Failed.{Failed}

-- what a call of a stream with a count gives
abbrev Counting : {S A : Type 0} → (S → ℕ) → Gives S A
Counting calls old given call new = CountsCall (calls old) call (calls new)

-- calls that a signal cut short leave the count
stays : {S A : Type 0} (calls : S → ℕ) (given : A) (n : ℕ) (from to : S) → Interruptions (Counting calls) given n from to → calls to ≡ calls from
stays calls given zero from to same = ap calls (sym same)
stays calls given (suc n) from to (mid, before, error, cut, gives) = gives.0 cut ∙ stays calls given n from mid before

-- a call of which something is told was not cut short
rises : (old new : ℕ) (call : Result ℕ Error) (answered : Result ℕ Failed) → CountsCall old call new → ToldOfRead call answered → HasRisen old new
rises old new (Ok count) answered gives told = gives
rises old new (Err error) answered gives told = gives.1 told.0

-- a read of a source makes one call that counts, or none where it fails
pub one_call : {R : Type 0} (calls : R → ℕ) (from : R) (room : ℕ) (answered : Result ℕ Failed) (to : R)
    → TellsRead (Counting calls) from room answered to → HasRisen (calls from) (calls to) ⊎ ((calls to ≡ calls from) × IsErr answered)
one_call calls from room answered to (n, mid, before, inl (call, gives, told)) =
    inl (subst (λ old. HasRisen old (calls to)) (stays calls room n from mid before) (rises (calls mid) (calls to) call answered gives told))
one_call calls from room answered to (n, mid, before, inr (last, same, failed)) = inr (ap calls (sym same) ∙ stays calls room n from mid before, failed)

-- where it answers a count, one
pub where_ok : (old new : ℕ) (answered : Result ℕ Failed) → HasRisen old new ⊎ ((new ≡ old) × IsErr answered) → OnOk answered (HasRisen old new)
where_ok old new (Ok count) (inl risen) = risen
where_ok old new (Ok count) (inr none) = absurd (false≢true none.1)
where_ok old new (Err failed) made = tt

-- where it fails, one or none
pub where_failed : (old new : ℕ) (answered : Result ℕ Failed) → HasRisen old new ⊎ ((new ≡ old) × IsErr answered) → OnErr answered (HasRisen old new ⊎ (new ≡ old))
where_failed old new (Ok count) made = tt
where_failed old new (Err failed) (inl risen) = inl risen
where_failed old new (Err failed) (inr none) = inr none.0
