-- A mask that is made thread by thread.
use Rattle.std.proofs.Common.{◌≡◌, ℕ, ◌+◌, ◌<◌, ◌≤◌, Bool, true, false, sym, ◌∙◌, arith, below_more}
use Rattle.std.specs.Prelude.{◌≢◌}
use Rattle.xs_model.specs.Masks.{in_mask}

-- it has those of the threads below k that pass a test
pub record IsTold (test : ℕ → Bool) (mask k : ℕ) : Type 0 where
  pub told : (j : ℕ) → j < k → in_mask mask j ≡ test j
  pub clear : (j : ℕ) → k ≤ j → in_mask mask j ≡ false

module _ (test : ℕ → Bool) (mask k : ℕ) (is : IsTold test mask k) where
  -- thread k passes, and is added
  pub with_one : (next : ℕ) → test k ≡ true → in_mask next k ≡ true → ((j : ℕ) → j ≢ k → in_mask next j ≡ in_mask mask j) → IsTold test next (k + 1)
  with_one next passes added others = record {
    told = below_more _ _ (λ j below. others j (omega (arith, below)) ∙ is.told j below) (added ∙ sym passes);
    clear = λ j past. others j (omega (arith, past)) ∙ is.clear j (omega (arith, past));
  }

  -- thread k does not
  pub without_one : test k ≡ false → IsTold test mask (k + 1)
  without_one fails = record {
    told = below_more _ _ (λ j below. is.told j below) (is.clear k (omega arith) ∙ sym fails);
    clear = λ j past. is.clear j (omega (arith, past));
  }
