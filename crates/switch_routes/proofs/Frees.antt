-- The lowest free link end, one by one.
use Rattle.std.proofs.Common.{ℕ, suc, ◌≡◌, ◌+◌, ◌&&◌, Bool, true, false, cond, eqb, Some, None, ap}
use Rattle.std.specs.Prelude.{not}
use Rattle.std.specs.Int.{bit_at}
use Rattle.xs_model.specs.Record.{NodeRec}
use Rattle.net_model.specs.Switch.{free_end, end_is_held}

module _ (rec : NodeRec) (mask end n k : ℕ) (is : n ≡ suc k) where
  pub free_here : (eqb (bit_at mask end) 1 && not (end_is_held rec end)) ≡ true → free_end rec mask end n ≡ Some end
  unfolding free_end
  free_here test = rw is (ap (λ (t : Bool). cond t (Some end) (free_end rec mask (end + 1) k)) test)

  pub free_later : (eqb (bit_at mask end) 1 && not (end_is_held rec end)) ≡ false → free_end rec mask end n ≡ free_end rec mask (end + 1) k
  unfolding free_end
  free_later test = rw is (ap (λ (t : Bool). cond t (Some end) (free_end rec mask (end + 1) k)) test)

pub none_free : (rec : NodeRec) (mask end n : ℕ) → n ≡ 0 → free_end rec mask end n ≡ None
unfolding free_end
none_free rec mask end n is = ap (λ (k : ℕ). free_end rec mask end k) is
