use Rattle.std.proofs.Common.{ℕ, zero, suc, ◌<◌, arith, replicate}
use Rattle.std.specs.Prelude.{slice_index}
use Rattle.node_tests.proofs.core_step_tests.sends_a_packet.Goals as goal

some_gap : (end : ℕ) → end < 8 → 0 < slice_index (replicate 8 4) end
some_gap zero h = omega arith
some_gap (suc zero) h = omega arith
some_gap (suc (suc zero)) h = omega arith
some_gap (suc (suc (suc zero))) h = omega arith
some_gap (suc (suc (suc (suc zero)))) h = omega arith
some_gap (suc (suc (suc (suc (suc zero))))) h = omega arith
some_gap (suc (suc (suc (suc (suc (suc zero)))))) h = omega arith
some_gap (suc (suc (suc (suc (suc (suc (suc zero))))))) h = omega arith
some_gap (suc (suc (suc (suc (suc (suc (suc (suc end)))))))) h = absurd (omega (arith, h))

pub boot-requires : goal.boot-requires
boot-requires g c = record { gaps = λ bit end within below leads. some_gap end below }
