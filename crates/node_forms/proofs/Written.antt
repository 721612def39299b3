-- What is written one after the other.
use Rattle.std.proofs.Common.{◌≡◌, ℕ, List, ◌++◌, Result, Ok, Err, append_assoc}
use Rattle.std.specs.Prelude.{OnOk}

pub on_ok : {T E P Q : Type 0} (r : Result T E) → (P → Q) → OnOk r P → OnOk r Q
on_ok (Ok x) f p = f p
on_ok (Err e) f p = p

pub three : (out a b c b_out c_out new : List ℕ) → b_out ≡ out ++ a → c_out ≡ b_out ++ b → new ≡ c_out ++ c → new ≡ out ++ (a ++ (b ++ c))
three out a b c b_out c_out new e1 e2 e3 = rw (e3, e2, e1) (simp append_assoc)

pub five : (out a b c d e b_out c_out d_out e_out new : List ℕ)
    → b_out ≡ out ++ a → c_out ≡ b_out ++ b → d_out ≡ c_out ++ c → e_out ≡ d_out ++ d → new ≡ e_out ++ e → new ≡ out ++ (a ++ (b ++ (c ++ (d ++ e))))
five out a b c d e b_out c_out d_out e_out new e1 e2 e3 e4 e5 = rw (e5, e4, e3, e2, e1) (simp append_assoc)
