-- The name of an end fits where both of its numbers do.
use Rattle.std.proofs.Common.{◌≡◌, ℕ, ◌+◌, Bool, true, false, Option, Some, None, List, take, drop, refl, ap, sym, ◌∙◌, arith}
use Rattle.std.specs.Prelude.{◌&&◌, nat_le, is_some}
use Rattle.std.proofs.lemmas.Bool.{le-leb}
use Rattle.xs_text.specs.Numbers.{number_of}
use Rattle.system_model.specs.declared.frame_line.EndName.{EndName}
use Rattle.system_model.specs.FrameLines.{before_colon, end_name, ◌>>=◌}
use Rattle.explain_model.specs.Forms.{is_between}
use Rattle.explain_frame_model.specs.WordForms.{is_link_end, is_step_end}

and-none : (b : Bool) → (b && false) ≡ false
and-none true = refl
and-none false = refl

and-all : (b : Bool) → b ≡ (b && true)
and-all true = refl
and-all false = refl

none-below : (n : ℕ) → nat_le 0 n ≡ true
none-below n = le-leb 0 n (omega arith)

abbrev named : Option ℕ → Option ℕ → Option EndName
named a b = a >>= λ node. b >>= λ end. Some (record { node = node; end = end })

link : (a b : Option ℕ) → is_link_end (named a b) ≡ (is_between 0 99 a && is_between 0 7 b)
link None b = refl
link (Some node) None = sym (and-none (is_between 0 99 (Some node)))
link (Some node) (Some end) =
    ap (λ b. (b && nat_le node 99) && nat_le end 7) (sym (none-below node))
    ∙ ap (λ b. (nat_le 0 node && nat_le node 99) && (b && nat_le end 7)) (sym (none-below end))

step : (a b : Option ℕ) → is_step_end (named a b) ≡ (is_between 0 99 a && is_some b)
step None b = refl
step (Some node) None = sym (and-none (is_between 0 99 (Some node)))
step (Some node) (Some end) = ap (λ b. b && nat_le node 99) (sym (none-below node)) ∙ and-all (is_between 0 99 (Some node))

pub link_end_parts : (word : List ℕ) → is_link_end (end_name word) ≡ (is_between 0 99 (number_of (take (before_colon word) word)) && is_between 0 7 (number_of (drop (before_colon word + 1) word)))
unfolding end_name
link_end_parts word = link (number_of (take (before_colon word) word)) (number_of (drop (before_colon word + 1) word))

pub step_end_parts : (word : List ℕ) → is_step_end (end_name word) ≡ (is_between 0 99 (number_of (take (before_colon word) word)) && is_some (number_of (drop (before_colon word + 1) word)))
unfolding end_name
step_end_parts word = step (number_of (take (before_colon word) word)) (number_of (drop (before_colon word + 1) word))
