-- The lines of the trace, one more each time.
use Rattle.std.proofs.Common.{◌≡◌, ℕ, ◌+◌, ◌<◌, ◌≤◌, List, [], ◌∷◌, ◌++◌, length, get_or, drop, refl, ap, sym, ◌∙◌, append_assoc}
use Rattle.std.proofs.lemmas.List.{at_drop_more, drop_all, append-nil}
use Rattle.xs_model.specs.declared.thread.Thread.{Thread}
use Rattle.xs_model.specs.declared.thread.Run.{Run}
use Rattle.trace_model.specs.Trace.{halted_line, halted_lines, memory_line, memory_lines}

-- from the text so far and the lines that are left, to those with one line more
pub one_more : (so_far after line rest left all : List ℕ) → after ≡ so_far ++ line → left ≡ line ++ rest → so_far ++ left ≡ all → after ++ rest ≡ all
one_more so_far after line rest left all added split h =
    ap (λ (t : List ℕ). t ++ rest) added ∙ (append_assoc so_far line rest ∙ (ap (λ (t : List ℕ). so_far ++ t) (sym split) ∙ h))

-- no lines are left
pub none_left : (so_far left all : List ℕ) → left ≡ [] → so_far ++ left ≡ all → so_far ≡ all
none_left so_far left all none h =
    sym (append-nil so_far) ∙ (ap (λ (t : List ℕ). so_far ++ t) (sym none) ∙ h)

halted_lines-cons : (node k : ℕ) (th : Thread) (threads : List Thread) → halted_lines node k (th ∷ threads) ≡ halted_line node k th.run ++ halted_lines node (k + 1) threads
unfolding halted_lines
halted_lines-cons node k th threads = refl

halted_lines-nil : (node k : ℕ) → halted_lines node k [] ≡ []
unfolding halted_lines
halted_lines-nil node k = refl

pub halted_lines-next : (node k : ℕ) (threads : List Thread) (d : Thread) (run : Run) → k < length threads → run ≡ (get_or threads k d).run → halted_lines node k (drop k threads) ≡ halted_line node k run ++ halted_lines node (k + 1) (drop (k + 1) threads)
halted_lines-next node k threads d run below e =
    at_drop_more (halted_lines node k) threads k d below
    ∙ (halted_lines-cons node k (get_or threads k d) (drop (k + 1) threads) ∙ ap (λ (r : Run). halted_line node k r ++ halted_lines node (k + 1) (drop (k + 1) threads)) (sym e))

pub halted_lines-end : (node k : ℕ) (threads : List Thread) → length threads ≤ k → halted_lines node k (drop k threads) ≡ []
halted_lines-end node k threads h = ap (λ (ts : List Thread). halted_lines node k ts) (drop_all k threads h) ∙ halted_lines-nil node k

memory_lines-cons : (node at w : ℕ) (words : List ℕ) → memory_lines node at (w ∷ words) ≡ memory_line node at w ++ memory_lines node (at + 4) words
unfolding memory_lines
memory_lines-cons node at w words = refl

memory_lines-nil : (node at : ℕ) → memory_lines node at [] ≡ []
unfolding memory_lines
memory_lines-nil node at = refl

pub memory_lines-next : (node at next w : ℕ) (words rest : List ℕ) → at + 4 ≡ next → words ≡ w ∷ rest → memory_lines node at words ≡ memory_line node at w ++ memory_lines node next rest
memory_lines-next node at next w words rest step split =
    ap (λ (ws : List ℕ). memory_lines node at ws) split
    ∙ (memory_lines-cons node at w rest ∙ ap (λ (n : ℕ). memory_line node at w ++ memory_lines node n rest) step)

pub memory_lines-end : (node at : ℕ) (words : List ℕ) → words ≡ [] → memory_lines node at words ≡ []
memory_lines-end node at words none = ap (λ (ws : List ℕ). memory_lines node at ws) none ∙ memory_lines-nil node at
