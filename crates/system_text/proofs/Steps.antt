-- The lines of the section `play`, from their words.
use Rattle.std.proofs.Common.{◌≡◌, ℕ, ◌<◌, Bool, true, false, ◌&&◌, List, [], ◌∷◌, length, Option, Some, None, Result, Ok, Err, refl, sym, ◌∙◌, option_map, nat_le, min, arith}
use Rattle.std.specs.Prelude.{codes}
use Rattle.std.proofs.lemmas.Bool.Decides.{nat_tests}
use Rattle.xs_text.specs.Numbers.{number_of}
use Rattle.xs_instructions.specs.Image.{same_name}
use Rattle.system_model.specs.declared.SysKind.{SysKind}
use Rattle.system_model.specs.declared.SysKind.TheVariants.{BadLine}
use Rattle.system_model.specs.declared.frame_line.EndName.{EndName}
use Rattle.system_model.specs.declared.frame_line.FrameLine.{FrameLine}
use Rattle.system_model.specs.declared.frame_line.FrameLine.TheVariants.{Step}
use Rattle.system_model.specs.declared.frame_line.PlayLine.{PlayLine}
use Rattle.system_model.specs.declared.frame_line.PlayLine.TheVariants.{Take, Run, Send}
use Rattle.system_model.specs.FrameLines.{◌>>=◌, play_line, step_end, last_end, is_between}
use Rattle.system_text.specs.declared.words.Word.{Word}
use Rattle.system_text.specs.Forms.{ranged, capped, capped_end, end_of}
use Rattle.system_text.specs.LineWords.{bytes_of}
use Rattle.system_text.specs.Steps.{stepped, named}
use Rattle.system_text.proofs.Forms.{chain, read, read_end, word_at}

-- Ends

end_by : (b : Bool) (m n k l : ℕ) → (b ≡ true → m ≡ n) → k ≡ l → ranged {A = EndName} b (record { node = m; end = k }) ≡ ranged b (record { node = n; end = l })
end_by true m n k l f e = rw (f refl, e) refl
end_by false m n k l f e = refl

end_capped : (name : EndName) → ranged (nat_le (capped name.node) 99) (last_end (end_of (capped_end name))) ≡ ranged (nat_le name.node 99) (last_end name)
end_capped name =
    let node : nat_le (capped name.node) 99 ≡ nat_le name.node 99 = grind (arith, nat_tests) in
    let end : min (capped name.end) 255 ≡ min name.end 255 = grind (arith, nat_tests) in
    rw node (end_by (nat_le name.node 99) (capped name.node) name.node (min (capped name.end) 255) (min name.end 255) (λ e. grind (arith, nat_tests)) end)

pub end_is : (o : Option EndName) → named (option_map last_end o) ≡ chain (read_end o) (λ n. ranged (nat_le n.node 99) (last_end (end_of n)))
end_is None = refl
end_is (Some name) = sym (end_capped name)

-- a step that an end makes
end_ranged : (b : Bool) (f : EndName → PlayLine) (name : EndName) → ranged b (Step (f name)) ≡ chain (ranged b name) (λ e. Ok (Step (f e)))
end_ranged true f name = refl
end_ranged false f name = refl

take_steps : (o : Option EndName) → stepped (option_map (λ (e : EndName). Take e) o) ≡ chain (named o) (λ e. Ok (Step (Take e)))
take_steps None = refl
take_steps (Some name) = end_ranged (nat_le name.node 99) (λ e. Take e) name

send_steps : (o : Option EndName) → stepped (option_map (λ (e : EndName). Send e) o) ≡ chain (named o) (λ e. Ok (Step (Send e)))
send_steps None = refl
send_steps (Some name) = end_ranged (nat_le name.node 99) (λ e. Send e) name

pub take_is : (k x : List ℕ) → same_name (codes "take") k ≡ true → stepped (play_line (k ∷ x ∷ [])) ≡ chain (named (step_end x)) (λ e. Ok (Step (Take e)))
unfolding play_line
take_is k x e = rw e (take_steps (step_end x))

pub send_is : (k x : List ℕ) → same_name (codes "take") k ≡ false → same_name (codes "send") k ≡ true
    → stepped (play_line (k ∷ x ∷ [])) ≡ chain (named (step_end x)) (λ e. Ok (Step (Send e)))
unfolding play_line
send_is k x e f = rw (e, f) (send_steps (step_end x))

-- Runs

abbrev pub ran : ℕ → ℕ → Result FrameLine SysKind
ran node count = ranged (nat_le node 99 && is_between 1 1000000 count) (Step (Run node count))

ran_by : (b c : Bool) (m n k l : ℕ) → (b ≡ true → m ≡ n) → (c ≡ true → k ≡ l) → ranged (b && c) (Step (Run m k)) ≡ ranged (b && c) (Step (Run n l))
ran_by true true m n k l f g = rw (f refl, g refl) refl
ran_by true false m n k l f g = refl
ran_by false c m n k l f g = refl

ran_capped : (n c : ℕ) → ran (capped n) (capped c) ≡ ran n c
ran_capped n c =
    let node : nat_le (capped n) 99 ≡ nat_le n 99 = grind (arith, nat_tests) in
    let least : nat_le 1 (capped c) ≡ nat_le 1 c = grind (arith, nat_tests) in
    let most : nat_le (capped c) 1000000 ≡ nat_le c 1000000 = grind (arith, nat_tests) in
    rw (node, least, most)
    (ran_by (nat_le n 99) (is_between 1 1000000 c) (capped n) n (capped c) c (λ e. grind (arith, nat_tests)) (λ e. grind (arith, nat_tests)))

run_steps : (p q : Option ℕ) → stepped (p >>= λ node. q >>= λ count. Some (Run node count)) ≡ chain (read p) (λ n. chain (read q) (λ c. ran n c))
run_steps None q = refl
run_steps (Some n) None = refl
run_steps (Some n) (Some c) = sym (ran_capped n c)

pub run_is : (k x : List ℕ) → same_name (codes "take") k ≡ false → same_name (codes "send") k ≡ false → same_name (codes "run") k ≡ true
    → stepped (play_line (k ∷ x ∷ [])) ≡ chain (read (number_of x)) (λ n. ran n 1)
unfolding play_line
run_is k x e f g = rw (e, f, g) (run_steps (number_of x) (Some 1))

pub no_step : (k x : List ℕ) → same_name (codes "take") k ≡ false → same_name (codes "send") k ≡ false → same_name (codes "run") k ≡ false
    → Err BadLine ≡ stepped (play_line (k ∷ x ∷ []))
unfolding play_line
no_step k x e f g = rw (e, f, g) refl

pub long_is : (k n c : List ℕ) → same_name (codes "run") k ≡ true
    → stepped (play_line (k ∷ n ∷ c ∷ [])) ≡ chain (read (number_of n)) (λ a. chain (read (number_of c)) (λ b. ran a b))
unfolding play_line
long_is k n c e = rw e (run_steps (number_of n) (number_of c))

pub no_long : (k n c : List ℕ) → same_name (codes "run") k ≡ false → Err BadLine ≡ stepped (play_line (k ∷ n ∷ c ∷ []))
unfolding play_line
no_long k n c e = rw e refl

-- By the number of words

pub two_words : (words : List Word) (r : Result FrameLine SysKind) → length words ≡ 2 → r ≡ stepped (play_line (word_at words 0 ∷ word_at words 1 ∷ []))
    → r ≡ stepped (play_line (bytes_of words))
two_words [] r h e = absurd (omega (arith, h))
two_words (a ∷ []) r h e = absurd (omega (arith, h))
two_words (a ∷ b ∷ []) r h e = e
two_words (a ∷ b ∷ c ∷ words) r h e = absurd (omega (arith, h))

pub three_words : (words : List Word) (r : Result FrameLine SysKind) → length words ≡ 3
    → r ≡ stepped (play_line (word_at words 0 ∷ word_at words 1 ∷ word_at words 2 ∷ [])) → r ≡ stepped (play_line (bytes_of words))
three_words [] r h e = absurd (omega (arith, h))
three_words (a ∷ []) r h e = absurd (omega (arith, h))
three_words (a ∷ b ∷ []) r h e = absurd (omega (arith, h))
three_words (a ∷ b ∷ c ∷ []) r h e = e
three_words (a ∷ b ∷ c ∷ d ∷ words) r h e = absurd (omega (arith, h))

other_words : (words : List (List ℕ)) → (length words ≡ 2 → ⊥) → (length words ≡ 3 → ⊥) → play_line words ≡ None
unfolding play_line
other_words [] h k = refl
other_words (a ∷ []) h k = refl
other_words (a ∷ b ∷ []) h k = absurd (h refl)
other_words (a ∷ b ∷ c ∷ []) h k = absurd (k refl)
other_words (a ∷ b ∷ c ∷ d ∷ words) h k = refl

length_of : (words : List Word) → length (bytes_of words) ≡ length words
length_of [] = refl
length_of (w ∷ words) = omega (arith, length_of words)

pub no_step_of : (words : List Word) → (length words ≡ 2 → ⊥) → (length words ≡ 3 → ⊥) → Err BadLine ≡ stepped (play_line (bytes_of words))
no_step_of words h k =
    rw (other_words (bytes_of words) (λ e. h (sym (length_of words) ∙ e)) (λ e. k (sym (length_of words) ∙ e))) refl

pub too_many : (words : List (List ℕ)) (kind : SysKind) → kind ≡ BadLine → 11 < length words → Err kind ≡ stepped (play_line words)
too_many words kind e h = rw (e, other_words words (λ is. omega (arith, h, is)) (λ is. omega (arith, h, is))) refl
