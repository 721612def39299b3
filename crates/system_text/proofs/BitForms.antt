-- The line of a bit, from its words.
use Rattle.std.proofs.Common.{◌≡◌, ℕ, ◌≤◌, ◌<◌, Bool, true, false, ◌&&◌, List, [], ◌∷◌, ◌++◌, length, Option, Some, None, Result, Ok, Err, refl, sym, ap, ◌∙◌, option_map, nat_le, drop, get_or, ◌+◌, append_assoc, append-nil, take, ◌-◌, length-drop, arith}
use Rattle.std.specs.Prelude.{codes, if◌then◌else◌, is_some, ◌==◌}
use Rattle.std.specs.List.{list_all}
use Rattle.std.proofs.lemmas.List.{length-map}
use Rattle.std.proofs.lemmas.Bool.Decides.{nat_tests}
use Rattle.xs_text.specs.Numbers.{number_of, at_most}
use Rattle.system_model.specs.declared.SysKind.{SysKind}
use Rattle.system_model.specs.declared.SysKind.TheVariants.{BadLine, NumberOutOfRange}
use Rattle.system_model.specs.declared.frame_line.FrameLine.{FrameLine}
use Rattle.system_model.specs.declared.frame_line.FrameLine.TheVariants.{Bit}
use Rattle.system_model.specs.Bits.{BitRec}
use Rattle.system_model.specs.FrameLines.{◌>>=◌, bit_line, numbers_of, is_end_number}
use Rattle.system_text.specs.declared.words.Word.{Word}
use Rattle.system_text.specs.Forms.{ranged, formed, are_numbers, end_number, end_numbers, in_front}
use Rattle.system_text.specs.LineWords.{bytes_of}
use Rattle.system_text.proofs.Forms.{chain, read, word_at, up_to_capped}
use Rattle.system_text.proofs.Lists.{none_left, unrolled, suffix, list_all_map}

-- The numbers of words

none_by : (o : Option ℕ) (r : Option (List ℕ)) (b : Bool) → (is_some o && b) ≡ false → (b ≡ false → r ≡ None) → (o >>= λ n. r >>= λ ns. Some (n ∷ ns)) ≡ None
none_by None r b e h = refl
none_by (Some n) r b e h = rw (h e) refl

numbers_none : (ws : List (List ℕ)) → are_numbers ws ≡ false → numbers_of ws ≡ None
unfolding numbers_of
numbers_none [] e = cc
numbers_none (w ∷ ws) e = none_by (number_of w) (numbers_of ws) (are_numbers ws) e (λ h. numbers_none ws h)

-- the numbers that words are, as link ends
record AreRead (r : Option (List ℕ)) (e : Result (List ℕ) SysKind) : Type 0 where
  pub numbers : List ℕ
  pub is : r ≡ Some numbers
  pub read : e ≡ ranged (list_all is_end_number numbers) numbers

front_by : (b t : Bool) (n : ℕ) (ns : List ℕ) → in_front (if b then Some n else None) (ranged t ns) ≡ ranged (b && t) (n ∷ ns)
front_by true true n ns = refl
front_by true false n ns = refl
front_by false t n ns = refl

read_by : (o : Option ℕ) (r : Option (List ℕ)) (e : Result (List ℕ) SysKind) (b : Bool) → (is_some o && b) ≡ true → (b ≡ true → AreRead r e)
    → AreRead (o >>= λ n. r >>= λ ns. Some (n ∷ ns)) (in_front (at_most 7 o) e)
read_by None r e b h f = absurd cc
read_by (Some n) r e b h f =
    let rest = f h in
    record { numbers = n ∷ rest.numbers; is = rw (rest.is) refl; read = rw (rest.read) (front_by (nat_le n 7) (list_all is_end_number rest.numbers) n rest.numbers) }

numbers_read : (ws : List (List ℕ)) → are_numbers ws ≡ true → AreRead (numbers_of ws) (end_numbers ws)
unfolding numbers_of end_numbers
numbers_read [] e = record { numbers = []; is = refl; read = refl }
numbers_read (w ∷ ws) e = read_by (number_of w) (numbers_of ws) (end_numbers ws) (are_numbers ws) e (λ h. numbers_read ws h)

-- The reading of link ends, one by one

-- what is read of link ends in front of others
abbrev pub after : List ℕ → Result (List ℕ) SysKind → Result (List ℕ) SysKind
after front (Err kind) = Err kind
after front (Ok ns) = Ok (front ++ ns)

end_numbers-cons : (w : List ℕ) (ws : List (List ℕ)) → end_numbers (w ∷ ws) ≡ in_front (end_number w) (end_numbers ws)
unfolding end_numbers
end_numbers-cons w ws = refl

end_numbers-none : end_numbers [] ≡ Ok []
unfolding end_numbers
end_numbers-none = refl

ends_from : (words : List Word) (i : ℕ) (d : Word) → i < length words
    → end_numbers (bytes_of (drop i words)) ≡ in_front (end_number (get_or words i d).bytes.now) (end_numbers (bytes_of (drop (i + 1) words)))
ends_from words i d h = ap (λ ws. end_numbers (bytes_of ws)) (unrolled words i d h) ∙ end_numbers-cons (get_or words i d).bytes.now (bytes_of (drop (i + 1) words))

one_more : (front : List ℕ) (n : ℕ) (rest : Result (List ℕ) SysKind) → after (front ++ n ∷ []) rest ≡ after front (in_front (Some n) rest)
one_more front n (Err kind) = refl
one_more front n (Ok ns) = ap (λ (es : List ℕ). Ok es) (append_assoc front (n ∷ []) ns)

pub ends_next : (words : List Word) (i : ℕ) (d : Word) (front : List ℕ) (n : ℕ) (all : Result (List ℕ) SysKind)
    → after front (end_numbers (bytes_of (drop i words))) ≡ all → i < length words → Some n ≡ end_number (get_or words i d).bytes.now
    → after (front ++ n ∷ []) (end_numbers (bytes_of (drop (i + 1) words))) ≡ all
ends_next words i d front n all h k e =
    one_more front n (end_numbers (bytes_of (drop (i + 1) words)))
    ∙ (ap (λ o. after front (in_front o (end_numbers (bytes_of (drop (i + 1) words))))) e ∙ (ap (after front) (sym (ends_from words i d k)) ∙ h))

pub ends_refused : (words : List Word) (i : ℕ) (d : Word) (front : List ℕ) (all : Result (List ℕ) SysKind)
    → after front (end_numbers (bytes_of (drop i words))) ≡ all → i < length words → None ≡ end_number (get_or words i d).bytes.now → all ≡ Err NumberOutOfRange
ends_refused words i d front all h k e =
    sym h ∙ (ap (after front) (ends_from words i d k) ∙ ap (λ o. after front (in_front o (end_numbers (bytes_of (drop (i + 1) words))))) (sym e))

pub ends_done : (words : List Word) (i : ℕ) (front : List ℕ) (all : Result (List ℕ) SysKind) → after front (end_numbers (bytes_of (drop i words))) ≡ all → length words ≤ i → all ≡ Ok front
ends_done words i front all h k =
    sym h ∙ (ap (λ ws. after front (end_numbers (bytes_of ws))) (none_left words i k)
    ∙ (ap (after front) end_numbers-none ∙ ap (λ (es : List ℕ). Ok es) (append-nil front)))

-- The line

abbrev made_bit : ℕ → ℕ → List ℕ → FrameLine
made_bit n b es = Bit (record { node = n; bit = b; ends = es })

all_ranged : (s t u : Bool) (n b : ℕ) (es : List ℕ) → ranged (s && (t && u)) (made_bit n b es) ≡ chain (ranged s n) (λ m. chain (ranged t b) (λ k. chain (ranged u es) (λ ns. Ok (made_bit m k ns))))
all_ranged true true true n b es = refl
all_ranged true true false n b es = refl
all_ranged true false u n b es = refl
all_ranged false t u n b es = refl

abbrev pub bit_ranged : ℕ → ℕ → List (List ℕ) → Result FrameLine SysKind
bit_ranged n b ws = chain (ranged (nat_le n 99) n) (λ m. chain (ranged (nat_le b 15) b) (λ k. chain (end_numbers ws) (λ ns. Ok (Bit (record { node = m; bit = k; ends = ns })))))

abbrev pub bit_of : ℕ → ℕ → List (List ℕ) → Result FrameLine SysKind
bit_of n b ws = if are_numbers ws then bit_ranged n b ws else Err BadLine

abbrev found : Option ℕ → Option ℕ → Option (List ℕ) → Option BitRec
found p q r = p >>= λ node. q >>= λ bit. r >>= λ ends. Some (record { node = node; bit = bit; ends = ends })

ends_by : (n b : ℕ) (ws : List (List ℕ)) (all : Bool) → are_numbers ws ≡ all
    → formed (option_map (λ (l : BitRec). Bit l) (found (Some n) (Some b) (numbers_of ws))) ≡
    (if all then chain (ranged (nat_le n 99) n) (λ m. chain (ranged (nat_le b 15) b)
    (λ k. chain (end_numbers ws) (λ ns. Ok (made_bit m k ns)))) else Err BadLine)
ends_by n b ws false e = rw (numbers_none ws e) refl
ends_by n b ws true e =
    let are = numbers_read ws e in
    rw (are.is, are.read) (all_ranged (nat_le n 99) (nat_le b 15) (list_all is_end_number are.numbers) n b are.numbers)

bit_steps : (p q : Option ℕ) (ws : List (List ℕ)) → formed (option_map (λ (l : BitRec). Bit l) (found p q (numbers_of ws))) ≡ chain (read p) (λ n. chain (read q) (λ b. bit_of n b ws))
bit_steps None q ws = refl
bit_steps (Some n) None ws = refl
bit_steps (Some n) (Some b) ws =
    rw (up_to_capped 99 n (omega arith), up_to_capped 15 b (omega arith)) (ends_by n b ws (are_numbers ws) refl)

few_by : (few : Bool) (p q : Option ℕ) (ws : List (List ℕ)) → few ≡ true
    → formed (option_map (λ (l : BitRec). Bit l) (if few then found p q (numbers_of ws) else None)) ≡ chain (read p) (λ n. chain (read q) (λ b. bit_of n b ws))
few_by true p q ws e = bit_steps p q ws
few_by false p q ws e = cc

pub bytes-length : (words : List Word) → length (bytes_of words) ≡ length words
bytes-length words = length-map words (λ (word : Word). word.bytes.now)

few_bytes : (words : List Word) → length words ≤ 7 → nat_le (length (bytes_of words)) 7 ≡ true
few_bytes words h = let same : length (bytes_of words) ≡ length words = bytes-length words in grind (arith, nat_tests)

pub bit_is : (words ends : List Word) → ends ≡ drop 2 words → 3 ≤ length words → length words ≤ 10
    → formed (option_map (λ (l : BitRec). Bit l) (bit_line (codes "bit" ∷ bytes_of words))) ≡ chain (read (number_of (word_at words 0)))
    (λ n. chain (read (number_of (word_at words 1))) (λ b. bit_of n b (bytes_of ends)))
unfolding bit_line
bit_is [] ends d h k = absurd (omega (arith, h))
bit_is (n ∷ []) ends d h k = absurd (omega (arith, h))
bit_is (n ∷ b ∷ []) ends d h k = absurd (omega (arith, h))
bit_is (n ∷ b ∷ e ∷ more) ends d h k = rw d (few_by (nat_le (length (bytes_of more)) 7) (number_of n.bytes.now) (number_of b.bytes.now)
    (e.bytes.now ∷ bytes_of more) (few_bytes more (omega (arith, k))))

pub bit_short : (words : List Word) → length words < 3 → Err BadLine ≡ formed (option_map (λ (l : BitRec). Bit l) (bit_line (codes "bit" ∷ bytes_of words)))
unfolding bit_line
bit_short [] h = refl
bit_short (n ∷ []) h = refl
bit_short (n ∷ b ∷ []) h = refl
bit_short (n ∷ b ∷ e ∷ more) h = absurd (omega (arith, h))

pub all_numbers : (words : List Word) → are_numbers (bytes_of words) ≡ list_all (λ (word : Word). is_some (number_of word.bytes.now)) words
all_numbers words = list_all_map (λ w. is_some (number_of w)) (λ (word : Word). word.bytes.now) words

pub some_ends : (words : List Word) (none : Bool) → none ≡ (length (take (length words - 2) (drop 2 words)) == 0) → none ≡ false → 3 ≤ length words
some_ends words none h e =
    let same : length (take (length words - 2) (drop 2 words)) ≡ length (drop 2 words) = ap length (suffix words 2) in
    let count = length-drop 2 words in
    let test : (length (take (length words - 2) (drop 2 words)) == 0) ≡ false = sym h ∙ e in
    grind (arith, nat_tests)

pub no_ends : (words : List Word) (none : Bool) → none ≡ (length (take (length words - 2) (drop 2 words)) == 0) → none ≡ true → length words < 3
no_ends words none h e =
    let same : length (take (length words - 2) (drop 2 words)) ≡ length (drop 2 words) = ap length (suffix words 2) in
    let count = length-drop 2 words in
    let test : (length (take (length words - 2) (drop 2 words)) == 0) ≡ true = sym h ∙ e in
    grind (arith, nat_tests)
