-- The forms of lines, from their words.
use Rattle.std.proofs.Common.{◌≡◌, ℕ, ◌+◌, ◌≤◌, ◌<◌, get_or, Bool, true, false, ◌&&◌, List, [], ◌∷◌, length, Option, Some, None, Result, Ok, Err, refl, sym, ap, ◌∙◌, option_map, nat_le, take, drop, ◌-◌, arith}
use Rattle.std.specs.Prelude.{codes, if◌then◌else◌, IsErrAnd}
use Rattle.std.proofs.lemmas.Bool.Decides.{nat_tests}
use Rattle.xs_text.specs.Numbers.{number_of}
use Rattle.xs_instructions.specs.Image.{same_name}
use Rattle.system_model.specs.declared.SysKind.{SysKind}
use Rattle.system_model.specs.declared.SysKind.TheVariants.{BadLine}
use Rattle.system_model.specs.declared.frame_line.EndName.{EndName}
use Rattle.system_model.specs.declared.frame_line.FrameLine.{FrameLine}
use Rattle.system_model.specs.declared.frame_line.FrameLine.TheVariants.{Node, Link, Section}
use Rattle.system_model.specs.declared.frame_line.LinkLine.{LinkLine}
use Rattle.system_model.specs.declared.frame_line.NodeLine.{NodeLine}
use Rattle.system_model.specs.declared.frame_line.SectionKind.{SectionKind}
use Rattle.system_model.specs.declared.frame_line.SectionKind.TheVariants.{Source, Pins, Play}
use Rattle.system_model.specs.FrameLines.{◌>>=◌, node_line, link_line, net_of_words, section_line, end_name, before_colon, is_between, is_end_in_range}
use Rattle.system_text.specs.declared.frame_lines.NamedEnd.{NamedEnd}
use Rattle.system_text.specs.declared.words.Word.{Word}
use Rattle.system_text.specs.Forms.{ranged, or_bad, formed, capped, capped_end, is_in_range, end_of}
use Rattle.system_text.specs.LineWords.{bytes_of}
use Rattle.system_text.proofs.Lists.{none_left, suffix}

-- the next step of a reading, or its error
abbrev pub chain : {A B : Type 0} → Result A SysKind → (A → Result B SysKind) → Result B SysKind
chain (Ok x) f = f x
chain (Err kind) f = Err kind

-- a number as it is read
abbrev pub read : Option ℕ → Result ℕ SysKind
read o = or_bad (option_map capped o)

ranged_by : (b : Bool) (m n : ℕ) → (b ≡ true → m ≡ n) → ranged b m ≡ ranged b n
ranged_by true m n h = ap (λ (k : ℕ). Ok k) (h refl)
ranged_by false m n h = refl

-- a range ends below the greatest number, so it holds the numbers that it holds
pub up_to_capped : (most n : ℕ) → most ≤ 65535 → ranged (nat_le (capped n) most) (capped n) ≡ ranged (nat_le n most) n
up_to_capped most n h =
    let same : nat_le (capped n) most ≡ nat_le n most = grind (arith, nat_tests) in
    rw same (ranged_by (nat_le n most) (capped n) n (λ e. grind (arith, nat_tests)))

-- Nodes

abbrev node_of : Option ℕ → Option ℕ → Option NodeLine
node_of p q = p >>= λ number. q >>= λ id. Some (record { number = number; id = id })

both_ranged : (b c : Bool) (n i : ℕ) → ranged (b && c) (Node (record { number = n; id = i })) ≡ chain (ranged b n) (λ m. chain (ranged c i) (λ j. Ok (Node (record { number = m; id = j }))))
both_ranged true true n i = refl
both_ranged true false n i = refl
both_ranged false c n i = refl

abbrev pub node_ranged : ℕ → ℕ → Result FrameLine SysKind
node_ranged n i = chain (ranged (nat_le n 99) n) (λ m. chain (ranged (nat_le i 65535) i) (λ j. Ok (Node (record { number = m; id = j }))))

node_steps : (p q : Option ℕ) → formed (option_map (λ (l : NodeLine). Node l) (node_of p q)) ≡ chain (read p) (λ n. chain (read q) (λ i. node_ranged n i))
node_steps None q = refl
node_steps (Some n) None = refl
node_steps (Some n) (Some i) =
    rw (up_to_capped 99 n (omega arith), up_to_capped 65535 i (omega arith)) (both_ranged (nat_le n 99) (nat_le i 65535) n i)

pub node_other : (words : List Word) → (length words ≡ 3 → ⊥) → Err BadLine ≡ formed (option_map (λ (l : NodeLine). Node l) (node_line (codes "node" ∷ bytes_of words)))
unfolding node_line
node_other [] h = refl
node_other (a ∷ []) h = refl
node_other (a ∷ b ∷ []) h = refl
node_other (a ∷ b ∷ c ∷ []) h = absurd (h refl)
node_other (a ∷ b ∷ c ∷ d ∷ words) h = refl

-- the word that is read where there is none
abbrev pub blank : Word
blank = record { bytes = record { ref_ptr = (0, 0); now = [] } }

abbrev pub word_at : List Word → ℕ → List ℕ
word_at words k = (get_or words k blank).bytes.now

-- what a reading tells that stops at an error
pub told : {A : Type 0} (r f : Result A SysKind) (kind : SysKind) → IsErrAnd r (λ e. e ≡ kind) → Err kind ≡ f → r ≡ f
told (Ok x) f kind h e = absurd h
told (Err k) f kind h e = ap (λ (x : SysKind). Err x) h ∙ e

node_by : (s : Bool) (p q : Option ℕ) → s ≡ true → formed (option_map (λ (l : NodeLine). Node l) (if s then node_of p q else None)) ≡ chain (read p) (λ n. chain (read q) (λ i. node_ranged n i))
node_by true p q e = node_steps p q
node_by false p q e = cc

pub node_is : (words : List Word) → 3 ≤ length words → length words < 4 → same_name (codes "id") (word_at words 1) ≡ true
    → formed (option_map (λ (l : NodeLine). Node l) (node_line (codes "node" ∷ bytes_of words))) ≡ chain (read (number_of (word_at words 0)))
    (λ n. chain (read (number_of (word_at words 2))) (λ i. node_ranged n i))
unfolding node_line
node_is [] h k e = absurd (omega (arith, h))
node_is (a ∷ []) h k e = absurd (omega (arith, h))
node_is (a ∷ b ∷ []) h k e = absurd (omega (arith, h))
node_is (a ∷ b ∷ c ∷ []) h k e = node_by (same_name (codes "id") b.bytes.now) (number_of a.bytes.now) (number_of c.bytes.now) e
node_is (a ∷ b ∷ c ∷ d ∷ words) h k e = absurd (omega (arith, k))

pub node_not : (words : List Word) → 3 ≤ length words → length words < 4 → same_name (codes "id") (word_at words 1) ≡ false
    → Err BadLine ≡ formed (option_map (λ (l : NodeLine). Node l) (node_line (codes "node" ∷ bytes_of words)))
unfolding node_line
node_not [] h k e = refl
node_not (a ∷ []) h k e = refl
node_not (a ∷ b ∷ []) h k e = refl
node_not (a ∷ b ∷ c ∷ []) h k e = rw e refl
node_not (a ∷ b ∷ c ∷ d ∷ words) h k e = refl

-- Sections

abbrev pub section_formed : Option SectionKind → Result FrameLine SysKind
section_formed o = formed (option_map (λ (kind : SectionKind). Section kind) o)

pub source_other : (words : List Word) → (length words ≡ 1 → ⊥) → Err BadLine ≡ section_formed (section_line (codes "source" ∷ bytes_of words))
unfolding section_line
source_other [] h = refl
source_other (a ∷ []) h = absurd (h refl)
source_other (a ∷ b ∷ words) h = refl

abbrev pub source_ranged : ℕ → Result FrameLine SysKind
source_ranged n = chain (ranged (nat_le n 99) n) (λ m. Ok (Section (Source m)))

one_ranged : (b : Bool) (n : ℕ) → ranged b (Section (Source n)) ≡ chain (ranged b n) (λ m. Ok (Section (Source m)))
one_ranged true n = refl
one_ranged false n = refl

source_steps : (p : Option ℕ) → section_formed (option_map (λ (n : ℕ). Source n) p) ≡ chain (read p) (λ n. source_ranged n)
source_steps None = refl
source_steps (Some n) = rw (up_to_capped 99 n (omega arith)) (one_ranged (nat_le n 99) n)

pub source_is : (words : List Word) → 1 ≤ length words → length words < 2
    → section_formed (section_line (codes "source" ∷ bytes_of words)) ≡ chain (read (number_of (word_at words 0)))
    (λ n. source_ranged n)
unfolding section_line
source_is [] h k = absurd (omega (arith, h))
source_is (a ∷ []) h k = source_steps (number_of a.bytes.now)
source_is (a ∷ b ∷ words) h k = absurd (omega (arith, k))

pub pins_is : (words : List Word) → length words ≡ 0 → Ok (Section Pins) ≡ section_formed (section_line (codes "pins" ∷ bytes_of words))
unfolding section_line
pins_is [] e = refl
pins_is (a ∷ words) e = absurd (omega (arith, e))

pub pins_other : (words : List Word) → (length words ≡ 0 → ⊥) → Err BadLine ≡ section_formed (section_line (codes "pins" ∷ bytes_of words))
unfolding section_line
pins_other [] h = absurd (h refl)
pins_other (a ∷ []) h = refl
pins_other (a ∷ b ∷ words) h = refl

pub play_is : (words : List Word) → length words ≡ 0 → Ok (Section Play) ≡ section_formed (section_line (codes "play" ∷ bytes_of words))
unfolding section_line
play_is [] e = refl
play_is (a ∷ words) e = absurd (omega (arith, e))

pub play_other : (words : List Word) → (length words ≡ 0 → ⊥) → Err BadLine ≡ section_formed (section_line (codes "play" ∷ bytes_of words))
unfolding section_line
play_other [] h = absurd (h refl)
play_other (a ∷ []) h = refl
play_other (a ∷ b ∷ words) h = refl

-- The names of link ends

name_steps : (p q : Option ℕ) → or_bad (option_map capped_end (p >>= λ node. q >>= λ end. Some (record { node = node; end = end }))) ≡ chain (read p)
    (λ n. chain (read q) (λ e. Ok (record { node = n; end = e })))
name_steps None q = refl
name_steps (Some n) None = refl
name_steps (Some n) (Some e) = refl

pub name_is : (word : List ℕ) (colon : ℕ) → colon ≡ before_colon word
    → or_bad (option_map capped_end (end_name word)) ≡ chain (read (number_of (take colon word)))
    (λ n. chain (read (number_of (take (length word - (colon + 1)) (drop (colon + 1) word)))) (λ e. Ok (record { node = n; end = e })))
unfolding end_name
name_is word colon is = rw (suffix word (colon + 1), sym is) (name_steps (number_of (take colon word)) (number_of (drop (colon + 1) word)))

none_by : (p q : Option ℕ) → q ≡ None → Err BadLine ≡ or_bad (option_map capped_end (p >>= λ node. q >>= λ end. Some (record { node = node; end = end })))
none_by None q e = refl
none_by (Some n) q e = rw e refl

pub name_none : (word : List ℕ) (colon : ℕ) → colon ≡ before_colon word → colon ≡ length word → Err BadLine ≡ or_bad (option_map capped_end (end_name word))
unfolding end_name
name_none word colon is past =
    let none : drop (before_colon word + 1) word ≡ [] = none_left word (before_colon word + 1) (omega arith) in
    none_by (number_of (take (before_colon word) word)) (number_of (drop (before_colon word + 1) word)) (ap (λ w. number_of w) none)

-- Links

end_by : (b c : Bool) (m n k l : ℕ) → (b ≡ true → m ≡ n) → (c ≡ true → k ≡ l) → ranged {A = EndName} (b && c) (record { node = m; end = k }) ≡ ranged (b && c) (record { node = n; end = l })
end_by true true m n k l f g = rw (f refl, g refl) refl
end_by true false m n k l f g = refl
end_by false c m n k l f g = refl

pub end_capped : (name : EndName) → ranged (is_in_range (capped_end name)) (end_of (capped_end name)) ≡ ranged (is_end_in_range name) name
end_capped name =
    let node : nat_le (capped name.node) 99 ≡ nat_le name.node 99 = grind (arith, nat_tests) in
    let end : nat_le (capped name.end) 7 ≡ nat_le name.end 7 = grind (arith, nat_tests) in
    rw (node, end) (end_by (nat_le name.node 99) (nat_le name.end 7) (capped name.node) name.node (capped name.end) name.end (λ e. grind (arith, nat_tests)) (λ e. grind (arith, nat_tests)))

past_by : (b c : Bool) (m n : ℕ) → ranged (b && false) m ≡ ranged (c && false) n
past_by true true m n = refl
past_by true false m n = refl
past_by false true m n = refl
past_by false false m n = refl

between_by : (least most n : ℕ) (b : Bool) → most ≤ 4294967294 → nat_le n most ≡ b → ranged (is_between least most (capped n)) (capped n) ≡ ranged (is_between least most n) n
between_by least most n true h e = let same : capped n ≡ n = grind (arith, nat_tests) in rw same refl
between_by least most n false h e =
    let past : nat_le (capped n) most ≡ false = grind (arith, nat_tests) in
    rw (past, e) (past_by (nat_le least (capped n)) (nat_le least n) (capped n) n)

pub between_capped : (least most n : ℕ) → most ≤ 4294967294 → ranged (is_between least most (capped n)) (capped n) ≡ ranged (is_between least most n) n
between_capped least most n h = between_by least most n (nat_le n most) h refl

abbrev pub link_of : Option EndName → Option EndName → Option ℕ → Option ℕ → Option ℕ → Option LinkLine
link_of p q d g k = p >>= λ a. q >>= λ b. d >>= λ delay. g >>= λ gap. k >>= λ net. Some (record { a = a; b = b; delay = delay; gap = gap; net = net })

abbrev made_link : EndName → EndName → ℕ → ℕ → ℕ → FrameLine
made_link a b delay gap net = Link (record { a = a; b = b; delay = delay; gap = gap; net = net })

all_ranged : (s t u v w : Bool) (a b : EndName) (d g k : ℕ) → ranged (s && (t && (u && (v && w)))) (made_link a b d g k) ≡ chain (ranged s a)
    (λ x. chain (ranged t b) (λ y. chain (ranged u d) (λ m. chain (ranged v g) (λ n. chain (ranged w k) (λ o. Ok (made_link x y m n o))))))
all_ranged true true true true true a b d g k = refl
all_ranged true true true true false a b d g k = refl
all_ranged true true true false w a b d g k = refl
all_ranged true true false v w a b d g k = refl
all_ranged true false u v w a b d g k = refl
all_ranged false t u v w a b d g k = refl

abbrev pub link_ranged : NamedEnd → NamedEnd → ℕ → ℕ → ℕ → Result FrameLine SysKind
link_ranged a b d g k =
    chain (ranged (is_in_range a) (end_of a)) (λ x. chain (ranged (is_in_range b) (end_of b))
    (λ y. chain (ranged (is_between 1 1000 d) d) (λ m. chain (ranged (is_between 4 1000 g) g)
    (λ n. chain (ranged (nat_le k 3) k) (λ o. Ok (Link (record { a = x; b = y; delay = m; gap = n; net = o })))))))

-- a link end as it is read
abbrev pub read_end : Option EndName → Result NamedEnd SysKind
read_end o = or_bad (option_map capped_end o)

-- a link whose parts are read so
abbrev pub link_read : Option EndName → Option EndName → Option ℕ → Option ℕ → Option ℕ → Result FrameLine SysKind
link_read p q d g k =
    chain (read_end p) (λ a. chain (read_end q) (λ b. chain (read d) (λ m. chain (read g) (λ n. chain (read k) (λ o. link_ranged a b m n o)))))

link_steps : (p q : Option EndName) (d g k : Option ℕ) → formed (option_map (λ (l : LinkLine). Link l) (link_of p q d g k)) ≡ link_read p q d g k
link_steps None q d g k = refl
link_steps (Some a) None d g k = refl
link_steps (Some a) (Some b) None g k = refl
link_steps (Some a) (Some b) (Some m) None k = refl
link_steps (Some a) (Some b) (Some m) (Some n) None = refl
link_steps (Some a) (Some b) (Some m) (Some n) (Some o) =
    rw (end_capped a, end_capped b, between_capped 1 1000 m (omega arith), between_capped 4 1000 n (omega arith), up_to_capped 3 o (omega arith))
    (all_ranged (is_end_in_range a) (is_end_in_range b) (is_between 1 1000 m) (is_between 4 1000 n) (nat_le o 3) a b m n o)

link_by : (s t : Bool) (p q : Option EndName) (d g k : Option ℕ) → s ≡ true → t ≡ true
    → formed (option_map (λ (l : LinkLine). Link l) (if s && t then link_of p q d g k else None)) ≡ link_read p q d g k
link_by true true p q d g k e f = link_steps p q d g k
link_by true false p q d g k e f = cc
link_by false t p q d g k e f = cc

-- a link by the words after `link`, of which these are the ones after its gap
abbrev pub link_by_words : ℕ → List Word → List Word → Result FrameLine SysKind
link_by_words edition words rest =
    link_read (end_name (word_at words 0)) (end_name (word_at words 1)) (number_of (word_at words 3)) (number_of (word_at words 5)) (net_of_words edition (bytes_of rest))

pub link_is : (edition : ℕ) (words rest : List Word) → rest ≡ drop 6 words → 6 ≤ length words → same_name (codes "delay") (word_at words 2) ≡ true
    → same_name (codes "gap") (word_at words 4) ≡ true
    → formed (option_map (λ (l : LinkLine). Link l) (link_line edition (codes "link" ∷ bytes_of words))) ≡ link_by_words edition words rest
unfolding link_line
link_is edition [] rest r h e f = absurd (omega (arith, h))
link_is edition (a ∷ []) rest r h e f = absurd (omega (arith, h))
link_is edition (a ∷ b ∷ []) rest r h e f = absurd (omega (arith, h))
link_is edition (a ∷ b ∷ v ∷ []) rest r h e f = absurd (omega (arith, h))
link_is edition (a ∷ b ∷ v ∷ d ∷ []) rest r h e f = absurd (omega (arith, h))
link_is edition (a ∷ b ∷ v ∷ d ∷ w ∷ []) rest r h e f = absurd (omega (arith, h))
link_is edition (a ∷ b ∷ v ∷ d ∷ w ∷ g ∷ words) rest r h e f =
    rw r
    (link_by (same_name (codes "delay") v.bytes.now) (same_name (codes "gap") w.bytes.now) (end_name a.bytes.now) (end_name b.bytes.now) (number_of d.bytes.now) (number_of g.bytes.now)
    (net_of_words edition (bytes_of words)) e f)

not_by : (s t : Bool) (o : Option LinkLine) → (s && t) ≡ false → Err BadLine ≡ formed (option_map (λ (l : LinkLine). Link l) (if s && t then o else None))
not_by s t o e = rw e refl

pub link_not : (edition : ℕ) (words : List Word) → (same_name (codes "delay") (word_at words 2) && same_name (codes "gap") (word_at words 4)) ≡ false
    → Err BadLine ≡ formed (option_map (λ (l : LinkLine). Link l) (link_line edition (codes "link" ∷ bytes_of words)))
unfolding link_line
link_not edition [] e = refl
link_not edition (a ∷ []) e = refl
link_not edition (a ∷ b ∷ []) e = refl
link_not edition (a ∷ b ∷ v ∷ []) e = refl
link_not edition (a ∷ b ∷ v ∷ d ∷ []) e = refl
link_not edition (a ∷ b ∷ v ∷ d ∷ w ∷ []) e = refl
link_not edition (a ∷ b ∷ v ∷ d ∷ w ∷ g ∷ rest) e =
    not_by (same_name (codes "delay") v.bytes.now) (same_name (codes "gap") w.bytes.now)
    (link_of (end_name a.bytes.now) (end_name b.bytes.now) (number_of d.bytes.now) (number_of g.bytes.now) (net_of_words edition (bytes_of rest))) e

pub no_delay : (b c : Bool) → b ≡ false → (b && c) ≡ false
no_delay true c e = cc
no_delay false c e = refl

pub no_gap : (b c : Bool) → b ≡ true → c ≡ false → (b && c) ≡ false
no_gap true c e f = f
no_gap false c e f = refl

-- words too few for a link
pub link_short : (edition : ℕ) (words : List Word) → length words < 6
    → Err BadLine ≡ formed (option_map (λ (l : LinkLine). Link l) (link_line edition (codes "link" ∷ bytes_of words)))
unfolding link_line
link_short edition [] h = refl
link_short edition (a ∷ []) h = refl
link_short edition (a ∷ b ∷ []) h = refl
link_short edition (a ∷ b ∷ v ∷ []) h = refl
link_short edition (a ∷ b ∷ v ∷ d ∷ []) h = refl
link_short edition (a ∷ b ∷ v ∷ d ∷ w ∷ []) h = refl
link_short edition (a ∷ b ∷ v ∷ d ∷ w ∷ g ∷ rest) h = absurd (omega (arith, h))

-- words that name no network
pub net_other : (edition : ℕ) (words : List Word) → (length words ≡ 0 → ⊥) → (length words ≡ 2 → ⊥) → Err BadLine ≡ read (net_of_words edition (bytes_of words))
net_other edition [] h k = absurd (h refl)
net_other edition (u ∷ []) h k = refl
net_other edition (u ∷ n ∷ []) h k = absurd (k refl)
net_other edition (u ∷ n ∷ x ∷ words) h k = refl
