-- The forms of lines by their first words.
use Rattle.std.proofs.Common.{◌≡◌, ℕ, ◌≤◌, ◌<◌, Bool, true, false, ◌&&◌, List, [], ◌∷◌, length, Option, Some, None, Result, Err, refl, sym, ap, ◌∙◌, option_map, nat_le, drop, arith}
use Rattle.std.specs.Prelude.{codes, if◌then◌else◌, ◌==◌}
use Rattle.std.proofs.lemmas.Bool.Decides.{nat_tests}
use Rattle.xs_text.specs.Numbers.{number_of}
use Rattle.xs_instructions.specs.Image.{same_name}
use Rattle.system_model.specs.declared.SysKind.{SysKind}
use Rattle.system_model.specs.declared.SysKind.TheVariants.{BadLine}
use Rattle.system_model.specs.declared.frame_line.FrameLine.{FrameLine}
use Rattle.system_model.specs.declared.frame_line.FrameLine.TheVariants.{Node, Link, Bit, Wire, Section}
use Rattle.system_model.specs.declared.frame_line.LinkLine.{LinkLine}
use Rattle.system_model.specs.declared.frame_line.NodeLine.{NodeLine}
use Rattle.system_model.specs.declared.frame_line.SectionKind.{SectionKind}
use Rattle.system_model.specs.declared.frame_line.WireLine.{WireLine}
use Rattle.system_model.specs.Bits.{BitRec}
use Rattle.system_model.specs.FrameLines.{◌>>=◌, node_line, link_line, net_of_words, end_name, bit_line, wire_line, section_line, frame_line, or_line}
use Rattle.system_text.specs.declared.words.Word.{Word}
use Rattle.system_text.specs.Forms.{formed}
use Rattle.system_text.specs.LineWords.{bytes_of}
use Rattle.system_text.proofs.Forms.{word_at, section_formed}
use Rattle.system_text.proofs.Lists.{no_more}
use Rattle.system_text.proofs.Networks.{read_as}

both : (a b : Bool) → (a && b) ≡ true → (a ≡ true) × (b ≡ true)
both true b e = (refl, e)
both false b e = cc

same_name_is : (s t : List ℕ) → same_name s t ≡ true → s ≡ t
same_name_is [] [] e = refl
same_name_is [] (d ∷ ds) e = absurd cc
same_name_is (c ∷ cs) [] e = absurd cc
same_name_is (c ∷ cs) (d ∷ ds) e =
    let p = both (c == d) (same_name cs ds) e in
    let first : c ≡ d = let q : (c == d) ≡ true = p.0 in grind (arith, nat_tests) in
    let rest = same_name_is cs ds p.1 in
    rw (first, rest) refl

-- A line of another name

node_other : (k : List ℕ) (ws : List (List ℕ)) → same_name (codes "node") k ≡ false → node_line (k ∷ ws) ≡ None
unfolding node_line
node_other k [] e = refl
node_other k (a ∷ []) e = refl
node_other k (a ∷ b ∷ []) e = refl
node_other k (a ∷ b ∷ c ∷ []) e = rw e refl
node_other k (a ∷ b ∷ c ∷ d ∷ ws) e = refl

link_other : (edition : ℕ) (k : List ℕ) (ws : List (List ℕ)) → same_name (codes "link") k ≡ false → link_line edition (k ∷ ws) ≡ None
unfolding link_line
link_other edition k [] e = refl
link_other edition k (a ∷ []) e = refl
link_other edition k (a ∷ b ∷ []) e = refl
link_other edition k (a ∷ b ∷ v ∷ []) e = refl
link_other edition k (a ∷ b ∷ v ∷ d ∷ []) e = refl
link_other edition k (a ∷ b ∷ v ∷ d ∷ w ∷ []) e = refl
link_other edition k (a ∷ b ∷ v ∷ d ∷ w ∷ g ∷ rest) e = rw e refl

bit_other : (k : List ℕ) (ws : List (List ℕ)) → same_name (codes "bit") k ≡ false → bit_line (k ∷ ws) ≡ None
unfolding bit_line
bit_other k [] e = refl
bit_other k (n ∷ []) e = refl
bit_other k (n ∷ b ∷ []) e = refl
bit_other k (n ∷ b ∷ x ∷ ws) e = rw e refl

wire_not : (a b c : Bool) → b ≡ false → {A : Type 0} (o : Option A) → (if a && (b && c) then o else None) ≡ None
wire_not true true c e o = cc
wire_not true false c e o = refl
wire_not false b c e o = refl

wire_other : (edition : ℕ) (k : List ℕ) (ws : List (List ℕ)) → same_name (codes "wire") k ≡ false → wire_line edition (k ∷ ws) ≡ None
unfolding wire_line
wire_other edition k [] e = refl
wire_other edition k (a ∷ []) e = refl
wire_other edition k (a ∷ b ∷ []) e = refl
wire_other edition k (a ∷ b ∷ v ∷ []) e = refl
wire_other edition k (a ∷ b ∷ v ∷ d ∷ []) e = wire_not (edition == 2) (same_name (codes "wire") k) (same_name (codes "delay") v) e _
wire_other edition k (a ∷ b ∷ v ∷ d ∷ w ∷ ws) e = refl

section_other : (k : List ℕ) (ws : List (List ℕ)) → same_name (codes "source") k ≡ false → same_name (codes "pins") k ≡ false
    → same_name (codes "play") k ≡ false → section_line (k ∷ ws) ≡ None
unfolding section_line
section_other k [] e f g = rw (f, g) refl
section_other k (n ∷ []) e f g = rw e refl
section_other k (n ∷ a ∷ ws) e f g = refl

by_forms : (edition : ℕ) (words : List (List ℕ)) (n : Option NodeLine) (l : Option LinkLine) (b : Option BitRec) (w : Option WireLine) (s : Option SectionKind) → node_line words ≡ n
    → link_line edition words ≡ l → bit_line words ≡ b → wire_line edition words ≡ w → section_line words ≡ s → frame_line edition words ≡ read_as n l b w s
unfolding frame_line
by_forms edition words n l b w s e f g h i = rw (e, f, g, h, i) refl

or_none : (o : Option FrameLine) → or_line o None ≡ o
or_none None = refl
or_none (Some l) = refl

is_node : (edition : ℕ) (k : List ℕ) (ws : List (List ℕ)) → same_name (codes "node") k ≡ true → frame_line edition (k ∷ ws) ≡ option_map (λ (l : NodeLine). Node l) (node_line (codes "node" ∷ ws))
is_node edition k ws e =
    rw (sym (same_name_is (codes "node") k e))
    (by_forms edition (codes "node" ∷ ws) (node_line (codes "node" ∷ ws)) None None None None refl (link_other edition (codes "node") ws refl) (bit_other (codes "node") ws refl)
    (wire_other edition (codes "node") ws refl) (section_other (codes "node") ws refl refl refl) ∙ or_none (option_map (λ (l : NodeLine). Node l) (node_line (codes "node" ∷ ws))))

is_link : (edition : ℕ) (k : List ℕ) (ws : List (List ℕ)) → same_name (codes "link") k ≡ true → frame_line edition (k ∷ ws) ≡ option_map (λ (l : LinkLine). Link l) (link_line edition (codes "link" ∷ ws))
is_link edition k ws e =
    rw (sym (same_name_is (codes "link") k e))
    (by_forms edition (codes "link" ∷ ws) None (link_line edition (codes "link" ∷ ws)) None None None (node_other (codes "link") ws refl) refl (bit_other (codes "link") ws refl)
    (wire_other edition (codes "link") ws refl) (section_other (codes "link") ws refl refl refl) ∙ or_none (option_map (λ (l : LinkLine). Link l) (link_line edition (codes "link" ∷ ws))))

is_bit : (edition : ℕ) (k : List ℕ) (ws : List (List ℕ)) → same_name (codes "bit") k ≡ true → frame_line edition (k ∷ ws) ≡ option_map (λ (l : BitRec). Bit l) (bit_line (codes "bit" ∷ ws))
is_bit edition k ws e =
    rw (sym (same_name_is (codes "bit") k e))
    (by_forms edition (codes "bit" ∷ ws) None None (bit_line (codes "bit" ∷ ws)) None None (node_other (codes "bit") ws refl) (link_other edition (codes "bit") ws refl) refl
    (wire_other edition (codes "bit") ws refl) (section_other (codes "bit") ws refl refl refl) ∙ or_none (option_map (λ (l : BitRec). Bit l) (bit_line (codes "bit" ∷ ws))))

is_wire : (edition : ℕ) (k : List ℕ) (ws : List (List ℕ)) → same_name (codes "wire") k ≡ true → frame_line edition (k ∷ ws) ≡ option_map (λ (l : WireLine). Wire l) (wire_line edition (codes "wire" ∷ ws))
is_wire edition k ws e =
    rw (sym (same_name_is (codes "wire") k e))
    (by_forms edition (codes "wire" ∷ ws) None None None (wire_line edition (codes "wire" ∷ ws)) None (node_other (codes "wire") ws refl) (link_other edition (codes "wire") ws refl)
    (bit_other (codes "wire") ws refl) refl (section_other (codes "wire") ws refl refl refl) ∙ or_none (option_map (λ (l : WireLine). Wire l) (wire_line edition (codes "wire" ∷ ws))))

-- of a name that no other form has
is_section : (edition : ℕ) (name k : List ℕ) (ws : List (List ℕ)) → same_name (codes "node") name ≡ false → same_name (codes "link") name ≡ false
    → same_name (codes "bit") name ≡ false → same_name (codes "wire") name ≡ false → same_name name k ≡ true
    → frame_line edition (k ∷ ws) ≡ option_map (λ (x : SectionKind). Section x) (section_line (name ∷ ws))
is_section edition name k ws n l b w e =
    rw (sym (same_name_is name k e))
    (by_forms edition (name ∷ ws) None None None None (section_line (name ∷ ws)) (node_other name ws n) (link_other edition name ws l) (bit_other name ws b) (wire_other edition name ws w) refl)

is_none : (edition : ℕ) (k : List ℕ) (ws : List (List ℕ)) → same_name (codes "node") k ≡ false → same_name (codes "link") k ≡ false → same_name (codes "bit") k ≡ false
    → same_name (codes "wire") k ≡ false → same_name (codes "source") k ≡ false → same_name (codes "pins") k ≡ false → same_name (codes "play") k ≡ false → frame_line edition (k ∷ ws) ≡ None
is_none edition k ws e f g w h i j =
    by_forms edition (k ∷ ws) None None None None None (node_other k ws e) (link_other edition k ws f) (bit_other k ws g) (wire_other edition k ws w) (section_other k ws h i j)

-- the first word and the others
parts : (words : List Word) → 1 ≤ length words → bytes_of words ≡ word_at words 0 ∷ bytes_of (drop 1 words)
parts [] h = absurd (omega (arith, h))
parts (w ∷ words) h = refl

pub node_named : (edition : ℕ) (words rest : List Word) (r : Result FrameLine SysKind) → rest ≡ drop 1 words → 1 ≤ length words
    → same_name (codes "node") (word_at words 0) ≡ true → r ≡ formed (option_map (λ (l : NodeLine). Node l) (node_line (codes "node" ∷ bytes_of rest)))
    → r ≡ formed (frame_line edition (bytes_of words))
node_named edition words rest r d h e i = rw d at i ∙ ap formed (sym (ap (frame_line edition) (parts words h) ∙ is_node edition (word_at words 0) (bytes_of (drop 1 words)) e))

pub link_named : (edition : ℕ) (words rest : List Word) (r : Result FrameLine SysKind) → rest ≡ drop 1 words → 1 ≤ length words
    → same_name (codes "link") (word_at words 0) ≡ true → r ≡ formed (option_map (λ (l : LinkLine). Link l) (link_line edition (codes "link" ∷ bytes_of rest)))
    → r ≡ formed (frame_line edition (bytes_of words))
link_named edition words rest r d h e i = rw d at i ∙ ap formed (sym (ap (frame_line edition) (parts words h) ∙ is_link edition (word_at words 0) (bytes_of (drop 1 words)) e))

pub bit_named : (edition : ℕ) (words rest : List Word) (r : Result FrameLine SysKind) → rest ≡ drop 1 words → 1 ≤ length words
    → same_name (codes "bit") (word_at words 0) ≡ true → r ≡ formed (option_map (λ (l : BitRec). Bit l) (bit_line (codes "bit" ∷ bytes_of rest)))
    → r ≡ formed (frame_line edition (bytes_of words))
bit_named edition words rest r d h e i = rw d at i ∙ ap formed (sym (ap (frame_line edition) (parts words h) ∙ is_bit edition (word_at words 0) (bytes_of (drop 1 words)) e))

pub wire_named : (edition : ℕ) (words rest : List Word) (r : Result FrameLine SysKind) → rest ≡ drop 1 words → 1 ≤ length words
    → same_name (codes "wire") (word_at words 0) ≡ true → r ≡ formed (option_map (λ (l : WireLine). Wire l) (wire_line edition (codes "wire" ∷ bytes_of rest)))
    → r ≡ formed (frame_line edition (bytes_of words))
wire_named edition words rest r d h e i = rw d at i ∙ ap formed (sym (ap (frame_line edition) (parts words h) ∙ is_wire edition (word_at words 0) (bytes_of (drop 1 words)) e))

section_named : (edition : ℕ) (name : List ℕ) (words rest : List Word) (r : Result FrameLine SysKind) → same_name (codes "node") name ≡ false → same_name (codes "link") name ≡ false
    → same_name (codes "bit") name ≡ false → same_name (codes "wire") name ≡ false → rest ≡ drop 1 words → 1 ≤ length words → same_name name (word_at words 0) ≡ true
    → r ≡ section_formed (section_line (name ∷ bytes_of rest)) → r ≡ formed (frame_line edition (bytes_of words))
section_named edition name words rest r n l b w d h e i = rw d at i ∙ ap formed (sym (ap (frame_line edition) (parts words h) ∙ is_section edition name (word_at words 0) (bytes_of (drop 1 words)) n l b w e))

pub source_named : (edition : ℕ) (words rest : List Word) (r : Result FrameLine SysKind) → rest ≡ drop 1 words → 1 ≤ length words
    → same_name (codes "source") (word_at words 0) ≡ true → r ≡ section_formed (section_line (codes "source" ∷ bytes_of rest)) → r ≡ formed (frame_line edition (bytes_of words))
source_named edition words rest r d h e i = section_named edition (codes "source") words rest r refl refl refl refl d h e i

pub pins_named : (edition : ℕ) (words rest : List Word) (r : Result FrameLine SysKind) → rest ≡ drop 1 words → 1 ≤ length words
    → same_name (codes "pins") (word_at words 0) ≡ true → r ≡ section_formed (section_line (codes "pins" ∷ bytes_of rest)) → r ≡ formed (frame_line edition (bytes_of words))
pins_named edition words rest r d h e i = section_named edition (codes "pins") words rest r refl refl refl refl d h e i

pub play_named : (edition : ℕ) (words rest : List Word) (r : Result FrameLine SysKind) → rest ≡ drop 1 words → 1 ≤ length words
    → same_name (codes "play") (word_at words 0) ≡ true → r ≡ section_formed (section_line (codes "play" ∷ bytes_of rest)) → r ≡ formed (frame_line edition (bytes_of words))
play_named edition words rest r d h e i = section_named edition (codes "play") words rest r refl refl refl refl d h e i

pub other_named : (edition : ℕ) (words : List Word) → 1 ≤ length words → same_name (codes "node") (word_at words 0) ≡ false
    → same_name (codes "link") (word_at words 0) ≡ false → same_name (codes "bit") (word_at words 0) ≡ false → same_name (codes "wire") (word_at words 0) ≡ false
    → same_name (codes "source") (word_at words 0) ≡ false → same_name (codes "pins") (word_at words 0) ≡ false
    → same_name (codes "play") (word_at words 0) ≡ false → Err BadLine ≡ formed (frame_line edition (bytes_of words))
other_named edition words h e f g w i j k = ap formed (sym (ap (frame_line edition) (parts words h) ∙ is_none edition (word_at words 0) (bytes_of (drop 1 words)) e f g w i j k))

frame_line-none : (edition : ℕ) → frame_line edition [] ≡ None
unfolding frame_line node_line link_line bit_line wire_line section_line
frame_line-none edition = refl

pub no_words : (edition : ℕ) (words : List Word) → length words < 1 → Err BadLine ≡ formed (frame_line edition (bytes_of words))
no_words edition words h = let none : words ≡ [] = no_more words (omega (arith, h)) in rw (none, frame_line-none edition) refl

-- More words than any form has

never : (b : Bool) {A : Type 0} (o : Option A) → (if b && false then o else None) ≡ None
never true o = refl
never false o = refl

bit_many : (k n b e f g h i : List ℕ) (more : List (List ℕ)) → 4 ≤ length more → bit_line (k ∷ n ∷ b ∷ e ∷ f ∷ g ∷ h ∷ i ∷ more) ≡ None
unfolding bit_line
bit_many k n b e f g h i more m =
    let many : nat_le (length (f ∷ g ∷ h ∷ i ∷ more)) 7 ≡ false = grind (arith, nat_tests) in
    rw many (never (same_name (codes "bit") k) _)

net_many : (edition : ℕ) (words : List (List ℕ)) → 2 < length words → net_of_words edition words ≡ None
net_many edition [] h = absurd (omega (arith, h))
net_many edition (u ∷ []) h = absurd (omega (arith, h))
net_many edition (u ∷ n ∷ []) h = absurd (omega (arith, h))
net_many edition (u ∷ n ∷ x ∷ words) h = refl

-- no part of a reading matters whose last step finds none
last_none : {A B C D E F : Type 0} (a : Option A) (b : Option B) (c : Option C) (d : Option D) (make : A → B → C → D → E → F)
    → (a >>= λ w. b >>= λ x. c >>= λ y. d >>= λ z. None >>= λ e. Some (make w x y z e)) ≡ None
last_none None b c d make = refl
last_none (Some w) None c d make = refl
last_none (Some w) (Some x) None d make = refl
last_none (Some w) (Some x) (Some y) None make = refl
last_none (Some w) (Some x) (Some y) (Some z) make = refl

none_either : (b : Bool) {A : Type 0} (o : Option A) → o ≡ None → (if b then o else None) ≡ None
none_either true o e = e
none_either false o e = refl

link_many : (edition : ℕ) (k x y v d w g : List ℕ) (rest : List (List ℕ)) → 2 < length rest → link_line edition (k ∷ x ∷ y ∷ v ∷ d ∷ w ∷ g ∷ rest) ≡ None
unfolding link_line
link_many edition k x y v d w g rest h =
    rw (net_many edition rest h) (none_either _ _ (last_none (end_name x) (end_name y) (number_of d) (number_of g) (λ a b delay gap net. record { a = a; b = b; delay = delay; gap = gap; net = net })))

pub many_words : (edition : ℕ) (words : List (List ℕ)) → 11 < length words → frame_line edition words ≡ None
unfolding node_line wire_line section_line
many_words edition [] h = absurd (omega (arith, h))
many_words edition (a ∷ []) h = absurd (omega (arith, h))
many_words edition (a ∷ b ∷ []) h = absurd (omega (arith, h))
many_words edition (a ∷ b ∷ c ∷ []) h = absurd (omega (arith, h))
many_words edition (a ∷ b ∷ c ∷ d ∷ []) h = absurd (omega (arith, h))
many_words edition (a ∷ b ∷ c ∷ d ∷ e ∷ []) h = absurd (omega (arith, h))
many_words edition (a ∷ b ∷ c ∷ d ∷ e ∷ f ∷ []) h = absurd (omega (arith, h))
many_words edition (a ∷ b ∷ c ∷ d ∷ e ∷ f ∷ g ∷ []) h = absurd (omega (arith, h))
many_words edition (a ∷ b ∷ c ∷ d ∷ e ∷ f ∷ g ∷ i ∷ more) h =
    by_forms edition (a ∷ b ∷ c ∷ d ∷ e ∷ f ∷ g ∷ i ∷ more) None None None None None refl (link_many edition a b c d e f g (i ∷ more) (omega (arith, h)))
    (bit_many a b c d e f g i more (omega (arith, h))) refl refl

pub too_many : (edition : ℕ) (words : List (List ℕ)) (kind : SysKind) → kind ≡ BadLine → 11 < length words → Err kind ≡ formed (frame_line edition words)
too_many edition words kind e h = rw (e, many_words edition words h) refl
