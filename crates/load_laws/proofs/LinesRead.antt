-- The lines of a load are read as what they were written for, one by one.
use Rattle.std.proofs.Common.{◌≡◌, ℕ, zero, suc, ◌+◌, ◌*◌, ◌/◌, ◌%◌, ◌<◌, ◌≤◌, Bool, true, false, nat_lt, ◌==◌, List, [], ◌∷◌, ◌++◌, length, map, refl, sym, ap, ◌∙◌, append_assoc, length-append, arith}
use Rattle.std.specs.Prelude.{Some, if◌then◌else◌, unwrap_or, decimal, codes}
use Rattle.std.specs.List.{AllByRecursion, flat_map}
use Rattle.std.specs.Int as int
use Rattle.std.proofs.lemmas.Bool.{and_from}
use Rattle.std.proofs.lemmas.Bool.Decides.{nat_tests}
use Rattle.std.proofs.lemmas.List.{length-map}
use Rattle.std.proofs.lemmas.List.FromFn.{length-range_with_len}
use Rattle.xs_text.specs.Bytes.{is_allowed, all_allowed}
use Rattle.xs_text.specs.Lines.{lines_of}
use Rattle.xs_text.specs.Words.{words_of_line}
use Rattle.net_model.specs.Ways.{first_difference}
use Rattle.trace_model.specs.EventLines.{hex_digit, hex_digit_at, hex_word}
use Rattle.system_model.specs.declared.frame_line.FrameLine.TheVariants.{Node, Link, Bit, Section}
use Rattle.system_model.specs.declared.frame_line.SectionKind.TheVariants.{Source}
use Rattle.system_model.specs.FrameLines.{frame_line, is_end, same_words}
use Rattle.system_model.specs.System.{longest_input}
use Rattle.load_model.specs.Load.{node_count, node_numbers, next_node, delay_at, gap_at, route_bit_at, destination_at, first_word_at, node_text, link_text, bit_text, source_text, program, data_text, source_lines, node_section, load_lines, load_text}
use Rattle.load_laws.proofs.PlainWords.{is_plain_word, words_next, words_last, words_after_blank}
use Rattle.load_laws.proofs.NumbersRead.{IsNumberWord, number_word, end_word}
use Rattle.load_laws.proofs.FormsRead.{node_form, link_form, bit_form, source_form}
use Rattle.load_laws.proofs.TextRead.{IsFineLine, allowed_append, fine_append, fine_map, fine_flat_map, all_fine, lines_of-text, length-text, length-flat_lines}

-- ---- The numbers of a load

-- the number of a node is below 16
next_node_small : (n i : ℕ) → next_node n i < 16
next_node_small n i = omega arith

-- a delay is at most 50
delay_small : (n i : ℕ) → delay_at n i < 100
delay_small n i = omega arith

-- a gap is at most 8
gap_small : (i : ℕ) → gap_at i < 100
gap_small i = omega arith

-- a difference is below the count of bits that are looked at
difference_small : (k a b : ℕ) → unwrap_or (first_difference k a b) 0 ≤ k
unfolding first_difference
difference_small zero a b = omega arith
difference_small (suc k) a b =
    elim (int.bit_at a k == int.bit_at b k) as (λ (t : Bool). unwrap_or (if t then first_difference k a b else Some k) 0 ≤ suc k) [
      | true ↦ (let e = difference_small k a b in omega (arith, e))
      | false ↦ omega arith
    ]

-- a bit of an id is below 16
bit_small : (n i : ℕ) → route_bit_at n i < 100
bit_small n i = let e = difference_small 16 i (next_node n i) in omega (arith, e)

-- the number of a node in decimal
number_of_node : (i : ℕ) → i < 16 → IsNumberWord i (decimal i)
number_of_node i h = number_word i (omega arith)

-- the number of the node after it in decimal
next_number : (n i : ℕ) → IsNumberWord (next_node n i) (decimal (next_node n i))
next_number n i = let e = next_node_small n i in number_word (next_node n i) (omega (arith, e))

-- ---- The bytes of the lines

-- the bytes of the line of a node
pub node_allowed : (i : ℕ) → i < 16 → all_allowed (node_text i) ≡ true
node_allowed i h =
    let d = number_of_node i h in
    allowed_append (decimal i) (codes " id " ++ decimal i) d.allowed d.allowed

-- the bytes of the line of a link
pub link_allowed : (n i : ℕ) → n < 4294967296 → i < 16 → all_allowed (link_text n i) ≡ true
link_allowed n i k h =
    let gaps : all_allowed (codes " gap " ++ decimal (gap_at i)) ≡ true = (number_word (gap_at i) (gap_small i)).allowed in
    let delays : all_allowed (codes ":1 delay " ++ (decimal (delay_at n i) ++ (codes " gap " ++ decimal (gap_at i)))) ≡ true =
    allowed_append (decimal (delay_at n i)) (codes " gap " ++ decimal (gap_at i)) (number_word (delay_at n i) (delay_small n i)).allowed gaps
    in
    allowed_append (decimal i) _ (number_of_node i h).allowed (allowed_append (decimal (next_node n i)) _ (next_number n i).allowed delays)

-- the bytes of the line of a bit
pub bit_allowed : (n i : ℕ) → n < 4294967296 → i < 16 → all_allowed (bit_text n i) ≡ true
bit_allowed n i k h =
    allowed_append (decimal i) (codes " " ++ (decimal (route_bit_at n i) ++ codes " 0")) (number_of_node i h).allowed
    (allowed_append (decimal (route_bit_at n i)) (codes " 0") (number_word (route_bit_at n i) (bit_small n i)).allowed refl)

-- the bytes of the line that begins a source
pub source_allowed : (i : ℕ) → i < 16 → all_allowed (source_text i) ≡ true
source_allowed i h = (number_of_node i h).allowed

-- a hex digit is a letter or a digit
digit_allowed : (d : ℕ) → d < 16 → is_allowed (hex_digit d) ≡ true
digit_allowed d h = grind (arith, nat_tests)

-- a hex digit of a number
digit_at_allowed : (unit n : ℕ) → is_allowed (hex_digit_at unit n) ≡ true
digit_at_allowed unit n = digit_allowed (n / unit % 16) (omega arith)

-- some hex digits of a number
digits_allowed : (w : ℕ) (units : List ℕ) → all_allowed (map (λ (unit : ℕ). hex_digit_at unit w) units) ≡ true
digits_allowed w [] = refl
digits_allowed w (unit ∷ units) = and_from _ _ (digit_at_allowed unit w) (digits_allowed w units)

-- the bytes of a number in hex
hex_allowed : (w : ℕ) → all_allowed (hex_word w) ≡ true
unfolding hex_word
hex_allowed w = digits_allowed w (0x10000000 ∷ 0x1000000 ∷ 0x100000 ∷ 0x10000 ∷ 0x1000 ∷ 0x100 ∷ 0x10 ∷ 1 ∷ [])

-- a number in hex has ten bytes
length-hex : (w : ℕ) → length (hex_word w) ≡ 10
unfolding hex_word
length-hex w = refl

-- the bytes of the line of data
data_allowed : (target value : ℕ) → all_allowed (data_text target value) ≡ true
data_allowed target value =
    allowed_append (hex_word target) (codes ", " ++ (hex_word value ++ codes ", 200, 1664525, 1013904223")) (hex_allowed target)
    (allowed_append (hex_word value) (codes ", 200, 1664525, 1013904223") (hex_allowed value) refl)

-- ---- The text as a whole

-- the line of a node is not long
node_fine : (i : ℕ) → i < 16 → IsFineLine (node_text i)
node_fine i h =
    let d = number_of_node i h in
    record { allowed = node_allowed i h; short = omega (arith, d.short, length-append (decimal i) (codes " id " ++ decimal i)) }

-- the line of a link is not long
link_fine : (n i : ℕ) → n < 4294967296 → i < 16 → IsFineLine (link_text n i)
link_fine n i k h =
    record {
      allowed = link_allowed n i k h;
      short = (
          let d = number_of_node i h in
          let e = next_number n i in
          let f = number_word (delay_at n i) (delay_small n i) in
          let g = number_word (gap_at i) (gap_small i) in
          let gaps = codes " gap " ++ decimal (gap_at i) in
          let delays = codes ":1 delay " ++ (decimal (delay_at n i) ++ gaps) in
          omega (
            arith,
            d.short,
            e.short,
            f.short,
            g.short,
            length-append (decimal i) (codes ":0 " ++ (decimal (next_node n i) ++ delays)),
            length-append (decimal (next_node n i)) delays,
            length-append (decimal (delay_at n i)) gaps,
          )
          );
    }

-- the line of a bit is not long
bit_fine : (n i : ℕ) → n < 4294967296 → i < 16 → IsFineLine (bit_text n i)
bit_fine n i k h =
    record {
      allowed = bit_allowed n i k h;
      short = (
          let d = number_of_node i h in
          let e = number_word (route_bit_at n i) (bit_small n i) in
          omega (
            arith,
            d.short,
            e.short,
            length-append (decimal i) (codes " " ++ (decimal (route_bit_at n i) ++ codes " 0")),
            length-append (decimal (route_bit_at n i)) (codes " 0"),
          )
          );
    }

-- the line that begins a source is not long
source_fine : (i : ℕ) → i < 16 → IsFineLine (source_text i)
source_fine i h =
    let d = number_of_node i h in
    record { allowed = source_allowed i h; short = omega (arith, d.short) }

-- the line of data is not long
data_fine : (target value : ℕ) → IsFineLine (data_text target value)
data_fine target value =
    record {
      allowed = data_allowed target value;
      short = omega (
        arith,
        length-hex target,
        length-hex value,
        length-append (hex_word target) (codes ", " ++ (hex_word value ++ codes ", 200, 1664525, 1013904223")),
        length-append (hex_word value) (codes ", 200, 1664525, 1013904223"),
      );
    }

-- nor are the lines that all sources have
program_fine : AllByRecursion IsFineLine program
program_fine = all_fine program refl

-- nor is the end of a section
end_fine : AllByRecursion IsFineLine (codes "end" ∷ [])
end_fine = all_fine (codes "end" ∷ []) refl

-- the lines of a section
section_fine : (n i : ℕ) → i < 16 → AllByRecursion IsFineLine (node_section n i)
section_fine n i h =
    let data_line : AllByRecursion IsFineLine (data_text (destination_at n i) (first_word_at n i) ∷ []) = (data_fine (destination_at n i) (first_word_at n i), tt) in (
      source_fine i h,
      fine_append (source_lines (destination_at n i) (first_word_at n i)) (codes "end" ∷ [])
          (fine_append program (data_text (destination_at n i) (first_word_at n i) ∷ []) program_fine data_line) end_fine,
    )

-- all lines of a load
load_fine : (n : ℕ) → n < 4294967296 → AllByRecursion IsFineLine (load_lines n)
load_fine n h =
    let few : 0 + node_count n ≤ 16 = omega arith in
    let head : AllByRecursion IsFineLine (codes "xs1 1" ∷ []) = all_fine (codes "xs1 1" ∷ []) refl in
    let nodes = fine_map node_text 0 (node_count n) few node_fine in
    let links = fine_map (link_text n) 0 (node_count n) few (λ i. link_fine n i h) in
    let bits = fine_map (bit_text n) 0 (node_count n) few (λ i. bit_fine n i h) in
    let sections = fine_flat_map (node_section n) 0 (node_count n) few (section_fine n) in
    (head.0, fine_append _ _ nodes (fine_append _ _ links (fine_append _ _ bits sections)))

-- the lines of the text are those of which it was put together
pub lines_back : (n : ℕ) → n < 4294967296 → lines_of (load_text n) ≡ load_lines n
unfolding load_text
lines_back n h = lines_of-text (load_lines n) (load_fine n h)

-- a load has 27 lines for each node, and one more
length-load : (n : ℕ) → length (load_lines n) ≡ 1 + 27 * node_count n
length-load n =
    let sections = flat_map (node_section n) (node_numbers n) in
    let s : length sections ≡ 24 * node_count n = length-flat_lines (node_section n) 24 0 (node_count n) (λ i. refl) in
    let r = length-range_with_len 0 (node_count n) in
    omega (
      arith,
      s,
      r,
      length-map (node_numbers n) node_text,
      length-map (node_numbers n) (link_text n),
      length-map (node_numbers n) (bit_text n),
      length-append (map node_text (node_numbers n)) (map (link_text n) (node_numbers n) ++ (map (bit_text n) (node_numbers n) ++ sections)),
      length-append (map (link_text n) (node_numbers n)) (map (bit_text n) (node_numbers n) ++ sections),
      length-append (map (bit_text n) (node_numbers n)) sections,
    )

-- the text of a load is no longer than an input may be
length-load_text : (n : ℕ) → n < 4294967296 → length (load_text n) ≤ 4194304
unfolding load_text
length-load_text n h =
    let e = length-load n in
    let f = length-text (load_lines n) (load_fine n h) in
    omega (arith, e, f)

-- it is no longer than an input may be
pub is_short : (n : ℕ) → n < 4294967296 → nat_lt longest_input (length (load_text n)) ≡ false
is_short n h = let e = length-load_text n h in grind (arith, nat_tests)

-- ---- The words of the lines

-- the line of a node is read as its node
pub node_read : (i : ℕ) → i < 16 → frame_line 1 (words_of_line (node_text i)) ≡ Some (Node (record { number = i; id = i }))
node_read i h =
    let d = number_of_node i h in
    ap (λ w. frame_line 1 w) (
    words_next (codes "node") (decimal i ++ (codes " id " ++ decimal i)) refl
    ∙ ap (λ w. codes "node" ∷ w) (words_next (decimal i) (codes "id " ++ decimal i) d.plain
    ∙ ap (λ w. decimal i ∷ w) (words_next (codes "id") (decimal i) refl ∙ ap (λ w. codes "id" ∷ w) (words_last (decimal i) d.plain)))
    )
    ∙ node_form (decimal i) (decimal i) i i d.read d.read

-- the rest of the line of a link, after its two ends
link_rest : (delay gap : ℕ) → delay < 100 → gap < 100
    → words_of_line (codes "delay " ++ (decimal delay ++ (codes " gap " ++ decimal gap))) ≡ codes "delay" ∷ decimal delay ∷ codes "gap" ∷ decimal gap ∷ []
link_rest delay gap h k =
    words_next (codes "delay") (decimal delay ++ (codes " gap " ++ decimal gap)) refl
    ∙ ap (λ w. codes "delay" ∷ w) (words_next (decimal delay) (codes "gap " ++ decimal gap) (number_word delay h).plain
    ∙ ap (λ w. decimal delay ∷ w) (words_next (codes "gap") (decimal gap) refl ∙ ap (λ w. codes "gap" ∷ w) (words_last (decimal gap) (number_word gap k).plain)))

-- the next word of a line, where it is the name of a link end
end_next : (node : ℕ) (end rest : List ℕ) → is_plain_word (decimal node ++ (58 ∷ end)) ≡ true
    → words_of_line (decimal node ++ (58 ∷ (end ++ (32 ∷ rest)))) ≡ (decimal node ++ (58 ∷ end)) ∷ words_of_line rest
end_next node end rest h = ap (λ t. words_of_line t) (sym (append_assoc (decimal node) (58 ∷ end) (32 ∷ rest))) ∙ words_next (decimal node ++ (58 ∷ end)) rest h

-- the line of a link is read as its link
pub link_read : (n i : ℕ) → n < 4294967296 → i < 16
    → frame_line 1 (words_of_line (link_text n i))
    ≡ Some (Link (record { a = record { node = i; end = 0 }; b = record { node = next_node n i; end = 1 }; delay = delay_at n i; gap = gap_at i; net = 0 }))
link_read n i k h =
    let o = next_node_small n i in
    let a = end_word i 0 (codes "0") (omega arith) refl refl in
    let b = end_word (next_node n i) 1 (codes "1") (omega (arith, o)) refl refl in
    let delays = codes "delay " ++ (decimal (delay_at n i) ++ (codes " gap " ++ decimal (gap_at i))) in
    ap (λ w. frame_line 1 w) (
    words_next (codes "link") (decimal i ++ (codes ":0 " ++ (decimal (next_node n i) ++ (codes ":1 " ++ delays)))) refl
    ∙ ap (λ w. codes "link" ∷ w) (end_next i (codes "0") (decimal (next_node n i) ++ (codes ":1 " ++ delays)) a.plain
    ∙ ap (λ w. (decimal i ++ codes ":0") ∷ w) (end_next (next_node n i) (codes "1") delays b.plain
    ∙ ap (λ w. (decimal (next_node n i) ++ codes ":1") ∷ w) (link_rest (delay_at n i) (gap_at i) (delay_small n i) (gap_small i))))
    )
    ∙ link_form (decimal i ++ codes ":0") (decimal (next_node n i) ++ codes ":1") (decimal (delay_at n i)) (decimal (gap_at i))
    (record { node = i; end = 0 }) (record { node = next_node n i; end = 1 }) (delay_at n i) (gap_at i)
    a.read b.read (number_word (delay_at n i) (delay_small n i)).read (number_word (gap_at i) (gap_small i)).read

-- the line of a bit is read as its bit
pub bit_read : (n i : ℕ) → n < 4294967296 → i < 16
    → frame_line 1 (words_of_line (bit_text n i)) ≡ Some (Bit (record { node = i; bit = route_bit_at n i; ends = 0 ∷ [] }))
bit_read n i k h =
    let d = number_of_node i h in
    let e = number_word (route_bit_at n i) (bit_small n i) in
    ap (λ w. frame_line 1 w) (
    words_next (codes "bit") (decimal i ++ (codes " " ++ (decimal (route_bit_at n i) ++ codes " 0"))) refl
    ∙ ap (λ w. codes "bit" ∷ w) (words_next (decimal i) (decimal (route_bit_at n i) ++ codes " 0") d.plain
    ∙ ap (λ w. decimal i ∷ w) (words_next (decimal (route_bit_at n i)) (codes "0") e.plain ∙ ap (λ w. decimal (route_bit_at n i) ∷ w) (words_last (codes "0") refl)))
    )
    ∙ bit_form (decimal i) (decimal (route_bit_at n i)) (codes "0") i (route_bit_at n i) 0 d.read e.read refl

-- the line that begins a source is read so
pub source_read : (i : ℕ) → i < 16 → frame_line 1 (words_of_line (source_text i)) ≡ Some (Section (Source i))
source_read i h =
    let d = number_of_node i h in
    ap (λ w. frame_line 1 w) (words_next (codes "source") (decimal i) refl ∙ ap (λ w. codes "source" ∷ w) (words_last (decimal i) d.plain))
    ∙ source_form (decimal i) i d.read

-- the line of data ends no section
pub data_no_end : (target value : ℕ) → target < 4294967296 → value < 4294967296 → is_end (data_text target value) ≡ false
data_no_end target value t v =
    let rest = hex_word target ++ (codes ", " ++ (hex_word value ++ codes ", 200, 1664525, 1013904223")) in
    ap (λ words. same_words (codes "end" ∷ []) words)
    (words_after_blank (codes " .word " ++ rest) ∙ (words_after_blank (codes ".word " ++ rest) ∙ words_next (codes ".word") rest refl))
