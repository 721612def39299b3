-- The labels of a source without faults: names that come once, in order, each at a place that is reached.
use Rattle.std.proofs.Common.{◌≡◌, ℕ, zero, suc, ◌+◌, ◌*◌, ◌<◌, ◌≤◌, Bool, true, false, cond, ◌||◌, not, List, [], ◌∷◌, ◌++◌, map, Option, Some, None, option_map, refl, sym, ap, ◌∙◌, subst, arith, IsTrue, nat_lt}
use Rattle.std.specs.Prelude.{is_some, ◌==◌}
use Rattle.std.specs.List.{AllByRecursion}
use Rattle.std.proofs.lemmas.Bool.{false≢true, and_from, or_parts, or_right, or_left, not_from_false, cond-false, le-leb, lt-leb, ne_eqb, lt-ltb, eq-eqb, cond_both}
use Rattle.std.proofs.lemmas.Bool.Decides.{nat_tests}
use Rattle.std.proofs.lemmas.List.{map-append}
use Rattle.xs_text.specs.Tokens.{is_name}
use Rattle.xs_instructions.specs.Code.{code_start, place_address}
use Rattle.xs_instructions.specs.Image.{Symbol, same_name, is_reserved, may_be_label, address_of, AreLabels, AreInOrder, may_follow, is_place, has_symbol_at, data_start}
use Rattle.source_model.specs.declared.layout.Section.{Section}
use Rattle.source_model.specs.declared.layout.Section.TheVariants.{Text, Data, Constants}
use Rattle.source_model.specs.declared.layout.Home.{Home}
use Rattle.source_model.specs.declared.layout.Home.TheVariants.{Anywhere, InText, InBytes, BeginsData, BeginsConstants, Nowhere}
use Rattle.source_model.specs.declared.layout.Layout.{Layout}
use Rattle.source_model.specs.declared.layout.Place.{Place}
use Rattle.source_model.specs.Statement.{Line, Statement}
use Rattle.source_model.specs.Layout.{Label, place_of, Sofar, section_length, here, may_stand, longer, section_after, moved, define, define_all, after_line, after_lines, round_up_to_word, section_start, address_in, bytes_length}
use Rattle.source_model.specs.Source.{symbol_of}
use Rattle.source_laws.proofs.Fine.{IsFine, AreFine}
use Rattle.source_laws.proofs.Lengths.{layout_after}

-- the order of the sections
abbrev pub rank : Section → ℕ
rank Text = 0
rank Data = 1
rank Constants = 2

-- a layout of more lines
pub record IsLater (now next : Layout) : Type 0 where
  pub section : rank now.section ≤ rank next.section
  pub instructions : now.instructions ≤ next.instructions
  pub data_bytes : now.data_bytes ≤ next.data_bytes
  pub constant_bytes : now.constant_bytes ≤ next.constant_bytes

-- a place that comes no later than the layout's end
pub record IsReached (now : Layout) (place : Place) : Type 0 where
  pub section : rank place.section ≤ rank now.section
  pub offset : place.offset ≤ section_length now place.section

-- a layout that a source without faults may have
pub record IsBounded (layout : Layout) : Type 0 where
  pub code : layout.instructions ≤ 16384
  pub bytes : bytes_length layout.data_bytes layout.constant_bytes ≤ 65536

-- the labels of some lines, where the whole source ends in a layout
pub record IsTable (end now : Layout) (labels : List Label) : Type 0 where
  pub names : AreLabels (map (symbol_of end) labels)
  pub order : AreInOrder (map (symbol_of end) labels)
  pub reached : AllByRecursion (λ (label : Label). IsReached now label.1) labels

pub later_same : (now : Layout) → IsLater now now
later_same now = record { section = omega arith; instructions = omega arith; data_bytes = omega arith; constant_bytes = omega arith }

later_trans : (a b c : Layout) → IsLater a b → IsLater b c → IsLater a c
later_trans a b c h k = record { section = omega arith; instructions = omega arith; data_bytes = omega arith; constant_bytes = omega arith }

section_later : (section : Section) (home : Home) → may_stand section home ≡ true → rank section ≤ rank (section_after section home)
section_later section Anywhere h = omega arith
section_later section InText h = omega arith
section_later section InBytes h = omega arith
section_later section Nowhere h = omega arith
section_later Text BeginsData h = omega arith
section_later Data BeginsData h = absurd (false≢true h)
section_later Constants BeginsData h = absurd (false≢true h)
section_later Text BeginsConstants h = omega arith
section_later Data BeginsConstants h = omega arith
section_later Constants BeginsConstants h = absurd (false≢true h)

longer_later : (section : Section) (i d c more : ℕ) (after : Section) → rank section ≤ rank after
    → IsLater (record { section = section; instructions = i; data_bytes = d; constant_bytes = c }) (record (longer (record { section = section; instructions = i; data_bytes = d; constant_bytes = c }) more) { section = after })
longer_later Text i d c more after h = record { section = h; instructions = omega arith; data_bytes = omega arith; constant_bytes = omega arith }
longer_later Data i d c more after h = record { section = h; instructions = omega arith; data_bytes = omega arith; constant_bytes = omega arith }
longer_later Constants i d c more after h = record { section = h; instructions = omega arith; data_bytes = omega arith; constant_bytes = omega arith }

moved_later : (layout : Layout) (statement : Statement) → may_stand layout.section statement.home ≡ true → IsLater layout (moved layout statement)
moved_later layout statement h =
    rw h (longer_later layout.section layout.instructions layout.data_bytes layout.constant_bytes _ _ (section_later layout.section statement.home h))

line_later : (whole before : Sofar) (line : Line) → IsFine whole before line → IsLater before.layout (after_line before line).layout
line_later whole before line h = rw (layout_after before line h.allowed) (moved_later before.layout line.statement h.stands)

pub lines_later : (whole before : Sofar) (lines : List Line) → AreFine whole before lines → IsLater before.layout (after_lines before lines).layout
unfolding after_lines
lines_later whole before [] h = later_same before.layout
lines_later whole before (line ∷ lines) h =
    later_trans _ _ _ (line_later whole before line h.0) (lines_later whole (after_line before line) lines h.1)

-- what is reached stays reached

length_later : (now next : Layout) (section : Section) → IsLater now next → section_length now section ≤ section_length next section
length_later now next Text h = h.instructions
length_later now next Data h = h.data_bytes
length_later now next Constants h = h.constant_bytes

reached_later : (now next : Layout) (place : Place) → IsLater now next → IsReached now place → IsReached next place
reached_later now next place l h =
    let more = length_later now next place.section l in
    record { section = omega arith; offset = omega arith }

reached_all : (now next : Layout) (labels : List Label) → IsLater now next → AllByRecursion (λ (label : Label). IsReached now label.1) labels → AllByRecursion (λ (label : Label). IsReached next label.1) labels
reached_all now next [] l h = tt
reached_all now next (label ∷ labels) l h = (reached_later now next label.1 l h.0, reached_all now next labels l h.1)

reached_here : (now : Layout) → IsReached now (here now)
reached_here now = record { section = omega arith; offset = omega arith }

reached_push : (now : Layout) (labels : List Label) (label : Label) → AllByRecursion (λ (label : Label). IsReached now label.1) labels → IsReached now label.1 → AllByRecursion (λ (label : Label). IsReached now label.1) (labels ++ label ∷ [])
reached_push now [] label h k = (k, tt)
reached_push now (x ∷ labels) label h k = (h.0, reached_push now labels label h.1 k)

-- a name more

address_first : (b : Bool) (end : Layout) (place : Place) (at : Option ℕ) (rest : Option Place) → at ≡ option_map (address_in end) rest
    → cond b (Some (address_in end place)) at ≡ option_map (address_in end) (cond b (Some place) rest)
address_first true end place at rest e = refl
address_first false end place at rest e = e

pub address_of-labels : (end : Layout) (labels : List Label) (name : List ℕ) → address_of (map (symbol_of end) labels) name ≡ option_map (address_in end) (place_of labels name)
unfolding place_of
address_of-labels end [] name = refl
address_of-labels end (label ∷ labels) name = address_first (same_name label.0 name) end label.1 _ _ (address_of-labels end labels name)

same_sym : (a b : List ℕ) → same_name a b ≡ same_name b a
same_sym [] [] = refl
same_sym [] (d ∷ ds) = refl
same_sym (c ∷ cs) [] = refl
same_sym (c ∷ cs) (d ∷ ds) = let e : (c == d) ≡ (d == c) = grind (arith, nat_tests) in rw (e, same_sym cs ds) refl

absent_parts : (b : Bool) (at : ℕ) (o : Option ℕ) → cond b (Some at) o ≡ None → (b ≡ false) × (o ≡ None)
absent_parts true at o h = cc
absent_parts false at o h = (refl, h)

absent_push : (symbols : List Symbol) (s : Symbol) (name : List ℕ) → address_of symbols name ≡ None → same_name s.0 name ≡ false → address_of (symbols ++ s ∷ []) name ≡ None
absent_push [] s name h k = rw k refl
absent_push (t ∷ symbols) s name h k =
    let parts = absent_parts (same_name t.0 name) t.1 (address_of symbols name) h in
    rw (parts.0) (absent_push symbols s name parts.1 k)

labels_push : (symbols : List Symbol) (s : Symbol) → AreLabels symbols → IsTrue (may_be_label s.0) → address_of symbols s.0 ≡ None → AreLabels (symbols ++ s ∷ [])
labels_push [] s h name new = (name, refl, tt)
labels_push (t ∷ symbols) s h name new =
    let parts = absent_parts (same_name t.0 s.0) t.1 (address_of symbols s.0) new in
    (h.0, absent_push symbols s t.0 h.1 (same_sym s.0 t.0 ∙ parts.0), labels_push symbols s h.2 name parts.1)

order_push : (symbols : List Symbol) (s : Symbol) → AreInOrder symbols → AllByRecursion (λ (t : Symbol). may_follow t.1 s.1 ≡ true) symbols → AreInOrder (symbols ++ s ∷ [])
order_push [] s h k = tt
order_push (t ∷ []) s h k = (k.0, tt)
order_push (t ∷ u ∷ symbols) s h k = (h.0, order_push (u ∷ symbols) s h.1 k.1)

-- addresses rise with places

follows_low : (a b : ℕ) → b < code_start → a ≤ b → may_follow a b ≡ true
follows_low a b h k = rw (lt-leb code_start a (omega arith), lt-ltb b code_start h, le-leb a b k) refl

follows_high : (a b : ℕ) → code_start ≤ a → a ≤ b → may_follow a b ≡ true
follows_high a b h k = rw (le-leb code_start a h, le-leb a b k) (or_right (nat_lt b code_start) true refl)

follows_down : (a b : ℕ) → code_start ≤ a → b < code_start → may_follow a b ≡ true
follows_down a b h k = rw (le-leb code_start a h, lt-ltb b code_start k) refl

pub together : (d c : ℕ) → bytes_length d (suc c) ≡ round_up_to_word d + suc c
together d c = cond-false (suc c == 0) d (round_up_to_word d + suc c) (ne_eqb (suc c) 0 (λ e. absurd (omega (arith, e))))

-- what the bound on the bytes says of both sections
bytes_bounds : (d c : ℕ) → bytes_length d c ≤ 65536 → (d ≤ 65536) × (c ≤ 65536)
bytes_bounds d zero h = (h, omega arith)
bytes_bounds d (suc c) h = (omega (arith, h, together d c), omega (arith, h, together d c))

abbrev layout_of : Section → ℕ → ℕ → ℕ → Layout
layout_of section i d c = record { section = section; instructions = i; data_bytes = d; constant_bytes = c }

abbrev place_in : Section → ℕ → Place
place_in section offset = record { section = section; offset = offset }

follows_in : (from to : Section) (at i d c : ℕ) (end : Layout) → IsBounded end → IsLater (layout_of to i d c) end → rank from ≤ rank to → at ≤ section_length (layout_of to i d c) from
    → may_follow (address_in end (place_in from at)) (address_in end (here (layout_of to i d c))) ≡ true
follows_in Text Text at i d c end b l r h = follows_high (address_in end (place_in Text at)) (address_in end (place_in Text i)) (omega arith) (omega (arith, h))
follows_in Text Data at i d c end b l r h = let bounds = bytes_bounds end.data_bytes end.constant_bytes b.bytes in follows_down (address_in end (place_in Text at)) (address_in end (place_in Data d)) (omega arith) (omega (arith, h, bounds.0, l.data_bytes))
follows_in Text Constants at i d c end b l r h = let bounds = bytes_bounds end.data_bytes end.constant_bytes b.bytes in follows_down (address_in end (place_in Text at)) (address_in end (place_in Constants c)) (omega arith) (omega (arith, h, bounds, l.constant_bytes))
follows_in Data Text at i d c end b l r h = absurd (omega (arith, r))
follows_in Data Data at i d c end b l r h = let bounds = bytes_bounds end.data_bytes end.constant_bytes b.bytes in follows_low (address_in end (place_in Data at)) (address_in end (place_in Data d)) (omega (arith, bounds, l.data_bytes)) (omega (arith, h))
follows_in Data Constants at i d c end b l r h = let bounds = bytes_bounds end.data_bytes end.constant_bytes b.bytes in follows_low (address_in end (place_in Data at)) (address_in end (place_in Constants c)) (omega (arith, bounds, l.constant_bytes)) (omega (arith, h, l.data_bytes))
follows_in Constants Text at i d c end b l r h = absurd (omega (arith, r))
follows_in Constants Data at i d c end b l r h = absurd (omega (arith, r))
follows_in Constants Constants at i d c end b l r h = let bounds = bytes_bounds end.data_bytes end.constant_bytes b.bytes in follows_low (address_in end (place_in Constants at)) (address_in end (place_in Constants c)) (omega (arith, bounds, l.constant_bytes)) (omega (arith, h))

follows : (end now : Layout) (place : Place) → IsBounded end → IsLater now end → IsReached now place → may_follow (address_in end place) (address_in end (here now)) ≡ true
follows end now place b l h = follows_in place.section now.section place.offset now.instructions now.data_bytes now.constant_bytes end b l h.section h.offset

follows_all : (end now : Layout) (labels : List Label) → IsBounded end → IsLater now end → AllByRecursion (λ (label : Label). IsReached now label.1) labels
    → AllByRecursion (λ (s : Symbol). may_follow s.1 (address_in end (here now)) ≡ true) (map (symbol_of end) labels)
follows_all end now [] b l h = tt
follows_all end now (label ∷ labels) b l h = (follows end now label.1 b l h.0, follows_all end now labels b l h.1)

-- the table with a name more

none_of : {A : Type 0} (o : Option A) → is_some o ≡ false → o ≡ None
none_of None h = refl
none_of (Some x) h = absurd (false≢true (sym h))

table_push : (end now : Layout) (labels : List Label) (name : List ℕ) → IsBounded end → IsLater now end → is_name name ≡ true → IsTable end now labels
    → is_reserved name ≡ false → is_some (place_of labels name) ≡ false → IsTable end now (labels ++ (name, here now) ∷ [])
table_push end now labels name b l named h free new =
    let may_be : may_be_label name ≡ true = and_from (is_name name) (not (is_reserved name)) named (not_from_false (is_reserved name) free) in
    let absent : address_of (map (symbol_of end) labels) name ≡ None = address_of-labels end labels name ∙ ap (option_map (address_in end)) (none_of (place_of labels name) new) in
    let longer : map (symbol_of end) (labels ++ (name, here now) ∷ []) ≡ map (symbol_of end) labels ++ symbol_of end (name, here now) ∷ [] = map-append (symbol_of end) labels ((name, here now) ∷ []) in
    record {
      names = subst AreLabels (sym longer) (labels_push (map (symbol_of end) labels) (symbol_of end (name, here now)) h.names may_be absent);
      order = subst AreInOrder (sym longer) (order_push (map (symbol_of end) labels) (symbol_of end (name, here now)) h.order (follows_all end now labels b l h.reached));
      reached = reached_push now labels (name, here now) h.reached (reached_here now);
    }

table_define : (end now : Layout) (labels : List Label) (name : List ℕ) → IsBounded end → IsLater now end → is_name name ≡ true → IsTable end now labels → IsTable end now (define (here now) name labels)
table_define end now labels name b l named h =
    cond_both (is_reserved name || is_some (place_of labels name)) labels (labels ++ (name, here now) ∷ []) (IsTable end now) (λ e. h)
    (λ e. let parts = or_parts (is_reserved name) (is_some (place_of labels name)) e in table_push end now labels name b l named h parts.0 parts.1)

table_define_all : (end now : Layout) (names : List (List ℕ)) (labels : List Label) → IsBounded end → IsLater now end → AllByRecursion (λ name. is_name name ≡ true) names → IsTable end now labels → IsTable end now (define_all (here now) names labels)
unfolding define_all
table_define_all end now [] labels b l named h = h
table_define_all end now (name ∷ names) labels b l named h =
    table_define_all end now names (define (here now) name labels) b l named.1 (table_define end now labels name b l named.0 h)

table_later : (end now next : Layout) (labels : List Label) → IsLater now next → IsTable end now labels → IsTable end next labels
table_later end now next labels l h = record { names = h.names; order = h.order; reached = reached_all now next labels l h.reached }

line_after : (before : Sofar) (line : Line) → line.bad_byte ≡ false → (after_line before line).labels ≡ define_all (here before.layout) line.labels before.labels
line_after before line h = rw h refl

table_line : (end : Layout) (whole before : Sofar) (line : Line) → IsBounded end → IsLater before.layout end → IsFine whole before line → IsTable end before.layout before.labels
    → IsTable end (after_line before line).layout (after_line before line).labels
table_line end whole before line b l f h =
    rw (line_after before line f.allowed)
    (table_later end before.layout (after_line before line).layout _ (line_later whole before line f)
    (table_define_all end before.layout line.labels before.labels b l f.sound.names h))

-- the labels of all lines
pub table_lines : (end : Layout) (whole before : Sofar) (lines : List Line) → IsBounded end → IsLater (after_lines before lines).layout end → AreFine whole before lines
    → IsTable end before.layout before.labels → IsTable end (after_lines before lines).layout (after_lines before lines).labels
unfolding after_lines
table_lines end whole before [] b l f h = h
table_lines end whole before (line ∷ lines) b l f h =
    let rest = lines_later whole (after_line before line) lines f.1 in
    let here = line_later whole before line f.0 in
    let first : IsLater before.layout end = later_trans _ _ _ here (later_trans _ _ _ rest l) in
    table_lines end whole (after_line before line) lines b l f.1 (table_line end whole before line b first f.0 h)

-- the addresses of labels are places of the image

pub data_within : (d c : ℕ) → d ≤ bytes_length d c
data_within d zero = omega arith
data_within d (suc c) = omega (arith, together d c)

text_place : (l i b p : ℕ) → l ≤ i → is_place i b p (code_start + 4 * l) ≡ true
text_place l i b p h = rw (le-leb code_start (code_start + 4 * l) (omega arith), le-leb (code_start + 4 * l) (place_address i) (omega arith)) (eq-eqb _ _ (omega arith))

byte_place : (i b p at : ℕ) → data_start ≤ at → at < code_start → at ≤ data_start + b → is_place i b p at ≡ true
byte_place i b p at h k m = rw (lt-leb code_start at k, le-leb data_start at h, le-leb at (data_start + b) m) (or_right (at == p) true refl)

start_place : (i b at : ℕ) → at < code_start → is_place i b at at ≡ true
start_place i b at h = rw (lt-leb code_start at h, eq-eqb at at refl) refl

constant_place : (at i d c p : ℕ) → bytes_length d c ≤ 65536 → p ≡ data_start + round_up_to_word d → at ≤ c → is_place i (bytes_length d c) p (p + at) ≡ true
constant_place at i d zero p b e h =
    let none : p ≡ p + at = omega arith in
    rw (← none) (start_place i d p (omega (arith, b)))
constant_place at i d (suc c) p b e h = byte_place i (bytes_length d (suc c)) p (p + at) (omega arith) (omega (arith, b, together d c)) (omega (arith, together d c))

place_in_image : (section : Section) (at : ℕ) (end : Layout) → IsBounded end → at ≤ section_length end section
    → is_place end.instructions (bytes_length end.data_bytes end.constant_bytes) (section_start end Constants) (address_in end (place_in section at)) ≡ true
place_in_image Text at end b h = text_place at end.instructions (bytes_length end.data_bytes end.constant_bytes) (section_start end Constants) h
place_in_image Data at end b h =
    let bounds = bytes_bounds end.data_bytes end.constant_bytes b.bytes in
    let more = data_within end.data_bytes end.constant_bytes in
    byte_place end.instructions (bytes_length end.data_bytes end.constant_bytes) (section_start end Constants) (data_start + at) (omega arith) (omega (arith, bounds, h)) (omega (arith, more, h))
place_in_image Constants at end b h = constant_place at end.instructions end.data_bytes end.constant_bytes (section_start end Constants) b.bytes refl h

pub labels_in_image : (end : Layout) (labels : List Label) → IsBounded end → AllByRecursion (λ (label : Label). IsReached end label.1) labels
    → AllByRecursion (λ (s : Symbol). IsTrue (is_place end.instructions (bytes_length end.data_bytes end.constant_bytes) (section_start end Constants) s.1)) (map (symbol_of end) labels)
labels_in_image end [] b h = tt
labels_in_image end (label ∷ labels) b h = (place_in_image label.1.section label.1.offset end b h.0.offset, labels_in_image end labels b h.1)

-- a label's place is reached, and its symbol is there

reached_first : (b : Bool) (now : Layout) (first place : Place) (rest : Option Place) → IsReached now first → (rest ≡ Some place → IsReached now place)
    → cond b (Some first) rest ≡ Some place → IsReached now place
reached_first true now first place rest h next e = let is : first ≡ place = cc in subst (IsReached now) is h
reached_first false now first place rest h next e = next e

there_first : (b : Bool) (end : Layout) (first place : Place) (rest : Option Place) (found : Bool) → (rest ≡ Some place → found ≡ true)
    → cond b (Some first) rest ≡ Some place → ((address_in end first == address_in end place) || found) ≡ true
there_first true end first place rest found next e = let is : first ≡ place = cc in or_left _ found (eq-eqb _ _ (ap (address_in end) is))
there_first false end first place rest found next e = or_right (address_in end first == address_in end place) found (next e)

pub reached_at : (now : Layout) (labels : List Label) (name : List ℕ) (place : Place) → AllByRecursion (λ (label : Label). IsReached now label.1) labels → place_of labels name ≡ Some place → IsReached now place
unfolding place_of
reached_at now [] name place h e = cc
reached_at now (label ∷ labels) name place h e = reached_first (same_name label.0 name) now label.1 place (place_of labels name) h.0 (reached_at now labels name place h.1) e

pub symbol_there : (end : Layout) (labels : List Label) (name : List ℕ) (place : Place) → place_of labels name ≡ Some place → has_symbol_at (map (symbol_of end) labels) (address_in end place) ≡ true
unfolding place_of
symbol_there end [] name place e = cc
symbol_there end (label ∷ labels) name place e = there_first (same_name label.0 name) end label.1 place (place_of labels name) _ (symbol_there end labels name place) e
