-- What a frame keeps whose lines have no fault.
use Rattle.std.proofs.Common.{◌≡◌, ℕ, suc, ◌+◌, ◌<◌, ◌≤◌, Bool, true, false, not, ◌&&◌, ◌||◌, List, [], ◌∷◌, ◌++◌, length, map, filter, Option, Some, None, refl, sym, ap, ◌∙◌, cond, nat_lt, nat_le, subst, length-append, arith}
use Rattle.std.specs.Prelude.{◌≢◌, ◌==◌, if◌then◌else◌, option_map, codes}
use Rattle.std.specs.List.{AllByRecursion, list_any, list_all}
use Rattle.std.proofs.lemmas.Bool.Decides.{nat_tests}
use Rattle.xs_base.specs.Ids.{port_width}
use Rattle.sys_plan.specs.Plan.{AreAscending, AreDistinct}
use Rattle.xs_text.specs.Bytes.{all_allowed}
use Rattle.xs_text.specs.Words.{words_of_line}
use Rattle.xs_instructions.specs.Image.{same_name}
use Rattle.system_model.specs.declared.SysKind.{SysKind}
use Rattle.system_model.specs.declared.SysKind.TheVariants.{FirstLine}
use Rattle.system_model.specs.declared.frame_line.EndName.{EndName}
use Rattle.system_model.specs.declared.frame_line.FrameLine.{FrameLine}
use Rattle.system_model.specs.declared.frame_line.FrameLine.TheVariants.{Node, Link, Bit, Wire, Section, Step}
use Rattle.system_model.specs.declared.frame_line.GivenNode.{GivenNode}
use Rattle.system_model.specs.declared.frame_line.LinkLine.{LinkLine}
use Rattle.system_model.specs.declared.frame_line.PinName.{PinName}
use Rattle.system_model.specs.declared.frame_line.PlayLine.{PlayLine}
use Rattle.system_model.specs.declared.frame_line.PlayLine.TheVariants.{Take, Run, Send}
use Rattle.system_model.specs.declared.frame_line.SectionKind.{SectionKind}
use Rattle.system_model.specs.declared.frame_line.SectionKind.TheVariants.{Source, Pins, Play}
use Rattle.system_model.specs.declared.frame_line.WireLine.{WireLine}
use Rattle.system_model.specs.Bits.{BitRec}
use Rattle.system_model.specs.FrameLines.{edition_of_word, edition_of_header, frame_line, play_line, is_end, are_numbers_in_range, is_node_number, is_end_number, is_end_in_range, is_net, is_between}
use Rattle.system_model.specs.Frame.{SectionText, Given, FrameSays, Own, End, Blank, Header, NoHeader, NoForm, Form, says_form, says_header, says_in_frame, says_in_play, says_in_section, says_by, says, names_none, is_given_twice, is_id_twice, is_link_to_itself, is_link_end_twice, is_wire_within_node, has_other_widths, is_pin_wired_twice, is_wire_too_many, is_too_many, fault_of, first_that_holds, tests, given_with, given_after, put_by_number, has_node, has_link_end, has_link_ends, count_leaving, count_coming, is_wire_end, has_end_in, has_end_out, is_step_of, is_same_end, is_same_pin, is_wired, unless_faulty, at_the_end, whole_but_for, without_source, Framed, Whole, Refused, frame_from, framed, nothing_given, have_no_words}
use Rattle.system_model.specs.System.{edition_given}
use Rattle.system_text.specs.Accepted.{IsLinkOf, IsWireOf, ends_of, AreAccepted, IsEdition, IsOfEdition, IsAccepted}
use Rattle.system_text.proofs.Judged.{fault_by}
use Rattle.system_text.proofs.Networks.{of_network_0}
use Rattle.system_text.proofs.WiresSaid.{wire_said}
use Rattle.system_text.proofs.Walk.{from-cons, from-end, framed_is}

not_false : (b : Bool) → not b ≡ false → b ≡ true
not_false true e = refl
not_false false e = cc

both : (a b : Bool) → (a && b) ≡ true → (a ≡ true) × (b ≡ true)
both true b e = (refl, e)
both false b e = cc

neither : (a b : Bool) → (a || b) ≡ false → (a ≡ false) × (b ≡ false)
neither true b e = absurd cc
neither false b e = (refl, e)

or_first : (a b : Bool) → a ≡ true → (a || b) ≡ true
or_first true b e = refl
or_first false b e = cc

or_second : (a b : Bool) → b ≡ true → (a || b) ≡ true
or_second true b e = refl
or_second false b e = e

or_more : (a b c : Bool) → (a || b) ≡ true → (b ≡ true → c ≡ true) → (a || c) ≡ true
or_more true b c e h = refl
or_more false b c e h = h e

differ : (m n : ℕ) → (m == n) ≡ false → m ≢ n
differ m n e same = grind (arith, nat_tests)

-- what a good line of a form has passed
record Passes (given : Given) (form : FrameLine) : Type 0 where
  pub ranged : are_numbers_in_range form ≡ true
  pub known : names_none given (Form form) ≡ false
  pub new : is_given_twice given (Form form) ≡ false
  pub new_id : is_id_twice given (Form form) ≡ false
  pub apart : is_link_to_itself (Form form) ≡ false
  pub new_ends : is_link_end_twice given (Form form) ≡ false
  pub two_nodes : is_wire_within_node (Form form) ≡ false
  pub one_width : has_other_widths (Form form) ≡ false
  pub new_pin : is_pin_wired_twice given (Form form) ≡ false
  pub few_wires : is_wire_too_many given (Form form) ≡ false
  pub few : is_too_many given (Form form) ≡ false

none_by : (b : Bool) (kind : SysKind) (later : Option SysKind) → (if b then Some kind else later) ≡ None → (b ≡ false) × (later ≡ None)
none_by true kind later e = absurd cc
none_by false kind later e = (refl, e)

none_holds : (tests : List (SysKind × Bool)) → first_that_holds tests ≡ None → AllByRecursion (λ (test : SysKind × Bool). test.1 ≡ false) tests
none_holds [] e = tt
none_holds (test ∷ others) e = let parts = none_by test.1 test.0 (first_that_holds others) e in (parts.0, none_holds others parts.1)

passed : (given : Given) (allowed : Bool) (form : FrameLine) → fault_by given allowed (Form form) ≡ None → Passes given form
passed given allowed form e =
    let none = none_holds (tests given allowed (Form form)) e in
    record {
      ranged = not_false _ none.1.1.0;
      known = none.1.1.1.0;
      new = none.1.1.1.1.0;
      new_id = none.1.1.1.1.1.0;
      apart = none.1.1.1.1.1.1.0;
      new_ends = none.1.1.1.1.1.1.1.0;
      two_nodes = none.1.1.1.1.1.1.1.1.1.0;
      one_width = none.1.1.1.1.1.1.1.1.1.1.0;
      new_pin = none.1.1.1.1.1.1.1.1.1.1.1.0;
      few_wires = none.1.1.1.1.1.1.1.1.1.1.1.1.0;
      few = none.1.1.1.1.1.1.1.1.1.1.1.1.1.0;
    }

-- Lists with one element more

one_more : {X : Type 0} (P : X → Type 0) (xs : List X) (x : X) → AllByRecursion P xs → P x → AllByRecursion P (xs ++ x ∷ [])
one_more P [] x h p = (p, tt)
one_more P (y ∷ ys) x h p = (h.0, one_more P ys x h.1 p)

all_more : (p q : ℕ → Bool) (xs : List ℕ) → ((x : ℕ) → p x ≡ true → q x ≡ true) → list_all p xs ≡ true → list_all q xs ≡ true
all_more p q [] h e = refl
all_more p q (x ∷ xs) h e = let is = both (p x) (list_all p xs) e in rw (h x is.0) (all_more p q xs h is.1)

-- One more node

put_length_by : (b : Bool) (node m : GivenNode) (nodes : List GivenNode) → length (put_by_number node nodes) ≡ suc (length nodes)
    → length (if b then m ∷ put_by_number node nodes else node ∷ (m ∷ nodes)) ≡ suc (length (m ∷ nodes))
put_length_by true node m nodes rest = ap suc rest
put_length_by false node m nodes rest = refl

put_length : (node : GivenNode) (nodes : List GivenNode) → length (put_by_number node nodes) ≡ suc (length nodes)
put_length node [] = refl
put_length node (m ∷ nodes) = put_length_by (nat_lt m.number node.number) node m nodes (put_length node nodes)

put_all_by : (b : Bool) (P : GivenNode → Type 0) (node m : GivenNode) (nodes : List GivenNode) → AllByRecursion P (m ∷ nodes) → P node
    → AllByRecursion P (put_by_number node nodes) → AllByRecursion P (if b then m ∷ put_by_number node nodes else node ∷ (m ∷ nodes))
put_all_by true P node m nodes h p rest = (h.0, rest)
put_all_by false P node m nodes h p rest = (p, h)

put_all : (P : GivenNode → Type 0) (node : GivenNode) (nodes : List GivenNode) → AllByRecursion P nodes → P node → AllByRecursion P (put_by_number node nodes)
put_all P node [] h p = (p, tt)
put_all P node (m ∷ nodes) h p = put_all_by (nat_lt m.number node.number) P node m nodes h p (put_all P node nodes h.1 p)

-- a node that is given is given still
put_has_by : (b : Bool) (node m : GivenNode) (nodes : List GivenNode) (n : ℕ) → has_node (m ∷ nodes) n ≡ true
    → (has_node nodes n ≡ true → has_node (put_by_number node nodes) n ≡ true)
    → has_node (if b then m ∷ put_by_number node nodes else node ∷ (m ∷ nodes)) n ≡ true
put_has_by true node m nodes n e rest = or_more (m.number == n) (has_node nodes n) (has_node (put_by_number node nodes) n) e rest
put_has_by false node m nodes n e rest = or_second (node.number == n) (has_node (m ∷ nodes) n) e

put_has : (node : GivenNode) (nodes : List GivenNode) (n : ℕ) → has_node nodes n ≡ true → has_node (put_by_number node nodes) n ≡ true
put_has node [] n e = cc
put_has node (m ∷ nodes) n e = put_has_by (nat_lt m.number node.number) node m nodes n e (λ h. put_has node nodes n h)

-- a number is below the first of others
abbrev IsBelowFirst : ℕ → List ℕ → Type 0
IsBelowFirst x [] = Unit {0}
IsBelowFirst x (y ∷ ys) = x < y

ascending_from : (x : ℕ) (xs : List ℕ) → IsBelowFirst x xs → AreAscending xs → AreAscending (x ∷ xs)
ascending_from x [] h k = tt
ascending_from x (y ∷ ys) h k = (h, k)

ascending_first : (x : ℕ) (xs : List ℕ) → AreAscending (x ∷ xs) → IsBelowFirst x xs
ascending_first x [] h = tt
ascending_first x (y ∷ ys) h = h.0

ascending_rest : (x : ℕ) (xs : List ℕ) → AreAscending (x ∷ xs) → AreAscending xs
ascending_rest x [] h = tt
ascending_rest x (y ∷ ys) h = h.1

abbrev numbers : List GivenNode → List ℕ
numbers nodes = map (λ (node : GivenNode). node.number) nodes

put_first_by : (b : Bool) (x : ℕ) (node m : GivenNode) (nodes : List GivenNode) → x < node.number → x < m.number
    → IsBelowFirst x (numbers (if b then m ∷ put_by_number node nodes else node ∷ (m ∷ nodes)))
put_first_by true x node m nodes h k = k
put_first_by false x node m nodes h k = h

put_first : (x : ℕ) (node : GivenNode) (nodes : List GivenNode) → x < node.number → IsBelowFirst x (numbers nodes) → IsBelowFirst x (numbers (put_by_number node nodes))
put_first x node [] h k = h
put_first x node (m ∷ nodes) h k = put_first_by (nat_lt m.number node.number) x node m nodes h k

lesser : (m n : ℕ) → nat_lt m n ≡ true → m < n
lesser m n e = grind (arith, nat_tests)

greater : (m n : ℕ) → nat_lt m n ≡ false → m ≢ n → n < m
greater m n e ne = let least : n ≤ m = grind (arith, nat_tests) in omega (arith, least, ne)

put_ascending_by : (b : Bool) (node m : GivenNode) (nodes : List GivenNode) → nat_lt m.number node.number ≡ b → m.number ≢ node.number
    → AreAscending (numbers (m ∷ nodes)) → AreAscending (numbers (put_by_number node nodes))
    → AreAscending (numbers (if b then m ∷ put_by_number node nodes else node ∷ (m ∷ nodes)))
put_ascending_by true node m nodes b ne k rest =
    ascending_from m.number (numbers (put_by_number node nodes)) (put_first m.number node nodes (lesser m.number node.number b) (ascending_first m.number (numbers nodes) k)) rest
put_ascending_by false node m nodes b ne k rest = (greater m.number node.number b ne, k)

put_ascending : (node : GivenNode) (nodes : List GivenNode) → has_node nodes node.number ≡ false → AreAscending (numbers nodes) → AreAscending (numbers (put_by_number node nodes))
put_ascending node [] e k = tt
put_ascending node (m ∷ nodes) e k =
    let new = neither (m.number == node.number) (has_node nodes node.number) e in
    put_ascending_by (nat_lt m.number node.number) node m nodes refl (differ m.number node.number new.0) k (put_ascending node nodes new.1 (ascending_rest m.number (numbers nodes) k))

abbrev ids : List GivenNode → List ℕ
ids nodes = map (λ (node : GivenNode). node.id) nodes

ids_differ : (id : ℕ) (nodes : List GivenNode) → list_any (λ (other : GivenNode). other.id == id) nodes ≡ false → AllByRecursion (λ y. id ≢ y) (ids nodes)
ids_differ id [] e = tt
ids_differ id (m ∷ nodes) e =
    let new = neither (m.id == id) (list_any (λ (other : GivenNode). other.id == id) nodes) e in
    (λ same. differ m.id id new.0 (sym same), ids_differ id nodes new.1)

put_ids_by : (b : Bool) (P : ℕ → Type 0) (node m : GivenNode) (nodes : List GivenNode) → AllByRecursion P (ids (m ∷ nodes)) → P node.id
    → AllByRecursion P (ids (put_by_number node nodes)) → AllByRecursion P (ids (if b then m ∷ put_by_number node nodes else node ∷ (m ∷ nodes)))
put_ids_by true P node m nodes h p rest = (h.0, rest)
put_ids_by false P node m nodes h p rest = (p, h)

put_ids : (P : ℕ → Type 0) (node : GivenNode) (nodes : List GivenNode) → AllByRecursion P (ids nodes) → P node.id → AllByRecursion P (ids (put_by_number node nodes))
put_ids P node [] h p = (p, tt)
put_ids P node (m ∷ nodes) h p = put_ids_by (nat_lt m.number node.number) P node m nodes h p (put_ids P node nodes h.1 p)

put_distinct_by : (b : Bool) (node m : GivenNode) (nodes : List GivenNode) → list_any (λ (other : GivenNode). other.id == node.id) (m ∷ nodes) ≡ false
    → m.id ≢ node.id → AreDistinct (ids (m ∷ nodes)) → AreDistinct (ids (put_by_number node nodes))
    → AreDistinct (ids (if b then m ∷ put_by_number node nodes else node ∷ (m ∷ nodes)))
put_distinct_by true node m nodes e ne k rest = (put_ids (λ y. m.id ≢ y) node nodes k.0 ne, rest)
put_distinct_by false node m nodes e ne k rest = (ids_differ node.id (m ∷ nodes) e, k)

put_distinct : (node : GivenNode) (nodes : List GivenNode) → list_any (λ (other : GivenNode). other.id == node.id) nodes ≡ false → AreDistinct (ids nodes)
    → AreDistinct (ids (put_by_number node nodes))
put_distinct node [] e k = (tt, tt)
put_distinct node (m ∷ nodes) e k =
    let new = neither (m.id == node.id) (list_any (λ (other : GivenNode). other.id == node.id) nodes) e in
    put_distinct_by (nat_lt m.number node.number) node m nodes e (differ m.id node.id new.0) k (put_distinct node nodes new.1 k.1)

still_link : (node : GivenNode) (nodes : List GivenNode) (link : LinkLine) → IsLinkOf nodes link → IsLinkOf (put_by_number node nodes) link
still_link node nodes link k = record {
  a = put_has node nodes link.a.node k.a;
  b = put_has node nodes link.b.node k.b;
  apart = k.apart;
  a_end = k.a_end;
  b_end = k.b_end;
  least_delay = k.least_delay;
  most_delay = k.most_delay;
  least_gap = k.least_gap;
  most_gap = k.most_gap;
  most_net = k.most_net;
}

more_nodes : (node : GivenNode) (nodes : List GivenNode) (links : List LinkLine) → AllByRecursion (IsLinkOf nodes) links → AllByRecursion (IsLinkOf (put_by_number node nodes)) links
more_nodes node nodes [] k = tt
more_nodes node nodes (link ∷ links) k = (still_link node nodes link k.0, more_nodes node nodes links k.1)

-- a step names what is given still
both_more : (a b c d : Bool) → (a && b) ≡ true → (a ≡ true → c ≡ true) → (b ≡ true → d ≡ true) → (c && d) ≡ true
both_more a b c d e f g = let is = both a b e in rw (f is.0, g is.1) refl

step_with_node : (node : GivenNode) (nodes : List GivenNode) (links : List LinkLine) (wires : List WireLine) (step : PlayLine) → is_step_of nodes links wires step ≡ true
    → is_step_of (put_by_number node nodes) links wires step ≡ true
step_with_node node nodes links wires (Take name) e = both_more _ _ _ _ e (λ h. put_has node nodes name.node h) (λ h. h)
step_with_node node nodes links wires (Run n count) e = put_has node nodes n e
step_with_node node nodes links wires (Send name) e = both_more _ _ _ _ e (λ h. put_has node nodes name.node h) (λ h. h)

-- the steps name what is given
abbrev AreStepsOf : List GivenNode → List LinkLine → List WireLine → List PlayLine → Type 0
AreStepsOf nodes links wires steps = AllByRecursion (λ (step : PlayLine). is_step_of nodes links wires step ≡ true) steps

steps_with_node : (node : GivenNode) (nodes : List GivenNode) (links : List LinkLine) (wires : List WireLine) (steps : List PlayLine) → AreStepsOf nodes links wires steps
    → AreStepsOf (put_by_number node nodes) links wires steps
steps_with_node node nodes links wires [] k = tt
steps_with_node node nodes links wires (step ∷ steps) k = (step_with_node node nodes links wires step k.0, steps_with_node node nodes links wires steps k.1)

still_wire : (node : GivenNode) (nodes : List GivenNode) (wire : WireLine) → IsWireOf nodes wire → IsWireOf (put_by_number node nodes) wire
still_wire node nodes wire k = record {
  a = put_has node nodes wire.a.node k.a;
  b = put_has node nodes wire.b.node k.b;
  apart = k.apart;
  a_port = k.a_port;
  b_port = k.b_port;
  widths = k.widths;
  least_delay = k.least_delay;
  most_delay = k.most_delay;
}

still_wires : (node : GivenNode) (nodes : List GivenNode) (wires : List WireLine) → AllByRecursion (IsWireOf nodes) wires → AllByRecursion (IsWireOf (put_by_number node nodes)) wires
still_wires node nodes [] k = tt
still_wires node nodes (wire ∷ wires) k = (still_wire node nodes wire k.0, still_wires node nodes wires k.1)

with_node : (nodes : List GivenNode) (node : GivenNode) (links : List LinkLine) (bits : List BitRec) (wires : List WireLine) (steps : List PlayLine) → nat_le 16 (length nodes) ≡ false
    → node.number ≤ 99 → has_node nodes node.number ≡ false → list_any (λ (other : GivenNode). other.id == node.id) nodes ≡ false → AreAccepted nodes links bits wires steps
    → AreAccepted (put_by_number node nodes) links bits wires steps
with_node nodes node links bits wires steps few h new new_id k = record {
  few_nodes = let more = put_length node nodes in let room : length nodes < 16 = grind (arith, nat_tests) in omega arith;
  few_links = k.few_links;
  numbers = put_all (λ (n : GivenNode). n.number ≤ 99) node nodes k.numbers h;
  order = put_ascending node nodes new k.order;
  ids = put_distinct node nodes new_id k.ids;
  links = more_nodes node nodes links k.links;
  ends = k.ends;
  bits = k.bits;
  few_wires = k.few_wires;
  wires = still_wires node nodes wires k.wires;
  targets = k.targets;
  steps = steps_with_node node nodes links wires steps k.steps;
}

-- One more link

ranges : (least most n : ℕ) → is_between least most n ≡ true → (least ≤ n) × (n ≤ most)
ranges least most n e = let b = both (nat_le least n) (nat_le n most) e in (grind (arith, nat_tests), grind (arith, nat_tests))

at_most : (n most : ℕ) → nat_le n most ≡ true → n ≤ most
at_most n most e = grind (arith, nat_tests)

link_of : (nodes : List GivenNode) (link : LinkLine) → are_numbers_in_range (Link link) ≡ true
    → not (has_node nodes link.a.node && has_node nodes link.b.node) ≡ false → (link.a.node == link.b.node) ≡ false → IsLinkOf nodes link
link_of nodes link range known apart =
    let given = both (has_node nodes link.a.node) (has_node nodes link.b.node) (not_false _ known) in
    let a = both (is_end_in_range link.a) _ range in
    let b = both (is_end_in_range link.b) _ a.1 in
    let times = both (is_between 1 1000 link.delay) _ b.1 in
    let last = both (is_between 4 1000 link.gap) (is_net link.net) times.1 in
    let delay = ranges 1 1000 link.delay times.0 in
    let gap = ranges 4 1000 link.gap last.0 in
    record {
      a = given.0;
      b = given.1;
      apart = differ link.a.node link.b.node apart;
      a_end = at_most link.a.end 7 (both (is_node_number link.a.node) (is_end_number link.a.end) a.0).1;
      b_end = at_most link.b.end 7 (both (is_node_number link.b.node) (is_end_number link.b.end) b.0).1;
      least_delay = delay.0;
      most_delay = delay.1;
      least_gap = gap.0;
      most_gap = gap.1;
      most_net = at_most link.net 3 last.1;
    }

is_same : (name : EndName) → is_same_end name name ≡ true
is_same name = grind (arith, nat_tests)

ends_differ : (x y : EndName) → is_same_end x y ≡ false → x ≢ y
ends_differ x y e same = let is : is_same_end x y ≡ true = rw same (is_same y) in cc

more_ends : (P : EndName → Type 0) (links : List LinkLine) (link : LinkLine) → AllByRecursion P (ends_of links) → P link.a → P link.b → AllByRecursion P (ends_of (links ++ link ∷ []))
more_ends P [] link h p q = (p, (q, tt))
more_ends P (l ∷ links) link h p q = (h.0, (h.1.0, more_ends P links link h.1.1 p q))

distinct_ends : (links : List LinkLine) (link : LinkLine) → link.a ≢ link.b → has_link_end links link.a ≡ false → has_link_end links link.b ≡ false
    → AreDistinct (ends_of links) → AreDistinct (ends_of (links ++ link ∷ []))
distinct_ends [] link ne e f k = ((ne, tt), (tt, tt))
distinct_ends (l ∷ links) link ne e f k =
    let a = neither (is_same_end l.a link.a || is_same_end l.b link.a) (has_link_end links link.a) e in
    let b = neither (is_same_end l.a link.b || is_same_end l.b link.b) (has_link_end links link.b) f in
    let to_a = neither (is_same_end l.a link.a) (is_same_end l.b link.a) a.0 in
    let to_b = neither (is_same_end l.a link.b) (is_same_end l.b link.b) b.0 in (
      (k.0.0, more_ends (λ y. l.a ≢ y) links link k.0.1 (ends_differ l.a link.a to_a.0) (ends_differ l.a link.b to_b.0)),
      (more_ends (λ y. l.b ≢ y) links link k.1.0 (ends_differ l.b link.a to_a.1) (ends_differ l.b link.b to_b.1), distinct_ends links link ne a.1 b.1 k.1.1),
    )

-- a link end in a link is in one still
still_in : (links : List LinkLine) (link : LinkLine) (name : EndName) → has_link_end links name ≡ true → has_link_end (links ++ link ∷ []) name ≡ true
still_in [] link name e = cc
still_in (l ∷ links) link name e = or_more (is_same_end l.a name || is_same_end l.b name) (has_link_end links name) (has_link_end (links ++ link ∷ []) name) e (λ h. still_in links link name h)

more_links : (links : List LinkLine) (link : LinkLine) (bits : List BitRec)
    → AllByRecursion (λ (bit : BitRec). has_link_ends links bit.node bit.ends ≡ true) bits
    → AllByRecursion (λ (bit : BitRec). has_link_ends (links ++ link ∷ []) bit.node bit.ends ≡ true) bits
more_links links link [] k = tt
more_links links link (bit ∷ bits) k = (
  all_more (λ end. has_link_end links (record { node = bit.node; end = end }))
      (λ end. has_link_end (links ++ link ∷ []) (record { node = bit.node; end = end })) bit.ends
      (λ end h. still_in links link (record { node = bit.node; end = end }) h) k.0,
  more_links links link bits k.1,
)

either_more : (a b c : Bool) → (a || c) ≡ true → (a ≡ true → b ≡ true) → (b || c) ≡ true
either_more true b c e h = or_first b c (h refl)
either_more false b c e h = or_second b c e

step_with_link : (nodes : List GivenNode) (links : List LinkLine) (link : LinkLine) (wires : List WireLine) (step : PlayLine) → is_step_of nodes links wires step ≡ true
    → is_step_of nodes (links ++ link ∷ []) wires step ≡ true
step_with_link nodes links link wires (Take name) e =
    let wired = is_wire_end (count_coming wires name.node) name.end in
    both_more (has_node nodes name.node) (has_end_in links wires name) (has_node nodes name.node) (has_end_in (links ++ link ∷ []) wires name) e (λ h. h)
    (λ h. either_more (has_link_end links name) (has_link_end (links ++ link ∷ []) name) wired h (λ i. still_in links link name i))
step_with_link nodes links link wires (Run n count) e = e
step_with_link nodes links link wires (Send name) e =
    let wired = is_wire_end (count_leaving wires name.node) name.end in
    both_more (has_node nodes name.node) (has_end_out links wires name) (has_node nodes name.node) (has_end_out (links ++ link ∷ []) wires name) e (λ h. h)
    (λ h. either_more (has_link_end links name) (has_link_end (links ++ link ∷ []) name) wired h (λ i. still_in links link name i))

steps_with_link : (nodes : List GivenNode) (links : List LinkLine) (link : LinkLine) (wires : List WireLine) (steps : List PlayLine) → AreStepsOf nodes links wires steps
    → AreStepsOf nodes (links ++ link ∷ []) wires steps
steps_with_link nodes links link wires [] k = tt
steps_with_link nodes links link wires (step ∷ steps) k = (step_with_link nodes links link wires step k.0, steps_with_link nodes links link wires steps k.1)

with_link : (nodes : List GivenNode) (links : List LinkLine) (link : LinkLine) (bits : List BitRec) (wires : List WireLine) (steps : List PlayLine) → nat_le 48 (length links) ≡ false
    → IsLinkOf nodes link → (is_same_end link.a link.b || (has_link_end links link.a || has_link_end links link.b)) ≡ false → AreAccepted nodes links bits wires steps
    → AreAccepted nodes (links ++ link ∷ []) bits wires steps
with_link nodes links link bits wires steps few h new k =
    let ends = neither (is_same_end link.a link.b) (has_link_end links link.a || has_link_end links link.b) new in
    let each = neither (has_link_end links link.a) (has_link_end links link.b) ends.1 in
    record {
      few_nodes = k.few_nodes;
      few_links = let room : length links < 48 = grind (arith, nat_tests) in let more = length-append links (link ∷ []) in omega arith;
      numbers = k.numbers;
      order = k.order;
      ids = k.ids;
      links = one_more (IsLinkOf nodes) links link k.links h;
      ends = distinct_ends links link (ends_differ link.a link.b ends.0) each.0 each.1 k.ends;
      bits = more_links links link bits k.bits;
      few_wires = k.few_wires;
      wires = k.wires;
      targets = k.targets;
      steps = steps_with_link nodes links link wires steps k.steps;
    }

-- One more bit

with_bit : (nodes : List GivenNode) (links : List LinkLine) (bits : List BitRec) (wires : List WireLine) (steps : List PlayLine) (bit : BitRec)
    → not (has_node nodes bit.node && has_link_ends links bit.node bit.ends) ≡ false → AreAccepted nodes links bits wires steps → AreAccepted nodes links (bits ++ bit ∷ []) wires steps
with_bit nodes links bits wires steps bit known k = record {
  few_nodes = k.few_nodes;
  few_links = k.few_links;
  numbers = k.numbers;
  order = k.order;
  ids = k.ids;
  links = k.links;
  ends = k.ends;
  bits = one_more (λ (b : BitRec). has_link_ends links b.node b.ends ≡ true) bits bit k.bits (both (has_node nodes bit.node) (has_link_ends links bit.node bit.ends) (not_false _ known)).1;
  few_wires = k.few_wires;
  wires = k.wires;
  targets = k.targets;
  steps = k.steps;
}

-- One more wire

wire_of : (nodes : List GivenNode) (wire : WireLine) → are_numbers_in_range (Wire wire) ≡ true → not (has_node nodes wire.a.node && has_node nodes wire.b.node) ≡ false
    → (wire.a.node == wire.b.node) ≡ false → not (port_width wire.a.port == port_width wire.b.port) ≡ false → wire.a.port < 29 → wire.b.port < 29 → IsWireOf nodes wire
wire_of nodes wire range known apart widths a_port b_port =
    let given = both (has_node nodes wire.a.node) (has_node nodes wire.b.node) (not_false _ known) in
    let a = both (is_node_number wire.a.node) _ range in
    let b = both (is_node_number wire.b.node) (is_between 1 1000 wire.delay) a.1 in
    let delay = ranges 1 1000 wire.delay b.1 in
    let same = not_false _ widths in
    record {
      a = given.0;
      b = given.1;
      apart = differ wire.a.node wire.b.node apart;
      a_port = a_port;
      b_port = b_port;
      widths = grind (arith, nat_tests);
      least_delay = delay.0;
      most_delay = delay.1;
    }

abbrev targets : List WireLine → List PinName
targets wires = map (λ (wire : WireLine). wire.b) wires

is_same_as_itself : (pin : PinName) → is_same_pin pin pin ≡ true
is_same_as_itself pin = grind (arith, nat_tests)

pins_differ : (x y : PinName) → is_same_pin x y ≡ false → x ≢ y
pins_differ x y e same = let is : is_same_pin x y ≡ true = rw same (is_same_as_itself y) in cc

more_targets : (P : PinName → Type 0) (wires : List WireLine) (wire : WireLine) → AllByRecursion P (targets wires) → P wire.b → AllByRecursion P (targets (wires ++ wire ∷ []))
more_targets P [] wire h p = (p, tt)
more_targets P (w ∷ wires) wire h p = (h.0, more_targets P wires wire h.1 p)

distinct_targets : (wires : List WireLine) (wire : WireLine) → is_wired wires wire.b ≡ false → AreDistinct (targets wires) → AreDistinct (targets (wires ++ wire ∷ []))
distinct_targets [] wire e k = (tt, tt)
distinct_targets (w ∷ wires) wire e k =
    let new = neither (is_same_pin w.b wire.b) (is_wired wires wire.b) e in
    (more_targets (λ y. w.b ≢ y) wires wire k.0 (pins_differ w.b wire.b new.0), distinct_targets wires wire new.1 k.1)

-- with one more wire the ends of wires are there still
end_still : (m n end : ℕ) → m ≤ n → is_wire_end m end ≡ true → is_wire_end n end ≡ true
end_still m n end h e =
    let is = both (nat_le 8 end) (nat_lt end (8 + m)) e in
    let below : end < 8 + m = lesser end (8 + m) is.1 in
    let more : nat_lt end (8 + n) ≡ true = grind (arith, nat_tests) in
    rw (is.0, more) refl

counted : (b : Bool) (w : WireLine) (xs ys : List WireLine) → length xs ≤ length ys → length (if b then w ∷ xs else xs) ≤ length (if b then w ∷ ys else ys)
counted true w xs ys h = omega arith
counted false w xs ys h = h

count_more : (test : WireLine → Bool) (wires more : List WireLine) → length (filter test wires) ≤ length (filter test (wires ++ more))
count_more test [] more = omega arith
count_more test (w ∷ wires) more = counted (test w) w (filter test wires) (filter test (wires ++ more)) (count_more test wires more)

step_with_wire : (nodes : List GivenNode) (links : List LinkLine) (wires : List WireLine) (wire : WireLine) (step : PlayLine) → is_step_of nodes links wires step ≡ true
    → is_step_of nodes links (wires ++ wire ∷ []) step ≡ true
step_with_wire nodes links wires wire (Take name) e =
    let before = count_coming wires name.node in
    let after = count_coming (wires ++ wire ∷ []) name.node in
    both_more (has_node nodes name.node) (has_end_in links wires name) (has_node nodes name.node) (has_end_in links (wires ++ wire ∷ []) name) e (λ h. h)
    (λ h. or_more (has_link_end links name) (is_wire_end before name.end) (is_wire_end after name.end) h
    (λ i. end_still before after name.end (count_more (λ (w : WireLine). w.b.node == name.node) wires (wire ∷ [])) i))
step_with_wire nodes links wires wire (Run n count) e = e
step_with_wire nodes links wires wire (Send name) e =
    let before = count_leaving wires name.node in
    let after = count_leaving (wires ++ wire ∷ []) name.node in
    both_more (has_node nodes name.node) (has_end_out links wires name) (has_node nodes name.node) (has_end_out links (wires ++ wire ∷ []) name) e (λ h. h)
    (λ h. or_more (has_link_end links name) (is_wire_end before name.end) (is_wire_end after name.end) h
    (λ i. end_still before after name.end (count_more (λ (w : WireLine). w.a.node == name.node) wires (wire ∷ [])) i))

steps_with_wire : (nodes : List GivenNode) (links : List LinkLine) (wires : List WireLine) (wire : WireLine) (steps : List PlayLine) → AreStepsOf nodes links wires steps
    → AreStepsOf nodes links (wires ++ wire ∷ []) steps
steps_with_wire nodes links wires wire [] k = tt
steps_with_wire nodes links wires wire (step ∷ steps) k = (step_with_wire nodes links wires wire step k.0, steps_with_wire nodes links wires wire steps k.1)

with_wire : (nodes : List GivenNode) (links : List LinkLine) (bits : List BitRec) (wires : List WireLine) (wire : WireLine) (steps : List PlayLine) → nat_le 32 (length wires) ≡ false
    → IsWireOf nodes wire → is_wired wires wire.b ≡ false → AreAccepted nodes links bits wires steps → AreAccepted nodes links bits (wires ++ wire ∷ []) steps
with_wire nodes links bits wires wire steps few h new k = record {
  few_nodes = k.few_nodes;
  few_links = k.few_links;
  numbers = k.numbers;
  order = k.order;
  ids = k.ids;
  links = k.links;
  ends = k.ends;
  bits = k.bits;
  few_wires = let room : length wires < 32 = grind (arith, nat_tests) in let more = length-append wires (wire ∷ []) in omega arith;
  wires = one_more (IsWireOf nodes) wires wire k.wires h;
  targets = distinct_targets wires wire new k.targets;
  steps = steps_with_wire nodes links wires wire steps k.steps;
}

-- One more step

with_step : (nodes : List GivenNode) (links : List LinkLine) (bits : List BitRec) (wires : List WireLine) (steps : List PlayLine) (step : PlayLine)
    → not (is_step_of nodes links wires step) ≡ false → AreAccepted nodes links bits wires steps → AreAccepted nodes links bits wires (steps ++ step ∷ [])
with_step nodes links bits wires steps step known k = record {
  few_nodes = k.few_nodes;
  few_links = k.few_links;
  numbers = k.numbers;
  order = k.order;
  ids = k.ids;
  links = k.links;
  ends = k.ends;
  bits = k.bits;
  few_wires = k.few_wires;
  wires = k.wires;
  targets = k.targets;
  steps = one_more (λ (s : PlayLine). is_step_of nodes links wires s ≡ true) steps step k.steps (not_false _ known);
}

-- A line without a fault keeps it all.

-- what the edition asks, with one more link, and with one more wire
link_of_edition : (given : Given) (l : List ℕ) (link : LinkLine) → says given l ≡ Form (Link link) → IsOfEdition (edition_given given.edition) given.links given.wires
    → IsOfEdition (edition_given given.edition) (given.links ++ link ∷ []) given.wires
link_of_edition given l link s k = record {
  one_network = λ e. one_more (λ (x : LinkLine). x.net ≡ 0) given.links link (k.one_network e) (of_network_0 given l link s e);
  no_wires = k.no_wires;
}

wire_of_edition : (given : Given) (l : List ℕ) (wire : WireLine) → says given l ≡ Form (Wire wire) → IsOfEdition (edition_given given.edition) given.links given.wires
    → IsOfEdition (edition_given given.edition) given.links (given.wires ++ wire ∷ [])
wire_of_edition given l wire s k = record {
  one_network = k.one_network;
  no_wires = λ e. absurd (omega (arith, e, (wire_said given l wire s).second));
}

form_keeps : (n : ℕ) (l : List ℕ) (form : FrameLine) (given : Given) → says given l ≡ Form form → Passes given form → IsAccepted given → IsAccepted (given_with n l (Form form) given)
form_keeps n l (Node node) given s p k = record {
  edition = k.edition;
  lines = with_node given.nodes (record { line = n; number = node.number; id = node.id }) given.links given.bits given.wires given.steps p.few
      (at_most node.number 99 (both (is_node_number node.number) (nat_le node.id 65535) p.ranged).0) p.new p.new_id k.lines;
  of_edition = k.of_edition;
}
form_keeps n l (Link link) given s p k = record {
  edition = k.edition;
  lines = with_link given.nodes given.links link given.bits given.wires given.steps p.few (link_of given.nodes link p.ranged p.known p.apart) p.new_ends k.lines;
  of_edition = link_of_edition given l link s k.of_edition;
}
form_keeps n l (Bit bit) given s p k = record {
  edition = k.edition;
  lines = with_bit given.nodes given.links given.bits given.wires given.steps bit p.known k.lines;
  of_edition = k.of_edition;
}
form_keeps n l (Wire wire) given s p k =
    let said = wire_said given l wire s in
    record {
      edition = k.edition;
      lines = with_wire given.nodes given.links given.bits given.wires wire given.steps p.few_wires
          (wire_of given.nodes wire p.ranged p.known p.two_nodes p.one_width said.a_port said.b_port) p.new_pin k.lines;
      of_edition = wire_of_edition given l wire s k.of_edition;
    }
form_keeps n l (Step step) given s p k = record {
  edition = k.edition;
  lines = with_step given.nodes given.links given.bits given.wires given.steps step p.known k.lines;
  of_edition = k.of_edition;
}
form_keeps n l (Section kind) given s p k = record { edition = k.edition; lines = k.lines; of_edition = k.of_edition }

-- The edition of a first line is 1 or 2.

word_edition : (first second : Bool) (edition : ℕ) → cond first (Some 1) (cond second (Some 2) None) ≡ Some edition → IsEdition edition
word_edition true second edition e = let is : 1 ≡ edition = cc in record { least = omega (arith, is); most = omega (arith, is) }
word_edition false true edition e = let is : 2 ≡ edition = cc in record { least = omega (arith, is); most = omega (arith, is) }
word_edition false false edition e = absurd cc

named_edition : (named : Bool) (word : List ℕ) (edition : ℕ) → cond named (edition_of_word word) None ≡ Some edition → IsEdition edition
named_edition true word edition e = word_edition (same_name (codes "1") word) (same_name (codes "2") word) edition e
named_edition false word edition e = absurd cc

header_edition : (words : List (List ℕ)) (edition : ℕ) → edition_of_header words ≡ Some edition → IsEdition edition
header_edition [] edition e = absurd cc
header_edition (a ∷ []) edition e = absurd cc
header_edition (a ∷ b ∷ []) edition e = named_edition (same_name (codes "xs1") a) b edition e
header_edition (a ∷ b ∷ c ∷ ws) edition e = absurd cc

said_edition : (given : Option ℕ) (edition : ℕ) → says_header given ≡ Header edition → given ≡ Some edition
said_edition None edition e = absurd cc
said_edition (Some given) edition e = cc

form_no_header : (o : Option FrameLine) (edition : ℕ) → says_form o ≡ Header edition → ⊥
form_no_header None edition e = cc
form_no_header (Some form) edition e = cc

frame_edition : (given : Option ℕ) (words : List (List ℕ)) (edition : ℕ) → says_in_frame given words ≡ Header edition → IsEdition edition
frame_edition given [] edition e = absurd cc
frame_edition None (w ∷ ws) edition e = header_edition (w ∷ ws) edition (said_edition (edition_of_header (w ∷ ws)) edition e)
frame_edition (Some given) (w ∷ ws) edition e = absurd (form_no_header (frame_line given (w ∷ ws)) edition e)

play_no_header : (words : List (List ℕ)) (edition : ℕ) → says_in_play words ≡ Header edition → ⊥
play_no_header [] edition e = cc
play_no_header (w ∷ ws) edition e = form_no_header (option_map (λ (x : PlayLine). Step x) (play_line (w ∷ ws))) edition e

section_no_header : (kind : SectionKind) (words : List (List ℕ)) (edition : ℕ) → says_in_section kind words ≡ Header edition → ⊥
section_no_header (Source n) words edition e = cc
section_no_header Pins words edition e = cc
section_no_header Play words edition e = play_no_header words edition e

end_no_header : (end : Bool) (kind : SectionKind) (words : List (List ℕ)) (edition : ℕ) → cond end End (says_in_section kind words) ≡ Header edition → ⊥
end_no_header true kind words edition e = cc
end_no_header false kind words edition e = section_no_header kind words edition e

line_edition : (given : Option ℕ) (reading : Option SectionText) (l : List ℕ) (edition : ℕ) → says_by given reading l ≡ Header edition → IsEdition edition
line_edition given None l edition e = frame_edition given (words_of_line l) edition e
line_edition given (Some section) l edition e = absurd (end_no_header (is_end l) section.kind (words_of_line l) edition e)

-- No line before it gives one.

frame_first : (given : Option ℕ) (words : List (List ℕ)) (edition : ℕ) → says_in_frame given words ≡ Header edition → edition_given given ≡ 1
frame_first given [] edition e = absurd cc
frame_first None (w ∷ ws) edition e = refl
frame_first (Some given) (w ∷ ws) edition e = absurd (form_no_header (frame_line given (w ∷ ws)) edition e)

line_first : (given : Option ℕ) (reading : Option SectionText) (l : List ℕ) (edition : ℕ) → says_by given reading l ≡ Header edition → edition_given given ≡ 1
line_first given None l edition e = frame_first given (words_of_line l) edition e
line_first given (Some section) l edition e = absurd (end_no_header (is_end l) section.kind (words_of_line l) edition e)

line_keeps : (n : ℕ) (l : List ℕ) (what : FrameSays) (given : Given) (allowed : Bool) → says given l ≡ what → fault_by given allowed what ≡ None → IsAccepted given → IsAccepted (given_with n l what given)
line_keeps n l Own given allowed s e k = record { edition = k.edition; lines = k.lines; of_edition = k.of_edition }
line_keeps n l End given allowed s e k = record { edition = k.edition; lines = k.lines; of_edition = k.of_edition }
line_keeps n l Blank given allowed s e k = k
line_keeps n l (Header edition) given allowed s e k = record {
  edition = line_edition given.edition given.reading l edition s;
  lines = k.lines;
  of_edition = record {
    one_network = λ one. k.of_edition.one_network (line_first given.edition given.reading l edition s);
    no_wires = λ one. k.of_edition.no_wires (line_first given.edition given.reading l edition s);
  };
}
line_keeps n l NoHeader given allowed s e k = k
line_keeps n l NoForm given allowed s e k = k
line_keeps n l (Form form) given allowed s e k = form_keeps n l form given s (passed given allowed form e) k

found_whole : (o : Option GivenNode) (given whole : Given) → whole_but_for o given ≡ Whole whole → given ≡ whole
found_whole None given whole e = cc
found_whole (Some node) given whole e = absurd cc

end_whole : (reading : Option SectionText) (given whole : Given) → at_the_end given reading ≡ Whole whole → given ≡ whole
end_whole None given whole e = found_whole (without_source given) given whole e
end_whole (Some section) given whole e = absurd cc

unless_whole : (fault : Option SysKind) (n : ℕ) (rest : Framed) (whole : Given) → unless_faulty fault n rest ≡ Whole whole → (fault ≡ None) × (rest ≡ Whole whole)
unless_whole None n rest whole e = (refl, e)
unless_whole (Some kind) n rest whole e = absurd cc

from_keeps : (ls : List (List ℕ)) (n : ℕ) (given whole : Given) → frame_from n given ls ≡ Whole whole → IsAccepted given → IsAccepted whole
from_keeps [] n given whole e k =
    let same : given ≡ whole = end_whole given.reading given whole (sym (from-end n given) ∙ e) in
    subst (λ (g : Given). IsAccepted g) same k
from_keeps (l ∷ ls) n given whole e k =
    let good = unless_whole (fault_of given l) n (frame_from (n + 1) (given_after n l given) ls) whole (sym (from-cons n given l ls) ∙ e) in
    from_keeps ls (n + 1) (given_after n l given) whole good.1 (line_keeps n l (says given l) given (all_allowed l) refl good.0 k)

nothing_kept : IsAccepted nothing_given
nothing_kept = record {
  edition = record { least = omega arith; most = omega arith };
  lines = record {
    few_nodes = omega arith;
    few_links = omega arith;
    numbers = tt;
    order = tt;
    ids = tt;
    links = tt;
    ends = tt;
    bits = tt;
    few_wires = omega arith;
    wires = tt;
    targets = tt;
    steps = tt;
  };
  of_edition = record { one_network = λ one. tt; no_wires = λ one. refl };
}

framed_by : (wordless : Bool) (ls : List (List ℕ)) (whole : Given) → cond wordless (Refused 1 FirstLine) (frame_from 1 nothing_given ls) ≡ Whole whole → IsAccepted whole
framed_by true ls whole e = absurd cc
framed_by false ls whole e = from_keeps ls 1 nothing_given whole e nothing_kept

-- a frame that is accepted
pub framed_keeps : (ls : List (List ℕ)) (whole : Given) → framed ls ≡ Whole whole → IsAccepted whole
framed_keeps ls whole e = framed_by (have_no_words ls) ls whole (sym (framed_is ls) ∙ e)
