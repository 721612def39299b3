-- Reading lines.
use Rattle.std.proofs.Common.{◌≡◌, ℕ, zero, suc, ◌+◌, ◌-◌, ◌<◌, ◌≤◌, ◌^◌, Bool, true, false, cond, ◌||◌, not, Option, Some, None, List, [], ◌∷◌, ◌++◌, length, map, set, replicate, get_or, nat_le, nat_lt, refl, sym, ap, ◌∙◌, subst, arith}
use Rattle.std.specs.Prelude.{find, ◌==◌}
use Rattle.std.specs.List.{AllByRecursion, list_any}
use Rattle.std.proofs.lemmas.Bool.{false≢true}
use Rattle.std.proofs.lemmas.Bool.Decides.{nat_tests}
use Rattle.xs_base.specs.Ids.{port_width}
use Rattle.xs_base.specs.Numbers.{Slot, PortNumber}
use Rattle.pin_scripts.specs.declared.line.Change.{Change}
use Rattle.pin_scripts.specs.declared.line.PinForm.{PinForm}
use Rattle.pin_scripts.specs.declared.line.PinLine.{PinLine}
use Rattle.pin_scripts.specs.declared.line.PinSays.TheVariants.{Form}
use Rattle.pin_scripts.specs.Script.{NodeNumber, IsPinLine, IsScript, IsOfNodes}
use Rattle.pin_scripts.specs.Pins.{fault_of_said, has_pin_kind, has_pin, is_wider, line_of, pin_order, slot_after}
use Rattle.pin_scripts.specs.Facts.{IsGiven, IsPast, KeepsOf, NodeChangesRec, node_without_lines, numbers_of, place_of, same_slot, slot_of_change, with_change}
use Rattle.pin_scripts.proofs.Slots.{push}
use Rattle.pin_scripts.proofs.Index.{given-pin, hit, index-more, past-changes, past-lines, past-slots}
use Rattle.pin_scripts.proofs.Views.{keeps-at}

slot-at : (slot : Slot) (script : List PinLine) (k : ℕ) (d : PinLine) → length script ≡ suc k → (get_or script k d).slot ≡ slot_after slot script
slot-at slot [] k d n = absurd (omega (arith, n))
slot-at slot (x ∷ []) zero d n = refl
slot-at slot (x ∷ []) (suc k) d n = absurd (omega (arith, n))
slot-at slot (x ∷ y ∷ ys) zero d n = absurd (omega (arith, n))
slot-at slot (x ∷ y ∷ ys) (suc k) d n = slot-at x.slot (y ∷ ys) k d (omega (arith, n))

pub last-slot : (script : List PinLine) (d : PinLine) → 0 < length script → (get_or script (length script - 1) d).slot ≡ slot_after 0 script
last-slot script d l = slot-at 0 script (length script - 1) d (omega (arith, l))

-- a number is that of a node where it has a place among them
numbered-by : (b rest : Bool) (k n : ℕ) → rest ≡ nat_lt k n → (b || rest) ≡ nat_lt (cond (not b) (1 + k) 0) (suc n)
numbered-by true rest k n h = grind (arith, nat_tests)
numbered-by false rest k n h = grind (arith, nat_tests)

pub numbered : (nodes : List NodeChangesRec) (number : NodeNumber) → list_any (λ n. n == number) (numbers_of nodes) ≡ nat_lt (place_of nodes number) (length nodes)
numbered [] number = grind (arith, nat_tests)
numbered (x ∷ xs) number = numbered-by (x.number == number) (list_any (λ n. n == number) (numbers_of xs)) (place_of xs number) (length xs) (numbered xs number)

pub not-numbered : (nodes : List NodeChangesRec) (number : NodeNumber) → nat_le (length nodes) (place_of nodes number) ≡ not (list_any (λ n. n == number) (numbers_of nodes))
not-numbered nodes number = by (place_of nodes number) (length nodes) ∙ ap not (sym (numbered nodes number))
  where
    by : (a b : ℕ) → nat_le b a ≡ not (nat_lt a b)
    by a b = grind (arith, nat_tests)

-- whether a pin is given in a slot, by what is kept of its node
pub twice : (script : List PinLine) (slot : Slot) (number : NodeNumber) (port : PortNumber) (named : Option PortNumber) (node : NodeChangesRec) → KeepsOf script number node → port < 29 → named ≡ Some port
    → list_any (λ (c : Change). c.slot == slot) (get_or node.pins port []) ≡ has_pin script slot number named
twice script slot number port named node keeps l is =
    ap (λ (cs : List Change). list_any (λ (c : Change). c.slot == slot) cs) (keeps.pins port l) ∙ sym (given-pin script slot number port) ∙ ap (λ (p : Option PortNumber). has_pin script slot number p) (sym is)

pub pin-past : (script : List PinLine) (slot : Slot) (number : NodeNumber) (port : PortNumber) (node : NodeChangesRec) → KeepsOf script number node → port < 29 → IsScript script → slot_after 0 script ≤ slot
    → IsPast slot_of_change slot (get_or node.pins port [])
pin-past script slot number port node keeps l is later = subst (IsPast slot_of_change slot) (sym (keeps.pins port l)) (past-changes script slot number port is.order later)

pub slots-past : (script : List PinLine) (slot : Slot) (number : NodeNumber) (node : NodeChangesRec) → KeepsOf script number node → IsScript script → slot_after 0 script ≤ slot
    → IsPast same_slot slot node.slots
slots-past script slot number node keeps is later = subst (IsPast same_slot slot) (sym keeps.slots) (past-slots script slot number is.order later)

-- ---- A line without a fault

cond-none : {X : Type 0} (b : Bool) (x : X) (o : Option X) → cond b (Some x) o ≡ None → (b ≡ false) × (o ≡ None)
cond-none true x o e = cc
cond-none false x o e = (refl, e)

none-of : {X : Type 0} (p : X → Bool) (xs : List X) → find p xs ≡ None → AllByRecursion (λ x. p x ≡ false) xs
none-of p [] e = tt
none-of p (x ∷ xs) e = let parts = cond-none (p x) x (find p xs) e in (parts.0, none-of p xs parts.1)

all-append : {X : Type 0} (P : X → Type 0) (xs : List X) (x : X) → AllByRecursion P xs → P x → AllByRecursion P (xs ++ x ∷ [])
all-append P [] x h p = (p, tt)
all-append P (y ∷ ys) x h p = (h.0, all-append P ys x h.1 p)

not-false : (b : Bool) → not b ≡ false → b ≡ true
not-false true e = refl
not-false false e = absurd (false≢true (sym e))

module _ (script : List PinLine) (nodes : List NodeChangesRec) (given : IsGiven script nodes) (form : PinForm) (sound : fault_of_said (numbers_of nodes) script true (Form form) ≡ None)
    (port : PortNumber) (is_port : form.port ≡ Some port) (in_range : port < 29) (place : ℕ) (at : place ≡ place_of nodes form.node) where
  tests : AllByRecursion (λ kind. has_pin_kind kind (numbers_of nodes) script true (Form form) ≡ false) pin_order
  tests = none-of (λ kind. has_pin_kind kind (numbers_of nodes) script true (Form form)) pin_order sound

  named : list_any (λ n. n == form.node) (numbers_of nodes) ≡ true
  named = not-false _ tests.1.0

  pub place-inside : place < length nodes
  place-inside =
      let less : nat_lt (place_of nodes form.node) (length nodes) ≡ true = sym (numbered nodes form.node) ∙ named in
      below place (place_of nodes form.node) (length nodes) at less
    where
      below : (a b c : ℕ) → a ≡ b → nat_lt b c ≡ true → a < c
      below a b c e l = grind (arith, nat_tests)

  later : slot_after 0 script ≤ form.slot
  later = not-below form.slot (slot_after 0 script) tests.1.1.1.1.0
    where
      not-below : (a b : ℕ) → nat_lt a b ≡ false → b ≤ a
      not-below a b e = grind (arith, nat_tests)

  module _ (node : NodeChangesRec) (there : node ≡ get_or nodes place node) where
    keeps : KeepsOf script form.node node
    keeps = keeps-at script nodes form.node place node given.index at place-inside there

    pub pin-is-past : IsPast slot_of_change form.slot (get_or node.pins port [])
    pin-is-past = pin-past script form.slot form.node port node keeps in_range given.script_is later

    pub slots-are-past : IsPast same_slot form.slot node.slots
    slots-are-past = slots-past script form.slot form.node node keeps given.script_is later

    number-is : node.number ≡ form.node
    number-is =
        let here : ((get_or nodes (place_of nodes form.node) node).number == form.node) ≡ true = hit (λ (n : NodeChangesRec). n.number == form.node) nodes node (omega (arith, at, place-inside)) in
        let e : (node.number == form.node) ≡ true =
        subst (λ (n : NodeChangesRec). (n.number == form.node) ≡ true) (sym there) (subst (λ k. ((get_or nodes k node).number == form.node) ≡ true) (sym at) here) in
        same-number node.number form.node e
      where
        same-number : (a b : ℕ) → (a == b) ≡ true → a ≡ b
        same-number a b e = grind (arith, nat_tests)

    abbrev line : PinLine
    line = record { slot = form.slot; node = node.number; port = port; value = form.value }

    pub line-is : line ∷ [] ≡ line_of form.slot form.node form.port form.value
    line-is =
        (λ i. record { slot = form.slot; node = number-is i; port = port; value = form.value } ∷ [])
        ∙ ap (λ (p : Option PortNumber). line_of form.slot form.node p form.value) (sym is_port)

    value-fits : form.value < 2 ^ port_width port
    value-fits =
        let e : is_wider (Some port) form.value ≡ false = ap (λ (p : Option PortNumber). is_wider p form.value) (sym is_port) ∙ tests.1.1.1.0 in
        not-wide (2 ^ port_width port) form.value e
      where
        not-wide : (a b : ℕ) → nat_le a b ≡ false → b < a
        not-wide a b e = grind (arith, nat_tests)

    pub numbers-stay : (new : NodeChangesRec) → new.number ≡ node.number → numbers_of (set nodes place new) ≡ numbers_of nodes
    numbers-stay new e = map-same nodes place (e ∙ ap (λ (n : NodeChangesRec). n.number) there)
      where
        map-same : (xs : List NodeChangesRec) (i : ℕ) → new.number ≡ (get_or xs i node).number → numbers_of (set xs i new) ≡ numbers_of xs
        map-same [] i e = refl
        map-same (x ∷ xs) zero e = λ k. e k ∷ numbers_of xs
        map-same (x ∷ xs) (suc i) e = ap (λ (ns : List ℕ). x.number ∷ ns) (map-same xs i e)

    pub given-more : (new : NodeChangesRec) → new ≡ with_change node port (record { slot = form.slot; value = form.value }) → length node.pins ≡ 29
        → IsGiven (script ++ line ∷ []) (set nodes place new)
    given-more new added ports = record {
      script_is = record {
        lines = all-append IsPinLine script line given.script_is.lines (record { port = in_range; value = value-fits });
        order = push (λ (l : PinLine). l.slot) 0 script line given.script_is.order (past-lines 0 form.slot script given.script_is.order later).1 (omega arith);
      };
      index =
          index-more script nodes line place node new (at ∙ ap (λ n. place_of nodes n) (sym number-is)) place-inside there ports added in_range given.index;
      of_nodes =
          subst (λ (ns : List ℕ). IsOfNodes ns (script ++ line ∷ [])) (sym (numbers-stay new (ap (λ (n : NodeChangesRec). n.number) added)))
          (all-append (λ (l : PinLine). list_any (λ n. n == l.node) (numbers_of nodes) ≡ true) script line given.of_nodes
          (subst (λ k. list_any (λ n. n == k) (numbers_of nodes) ≡ true) (sym number-is) named));
    }

-- ---- No lines yet

without-changes : (count port : ℕ) → get_or (replicate {A = List Change} count []) port [] ≡ []
without-changes zero port = refl
without-changes (suc count) zero = refl
without-changes (suc count) (suc port) = without-changes count port

nothing-at : (numbers : List NodeNumber) (k : ℕ) (number : NodeNumber) (port : PortNumber)
    → get_or (get_or (map node_without_lines numbers) k (record { number = number; pins = []; slots = [] })).pins port [] ≡ []
nothing-at [] k number port = refl
nothing-at (n ∷ ns) zero number port = without-changes 29 port
nothing-at (n ∷ ns) (suc k) number port = nothing-at ns k number port

no-slots-at : (numbers : List NodeNumber) (k : ℕ) (number : NodeNumber) → (get_or (map node_without_lines numbers) k (record { number = number; pins = []; slots = [] })).slots ≡ []
no-slots-at [] k number = refl
no-slots-at (n ∷ ns) zero number = refl
no-slots-at (n ∷ ns) (suc k) number = no-slots-at ns k number

pub given-nothing : (numbers : List NodeNumber) → IsGiven [] (map node_without_lines numbers)
given-nothing numbers = record {
  script_is = record { lines = tt; order = tt };
  index = record {
    pins = λ number port l. nothing-at numbers (place_of (map node_without_lines numbers) number) number port;
    slots = λ number. no-slots-at numbers (place_of (map node_without_lines numbers) number) number;
  };
  of_nodes = tt;
}

pub numbers-are : (numbers : List NodeNumber) → numbers_of (map node_without_lines numbers) ≡ numbers
numbers-are [] = refl
numbers-are (n ∷ ns) = ap (λ (ms : List ℕ). n ∷ ms) (numbers-are ns)
