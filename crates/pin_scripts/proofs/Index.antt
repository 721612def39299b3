-- What is kept of nodes as lines are added.
use Rattle.std.proofs.Common.{◌≡◌, ◌≢◌, ℕ, zero, suc, ◌+◌, ◌<◌, ◌≤◌, Bool, true, false, cond, ◌&&◌, ◌||◌, not, List, [], ◌∷◌, ◌++◌, length, map, set, get_or, refl, sym, ap, ◌∙◌, subst, arith}
use Rattle.std.specs.Prelude.{filter, ◌==◌}
use Rattle.std.specs.List.{list_any, position_or_len}
use Rattle.std.proofs.lemmas.Bool.Decides.{nat_tests}
use Rattle.std.proofs.lemmas.List.{append-nil, get_or-set_same, get_or-set_other, map-append}
use Rattle.std.proofs.lemmas.List.Elements.{filter-append}
use Rattle.std.proofs.lemmas.List.Folds.{position_or_len-set}
use Rattle.xs_base.specs.Numbers.{Slot, PortNumber}
use Rattle.pin_scripts.specs.declared.line.Change.{Change}
use Rattle.pin_scripts.specs.declared.line.PinLine.{PinLine}
use Rattle.pin_scripts.specs.Script.{NodeNumber, NeverFall, is_of_pin, change_of, changes_of}
use Rattle.pin_scripts.specs.Pins.{slot_after}
use Rattle.pin_scripts.specs.Facts.{IsPast, IsIndex, NodeChangesRec, kept_node, kept_pin, place_of, same_slot, slot_of_change, slots_of, with_change}

abbrev slot_of_line : PinLine → Slot
slot_of_line line = line.slot

-- what a function gives of the lines that pass a test, with one more line
module _ {Y : Type 0} (f : PinLine → Y) (p : PinLine → Bool) where
  mapped-cond : (b : Bool) (line : PinLine) → map f (cond b (line ∷ []) []) ≡ cond b (f line ∷ []) []
  mapped-cond true line = refl
  mapped-cond false line = refl

  pub one-more : (script : List PinLine) (line : PinLine) → map f (filter p (script ++ line ∷ [])) ≡ map f (filter p script) ++ cond (p line) (f line ∷ []) []
  one-more script line =
      ap (λ (xs : List PinLine). map f xs) (filter-append p script (line ∷ []))
      ∙ map-append f (filter p script) (filter p (line ∷ []))
      ∙ ap (λ (ys : List Y). map f (filter p script) ++ ys) (mapped-cond (p line) line)

-- no line of a script comes after its last slot
pub past-lines : (least slot : Slot) (script : List PinLine) → NeverFall slot_of_line least script → slot_after least script ≤ slot → (least ≤ slot) × IsPast slot_of_line slot script
past-lines least slot [] h l = (l, tt)
past-lines least slot (x ∷ xs) h l = let rest = past-lines x.slot slot xs h.1 l in (omega (arith, h.0, rest.0), (rest.0, rest.1))

module _ {Y : Type 0} (f : PinLine → Y) (p : PinLine → Bool) (key : Y → Slot) (same : (line : PinLine) → key (f line) ≡ line.slot) (slot : Slot) where
  past-cond : (b : Bool) (x : PinLine) (xs : List PinLine) → x.slot ≤ slot → IsPast key slot (map f xs) → IsPast key slot (map f (cond b (x ∷ xs) xs))
  past-cond true x xs l h = (omega (arith, l, same x), h)
  past-cond false x xs l h = h

  past-some : (script : List PinLine) → IsPast slot_of_line slot script → IsPast key slot (map f (filter p script))
  past-some [] h = tt
  past-some (x ∷ xs) h = past-cond (p x) x (filter p xs) h.0 (past-some xs h.1)

pub past-changes : (script : List PinLine) (slot : Slot) (number : NodeNumber) (port : PortNumber) → NeverFall slot_of_line 0 script → slot_after 0 script ≤ slot
    → IsPast slot_of_change slot (changes_of script number port)
past-changes script slot number port h l = past-some change_of (is_of_pin number port) slot_of_change (λ line. refl) slot script (past-lines 0 slot script h l).1

pub past-slots : (script : List PinLine) (slot : Slot) (number : NodeNumber) → NeverFall slot_of_line 0 script → slot_after 0 script ≤ slot → IsPast same_slot slot (slots_of script number)
past-slots script slot number h l = past-some slot_of_line (λ (line : PinLine). line.node == number) same_slot (λ line. refl) slot script (past-lines 0 slot script h l).1

-- a pin is given in a slot where one of its changes comes in it
given-by : (a b r s : Bool) (x : Change) (xs : List Change) (slot : Slot) → (x.slot == slot) ≡ a → r ≡ list_any (λ (c : Change). c.slot == slot) xs
    → ((a && b) || r) ≡ list_any (λ (c : Change). c.slot == slot) (cond b (x ∷ xs) xs)
given-by true true r s x xs slot e h = rw e refl
given-by false true r s x xs slot e h = rw e h
given-by true false r s x xs slot e h = h
given-by false false r s x xs slot e h = h

map-cond : (b : Bool) (x : PinLine) (xs : List PinLine) → map change_of (cond b (x ∷ xs) xs) ≡ cond b (change_of x ∷ map change_of xs) (map change_of xs)
map-cond true x xs = refl
map-cond false x xs = refl

pub given-pin : (script : List PinLine) (slot : Slot) (number : NodeNumber) (port : PortNumber)
    → list_any (λ (line : PinLine). (line.slot == slot) && ((line.node == number) && (line.port == port))) script ≡ list_any (λ (c : Change). c.slot == slot) (changes_of script number port)
given-pin [] slot number port = refl
given-pin (x ∷ xs) slot number port =
    given-by (x.slot == slot) (is_of_pin number port x) _ true (change_of x) (changes_of xs number port) slot refl (given-pin xs slot number port)
    ∙ ap (λ (cs : List Change). list_any (λ (c : Change). c.slot == slot) cs) (sym (map-cond (is_of_pin number port x) x (filter (is_of_pin number port) xs)))

-- where a node stands
hit-by : {X : Type 0} (p : X → Bool) (x : X) (xs : List X) (k : ℕ) (d : X) (b : Bool) → p x ≡ b → (k < length xs → p (get_or xs k d) ≡ true) → cond (not b) (1 + k) 0 < length (x ∷ xs)
    → p (get_or (x ∷ xs) (cond (not b) (1 + k) 0) d) ≡ true
hit-by p x xs k d true e h l = e
hit-by p x xs k d false e h l =
    let same : 1 + k ≡ suc k = omega arith in
    subst (λ n. p (get_or (x ∷ xs) n d) ≡ true) (sym same) (h (omega (arith, l)))

pub hit : {X : Type 0} (p : X → Bool) (xs : List X) (d : X) → position_or_len p xs < length xs → p (get_or xs (position_or_len p xs) d) ≡ true
hit p [] d l = absurd (omega (arith, l))
hit p (x ∷ xs) d l = hit-by p x xs (position_or_len p xs) d (p x) refl (λ m. hit p xs d m) l

-- one more line
module _ (script : List PinLine) (nodes : List NodeChangesRec) (line : PinLine) (place : ℕ) (node new : NodeChangesRec)
    (is : place ≡ place_of nodes line.node) (inside : place < length nodes) (there : node ≡ get_or nodes place node) (ports : length node.pins ≡ 29)
    (added : new ≡ with_change node line.port (change_of line)) (port_is : line.port < 29) (index : IsIndex script nodes) where
  numbered : (node.number == line.node) ≡ true
  numbered =
      subst (λ (n : NodeChangesRec). (n.number == line.node) ≡ true) (sym there)
      (subst (λ k. ((get_or nodes k node).number == line.node) ≡ true) (sym is)
      (hit (λ (n : NodeChangesRec). n.number == line.node) nodes node (omega (arith, is, inside))))

  number_is : new.number ≡ node.number
  number_is = ap (λ (n : NodeChangesRec). n.number) added

  place_stays : (number : NodeNumber) → place_of (set nodes place new) number ≡ place_of nodes number
  place_stays number =
      position_or_len-set (λ (n : NodeChangesRec). n.number == number) nodes place new node
      (ap (λ k. k == number) (number_is ∙ ap (λ (n : NodeChangesRec). n.number) there))

  -- the node itself, and any other
  kept_here : (number : NodeNumber) → number ≡ line.node → kept_node (set nodes place new) number ≡ new
  kept_here number e =
      let at : place_of (set nodes place new) number ≡ place = place_stays number ∙ ap (λ n. place_of nodes n) e ∙ sym is in
      ap (λ k. get_or (set nodes place new) k (record { number = number; pins = []; slots = [] })) at ∙ get_or-set_same nodes place new _ inside

  was_here : (number : NodeNumber) → number ≡ line.node → kept_node nodes number ≡ node
  was_here number e =
      let at : place_of nodes number ≡ place = ap (λ n. place_of nodes n) e ∙ sym is in
      ap (λ k. get_or nodes k (record { number = number; pins = []; slots = [] })) at ∙ same_default nodes place _ node inside ∙ sym there
    where
      same_default : {X : Type 0} (xs : List X) (i : ℕ) (d e : X) → i < length xs → get_or xs i d ≡ get_or xs i e
      same_default [] i d e l = absurd (omega (arith, l))
      same_default (x ∷ xs) zero d e l = refl
      same_default (x ∷ xs) (suc i) d e l = same_default xs i d e (omega (arith, l))

  elsewhere : (number : NodeNumber) → (number == line.node) ≡ false → place_of nodes number ≢ place
  elsewhere number e same =
      let here : ((get_or nodes (place_of nodes number) node).number == number) ≡ true = hit (λ (n : NodeChangesRec). n.number == number) nodes node (omega (arith, same, inside)) in
      let at : (node.number == number) ≡ true =
      subst (λ (n : NodeChangesRec). (n.number == number) ≡ true) (sym there) (subst (λ k. ((get_or nodes k node).number == number) ≡ true) same here) in
      clash-numbers node.number number line.node at numbered e
    where
      clash-numbers : (a b c : ℕ) → (a == b) ≡ true → (a == c) ≡ true → (b == c) ≡ false → ⊥
      clash-numbers a b c x y z = grind (arith, nat_tests)

  kept_elsewhere : (number : NodeNumber) → (number == line.node) ≡ false → kept_node (set nodes place new) number ≡ kept_node nodes number
  kept_elsewhere number e =
      ap (λ k. get_or (set nodes place new) k (record { number = number; pins = []; slots = [] })) (place_stays number)
      ∙ get_or-set_other nodes place (place_of nodes number) new _ (elsewhere number e)

  flipped : (number : NodeNumber) → (line.node == number) ≡ (number == line.node)
  flipped number = by line.node number
    where
      by : (a b : ℕ) → (a == b) ≡ (b == a)
      by a b = grind (arith, nat_tests)

  slots_by : (number : NodeNumber) (b : Bool) → (number == line.node) ≡ b → (kept_node (set nodes place new) number).slots ≡ slots_of script number ++ cond b (line.slot ∷ []) []
  slots_by number true e =
      let same : number ≡ line.node = grind (arith, nat_tests) in
      ap (λ (n : NodeChangesRec). n.slots) (kept_here number same ∙ added)
      ∙ ap (λ (n : NodeChangesRec). n.slots ++ line.slot ∷ []) (sym (was_here number same))
      ∙ ap (λ (xs : List Slot). xs ++ line.slot ∷ []) (index.slots number)
  slots_by number false e =
      ap (λ (n : NodeChangesRec). n.slots) (kept_elsewhere number e) ∙ index.slots number ∙ sym (append-nil (slots_of script number))

  pin_by : (number : NodeNumber) (port : PortNumber) → port < 29 → (a b : Bool) → (number == line.node) ≡ a → (line.port == port) ≡ b
      → kept_pin (set nodes place new) number port ≡ changes_of script number port ++ cond (a && b) (change_of line ∷ []) []
  pin_by number port l true true e f =
      let same : number ≡ line.node = grind (arith, nat_tests) in
      let here : line.port ≡ port = grind (arith, nat_tests) in
      ap (λ (n : NodeChangesRec). get_or n.pins port []) (kept_here number same ∙ added)
      ∙ (λ i. get_or (set node.pins line.port (get_or node.pins line.port [] ++ change_of line ∷ [])) (sym here i) [])
      ∙ get_or-set_same node.pins line.port _ [] (omega (arith, ports, port_is))
      ∙ (λ i. get_or (sym (was_here number same) i).pins (here i) [] ++ change_of line ∷ [])
      ∙ ap (λ (xs : List Change). xs ++ change_of line ∷ []) (index.pins number port l)
  pin_by number port l true false e f =
      let same : number ≡ line.node = grind (arith, nat_tests) in
      let other : port ≢ line.port = λ q. differ line.port port f (sym q) in
      ap (λ (n : NodeChangesRec). get_or n.pins port []) (kept_here number same ∙ added)
      ∙ get_or-set_other node.pins line.port port _ [] other
      ∙ ap (λ (n : NodeChangesRec). get_or n.pins port []) (sym (was_here number same))
      ∙ index.pins number port l ∙ sym (append-nil (changes_of script number port))
    where
      differ : (a b : ℕ) → (a == b) ≡ false → a ≡ b → ⊥
      differ a b e q = grind (arith, nat_tests)
  pin_by number port l false b e f =
      ap (λ (n : NodeChangesRec). get_or n.pins port []) (kept_elsewhere number e) ∙ index.pins number port l ∙ sym (append-nil (changes_of script number port))

  pub index-more : IsIndex (script ++ line ∷ []) (set nodes place new)
  index-more = record {
    pins = λ number port l.
        pin_by number port l (number == line.node) (line.port == port) refl refl
        ∙ ap (λ b. changes_of script number port ++ cond (b && (line.port == port)) (change_of line ∷ []) []) (sym (flipped number))
        ∙ sym (one-more change_of (is_of_pin number port) script line);
    slots = λ number.
        slots_by number (number == line.node) refl
        ∙ ap (λ b. slots_of script number ++ cond b (line.slot ∷ []) []) (sym (flipped number))
        ∙ sym (one-more slot_of_line (λ (x : PinLine). x.node == number) script line);
  }
