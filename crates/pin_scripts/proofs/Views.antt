-- What pins show.
use Rattle.std.proofs.Common.{inl, inr, ◌≡◌, ℕ, zero, suc, ◌+◌, ◌<◌, ◌≤◌, ◌^◌, Bool, true, false, cond, ◌&&◌, ◌||◌, Option, Some, None, List, [], ◌∷◌, length, map, get_or, nat_le, refl, sym, ap, ◌∙◌, subst, arith}
use Rattle.std.specs.Prelude.{filter, ◌==◌}
use Rattle.std.specs.List.{AllByRecursion, range_with_len}
use Rattle.std.proofs.lemmas.Bool.{cases_lt, eq-eqb, false≢true}
use Rattle.std.proofs.lemmas.Bool.Decides.{nat_tests}
use Rattle.std.proofs.lemmas.Nat.{pow_pos}
use Rattle.std.proofs.lemmas.List.{ext_get_or}
use Rattle.std.proofs.lemmas.List.FromFn.{get_or-map-range_with_len}
use Rattle.xs_base.specs.Ids.{port_width}
use Rattle.xs_base.specs.Numbers.{Slot, Word, PortNumber}
use Rattle.xs_model.specs.Outside.{LevelsFit, LevelsFitFrom}
use Rattle.pin_scripts.specs.declared.line.Change.{Change}
use Rattle.pin_scripts.specs.declared.line.PinLine.{PinLine}
use Rattle.pin_scripts.specs.Script.{NodeNumber, IsPinLine, IsScript, IsNextWhere, IsNextChange, IsSteadyUntil, is_at_most, is_of_pin, change_of, changes_of, changes_in, shown, value_after, pin_at, port_numbers, view_at}
use Rattle.pin_scripts.specs.Facts.{IsIndex, KeepsOf, NodeChangesRec, has_slot, place_of, slots_of}

same-default : {X : Type 0} (xs : List X) (i : ℕ) (d e : X) → i < length xs → get_or xs i d ≡ get_or xs i e
same-default [] i d e l = absurd (omega (arith, l))
same-default (x ∷ xs) zero d e l = refl
same-default (x ∷ xs) (suc i) d e l = same-default xs i d e (omega (arith, l))

pub keeps-at : (script : List PinLine) (nodes : List NodeChangesRec) (number : NodeNumber) (place : ℕ) (node : NodeChangesRec) → IsIndex script nodes → place ≡ place_of nodes number → place < length nodes
    → node ≡ get_or nodes place node → KeepsOf script number node
keeps-at script nodes number place node index is l there =
    let same : node ≡ get_or nodes (place_of nodes number) (record { number = number; pins = []; slots = [] }) =
    there ∙ same-default nodes place node _ l ∙ (λ i. get_or nodes (is i) (record { number = number; pins = []; slots = [] })) in
    record {
      pins = λ port b. ap (λ (n : NodeChangesRec). get_or n.pins port []) same ∙ index.pins number port b;
      slots = ap (λ (n : NodeChangesRec). n.slots) same ∙ index.slots number;
    }

pub keeps-none : (script : List PinLine) (nodes : List NodeChangesRec) (number : NodeNumber) → IsIndex script nodes → length nodes ≤ place_of nodes number
    → KeepsOf script number (record { number = number; pins = []; slots = [] })
keeps-none script nodes number index l =
    let none : NodeChangesRec = record { number = number; pins = []; slots = [] } in
    let same : none ≡ get_or nodes (place_of nodes number) none = sym (past-default nodes (place_of nodes number) none l) in
    record {
      pins = λ port b. ap (λ (n : NodeChangesRec). get_or n.pins port []) same ∙ index.pins number port b;
      slots = ap (λ (n : NodeChangesRec). n.slots) same ∙ index.slots number;
    }
  where
    past-default : {X : Type 0} (xs : List X) (i : ℕ) (d : X) → length xs ≤ i → get_or xs i d ≡ d
    past-default [] i d l = refl
    past-default (x ∷ xs) zero d l = absurd (omega (arith, l))
    past-default (x ∷ xs) (suc i) d l = past-default xs i d (omega (arith, l))

-- of all pins
by-port : (f g : PortNumber → Word) → ((port : PortNumber) → port < 29 → f port ≡ g port) → map f port_numbers ≡ map g port_numbers
by-port f g h =
    ext_get_or 0 (map f port_numbers) (map g port_numbers) refl (λ i l.
    get_or-map-range_with_len f 0 29 i i 0 l (omega arith) ∙ h i l ∙ sym (get_or-map-range_with_len g 0 29 i i 0 l (omega arith)))

pub shows : (script : List PinLine) (number : NodeNumber) (slot : Slot) (node : NodeChangesRec) → KeepsOf script number node → length node.pins ≡ 29
    → map (λ (changes : List Change). shown changes slot) node.pins ≡ (view_at script number slot).level
shows script number slot node keeps count =
    let pins : node.pins ≡ map (λ port. get_or node.pins port []) port_numbers =
    ext_get_or [] node.pins (map (λ port. get_or node.pins port []) port_numbers) count (λ i l.
    sym (get_or-map-range_with_len (λ port. get_or node.pins port []) 0 29 i i [] (omega (arith, count, l)) (omega arith))) in
    ap (λ (xs : List (List Change)). map (λ (changes : List Change). shown changes slot) xs) pins
    ∙ by-port (λ port. shown (get_or node.pins port []) slot) (λ port. pin_at script number port slot) (λ port l. ap (λ (changes : List Change). shown changes slot) (keeps.pins port l))

-- ---- Levels fit

module _ (number : NodeNumber) (port : PortNumber) (slot : Slot) where
  abbrev Fits : Word → Type 0
  Fits value = value < 2 ^ port_width port

  of-pin : (x : PinLine) → is_of_pin number port x ≡ true → x.port ≡ port
  of-pin x e = by (x.node == number) e
    where
      by : (a : Bool) → (a && (x.port == port)) ≡ true → x.port ≡ port
      by true e = grind (arith, nat_tests)
      by false e = absurd (false≢true e)

  step : (a b : Bool) (x : PinLine) (xs : List PinLine) (value : Word) → is_of_pin number port x ≡ a → is_at_most slot (change_of x) ≡ b → IsPinLine x → Fits value
      → ((v : Word) → Fits v → Fits (value_after v (filter (is_at_most slot) (map change_of xs))))
      → Fits (value_after value (filter (is_at_most slot) (map change_of (cond a (x ∷ xs) xs))))
  step false b x xs value e f is fits rest = rest value fits
  step true false x xs value e f is fits rest = rw f (rest value fits)
  step true true x xs value e f is fits rest =
      let here : Fits x.value = subst (λ p. x.value < 2 ^ port_width p) (of-pin x e) is.value in
      rw f (rest x.value here)

  fits : (script : List PinLine) (value : Word) → AllByRecursion IsPinLine script → Fits value → Fits (value_after value (filter (is_at_most slot) (changes_of script number port)))
  fits [] value h f = f
  fits (x ∷ xs) value h f = step (is_of_pin number port x) (is_at_most slot (change_of x)) x (filter (is_of_pin number port) xs) value refl refl h.0 f (λ v g. fits xs v h.1 g)

fits-from : (f : PortNumber → Word) → ((port : PortNumber) → f port < 2 ^ port_width port) → (start count : ℕ) → LevelsFitFrom start (map f (range_with_len start count))
fits-from f h start zero = tt
fits-from f h start (suc count) = (h start, fits-from f h (start + 1) count)

pub levels-fit : (script : List PinLine) (number : NodeNumber) (slot : Slot) → IsScript script → LevelsFit (view_at script number slot).level
levels-fit script number slot is = fits-from (λ port. pin_at script number port slot) (λ port. fits number port slot script 0 is.lines (pow_pos (port_width port))) 0 29

-- ---- The next change

same-next : (f g : Slot → Bool) → ((t : Slot) → f t ≡ g t) → (slot : Slot) (next : Option Slot) → IsNextWhere f slot next → IsNextWhere g slot next
same-next f g e slot None h = λ later l. sym (e later) ∙ h later l
same-next f g e slot (Some next) h = (h.0, sym (e next) ∙ h.1, λ between a b. sym (e between) ∙ h.2 between a b)

stands-by : (b c : Bool) (x : PinLine) (xs : List PinLine) (slot : Slot) (rest : Bool) → (x.slot == slot) ≡ c → has_slot (map (λ (line : PinLine). line.slot) xs) slot ≡ rest
    → has_slot (map (λ (line : PinLine). line.slot) (cond b (x ∷ xs) xs)) slot ≡ ((b && c) || rest)
stands-by true true x xs slot rest e h = rw e refl
stands-by true false x xs slot rest e h = rw e h
stands-by false c x xs slot rest e h = h

stands : (script : List PinLine) (number : NodeNumber) (slot : Slot) → has_slot (slots_of script number) slot ≡ changes_in script number slot
stands [] number slot = refl
stands (x ∷ xs) number slot =
    stands-by (x.node == number) (x.slot == slot) x (filter (λ (line : PinLine). line.node == number) xs) slot (changes_in xs number slot) refl (stands xs number slot)

pub next-line : (script : List PinLine) (number : NodeNumber) (slot : Slot) (node : NodeChangesRec) (next : Option Slot) → KeepsOf script number node → IsNextWhere (has_slot node.slots) slot next
    → IsNextChange script number slot next
next-line script number slot node next keeps h =
    same-next (has_slot node.slots) (changes_in script number) (λ t. ap (λ (xs : List Slot). has_slot xs t) keeps.slots ∙ stands script number t) slot next h

-- no line of the node stands after one slot and up to another
module _ (number : NodeNumber) (slot later : Slot) (least : slot ≤ later) where
  abbrev IsQuiet : List PinLine → Type 0
  IsQuiet script = (t : Slot) → slot < t → t ≤ later → changes_in script number t ≡ false

  or-first : (a b : Bool) → (a || b) ≡ false → a ≡ false
  or-first true b e = e
  or-first false b e = refl

  or-second : (a b : Bool) → (a || b) ≡ false → b ≡ false
  or-second true b e = absurd (false≢true (sym e))
  or-second false b e = e

  rest-quiet : (x : PinLine) (xs : List PinLine) → IsQuiet (x ∷ xs) → IsQuiet xs
  rest-quiet x xs h t a b = or-second ((x.node == number) && (x.slot == t)) (changes_in xs number t) (h t a b)

  of-node : (x : PinLine) (port : PortNumber) → is_of_pin number port x ≡ true → (x.node == number) ≡ true
  of-node x port e = by (x.node == number) e
    where
      by : (a : Bool) → (a && (x.port == port)) ≡ true → a ≡ true
      by true e = refl
      by false e = e

  not-between : (x : PinLine) (xs : List PinLine) → IsQuiet (x ∷ xs) → (x.node == number) ≡ true → slot < x.slot → x.slot ≤ later → ⊥
  not-between x xs h e a b =
      let none : ((x.node == number) && (x.slot == x.slot)) ≡ false = or-first _ (changes_in xs number x.slot) (h x.slot a b) in
      let same : (x.slot == x.slot) ≡ true = eq-eqb x.slot x.slot refl in
      false≢true (sym none ∙ (λ i. e i && same i))

  both-before : (s : Slot) → s ≤ slot → nat_le s later ≡ nat_le s slot
  both-before s a = grind (arith, nat_tests)

  both-after : (s : Slot) → later < s → nat_le s later ≡ nat_le s slot
  both-after s a = grind (arith, nat_tests)

  same-test : (x : PinLine) (xs : List PinLine) → IsQuiet (x ∷ xs) → (x.node == number) ≡ true → nat_le x.slot later ≡ nat_le x.slot slot
  same-test x xs h e = elim (cases_lt slot x.slot) [
    | inr before ↦ both-before x.slot before
    | inl after ↦ elim (cases_lt later x.slot) [
      | inl past ↦ both-after x.slot past
      | inr within ↦ absurd (not-between x xs h e after within)
    ]
  ]

  same-step : (a : Bool) (x : PinLine) (xs : List PinLine) → (a ≡ true → nat_le x.slot later ≡ nat_le x.slot slot)
      → filter (is_at_most later) (map change_of xs) ≡ filter (is_at_most slot) (map change_of xs)
      → filter (is_at_most later) (map change_of (cond a (x ∷ xs) xs)) ≡ filter (is_at_most slot) (map change_of (cond a (x ∷ xs) xs))
  same-step false x xs h e = e
  same-step true x xs h e = λ i. cond (h refl i) (change_of x ∷ e i) (e i)

  same-changes : (script : List PinLine) (port : PortNumber) → IsQuiet script
      → filter (is_at_most later) (changes_of script number port) ≡ filter (is_at_most slot) (changes_of script number port)
  same-changes [] port h = refl
  same-changes (x ∷ xs) port h =
      same-step (is_of_pin number port x) x (filter (is_of_pin number port) xs) (λ e. same-test x xs h (of-node x port e)) (same-changes xs port (rest-quiet x xs h))

  pub same-view : (script : List PinLine) → IsQuiet script → view_at script number later ≡ view_at script number slot
  same-view script h =
      let levels = by-port (λ port. pin_at script number port later) (λ port. pin_at script number port slot) (λ port l. ap (λ (changes : List Change). value_after 0 changes) (same-changes script port h)) in
      λ i. record { level = levels i }

pub steady : (script : List PinLine) (number : NodeNumber) (slot : Slot) (next : Option Slot) → IsNextChange script number slot next → IsSteadyUntil script number slot next
steady script number slot None h later l before = same-view number slot later l script (λ t a b. h t a)
steady script number slot (Some next) h later l before = same-view number slot later l script (λ t a b. h.2 t a (omega (arith, b, before)))
