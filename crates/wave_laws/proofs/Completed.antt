-- Whatever has been read goes on to a wave.
use Rattle.std.proofs.Common.{◌≡◌, ◌≢◌, ℕ, zero, suc, ◌+◌, ◌-◌, ◌/◌, ◌%◌, ◌<◌, ◌≤◌, Bool, true, false, ◌==◌, List, [], ◌∷◌, ◌++◌, length, map, Some, refl, sym, ap, ◌∙◌, pow_pos, arith}
use Rattle.std.proofs.lemmas.Bool.Decides.{nat_tests}
use Rattle.xs_base.specs.Ids.{port_width}
use Rattle.xs_base.specs.Numbers.{PortNumber}
use Rattle.pin_scripts.specs.Script.{NodeNumber}
use Rattle.sys_plan.specs.Plan.{numbers_from}
use Rattle.wave_model.specs.declared.change.WaveChange.{WaveChange}
use Rattle.wave_model.specs.Lines.{PinNumber, first_line, var_line, end_of_scope, end_of_definitions, slot_line, change_line}
use Rattle.wave_model.specs.Waves.{WaveRec}
use Rattle.wave_model.specs.Reads.{Reading, Begin, Nodes, Ports, Declared, Changes, count_of_pins, most_wave_slots}
use Rattle.wave_model.specs.Form.{pin_of_change}
use Rattle.wave_laws.proofs.ReadOver.{read_over, over_none, over_next}
use Rattle.wave_laws.proofs.Declarations.{begin_read, ports_read, end_of_scope_read, end_read, slot_0_read}
use Rattle.wave_laws.proofs.Steps.{IsFull, MayChange, with_change, slot_read, change_read}
use Rattle.wave_laws.proofs.Fronts.{IsFront}
use Rattle.wave_laws.proofs.ReadAs.{IsReadAs}

-- lines with which what has been read is a wave
pub record GoesOn (reading : Reading) : Type 0 where
  pub more : List (List ℕ)
  pub wave : WaveRec
  pub read : read_over reading more ≡ Some (Changes wave 0)

-- ---- After declarations

-- a wave with no slot
abbrev no_slot : List NodeNumber → WaveRec
no_slot numbers = record { nodes = numbers; changes = []; last = 0 }

declared_goes_on : (numbers : List NodeNumber) → read_over (Declared numbers) (slot_line 0 ∷ []) ≡ Some (Changes (no_slot numbers) 0)
declared_goes_on numbers =
    over_next (Declared numbers) (Changes (no_slot numbers) 0) (slot_line 0) [] (slot_0_read numbers) ∙ over_none (Changes (no_slot numbers) 0)

nodes_go_on : (numbers : List NodeNumber) → read_over (Nodes numbers) (end_of_definitions ∷ slot_line 0 ∷ []) ≡ Some (Changes (no_slot numbers) 0)
nodes_go_on numbers =
    over_next (Nodes numbers) (Declared numbers) end_of_definitions (slot_line 0 ∷ []) (end_read numbers) ∙ declared_goes_on numbers

ports_go_on : (numbers : List NodeNumber) (port : PortNumber) → port ≤ 29 → GoesOn (Ports numbers port)
ports_go_on numbers port h =
    let rest = end_of_scope ∷ end_of_definitions ∷ slot_line 0 ∷ [] in
    record {
      more = map (var_line (length numbers - 1)) (numbers_from port (29 - port)) ++ rest;
      wave = no_slot numbers;
      read =
          ports_read numbers port (29 - port) rest (omega (arith, h))
          ∙ over_next (Ports numbers 29) (Nodes numbers) end_of_scope (end_of_definitions ∷ slot_line 0 ∷ []) (end_of_scope_read numbers)
          ∙ nodes_go_on numbers;
    }

-- ---- After changes

slot_goes_on : (wave : WaveRec) (next : PinNumber) → wave.last < most_wave_slots → IsFull wave next → GoesOn (Changes wave next)
slot_goes_on wave next h full =
    let slot : ℕ = wave.last + 1 in
    let whole : WaveRec = record wave { last = slot } in
    record {
      more = slot_line slot ∷ [];
      wave = whole;
      read = over_next (Changes wave next) (Changes whole 0) (slot_line slot) [] (slot_read wave next slot (omega arith) (omega (arith, h)) full) ∙ over_none (Changes whole 0);
    }

-- the pins of slot 0 that are left fall to 0
abbrev fall_of : PinNumber → WaveChange
fall_of pin = record { slot = 0; node = pin / 29; port = pin % 29; value = 0 }

fall_read : (wave : WaveRec) (next : PinNumber) (more : List (List ℕ)) → wave.last ≡ 0 → next < count_of_pins wave
    → read_over (Changes wave next) (change_line (fall_of next) ∷ more) ≡ read_over (Changes (with_change wave (fall_of next)) (next + 1)) more
fall_read wave next more z h =
    let change : WaveChange = fall_of next in
    let own : pin_of_change change ≡ next = omega arith in
    let may : MayChange wave next (pin_of_change change) = record {
      there = omega (arith, own, h);
      not_last = omega (arith, z);
      first = λ e. own;
      later = λ n. absurd (n z);
    } in
    over_next (Changes wave next) (Changes (with_change wave change) (pin_of_change change + 1)) (change_line change) more
    (change_read wave next change (omega arith) (pow_pos (port_width (next % 29))) (sym z) may)
    ∙ ap (λ pin. read_over (Changes (with_change wave change) (pin + 1)) more) own

falls_go_on : (left : ℕ) (wave : WaveRec) (next : PinNumber) → wave.last ≡ 0 → next + left ≡ count_of_pins wave → GoesOn (Changes wave next)
falls_go_on zero wave next z e =
    slot_goes_on wave next (omega (arith, z)) (record { first = λ l. omega (arith, e); later = λ n. absurd (n z) })
falls_go_on (suc left) wave next z e =
    let later = falls_go_on left (with_change wave (fall_of next)) (next + 1) z (omega (arith, e)) in
    record {
      more = change_line (fall_of next) ∷ later.more;
      wave = later.wave;
      read = fall_read wave next later.more z (omega (arith, e)) ∙ later.read;
    }

changes_go_on : (wave : WaveRec) (next : PinNumber) → IsFront wave next → GoesOn (Changes wave next)
changes_go_on wave next h = by (next == 0) refl (wave.last == 0) refl
  where
    by : (t : Bool) → (next == 0) ≡ t → (u : Bool) → (wave.last == 0) ≡ u → GoesOn (Changes wave next)
    by true e u f =
        let none : next ≡ 0 = grind (arith, nat_tests) in
        record { more = []; wave = wave; read = over_none (Changes wave next) ∙ ap (λ k. Some (Changes wave k)) none }
    by false e true f =
        let zero_slot : wave.last ≡ 0 = grind (arith, nat_tests) in
        falls_go_on (count_of_pins wave - next) wave next zero_slot (omega (arith, h.few zero_slot))
    by false e false f =
        let some : 0 < next = grind (arith, nat_tests) in
        let later : wave.last ≢ 0 = λ z. absurd (grind (arith, nat_tests)) in
        slot_goes_on wave next (h.not_last some) (record { first = λ z. absurd (later z); later = λ n. some })

pub goes_on : (reading : Reading) (lines : List (List ℕ)) → IsReadAs reading lines → GoesOn reading
goes_on Begin lines h = record {
  more = first_line ∷ end_of_definitions ∷ slot_line 0 ∷ [];
  wave = no_slot [];
  read = over_next Begin (Nodes []) first_line (end_of_definitions ∷ slot_line 0 ∷ []) begin_read ∙ nodes_go_on [];
}
goes_on (Nodes numbers) lines h = record { more = end_of_definitions ∷ slot_line 0 ∷ []; wave = no_slot numbers; read = nodes_go_on numbers }
goes_on (Ports numbers port) lines h = ports_go_on numbers port h.few
goes_on (Declared numbers) lines h = record { more = slot_line 0 ∷ []; wave = no_slot numbers; read = declared_goes_on numbers }
goes_on (Changes wave next) lines h = changes_go_on wave next h.front
