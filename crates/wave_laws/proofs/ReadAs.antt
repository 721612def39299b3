-- What has been read of lines, and from which lines.
use Rattle.std.proofs.Common.{◌≡◌, ℕ, ◌+◌, ◌<◌, nat_lt, ◌&&◌, List, [], ◌∷◌, ◌++◌, length, Option, Some, None, refl, sym, subst, append_assoc, append-nil, arith}
use Rattle.std.specs.Prelude.{bytes_eq}
use Rattle.std.proofs.lemmas.Bool.{and_parts}
use Rattle.std.proofs.lemmas.Bool.Decides.{nat_tests}
use Rattle.std.proofs.lemmas.Slice.Eq.{bytes_eq-Decides}
use Rattle.xs_base.specs.Numbers.{Slot}
use Rattle.pin_scripts.specs.Script.{NodeNumber}
use Rattle.wave_model.specs.Lines.{PinNumber, first_line, slot_line, change_line}
use Rattle.wave_model.specs.Waves.{WaveRec}
use Rattle.wave_model.specs.Reads.{Reading, Begin, Nodes, Ports, Declared, Changes, slot_in, is_full, after_slot, after_slot_or_change, after_line, changed}
use Rattle.wave_model.specs.Form.{pin_of_change}
use Rattle.wave_laws.proofs.Options.{some_when}
use Rattle.wave_laws.proofs.Slots.{slot_from}
use Rattle.wave_laws.proofs.ChangeLines.{change_at, IsChangeLine, change_from}
use Rattle.wave_laws.proofs.NodeNumbers.{no_nodes}
use Rattle.wave_laws.proofs.ReadOver.{read_over, over_first, over_end}
use Rattle.wave_laws.proofs.Steps.{MayChange, full_parts, may_parts}
use Rattle.wave_laws.proofs.DeclaredAs.{IsNodesText, IsPortsText, IsDeclaredText, AfterNodes, AfterPorts, after_nodes, after_ports}
use Rattle.wave_laws.proofs.Fronts.{IsPinChange}
use Rattle.wave_laws.proofs.FrontLines.{IsFrontText, start_text, slot_text, change_text}

-- so much has been read of these lines
abbrev pub IsReadAs : Reading → List (List ℕ) → Type 0
IsReadAs Begin lines = lines ≡ []
IsReadAs (Nodes numbers) lines = IsNodesText numbers lines
IsReadAs (Ports numbers port) lines = IsPortsText numbers port lines
IsReadAs (Declared numbers) lines = IsDeclaredText numbers lines
IsReadAs (Changes wave next) lines = IsFrontText wave next lines

-- ---- The line of a slot or of a change

slot_step : (wave : WaveRec) (next : PinNumber) (lines : List (List ℕ)) (line : List ℕ) (slot : Slot) (after : Reading) → IsFrontText wave next lines
    → slot_in line ≡ Some slot → after_slot wave next slot ≡ Some after → IsReadAs after (lines ++ line ∷ [])
slot_step wave next lines line slot after h is f =
    let p = slot_from line slot is in
    let q = some_when (nat_lt wave.last slot && is_full wave next) (Changes (record wave { last = slot }) 0) after f in
    let r = and_parts (nat_lt wave.last slot) (is_full wave next) q.0 in
    let less : wave.last < slot = grind (arith, nat_tests) in
    subst (λ a. IsReadAs a (lines ++ line ∷ [])) q.1
    (subst (λ l. IsFrontText (record wave { last = slot }) 0 (lines ++ l ∷ [])) (sym p.0) (slot_text wave next slot lines less p.1 (full_parts wave next r.1) h))

change_step : (wave : WaveRec) (next : PinNumber) (lines : List (List ℕ)) (line : List ℕ) (after : Reading) → IsFrontText wave next lines
    → IsChangeLine wave next line after → IsReadAs after (lines ++ line ∷ [])
change_step wave next lines line after h k =
    let change = change_at wave k.pin k.value in
    let may = may_parts wave next k.pin k.may in
    let own : pin_of_change change ≡ k.pin = omega arith in
    let there : IsPinChange (length wave.nodes) change = record { node = omega (arith, may.there); port = omega arith; value = k.fits } in
    let text = change_text wave next change lines there refl (subst (MayChange wave next) (sym own) may) h in
    let own_text = subst (λ pin. IsFrontText (changed wave k.pin k.value) (pin + 1) (lines ++ change_line change ∷ [])) own text in
    subst (λ a. IsReadAs a (lines ++ line ∷ [])) k.after_is
    (subst (λ l. IsFrontText (changed wave k.pin k.value) (k.pin + 1) (lines ++ l ∷ [])) (sym k.line_is) own_text)

-- ---- Any line

begin_step : (lines : List (List ℕ)) (line : List ℕ) (after : Reading) → lines ≡ [] → after_line Begin line ≡ Some after → IsReadAs after (lines ++ line ∷ [])
unfolding after_line
begin_step lines line after h e =
    let p = some_when (bytes_eq first_line line) (Nodes []) after e in
    let same = (bytes_eq-Decides first_line line).0 p.0 in
    subst (λ a. IsReadAs a (lines ++ line ∷ [])) p.1
    (record { nodes = no_nodes; lines_are = λ i. h i ++ sym same i ∷ [] })

nodes_step : (numbers : List NodeNumber) (lines : List (List ℕ)) (after : Reading) → AfterNodes numbers lines after → IsReadAs after lines
nodes_step numbers lines after (AfterNodes.all h) = h
nodes_step numbers lines after (AfterNodes.one_more number h) = h

ports_step : (numbers : List NodeNumber) (port : ℕ) (lines : List (List ℕ)) (after : Reading) → AfterPorts numbers port lines after → IsReadAs after lines
ports_step numbers port lines after (AfterPorts.all h) = h
ports_step numbers port lines after (AfterPorts.one_more h) = h

declared_step : (numbers : List NodeNumber) (lines : List (List ℕ)) (line : List ℕ) (after : Reading) → IsDeclaredText numbers lines
    → after_line (Declared numbers) line ≡ Some after → IsReadAs after (lines ++ line ∷ [])
unfolding after_line
declared_step numbers lines line after h e =
    let start : WaveRec = record { nodes = numbers; changes = []; last = 0 } in
    let p = some_when (bytes_eq (slot_line 0) line) (Changes start 0) after e in
    let same = (bytes_eq-Decides (slot_line 0) line).0 p.0 in
    subst (λ a. IsReadAs a (lines ++ line ∷ [])) p.1 (subst (λ l. IsFrontText start 0 (lines ++ l ∷ [])) same (start_text numbers lines h))

changes_step : (wave : WaveRec) (next : PinNumber) (lines : List (List ℕ)) (line : List ℕ) (after : Reading) → IsFrontText wave next lines
    → after_line (Changes wave next) line ≡ Some after → IsReadAs after (lines ++ line ∷ [])
unfolding after_line
changes_step wave next lines line after h e = by (slot_in line) refl e
  where
    by : (o : Option Slot) → slot_in line ≡ o → after_slot_or_change wave next line o ≡ Some after → IsReadAs after (lines ++ line ∷ [])
    by None is f = change_step wave next lines line after h (change_from wave next line after f)
    by (Some slot) is f = slot_step wave next lines line slot after h is f

pub read_step : (reading : Reading) (lines : List (List ℕ)) (line : List ℕ) (after : Reading) → IsReadAs reading lines → after_line reading line ≡ Some after
    → IsReadAs after (lines ++ line ∷ [])
read_step Begin lines line after h e = begin_step lines line after h e
read_step (Nodes numbers) lines line after h e = nodes_step numbers (lines ++ line ∷ []) after (after_nodes numbers lines line after h e)
read_step (Ports numbers port) lines line after h e = ports_step numbers port (lines ++ line ∷ []) after (after_ports numbers port lines line after h e)
read_step (Declared numbers) lines line after h e = declared_step numbers lines line after h e
read_step (Changes wave next) lines line after h e = changes_step wave next lines line after h e

-- all lines
pub read_all : (reading : Reading) (before lines : List (List ℕ)) (after : Reading) → IsReadAs reading before → read_over reading lines ≡ Some after
    → IsReadAs after (before ++ lines)
read_all reading before [] after h e =
    subst (λ a. IsReadAs a (before ++ [])) (over_end reading after e) (subst (IsReadAs reading) (sym (append-nil before)) h)
read_all reading before (line ∷ lines) after h e =
    let p = over_first reading after line lines e in
    subst (IsReadAs after) (append_assoc before (line ∷ []) lines) (read_all p.0 (before ++ line ∷ []) lines after (read_step reading before line p.0 h p.1) p.2)
