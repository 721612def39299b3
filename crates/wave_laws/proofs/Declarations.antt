-- The lines that declare the pins of nodes are read as these nodes.
use Rattle.std.proofs.Common.{◌≡◌, ℕ, zero, suc, ◌+◌, ◌-◌, ◌<◌, true, false, ◌==◌, List, [], ◌∷◌, ◌++◌, length, map, Some, refl, sym, ap, subst, ◌∙◌}
use Rattle.std.proofs.Common.{append_assoc, append-nil, length-append, arith}
use Rattle.std.specs.Prelude.{bytes_eq}
use Rattle.std.proofs.lemmas.Bool.{cond-false}
use Rattle.std.proofs.lemmas.Bool.Decides.{nat_tests}
use Rattle.std.proofs.lemmas.Slice.Eq.{bytes_eq-Decides}
use Rattle.xs_base.specs.Numbers.{PortNumber, Position}
use Rattle.pin_scripts.specs.Script.{NodeNumber, port_numbers}
use Rattle.sys_plan.specs.Plan.{numbers_from}
use Rattle.wave_model.specs.Lines.{first_line, scope_line, var_line, end_of_scope, end_of_definitions, node_lines, nodes_lines, slot_line}
use Rattle.wave_model.specs.Reads.{Begin, Nodes, Ports, Declared, Changes, when, after_scope, after_line}
use Rattle.wave_laws.proofs.ReadOver.{read_over, over_next}
use Rattle.wave_laws.proofs.NodeNumbers.{AreNodes, IsNext, next_within, scope_back}

pub begin_read : after_line Begin first_line ≡ Some (Nodes [])
unfolding after_line
begin_read = refl

pub scope_read : (numbers : List NodeNumber) (number : NodeNumber) → IsNext numbers number
    → after_line (Nodes numbers) (scope_line number) ≡ Some (Ports (numbers ++ number ∷ []) 0)
unfolding after_line
scope_read numbers number h = ap (after_scope numbers) (scope_back numbers number h)

same_bytes : (line : List ℕ) → bytes_eq line line ≡ true
same_bytes line = (bytes_eq-Decides line line).1 refl

not_last : (port : PortNumber) → port < 29 → (port == 29) ≡ false
not_last port h = grind (arith, nat_tests)

pub port_read : (numbers : List NodeNumber) (port : PortNumber) → port < 29
    → after_line (Ports numbers port) (var_line (length numbers - 1) port) ≡ Some (Ports numbers (port + 1))
unfolding after_line
port_read numbers port h =
    cond-false _ _ _ (not_last port h) ∙ ap (λ t. when t (Ports numbers (port + 1))) (same_bytes (var_line (length numbers - 1) port))

pub end_of_scope_read : (numbers : List NodeNumber) → after_line (Ports numbers 29) end_of_scope ≡ Some (Nodes numbers)
unfolding after_line
end_of_scope_read numbers = refl

pub end_read : (numbers : List NodeNumber) → after_line (Nodes numbers) end_of_definitions ≡ Some (Declared numbers)
unfolding after_line
end_read numbers = refl

pub slot_0_read : (numbers : List NodeNumber) → after_line (Declared numbers) (slot_line 0) ≡ Some (Changes (record { nodes = numbers; changes = []; last = 0 }) 0)
unfolding after_line
slot_0_read numbers = ap (λ t. when t (Changes (record { nodes = numbers; changes = []; last = 0 }) 0)) (same_bytes (slot_line 0))

-- ---- All of a node

pub ports_read : (numbers : List NodeNumber) (port count : ℕ) (rest : List (List ℕ)) → port + count ≡ 29
    → read_over (Ports numbers port) (map (var_line (length numbers - 1)) (numbers_from port count) ++ rest) ≡ read_over (Ports numbers 29) rest
ports_read numbers port zero rest e = ap (λ p. read_over (Ports numbers p) rest) (omega (arith, e))
ports_read numbers port (suc count) rest e =
    over_next (Ports numbers port) (Ports numbers (port + 1)) (var_line (length numbers - 1) port)
    (map (var_line (length numbers - 1)) (numbers_from (port + 1) count) ++ rest) (port_read numbers port (omega (arith, e)))
    ∙ ports_read numbers (port + 1) count rest (omega (arith, e))

all_ports : port_numbers ≡ numbers_from 0 29
all_ports = refl

node_read : (numbers : List NodeNumber) (number : NodeNumber) (rest : List (List ℕ)) → IsNext numbers number
    → read_over (Nodes numbers) (node_lines (length numbers) number ++ rest) ≡ read_over (Nodes (numbers ++ number ∷ [])) rest
node_read numbers number rest h =
    let own = numbers ++ number ∷ [] in
    let place : length own - 1 ≡ length numbers = omega (arith, length-append numbers (number ∷ [])) in
    let vars = map (var_line (length numbers)) port_numbers in
    let ports = ports_read own 0 29 (end_of_scope ∷ rest) refl in
    over_next (Nodes numbers) (Ports own 0) (scope_line number) ((vars ++ end_of_scope ∷ []) ++ rest) (scope_read numbers number h)
    ∙ ap (read_over (Ports own 0)) (append_assoc vars (end_of_scope ∷ []) rest)
    ∙ subst (λ (k : Position). read_over (Ports own 0) (map (var_line k) (numbers_from 0 29) ++ end_of_scope ∷ rest) ≡ read_over (Ports own 29) (end_of_scope ∷ rest)) place ports
    ∙ over_next (Ports own 29) (Nodes own) end_of_scope rest (end_of_scope_read own)

-- ---- All nodes

pub nodes_read : (before numbers : List NodeNumber) (rest : List (List ℕ)) → AreNodes (before ++ numbers)
    → read_over (Nodes before) (nodes_lines (length before) numbers ++ rest) ≡ read_over (Nodes (before ++ numbers)) rest
nodes_read before [] rest h = ap (λ all. read_over (Nodes all) rest) (sym (append-nil before))
nodes_read before (number ∷ numbers) rest h =
    let own = before ++ number ∷ [] in
    let place : length own ≡ length before + 1 = omega (arith, length-append before (number ∷ [])) in
    let all : own ++ numbers ≡ before ++ (number ∷ numbers) = append_assoc before (number ∷ []) numbers in
    let later = nodes_read own numbers rest (subst AreNodes (sym all) h) in
    ap (read_over (Nodes before)) (append_assoc (node_lines (length before) number) (nodes_lines (length before + 1) numbers) rest)
    ∙ node_read before number (nodes_lines (length before + 1) numbers ++ rest) (next_within before numbers number h)
    ∙ subst (λ (k : Position). read_over (Nodes own) (nodes_lines k numbers ++ rest) ≡ read_over (Nodes (own ++ numbers)) rest) place later
    ∙ ap (λ ns. read_over (Nodes ns) rest) all
