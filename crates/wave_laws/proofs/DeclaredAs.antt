-- What the lines are from which nodes have been read.
use Rattle.std.proofs.Common.{◌≡◌, ℕ, zero, suc, ◌+◌, ◌-◌, ◌<◌, ◌≤◌, Bool, true, false, ◌==◌, List, [], ◌∷◌, ◌++◌, length, map, Option, Some, None}
use Rattle.std.proofs.Common.{refl, sym, ap, subst, ◌∙◌, append_assoc, append-nil, length-append, arith}
use Rattle.std.specs.Prelude.{if◌then◌else◌, bytes_eq}
use Rattle.std.proofs.lemmas.Bool.Decides.{nat_tests}
use Rattle.std.proofs.lemmas.List.{map_push}
use Rattle.std.proofs.lemmas.Slice.Eq.{bytes_eq-Decides}
use Rattle.xs_base.specs.Numbers.{Position, PortNumber}
use Rattle.pin_scripts.specs.Script.{NodeNumber, port_numbers}
use Rattle.sys_plan.specs.Plan.{numbers_from}
use Rattle.wave_model.specs.Lines.{first_line, scope_line, var_line, end_of_scope, end_of_definitions, node_lines, nodes_lines}
use Rattle.wave_model.specs.Reads.{Reading, Nodes, Ports, Declared, when, scope_in, after_scope, after_line}
use Rattle.wave_laws.proofs.Options.{some_when, same_some, no_some}
use Rattle.wave_laws.proofs.NodeNumbers.{AreNodes, IsNext, nodes_push, scope_from}

-- ---- The lines

pub record IsNodesText (numbers : List NodeNumber) (lines : List (List ℕ)) : Type 0 where
  pub nodes : AreNodes numbers
  pub lines_are : lines ≡ first_line ∷ nodes_lines 0 numbers

-- the last node is not yet whole
pub record IsPortsText (numbers : List NodeNumber) (port : PortNumber) (lines : List (List ℕ)) : Type 0 where
  pub nodes : AreNodes numbers
  pub earlier : List NodeNumber
  pub number : NodeNumber
  pub numbers_are : numbers ≡ earlier ++ number ∷ []
  pub few : port ≤ 29
  pub lines_are : lines ≡ first_line ∷ (nodes_lines 0 earlier ++ (scope_line number ∷ map (var_line (length earlier)) (numbers_from 0 port)))

pub record IsDeclaredText (numbers : List NodeNumber) (lines : List (List ℕ)) : Type 0 where
  pub nodes : AreNodes numbers
  pub lines_are : lines ≡ first_line ∷ (nodes_lines 0 numbers ++ end_of_definitions ∷ [])

pub numbers_push : (from count : ℕ) → numbers_from from (count + 1) ≡ numbers_from from count ++ (from + count) ∷ []
numbers_push from zero = let e : from ≡ from + 0 = omega arith in ap (λ k. k ∷ []) e
numbers_push from (suc count) =
    let a : suc count + 1 ≡ suc (count + 1) = omega arith in
    let b : from + 1 + count ≡ from + suc count = omega arith in
    ap (numbers_from from) a ∙ ap (λ ns. from ∷ ns) (numbers_push (from + 1) count) ∙ ap (λ k. from ∷ (numbers_from (from + 1) count ++ k ∷ [])) b

nodes_lines_push : (node : Position) (numbers : List NodeNumber) (number : NodeNumber)
    → nodes_lines node (numbers ++ number ∷ []) ≡ nodes_lines node numbers ++ node_lines (node + length numbers) number
nodes_lines_push node [] number =
    let place : node ≡ node + 0 = omega arith in append-nil (node_lines node number) ∙ ap (λ k. node_lines k number) place
nodes_lines_push node (first ∷ numbers) number =
    let place : node + 1 + length numbers ≡ node + length (first ∷ numbers) = omega arith in
    ap (λ ls. node_lines node first ++ ls) (nodes_lines_push (node + 1) numbers number)
    ∙ sym (append_assoc (node_lines node first) (nodes_lines (node + 1) numbers) (node_lines (node + 1 + length numbers) number))
    ∙ ap (λ k. nodes_lines node (first ∷ numbers) ++ node_lines k number) place

-- ---- Line by line

scope_text : (numbers : List NodeNumber) (number : NodeNumber) (lines : List (List ℕ)) → IsNodesText numbers lines → IsNext numbers number
    → IsPortsText (numbers ++ number ∷ []) 0 (lines ++ scope_line number ∷ [])
scope_text numbers number lines h k = record {
  nodes = nodes_push numbers number h.nodes k;
  earlier = numbers;
  number = number;
  numbers_are = refl;
  few = omega arith;
  lines_are = ap (λ ls. ls ++ scope_line number ∷ []) h.lines_are;
}

port_text : (numbers : List NodeNumber) (port : PortNumber) (lines : List (List ℕ)) → port < 29 → IsPortsText numbers port lines
    → IsPortsText numbers (port + 1) (lines ++ var_line (length numbers - 1) port ∷ [])
port_text numbers port lines l h =
    let place : length numbers - 1 ≡ length h.earlier = omega (arith, ap length h.numbers_are, length-append h.earlier (h.number ∷ [])) in
    let before = scope_line h.number ∷ map (var_line (length h.earlier)) (numbers_from 0 port) in
    let one : 0 + port ≡ port = omega arith in
    record {
      nodes = h.nodes;
      earlier = h.earlier;
      number = h.number;
      numbers_are = h.numbers_are;
      few = omega (arith, l);
      lines_are =
          (λ i. h.lines_are i ++ var_line (place i) port ∷ [])
          ∙ ap (λ ls. first_line ∷ ls) (append_assoc (nodes_lines 0 h.earlier) before (var_line (length h.earlier) port ∷ []))
          ∙ ap (λ ls. first_line ∷ (nodes_lines 0 h.earlier ++ (scope_line h.number ∷ ls)))
          (sym (map_push (var_line (length h.earlier)) (numbers_from 0 port) port)
          ∙ ap (map (var_line (length h.earlier))) (ap (λ k. numbers_from 0 port ++ k ∷ []) (sym one) ∙ sym (numbers_push 0 port)));
    }

end_of_scope_text : (numbers : List NodeNumber) (lines : List (List ℕ)) → IsPortsText numbers 29 lines → IsNodesText numbers (lines ++ end_of_scope ∷ [])
end_of_scope_text numbers lines h =
    let before = scope_line h.number ∷ map (var_line (length h.earlier)) port_numbers in
    let place : length h.earlier ≡ 0 + length h.earlier = omega arith in
    record {
      nodes = h.nodes;
      lines_are =
          ap (λ ls. ls ++ end_of_scope ∷ []) h.lines_are
          ∙ ap (λ ls. first_line ∷ ls) (append_assoc (nodes_lines 0 h.earlier) before (end_of_scope ∷ [])
          ∙ ap (λ k. nodes_lines 0 h.earlier ++ node_lines k h.number) place
          ∙ sym (nodes_lines_push 0 h.earlier h.number)
          ∙ ap (nodes_lines 0) (sym h.numbers_are));
    }

end_text : (numbers : List NodeNumber) (lines : List (List ℕ)) → IsNodesText numbers lines → IsDeclaredText numbers (lines ++ end_of_definitions ∷ [])
end_text numbers lines h = record { nodes = h.nodes; lines_are = ap (λ ls. ls ++ end_of_definitions ∷ []) h.lines_are }

-- ---- What a line gives

-- the end of the definitions, or the scope of a node
pub data AfterNodes (numbers : List NodeNumber) (lines : List (List ℕ)) : Reading → Type 0 where
  all : IsDeclaredText numbers lines → AfterNodes numbers lines (Declared numbers)
  one_more : (number : NodeNumber) → IsPortsText (numbers ++ number ∷ []) 0 lines → AfterNodes numbers lines (Ports (numbers ++ number ∷ []) 0)

pub after_nodes : (numbers : List NodeNumber) (lines : List (List ℕ)) (line : List ℕ) (after : Reading) → IsNodesText numbers lines
    → after_line (Nodes numbers) line ≡ Some after → AfterNodes numbers (lines ++ line ∷ []) after
unfolding after_line
after_nodes numbers lines line after h e = by (bytes_eq end_of_definitions line) refl e
  where
    scope : (o : Option NodeNumber) → scope_in numbers line ≡ o → after_scope numbers o ≡ Some after → AfterNodes numbers (lines ++ line ∷ []) after
    scope None is f = no_some after f
    scope (Some number) is f =
        let p = scope_from numbers line number h.nodes is in
        subst (AfterNodes numbers (lines ++ line ∷ [])) (same_some (Ports (numbers ++ number ∷ []) 0) after f)
        (one_more number (subst (λ l. IsPortsText (numbers ++ number ∷ []) 0 (lines ++ l ∷ [])) (sym p.0) (scope_text numbers number lines h p.1)))

    by : (t : Bool) → bytes_eq end_of_definitions line ≡ t
        → (if t then Some (Declared numbers) else after_scope numbers (scope_in numbers line)) ≡ Some after → AfterNodes numbers (lines ++ line ∷ []) after
    by true is f =
        let same = (bytes_eq-Decides end_of_definitions line).0 is in
        subst (AfterNodes numbers (lines ++ line ∷ [])) (same_some (Declared numbers) after f)
        (all (subst (λ l. IsDeclaredText numbers (lines ++ l ∷ [])) same (end_text numbers lines h)))
    by false is f = scope (scope_in numbers line) refl f

pub data AfterPorts (numbers : List NodeNumber) (port : PortNumber) (lines : List (List ℕ)) : Reading → Type 0 where
  all : IsNodesText numbers lines → AfterPorts numbers port lines (Nodes numbers)
  one_more : IsPortsText numbers (port + 1) lines → AfterPorts numbers port lines (Ports numbers (port + 1))

pub after_ports : (numbers : List NodeNumber) (port : PortNumber) (lines : List (List ℕ)) (line : List ℕ) (after : Reading) → IsPortsText numbers port lines
    → after_line (Ports numbers port) line ≡ Some after → AfterPorts numbers port (lines ++ line ∷ []) after
unfolding after_line
after_ports numbers port lines line after h e = by (port == 29) refl e
  where
    by : (t : Bool) → (port == 29) ≡ t
        → (if t then when (bytes_eq end_of_scope line) (Nodes numbers) else when (bytes_eq (var_line (length numbers - 1) port) line) (Ports numbers (port + 1))) ≡ Some after
        → AfterPorts numbers port (lines ++ line ∷ []) after
    by true is f =
        let last : port ≡ 29 = grind (arith, nat_tests) in
        let p = some_when (bytes_eq end_of_scope line) (Nodes numbers) after f in
        let same = (bytes_eq-Decides end_of_scope line).0 p.0 in
        subst (AfterPorts numbers port (lines ++ line ∷ [])) p.1
        (all (subst (λ l. IsNodesText numbers (lines ++ l ∷ [])) same (end_of_scope_text numbers lines (subst (λ k. IsPortsText numbers k lines) last h))))
    by false is f =
        let less : port < 29 = grind (arith, nat_tests, h.few) in
        let p = some_when (bytes_eq (var_line (length numbers - 1) port) line) (Ports numbers (port + 1)) after f in
        let same = (bytes_eq-Decides (var_line (length numbers - 1) port) line).0 p.0 in
        subst (AfterPorts numbers port (lines ++ line ∷ [])) p.1
        (one_more (subst (λ l. IsPortsText numbers (port + 1) (lines ++ l ∷ [])) same (port_text numbers port lines less h)))
