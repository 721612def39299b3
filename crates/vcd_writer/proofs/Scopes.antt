-- The lines that declare pins, one more each time.
use Rattle.std.proofs.Common.{◌≡◌, ℕ, zero, suc, ◌+◌, ◌<◌, ◌≤◌, List, [], ◌∷◌, ◌++◌, length, get_or, take, ap, sym, ◌∙◌, arith, append_assoc, append-nil}
use Rattle.std.specs.Prelude.{map}
use Rattle.std.proofs.lemmas.List.{take_more, take_all, map-append, flat_map_more}
use Rattle.std.proofs.lemmas.List.FromFn.{get_or-map-range_with_len}
use Rattle.pin_scripts.specs.Script.{port_numbers}
use Rattle.wave_model.specs.Lines.{node_lines, nodes_lines, scope_line, var_line, end_of_scope, first_line, end_of_definitions}
use Rattle.wave_model.specs.Waves.{ended, text_of_lines}
use Rattle.vcd_writer.proofs.Texts.{lines-append, begun_more}

-- the scope line and the lines of the first ports
unfoldable pub begun_scope : ℕ → ℕ → ℕ → List ℕ
begun_scope node number port = text_of_lines (scope_line number ∷ map (var_line node) (take port port_numbers))

pub no_port : (node number : ℕ) → ended (scope_line number) ≡ begun_scope node number 0
unfolding begun_scope
no_port node number = sym (append-nil (ended (scope_line number)))

number_at : (port : ℕ) → port < 29 → get_or port_numbers port 0 ≡ port
number_at port here = get_or-map-range_with_len (λ n. n) 0 29 port port 0 here (omega arith)

ports_more : (port : ℕ) → port < 29 → take (port + 1) port_numbers ≡ take port port_numbers ++ port ∷ []
ports_more port here = take_more port_numbers port 0 here ∙ (λ i. take port port_numbers ++ number_at port here i ∷ [])

pub one_port_more : (node number port : ℕ) → port < 29 → begun_scope node number port ++ ended (var_line node port) ≡ begun_scope node number (port + 1)
unfolding begun_scope
one_port_more node number port here =
    let begun : List (List ℕ) = scope_line number ∷ map (var_line node) (take port port_numbers) in
    let more = ap (map (var_line node)) (ports_more port here) ∙ map-append (var_line node) (take port port_numbers) (port ∷ []) in
    flat_map_more ended [] begun (var_line node port) ∙ sym (λ i. text_of_lines (scope_line number ∷ more i))

pub all_ports : (node number port : ℕ) → 29 ≤ port → begun_scope node number port ++ ended end_of_scope ≡ text_of_lines (node_lines node number)
unfolding begun_scope
all_ports node number port past =
    let all = take_all port port_numbers past in
    flat_map_more ended [] (scope_line number ∷ map (var_line node) (take port port_numbers)) end_of_scope
    ∙ (λ i. text_of_lines (scope_line number ∷ (map (var_line node) (all i) ++ end_of_scope ∷ [])))

-- the lines of the first nodes, and of one more
one_node_more : (at n : ℕ) (numbers : List ℕ) → n < length numbers
    → nodes_lines at (take (n + 1) numbers) ≡ nodes_lines at (take n numbers) ++ node_lines (at + n) (get_or numbers n 0)
one_node_more at n [] here = absurd (omega arith)
one_node_more at zero (number ∷ numbers) here =
    let same : at + 0 ≡ at = omega arith in
    append-nil (node_lines at number) ∙ (λ i. node_lines (sym same i) number)
one_node_more at (suc n) (number ∷ numbers) here =
    let next : suc n + 1 ≡ suc (n + 1) = omega arith in
    let same : at + 1 + n ≡ at + suc n = omega arith in
    let more = one_node_more (at + 1) n numbers (omega arith) in
    (λ i. nodes_lines at (take (next i) (number ∷ numbers)))
    ∙ (λ i. node_lines at number ++ more i)
    ∙ sym (append_assoc (node_lines at number) (nodes_lines (at + 1) (take n numbers)) (node_lines (at + 1 + n) (get_or numbers n 0)))
    ∙ (λ i. (node_lines at number ++ nodes_lines (at + 1) (take n numbers)) ++ node_lines (same i) (get_or numbers n 0))

-- with the scope of one node more
pub nodes_more : (numbers : List ℕ) (n number : ℕ) (text out after : List ℕ) → n < length numbers → get_or numbers n 0 ≡ number
    → out ≡ text ++ text_of_lines (nodes_lines 0 (take n numbers)) → after ≡ out ++ text_of_lines (node_lines n number)
    → after ≡ text ++ text_of_lines (nodes_lines 0 (take (n + 1) numbers))
nodes_more numbers n number text out after here is p q =
    let first : 0 + n ≡ n = omega arith in
    let lines = one_node_more 0 n numbers here ∙ (λ i. nodes_lines 0 (take n numbers) ++ node_lines (first i) (is i)) in
    begun_more text _ _ out after p q
    ∙ (λ i. text ++ sym (ap text_of_lines lines ∙ lines-append (nodes_lines 0 (take n numbers)) (node_lines n number)) i)

-- all lines, from the first one to the end of the definitions
pub all_declared : (lines : List (List ℕ)) (text x y z : List ℕ) → x ≡ text ++ ended first_line → y ≡ x ++ text_of_lines lines → z ≡ y ++ ended end_of_definitions
    → z ≡ text ++ text_of_lines (first_line ∷ (lines ++ end_of_definitions ∷ []))
all_declared lines text x y z p q r =
    begun_more text _ _ y z (begun_more text _ _ x y p q) r
    ∙ (λ i. text ++ append_assoc (ended first_line) (text_of_lines lines) (ended end_of_definitions) i)
    ∙ (λ i. text ++ (ended first_line ++ flat_map_more ended [] lines end_of_definitions i))
