-- The bytes of what a snapshot keeps, written one after another.
use Rattle.std.proofs.Common.{◌≡◌, ℕ, ◌+◌, ◌<◌, List, [], ◌∷◌, ◌++◌, length, map, take, drop, get_or, refl, sym, ap, subst, ◌∙◌, append_assoc}
use Rattle.std.specs.Prelude.{Some, None}
use Rattle.std.proofs.lemmas.List.{take_more, drop_more, map_push}
use Rattle.xs_base.specs.Ids.{port_width}
use Rattle.xs_base.specs.Numbers.{Slot}
use Rattle.sys_plan.specs.Plan.{PlanRec}
use Rattle.snap_parts.specs.declared.log.SnapLog.{SnapLog}
use Rattle.snap_parts.specs.declared.node.SnapNode.{SnapNode}
use Rattle.snap_parts.specs.Parts.{LogRec, BodyRec, seen}
use Rattle.byte_forms.specs.Forms.{Form, word, write_chain}
use Rattle.byte_forms.proofs.Lists.{writes_on}
use Rattle.log_forms.proofs.Writes.{log_bytes, link_bytes, wire_bytes}
use Rattle.snap_codec.specs.Body.{nodes, ends_of, link_pair, link_at, wire_at, pair_after, wire_after, by_number, in_pairs, links, wires, any_log, directed_of, body}

-- ---- Directed links and wires

abbrev pub logs_bytes : List LogRec → List ℕ
logs_bytes [] = []
logs_bytes (log ∷ logs) = log_bytes log ++ logs_bytes logs

logs_bytes_append : (ls ws : List LogRec) → logs_bytes (ls ++ ws) ≡ logs_bytes ls ++ logs_bytes ws
logs_bytes_append [] ws = refl
logs_bytes_append (l ∷ ls) ws = rw (logs_bytes_append ls ws) (sym (append_assoc (log_bytes l) (logs_bytes ls) (logs_bytes ws)))

any_bytes : (before logs : List LogRec) → write_chain (λ _. any_log) before logs ≡ logs_bytes logs
unfolding write_chain
any_bytes before [] = refl
any_bytes before (log ∷ logs) = rw (wire_bytes 0 0 0 log, any_bytes (before ++ log ∷ []) logs) refl

pair_bytes : (plan : PlanRec) (slot : Slot) (all : List SnapNode) (before : List (LogRec × LogRec)) (p : LogRec × LogRec)
    → (pair_after plan slot all before).write p ≡ log_bytes p.0 ++ log_bytes p.1
unfolding link_pair
pair_bytes plan slot all before p =
    let link = link_at plan.links (length before) in
    rw (link_bytes slot link.delay None p.0, link_bytes slot link.delay (Some (ends_of all link p.0)) p.1) refl

pairs_bytes : (plan : PlanRec) (slot : Slot) (all : List SnapNode) (before ps : List (LogRec × LogRec)) → write_chain (pair_after plan slot all) before ps ≡ logs_bytes (by_number ps)
unfolding write_chain
pairs_bytes plan slot all before [] = refl
pairs_bytes plan slot all before (p ∷ ps) =
    rw (pair_bytes plan slot all before p, pairs_bytes plan slot all (before ++ p ∷ []) ps) (append_assoc (log_bytes p.0) (log_bytes p.1) (logs_bytes (by_number ps)))

wires_bytes : (plan : PlanRec) (slot : Slot) (before ws : List LogRec) → write_chain (wire_after plan slot) before ws ≡ logs_bytes ws
unfolding write_chain
wires_bytes plan slot before [] = refl
wires_bytes plan slot before (w ∷ ws) =
    let wire = wire_at plan.wires (length before) in
    rw (wire_bytes slot wire.delay (port_width wire.b_port) w, wires_bytes plan slot (before ++ w ∷ []) ws) refl

-- directed links and then wires are written as so many of any form
pub logs_written : (plan : PlanRec) (slot : Slot) (all : List SnapNode) (directed rest : List LogRec) → (links plan slot all).Holds directed
    → (links plan slot all).write directed ++ (wires plan slot).write rest ≡ write_chain (λ _. any_log) [] (directed ++ rest)
logs_written plan slot all directed rest h =
    let one : (links plan slot all).write directed ≡ logs_bytes directed = pairs_bytes plan slot all [] (in_pairs directed) ∙ ap logs_bytes h.1 in
    rw (one, wires_bytes plan slot [] rest, any_bytes [] (directed ++ rest)) (sym (logs_bytes_append directed rest))

-- a step of the loop that writes them
pub log_more : (out new : List ℕ) (logs : List SnapLog) (i : ℕ) (x : SnapLog) (total : List ℕ) → i < length logs → x ≡ get_or logs i x → new ≡ out ++ any_log.write (seen x)
    → out ++ write_chain (λ _. any_log) (map seen (take i logs)) (map seen (drop i logs)) ≡ total
    → new ++ write_chain (λ _. any_log) (map seen (take (i + 1) logs)) (map seen (drop (i + 1) logs)) ≡ total
log_more out new logs i x total lt is e so_far =
    let here : get_or logs i x ≡ x = sym is in
    let front : map seen (take (i + 1) logs) ≡ map seen (take i logs) ++ seen x ∷ [] = rw (take_more logs i x lt, here) (map_push seen (take i logs) x) in
    let rest : map seen (drop i logs) ≡ seen x ∷ map seen (drop (i + 1) logs) =
    ap (map seen) (drop_more logs i x lt) ∙ ap (λ (y : SnapLog). seen y ∷ map seen (drop (i + 1) logs)) here in
    let more = rw rest at so_far in
    rw (e, front) (writes_on (λ (_ : List LogRec). any_log) out (map seen (take i logs)) (seen x) (map seen (drop (i + 1) logs)) total more)

-- ---- Nodes

-- a step of the loop that writes them
pub node_more : (form : List SnapNode → Form SnapNode) (out new : List ℕ) (all : List SnapNode) (i : ℕ) (x : SnapNode) (total : List ℕ) → i < length all → x ≡ get_or all i x
    → new ≡ out ++ (form (take i all)).write x
    → out ++ write_chain form (take i all) (drop i all) ≡ total
    → new ++ write_chain form (take (i + 1) all) (drop (i + 1) all) ≡ total
node_more form out new all i x total lt is e so_far =
    let here : get_or all i x ≡ x = sym is in
    let front : take (i + 1) all ≡ take i all ++ x ∷ [] = rw (take_more all i x lt, here) refl in
    let rest : drop i all ≡ x ∷ drop (i + 1) all = rw (drop_more all i x lt, here) refl in
    let more = rw rest at so_far in
    rw (e, front) (writes_on form out (take i all) x (drop (i + 1) all) total more)

-- ---- All after the text

-- a slot, nodes and logs that were written one after another
pub body_written : (plan : PlanRec) (b : BodyRec) (out one two new : List ℕ) → (body plan).Holds b → one ≡ out ++ word.write b.slot → two ≡ one ++ (nodes plan b.slot).write b.nodes
    → new ≡ two ++ write_chain (λ _. any_log) [] b.logs → new ≡ out ++ (body plan).write b
unfolding body
body_written plan b out one two new h e1 e2 e3 =
    let front = take (directed_of plan) b.logs in
    let rest = drop (directed_of plan) b.logs in
    let logs : (links plan b.slot b.nodes).write front ++ (wires plan b.slot).write rest ≡ write_chain (λ _. any_log) [] b.logs
    = logs_written plan b.slot b.nodes front rest h.0.1.1.0 ∙ ap (λ (c : BodyRec). write_chain (λ _. any_log) [] c.logs) h.1 in
    let all : new ≡ out ++ (word.write b.slot ++ ((nodes plan b.slot).write b.nodes ++ write_chain (λ _. any_log) [] b.logs)) = rw (e3, e2, e1) (simp append_assoc) in
    subst (λ (bytes : List ℕ). new ≡ out ++ (word.write b.slot ++ ((nodes plan b.slot).write b.nodes ++ bytes))) (sym logs) all
