-- What the lines of a load give, from the first to the last: no line of it has a fault.
use Rattle.std.proofs.Common.{◌≡◌, ℕ, zero, suc, ◌+◌, ◌*◌, ◌<◌, List, [], map, refl, ap, ◌∙◌, arith}
use Rattle.std.specs.Prelude.{Result, Ok}
use Rattle.std.specs.List.{AllZip, range_with_len}
use Rattle.std.proofs.lemmas.Bool.{cond-false}
use Rattle.xs_instructions.specs.Image.{ImageRec}
use Rattle.source_model.specs.Source.{Image, assembled_lines}
use Rattle.pin_scripts.specs.Pins.{PinsRead, Script, pins_of}
use Rattle.sys_plan.specs.declared.NodePlan.{NodePlan}
use Rattle.sys_plan.specs.declared.LinkPlan.{LinkPlan}
use Rattle.sys_plan.specs.Plan.{PlanRec}
use Rattle.system_model.specs.declared.frame_line.GivenNode.{GivenNode}
use Rattle.system_model.specs.Frame.{framed}
use Rattle.system_model.specs.System.{Plan, SourceFault, plan_with, plan_of_frame, plan_of, node_plans, script_of, system_of}
use Rattle.load_model.specs.Load.{node_count, node_numbers, destination_at, first_word_at, source_lines, load_text}
use Rattle.load_laws.specs.Accepted.{IsAccepted, IsRingNode, load_link}
use Rattle.load_laws.proofs.Counted.{firsts_counted}
use Rattle.load_laws.proofs.Ring.{bit_below, destination_below, first_word_below}
use Rattle.load_laws.proofs.States.{node_given, nodes_of, links_of, bits_of, sections_of}
use Rattle.load_laws.proofs.PlanRead.{source_found, no_pins, no_lines_no_script, load_nets, node_plan, plans_are, links_are}
use Rattle.load_laws.proofs.WayRead.{way_is}
use Rattle.load_laws.proofs.FrameWhole.{sections_at, all_given, frame_is_whole}
use Rattle.load_laws.proofs.SourceRead.{source_read}
use Rattle.load_laws.proofs.LinesRead.{lines_back, is_short}

-- the image of a node's source
image_of : ℕ → ℕ → ImageRec
image_of n i = (source_read (destination_at n i) (first_word_at n i) (destination_below n i) (first_word_below n i)).image

-- its source stands for it
image_is : (n i : ℕ) → assembled_lines (source_lines (destination_at n i) (first_word_at n i)) ≡ Image (image_of n i)
unfolding image_of
image_is n i = (source_read (destination_at n i) (first_word_at n i) (destination_below n i) (first_word_below n i)).accepted

-- the plans of the nodes
abbrev load_nodes : ℕ → List NodePlan
load_nodes n = map (node_plan (bits_of n (node_count n)) (image_of n)) (node_numbers n)

-- the plan of a load
abbrev load_plan : ℕ → PlanRec
load_plan n = record { nodes = load_nodes n; links = map (load_link n) (node_numbers n); script = []; steps = []; wires = [] }

-- the nodes have these plans
nodes_planned : (n : ℕ) → node_plans 1 (links_of n (node_count n)) (bits_of n (node_count n)) (sections_of n (sections_at n) (node_count n)) (nodes_of (node_count n)) ≡ Ok (load_nodes n)
nodes_planned n =
    ap (λ (nodes : List GivenNode). node_plans 1 (links_of n (node_count n)) (bits_of n (node_count n)) (sections_of n (sections_at n) (node_count n)) nodes) (firsts_counted node_given (node_count n))
    ∙ plans_are (bits_of n (node_count n)) (image_of n) (links_of n (node_count n)) (load_nets n (node_count n)) (sections_of n (sections_at n) (node_count n)) (node_count n)
    (λ i l. ap assembled_lines (source_found (λ j. sections_at n + j * 24) (λ j. source_lines (destination_at n j) (first_word_at n j)) (node_count n) i l) ∙ image_is n i)
    0 (node_count n) (omega arith)

-- there is no pin script
no_script : (n : ℕ) → script_of (all_given n) ≡ Script []
no_script n =
    let numbers = map (λ (node : GivenNode). node.number) (nodes_of (node_count n)) in
    ap (λ ls. pins_of numbers ls) (no_pins (λ j. sections_at n + j * 24) (λ j. source_lines (destination_at n j) (first_word_at n j)) (node_count n)) ∙ no_lines_no_script numbers

-- the frame stands for the plan
planned : (n : ℕ) → plan_of_frame (all_given n) ≡ Plan (load_plan n)
planned n =
    ap (λ (links : List LinkPlan). plan_with links [] [] (script_of (all_given n)) (node_plans 1 (links_of n (node_count n)) (bits_of n (node_count n)) (sections_of n (sections_at n) (node_count n)) (nodes_of (node_count n)))) (links_are n)
    ∙ ap (λ (script : PinsRead). plan_with (map (load_link n) (node_numbers n)) [] [] script (node_plans 1 (links_of n (node_count n)) (bits_of n (node_count n)) (sections_of n (sections_at n) (node_count n)) (nodes_of (node_count n)))) (no_script n)
    ∙ ap (λ (nodes : Result (List NodePlan) SourceFault). plan_with (map (load_link n) (node_numbers n)) [] [] (Script []) nodes) (nodes_planned n)

-- and so does the text
accepted : (n : ℕ) → n < 4294967296 → system_of (load_text n) ≡ Plan (load_plan n)
unfolding system_of
accepted n h =
    cond-false _ _ _ (is_short n h) ∙ ap (λ ls. plan_of (framed ls)) (lines_back n h) ∙ ap plan_of (frame_is_whole n h) ∙ planned n

-- node i is as the ring has it
node_is : (n i : ℕ) → i < node_count n → IsRingNode n i (node_plan (bits_of n (node_count n)) (image_of n) i)
node_is n i l = record { number = refl; id = refl; source = image_is n i; way = way_is n (node_count n) i l (bit_below n i) }

-- and so are all
nodes_are : (n a m : ℕ) → a + m ≡ node_count n → AllZip (IsRingNode n) (range_with_len a m) (map (node_plan (bits_of n (node_count n)) (image_of n)) (range_with_len a m))
nodes_are n a zero e = tt
nodes_are n a (suc m) e = (node_is n a (omega arith), nodes_are n (a + 1) m (omega arith))

-- the load of every number is accepted
pub load_read : (n : ℕ) → n < 4294967296 → IsAccepted n
load_read n h = record {
  plan = load_plan n;
  accepted = accepted n h;
  ring = record { nodes = nodes_are n 0 (node_count n) (omega arith); links = refl; no_script = refl; no_steps = refl; no_wires = refl };
}
