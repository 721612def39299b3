-- Every node of the serial machine has its numbers in their ranges, before every slot, and what arcs carry are bytes.
use Rattle.std.proofs.Common.{ℕ, zero, suc, ◌+◌, ◌<◌, ◌==◌, Bool, true, false, if◌then◌else◌, Option, Some, None, List, [], ◌∷◌, length, map, filter, get_or, refl, arith}
use Rattle.std.specs.List.{AllByRecursion}
use Rattle.xs_base.specs.Numbers.{Slot, Position, LinkNumber, EndNumber}
use Rattle.xs_base.specs.declared.token.Token.{Token}
use Rattle.xs_base.specs.declared.token.Token.TheVariants.{Byte, Ctrl}
use Rattle.xs_base.specs.declared.entry.Entry.{Entry}
use Rattle.xs_base.specs.declared.entry.What.{What}
use Rattle.xs_base.specs.declared.entry.What.TheVariants as what
use Rattle.xs_model.specs.Record.{NodeRec, first_node}
use Rattle.xs_model.specs.Outside.{Emitted, emitted_events}
use Rattle.sys_plan.specs.declared.NodePlan.{NodePlan}
use Rattle.sys_plan.specs.Plan.{PlanRec, Arc, Joined, IsPlan, arcs, incoming, gaps_of, link_ends}
use Rattle.step_model.specs.Start.{fixed_of}
use Rattle.step_model.specs.Step.{Stepped}
use Rattle.serial_model.specs.Serial.{nodes_at_start, arriving_by, token_or, token_among, steps_from, coming_at, serial, token_entries, credit_entries, driven_level, level_entries, carried_by, node_by, emitted_by, carried, longer_histories}
use Rattle.state_forms.specs.Buffers.{TokenFits}
use Rattle.locality_laws.specs.Levels.{ShownLevelsFit}
use Rattle.state_laws.specs.Runs.{RunInRange, KeptInEveryRun}
use Rattle.saved_laws.specs.Bytes.{CarriesByte, CarryBytes}
use Rattle.range_laws.specs.Ranges.{IsRunnable, AreRunnable, RunsCarryBytes}
use Rattle.range_laws.proofs.Lists.{all_joined, all_many, all_at, all_made}
use Rattle.range_laws.proofs.Issue.{HaveFacts}
use Rattle.range_laws.proofs.Switch.{NodeRange, SentFits}
use Rattle.range_laws.proofs.Node.{Comes, IsFixed, first_range, step_range, step_sends}

-- ---- What arrives

entry_token : (t : Token) → CarriesByte (what.Token t) → TokenFits t
entry_token (Byte b) is = is
entry_token (Ctrl c) is = is

token_entry : (t : Token) → TokenFits t → CarriesByte (what.Token t)
token_entry (Byte b) is = is
token_entry (Ctrl c) is = is

or_fits : (x : What) (other : Option Token) → CarriesByte x → SentFits other → SentFits (token_or x other)
or_fits (what.Token t) other is rest = entry_token t is
or_fits what.Credit other is rest = rest
or_fits (what.Level level) other is rest = rest

among_fits : (entries : List Entry) → CarryBytes entries → SentFits (token_among entries)
among_fits [] all = tt
among_fits (e ∷ entries) all = or_fits e.what (token_among entries) all.0 (among_fits entries all.1)

pub kept : (p : Entry → Bool) (entries : List Entry) → CarryBytes entries → CarryBytes (filter p entries)
kept p [] all = tt
kept p (e ∷ entries) all = by (p e) (kept p entries all.1)
  where
    by : (test : Bool) → CarryBytes (filter p entries) → CarryBytes (if test then e ∷ filter p entries else filter p entries)
    by true rest = (all.0, rest)
    by false rest = rest

abbrev pub AllCarry : List (List Entry) → Type 0
AllCarry histories = AllByRecursion CarryBytes histories

arriving_fits : (plan : PlanRec) (histories : List (List Entry)) (slot : Slot) (link : Option LinkNumber) → AllCarry histories → CarryBytes (arriving_by plan histories slot link)
arriving_fits plan histories slot None all = tt
arriving_fits plan histories slot (Some link) all = kept _ (get_or histories link []) (all_at CarryBytes [] tt histories link all)

each_fits : (by_end : EndNumber → List Entry) → ((end : EndNumber) → CarryBytes (by_end end)) → (ends : List EndNumber) → AllByRecursion SentFits (map token_among (map by_end ends))
each_fits by_end all [] = tt
each_fits by_end all (end ∷ ends) = (among_fits (by_end end) (all end), each_fits by_end all ends)

-- ---- What is carried

sent_carries : (slot : Slot) (token : Option Token) → SentFits token → CarryBytes (token_entries slot token)
sent_carries slot None is = tt
sent_carries slot (Some t) is = (token_entry t is, tt)

credit_carries : (slot : Slot) (credit : Bool) → CarryBytes (credit_entries slot credit)
credit_carries slot false = tt
credit_carries slot true = (tt, tt)

level_carries : (slot before after : ℕ) → CarryBytes (level_entries slot before after)
level_carries slot before after = by (after == before)
  where
    by : (same : Bool) → CarryBytes (if same then [] else record { slot = slot; what = what.Level after } ∷ [])
    by true = tt
    by false = (tt, tt)

by_carries : (slot : Slot) (before after : NodeRec) (emitted : Emitted) (end : EndNumber) (joins : Option Joined) → AllByRecursion SentFits emitted.tokens → CarryBytes (carried_by slot before after emitted end joins)
by_carries slot before after emitted end None sent =
    let token = get_or emitted.tokens end None in
    let credit = get_or emitted.credits end false in
    all_joined (λ (e : Entry). CarriesByte e.what) (token_entries slot token) (credit_entries slot credit) (sent_carries slot token (all_at SentFits None tt emitted.tokens end sent)) (credit_carries slot credit)
by_carries slot before after emitted end (Some joined) sent = level_carries slot (driven_level before joined.from_port) (driven_level after joined.from_port)

abbrev Sends : Emitted → Type 0
Sends emitted = AllByRecursion SentFits emitted.tokens

abbrev AllSend : List Stepped → Type 0
AllSend steps = AllByRecursion (λ (s : Stepped). Sends s.emitted) steps

emitted_sends : (steps : List Stepped) (n : Position) → AllSend steps → Sends (emitted_by steps n)
emitted_sends steps n all =
    all_at Sends (emitted_events []) (all_many SentFits 8 None tt) (map (λ (s : Stepped). s.emitted) steps) n
    (all_made (λ (s : Stepped). Sends s.emitted) Sends (λ (s : Stepped). s.emitted) (λ s sends. sends) steps all)

longer_carry : (slot : Slot) (nodes : List NodeRec) (steps : List Stepped) (ds : List Arc) (histories : List (List Entry)) → AllSend steps → AllCarry histories → AllCarry (longer_histories slot nodes steps ds histories)
longer_carry slot nodes steps [] histories sends all = tt
longer_carry slot nodes steps (d ∷ ds) [] sends all = tt
longer_carry slot nodes steps (d ∷ ds) (history ∷ histories) sends all = (
  all_joined (λ (e : Entry). CarriesByte e.what) history (carried slot nodes steps d) all.0
      (by_carries slot (node_by nodes d.from) (node_by (map (λ (s : Stepped). s.rec) steps) d.from) (emitted_by steps d.from) d.from_end d.joins (emitted_sends steps d.from sends)),
  longer_carry slot nodes steps ds histories sends all.1,
)

none_carry : (ds : List Arc) → AllCarry (map (λ (d : Arc). []) ds)
none_carry [] = tt
none_carry (d ∷ ds) = (tt, none_carry ds)

-- ---- All nodes

-- of these nodes each has its numbers in their ranges, and there are as many as in the plan
abbrev pub AllRange : List NodePlan → List NodeRec → Type 0
AllRange [] [] = Unit {0}
AllRange (node ∷ nodes) (rec ∷ recs) = NodeRange rec × AllRange nodes recs
AllRange _ _ = ⊥

pub run_in_range : (nodes : List NodePlan) → AreRunnable nodes → RunInRange nodes
run_in_range [] all = tt
run_in_range (node ∷ nodes) all = (all.0.image.operands, run_in_range nodes all.1)

module _ (shown : ShownLevelsFit) (kept_so : KeptInEveryRun) (plan : PlanRec) (is : IsPlan plan) (runs : AreRunnable plan.nodes) where
  start_range : (n : Position) (nodes : List NodePlan) → AreRunnable nodes → AllRange nodes (nodes_at_start plan n nodes)
  start_range n [] all = tt
  start_range n (node ∷ nodes) all = (first_range node (gaps_of plan n) refl all.0, start_range (n + 1) nodes all.1)

  comes : (slot : Slot) (n : Position) → AllCarry (serial plan slot).histories → let coming = coming_at plan (serial plan slot).histories slot n in Comes coming.arrivals coming.pins
  comes slot n all =
      let histories = (serial plan slot).histories in
      record {
        tokens = each_fits (λ end. arriving_by plan histories slot (incoming plan n end)) (λ end. arriving_fits plan histories slot (incoming plan n end) all) link_ends;
        shown = shown plan n slot is;
        many = refl;
      }

  -- the facts of the ports of these nodes, by their places
  abbrev Facts : List NodePlan → List NodeRec → Type 0
  Facts nodes recs = (k : ℕ) → k < length nodes → HaveFacts (get_or recs k (first_node 0 0 [])).core

  module _ (slot : Slot) (carry : AllCarry (serial plan slot).histories) where
    abbrev steps : Position → List NodePlan → List NodeRec → List Stepped
    steps n nodes recs = steps_from plan (serial plan slot).histories slot n nodes recs

    fixed : (n : Position) (node : NodePlan) → IsRunnable node → IsFixed (fixed_of node (gaps_of plan n))
    fixed n node one = record { code = one.image.operands; id = one.id }

    steps_range : (n : Position) (nodes : List NodePlan) (recs : List NodeRec) → AreRunnable nodes → Facts nodes recs → AllRange nodes recs
        → AllRange nodes (map (λ (s : Stepped). s.rec) (steps n nodes recs)) × AllSend (steps n nodes recs)
    steps_range n [] [] all facts range = (tt, tt)
    steps_range n [] (rec ∷ recs) all facts range = absurd range
    steps_range n (node ∷ nodes) [] all facts range = absurd range
    steps_range n (node ∷ nodes) (rec ∷ recs) all facts range =
        let coming = coming_at plan (serial plan slot).histories slot n in
        let rest = steps_range (n + 1) nodes recs all.1 (λ k low. facts (suc k) (omega (arith, low))) range.1 in
        let its = facts 0 (omega arith) in
        let planned = fixed n node all.0 in
        let come = comes slot n carry in (
          (step_range (fixed_of node (gaps_of plan n)) rec slot coming.arrivals coming.pins planned come range.0 its, rest.0),
          (step_sends (fixed_of node (gaps_of plan n)) rec slot coming.arrivals coming.pins planned come range.0 its, rest.1),
        )

  facts_of_nodes : (slot : Slot) → Facts plan.nodes (serial plan slot).nodes
  facts_of_nodes slot k low = λ p. ((kept_so plan slot k is (run_in_range plan.nodes runs) low).pins.ports p).0

  record Range (slot : Slot) : Type 0 where
    nodes : AllRange plan.nodes (serial plan slot).nodes
    histories : AllCarry (serial plan slot).histories

  all_range : (slot : Slot) → Range slot
  unfolding serial
  all_range zero = record { nodes = start_range 0 plan.nodes runs; histories = none_carry (arcs plan) }
  all_range (suc slot) = after (all_range slot)
    where
      after : Range slot → Range (suc slot)
      after h =
          let done = steps_range slot h.histories 0 plan.nodes (serial plan slot).nodes runs (facts_of_nodes slot) h.nodes in
          record {
            nodes = done.0;
            histories = longer_carry slot (serial plan slot).nodes (steps_from plan (serial plan slot).histories slot 0 plan.nodes (serial plan slot).nodes) (arcs plan) (serial plan slot).histories done.1 h.histories;
          }

  pub nodes_range : (slot : Slot) → AllRange plan.nodes (serial plan slot).nodes
  nodes_range slot = (all_range slot).nodes

  pub histories_carry : (slot : Slot) → AllCarry (serial plan slot).histories
  histories_carry slot = (all_range slot).histories

pub runs_carry_bytes : ShownLevelsFit → KeptInEveryRun → RunsCarryBytes
runs_carry_bytes shown kept_so plan slot is runs = histories_carry shown kept_so plan is runs slot
