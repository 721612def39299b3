-- What is told of a run that went on from a snapshot.
use Rattle.std.proofs.Common.{◌≡◌, ℕ, zero, suc, ◌+◌, ◌-◌, ◌<◌, ◌≤◌, List, [], ◌∷◌, ◌++◌, length, take, get_or, map, refl, sym, ap, ◌∙◌, subst, arith}
use Rattle.std.specs.Prelude.{IfOk, Result, Ok, Err}
use Rattle.std.specs.List.{AllZip, AllByRecursion}
use Rattle.std.proofs.Math.ListN.{get_or-map}
use Rattle.xs_base.specs.Numbers.{Slot}
use Rattle.xs_base.specs.declared.entry.Entry.{Entry}
use Rattle.xs_model.specs.declared.event.Event.{Event}
use Rattle.xs_model.specs.FirstEvents.{kept_at_most}
use Rattle.trace_lines.specs.Kept.{KeptEvents, Keeps}
use Rattle.trace_merge.specs.Nodes.{events_of}
use Rattle.trace_model.specs.Trace.{Sent, tokens_sent, credits_sent, sent_on, end_text}
use Rattle.run_plan.specs.Machine.{MachineRec, system_of}
use Rattle.serial_model.specs.Serial.{Begun, SystemRec, since}
use Rattle.snap_parts.specs.declared.node.SnapNode.{SnapNode}
use Rattle.snap_parts.specs.declared.log.SnapLog.{SnapLog}
use Rattle.snap_parts.specs.Parts.{LogRec, BodyRec, seen}
use Rattle.snap_parts.specs.Snaps.{begun_of}
use Rattle.system_model.specs.System as stands
use Rattle.system_model.specs.System.{system_of as system_of_text}
use Rattle.snap_codec.specs.Snaps.{SnapRec, IsSnap, IsSnapOfSome}
use Rattle.snap_model.specs.Rest.{room_of, kept_after, more_after, sent_from, sent_after, all_sent_after, serial_from, rest_text}
use Rattle.snap_run.specs.RunsOn.{RunOnRec, WentOn, end_of_run}
use Rattle.snap_run.proofs.Lists.{zipped, zipped_at}
use Rattle.snap_run.proofs.Systems.{HasAll, all_since, all_begun}
use Rattle.run_plan.proofs.Begins.{snaps-length, logs-length}
use Rattle.sys_plan.specs.Plan.{PlanRec, arcs, arc_count}

-- what the machine has become
pub went_on : (m : MachineRec) (snap : SnapRec) → WentOn m snap → system_of m ≡ serial_from m.plan snap.body m.now
went_on m snap is = ap (λ (b : Begun). since m.plan b (m.now - b.slot)) is.begun

-- ---- Lists side by side

pub kept_zipped : (nodes : List SnapNode) (all : List (List Event)) → kept_after nodes all ≡ zipped (λ (node : SnapNode) (events : List Event). take (room_of node) events) nodes all
kept_zipped [] all = refl
kept_zipped (node ∷ nodes) [] = refl
kept_zipped (node ∷ nodes) (events ∷ all) = ap (λ kept. take (room_of node) events ∷ kept) (kept_zipped nodes all)

pub more_zipped : (nodes : List SnapNode) (all : List (List Event)) → more_after nodes all ≡ zipped (λ (node : SnapNode) (events : List Event). node.more + (length events - room_of node)) nodes all
more_zipped [] all = refl
more_zipped (node ∷ nodes) [] = refl
more_zipped (node ∷ nodes) (events ∷ all) = ap (λ counts. (node.more + (length events - room_of node)) ∷ counts) (more_zipped nodes all)

pub sent_zipped : (slot : Slot) (logs : List LogRec) (histories : List (List Entry)) → all_sent_after slot logs histories ≡ zipped (sent_after slot) logs histories
sent_zipped slot [] histories = refl
sent_zipped slot (log ∷ logs) [] = refl
sent_zipped slot (log ∷ logs) (h ∷ histories) = ap (λ all. sent_after slot log h ∷ all) (sent_zipped slot logs histories)

-- ---- Events

take_within : {X : Type 0} (n m : ℕ) (xs : List X) → n ≤ m → take n (take m xs) ≡ take n xs
take_within zero m xs h = refl
take_within (suc n) zero xs h = absurd (omega (arith, h))
take_within (suc n) (suc m) [] h = refl
take_within (suc n) (suc m) (x ∷ xs) h = ap (λ ys. x ∷ ys) (take_within n m xs (omega (arith, h)))

-- what is cut of the events that are kept is cut of all events
pub kept_cut : (nodes : List SnapNode) (kept : List KeptEvents) (all : List (List Event)) → AllZip Keeps kept all → kept_after nodes (events_of kept) ≡ kept_after nodes all
kept_cut [] kept all keeps = refl
kept_cut (node ∷ nodes) [] [] keeps = refl
kept_cut (node ∷ nodes) [] (events ∷ all) keeps = absurd keeps
kept_cut (node ∷ nodes) (k ∷ kept) [] keeps = absurd keeps
kept_cut (node ∷ nodes) (k ∷ kept) (events ∷ all) keeps =
    let first : take (room_of node) k.events ≡ take (room_of node) events =
    ap (take (room_of node)) keeps.0.first ∙ take_within (room_of node) kept_at_most events (omega arith) in
    λ i. first i ∷ kept_cut nodes kept all keeps.1 i

kept_none : (nodes : List SnapNode) → kept_after nodes [] ≡ []
kept_none [] = refl
kept_none (node ∷ nodes) = refl

-- of no events
pub kept_first : (nodes : List SnapNode) → [] ≡ kept_after nodes []
kept_first nodes = sym (kept_none nodes)

-- of one more node
pub kept_push : (nodes : List SnapNode) (all : List (List Event)) (events : List Event) (k : ℕ) (node : SnapNode) → k ≡ length all → k < length nodes → get_or nodes k node ≡ node
    → kept_after nodes (all ++ events ∷ []) ≡ kept_after nodes all ++ take (room_of node) events ∷ []
kept_push [] all events k node here inside is = absurd (omega (arith, inside))
kept_push (n ∷ nodes) [] events zero node here inside is = λ i. take (room_of (is i)) events ∷ kept_none nodes i
kept_push (n ∷ nodes) [] events (suc k) node here inside is = absurd (omega (arith, here))
kept_push (n ∷ nodes) (e ∷ all) events zero node here inside is = absurd (omega (arith, here))
kept_push (n ∷ nodes) (e ∷ all) events (suc k) node here inside is = ap (λ kept. take (room_of n) e ∷ kept) (kept_push nodes all events k node (omega (arith, here)) (omega (arith, inside)) is)

-- ---- What a run has come to

-- a directed link or a wire of a snapshot by its number
pub log_at : (logs : List SnapLog) (all : List LogRec) (k : ℕ) (log : SnapLog) → map seen logs ≡ all → log ≡ get_or logs k log → get_or all k (seen log) ≡ seen log
log_at logs all k log are is = ap (λ (ls : List LogRec). get_or ls k (seen log)) (sym are) ∙ get_or-map seen logs k log ∙ ap seen (sym is)

module _ (m : MachineRec) (snap : SnapRec) (is : WentOn m snap) where
  abbrev pub run_of : RunOnRec
  run_of = record { plan = m.plan; body = snap.body; slots = m.now }

  abbrev system : SystemRec
  system = serial_from m.plan snap.body m.now

  has_all : HasAll m.plan system
  has_all = all_since m.plan (begun_of snap.body) (all_begun m.plan snap.body is.system) (m.now - snap.body.slot)

  pub nodes_many : length snap.body.nodes ≡ length m.plan.nodes
  nodes_many = snaps-length m.plan snap.body.slot 0 m.plan.nodes snap.body.nodes is.system.nodes

  pub logs_many : length snap.body.logs ≡ arc_count m.plan
  logs_many = logs-length snap.body.slot (arcs m.plan) snap.body.logs is.system.logs

  pub told_more : (n past : ℕ) (node : SnapNode) → n < length m.plan.nodes → get_or snap.body.nodes n node ≡ node → past ≡ length (get_or (system_of m).events n []) - room_of node
      → node.more + past ≡ get_or (end_of_run run_of).more n 0
  told_more n past node inside here count =
      let events = get_or system.events n [] in
      let there : past ≡ length events - room_of node = count ∙ ap (λ (s : SystemRec). length (get_or s.events n []) - room_of node) (went_on m snap is) in
      let at : get_or (more_after snap.body.nodes system.events) n 0 ≡ node.more + (length events - room_of node) =
      ap (λ (all : List ℕ). get_or all n 0) (more_zipped snap.body.nodes system.events)
      ∙ zipped_at (λ (x : SnapNode) (es : List Event). x.more + (length es - room_of x)) snap.body.nodes system.events n node [] 0 (omega (arith, inside, nodes_many)) (omega (arith, inside, has_all.events))
      ∙ ap (λ (x : SnapNode). x.more + (length events - room_of x)) here in
      ap (λ c. node.more + c) there ∙ sym at

  pub told_sent : (link tokens credits slot : ℕ) (log : LogRec) (h : List Entry) → link < arc_count m.plan → get_or snap.body.logs link log ≡ log → h ≡ get_or (system_of m).histories link []
      → slot ≡ snap.body.slot → tokens ≡ tokens_sent (sent_from slot h) → credits ≡ credits_sent (sent_from slot h)
      → (log.tokens + tokens, log.credits + credits) ≡ sent_on (end_of_run run_of) link
  told_sent link tokens credits slot log h inside here history from t c =
      let all = system.histories in
      let carried = history ∙ ap (λ (s : SystemRec). get_or s.histories link []) (went_on m snap is) in
      let at : sent_on (end_of_run run_of) link ≡ sent_after snap.body.slot log (get_or all link []) =
      ap (λ (sent : List Sent). get_or sent link (0, 0)) (sent_zipped snap.body.slot snap.body.logs all)
      ∙ zipped_at (sent_after snap.body.slot) snap.body.logs all link log [] (0, 0) (omega (arith, inside, logs_many)) (omega (arith, inside, has_all.histories))
      ∙ ap (λ (l : LogRec). sent_after snap.body.slot l (get_or all link [])) here in
      let tokens_are : tokens ≡ tokens_sent (sent_from snap.body.slot (get_or all link [])) = t ∙ (λ i. tokens_sent (sent_from (from i) (carried i))) in
      let credits_are : credits ≡ credits_sent (sent_from snap.body.slot (get_or all link [])) = c ∙ (λ i. credits_sent (sent_from (from i) (carried i))) in
      (λ i. (log.tokens + tokens_are i, log.credits + credits_are i)) ∙ sym at

  pub told_kept : (nodes : List SnapNode) (kept : List KeptEvents) → nodes ≡ snap.body.nodes → AllZip Keeps kept (system_of m).events → kept_after nodes (events_of kept) ≡ (end_of_run run_of).kept
  told_kept nodes kept are keeps =
      ap (λ (ns : List SnapNode). kept_after ns (events_of kept)) are
      ∙ kept_cut snap.body.nodes kept (system_of m).events keeps
      ∙ ap (λ (s : SystemRec). kept_after snap.body.nodes s.events) (went_on m snap is)

-- ---- Plans

-- the plan of a snapshot's text is the plan of the snapshot
pub same_plan : (snap : SnapRec) (some : IsSnapOfSome snap) (plan : PlanRec) → system_of_text snap.text ≡ stands.Plan plan → IsSnap plan snap
same_plan snap some plan is =
    let same : some.plan ≡ plan = cc (some.is.system, is) in
    subst (λ (p : PlanRec). IsSnap p snap) same some.is

pub other_plan : (snap : SnapRec) (one plan : PlanRec) → IsSnap one snap → system_of_text snap.text ≡ stands.Plan plan → one ≡ plan
other_plan snap one plan snapped is = cc (snapped.system, is)

-- what is written of it is the rest
pub rest_is : {E : Type 0} (r : Result (List ℕ) E) (snap : SnapRec) (one : PlanRec) (run : RunOnRec) (limit : ℕ) → run ≡ record { plan = one; body = snap.body; slots = limit } → IsSnap one snap
    → IfOk r (λ t. t ≡ end_text one run.slots (end_of_run run))
    → IfOk r (λ t. (plan : PlanRec) → system_of_text snap.text ≡ stands.Plan plan → t ≡ rest_text plan snap.body limit)
unfolding rest_text
rest_is (Ok t) snap one run limit is snapped told = λ plan text.
    told
    ∙ (λ i. end_text one (is i).slots (end_of_run (is i)))
    ∙ ap (λ (p : PlanRec). end_text p limit (end_of_run (record { plan = p; body = snap.body; slots = limit }))) (other_plan snap one plan snapped text)
rest_is (Err e) snap one run limit is snapped told = tt
