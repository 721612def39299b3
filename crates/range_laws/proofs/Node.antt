-- A node as it starts has its numbers in their ranges, and so has it after each slot; and what it sends are bytes.
use Rattle.std.proofs.Common.{◌≡◌, ℕ, zero, suc, ◌+◌, ◌<◌, ◌^◌, ◌%◌, ◌==◌, ◌&&◌, ◌||◌, nat_le, Bool, true, false, if◌then◌else◌, Option, Some, None, List, [], ◌∷◌, length, map, get_or, replicate, refl, ap, subst, ◌∙◌, arith}
use Rattle.std.specs.Prelude.{IfSome, IsTrue, codes}
use Rattle.std.specs.List.{AllByRecursion}
use Rattle.std.proofs.lemmas.Bool.{cond_both, and_parts, leb-true}
use Rattle.std.proofs.lemmas.List.{length-map}
use Rattle.xs_base.specs.Numbers.{Slot, Word, PortNumber}
use Rattle.xs_base.specs.Ids.{port_width}
use Rattle.xs_model.specs.declared.outside.Arrivals.{Arrivals}
use Rattle.xs_model.specs.declared.outside.PinView.{PinView}
use Rattle.xs_model.specs.AtWork.{slot_begins}
use Rattle.xs_model.specs.Outside.{LevelsFit}
use Rattle.xs_model.specs.Ports.{levels_of, edges_from}
use Rattle.xs_model.specs.Record.{NodeRec, PortRec, ClockRec, Idle, off_port, unused_timer, off_clock, unused_chan, not_enabled, free_thread, first_core}
use Rattle.xs_model.specs.Memory.{first_memory}
use Rattle.xs_instructions.specs.Code.{code_start, place_address}
use Rattle.xs_instructions.specs.Image.{Symbol, ImageRec, IsImage, same_name, data_start, address_of, is_place, entry_from, entry_of}
use Rattle.xs_instructions.specs.Instr.{InRange}
use Rattle.net_model.specs.Links.{arrive}
use Rattle.sys_plan.specs.declared.NodePlan.{NodePlan}
use Rattle.step_model.specs.Fixed.{Fixed}
use Rattle.step_model.specs.Start.{node_of, link_with_gap}
use Rattle.step_model.specs.Step.{setting_of, ports_step, before_issue, node_step}
use Rattle.port_laws.specs.Facts.{HasFacts, is_off}
use Rattle.port_laws.specs.Ports.{AllHaveFacts}
use Rattle.port_laws.proofs.Edges.{slot_keeps}
use Rattle.state_bridge.specs.Fits.{AreSuch, ThreadFits}
use Rattle.range_laws.specs.Ranges.{IsRunnable}
use Rattle.range_laws.proofs.Lists.{all_many}
use Rattle.range_laws.proofs.Words.{IsWord}
use Rattle.range_laws.proofs.Threads.{first_fits, free_fits}
use Rattle.range_laws.proofs.Memory.{first_memory_fits}
use Rattle.range_laws.proofs.Core.{CoreFits, MemoryFits, ChanWords, TimerWord, ClockByte, EnablingWords, unused_fits, never_gives, set_ports}
use Rattle.range_laws.proofs.Issue.{HaveFacts, issue_fits}
use Rattle.range_laws.proofs.Switch.{InputRange, LinkRange, NodeRange, SentFits, WorkRange, links_range, moves_range}

-- ---- As it starts

such_many : {A : Type 0} (P : A → Type 0) (many : ℕ) (x : A) → P x → length (replicate many x) ≡ many → AreSuch P many (replicate many x)
such_many P many x is e = record { count = e; each = all_many P many x is }

first_core_fits : (entry cp_at : Word) (memory : List ℕ) → IsWord entry → IsWord cp_at → MemoryFits memory → CoreFits (first_core entry cp_at memory)
first_core_fits entry cp_at memory one other fits = record {
  threads = record { count = refl; each = (first_fits entry cp_at one other, all_many ThreadFits 7 free_thread free_fits) };
  last = refl;
  memory = fits;
  chans = such_many ChanWords 32 unused_chan unused_fits refl;
  timers = such_many TimerWord 10 unused_timer (omega arith) refl;
  clocks = such_many ClockByte 6 off_clock (omega arith) refl;
  syncs = refl;
  locks = refl;
  ports = refl;
  enabled = record {
    chans = such_many EnablingWords 32 not_enabled never_gives refl;
    timers = such_many EnablingWords 10 not_enabled never_gives refl;
    ports = such_many EnablingWords 29 not_enabled never_gives refl;
  };
}

-- the address of a name is that of a symbol
named_so : (P : ℕ → Type 0) (symbols : List Symbol) (name : List ℕ) → AllByRecursion (λ (s : Symbol). P s.1) symbols → IfSome (address_of symbols name) P
named_so P [] name all = tt
named_so P (s ∷ symbols) name all = by (same_name s.0 name) (address_of symbols name) (named_so P symbols name all.1)
  where
    by : (same : Bool) (others : Option ℕ) → IfSome others P → IfSome (if same then Some s.1 else others) P
    by true others is = all.0
    by false others is = is

-- an address that a label may have, where it is one of code, is one of an instruction or the code's end
place_word : (image : ImageRec) → IsImage image → (at : ℕ) → IsTrue (is_place (length image.code) (length image.bytes) image.cp_at at) → nat_le code_start at ≡ true → IsWord at
place_word image is at place code =
    let there : (nat_le at (place_address (length image.code)) && (at % 4 == 0)) ≡ true =
    subst (λ (test : Bool). IsTrue (if test then nat_le at (place_address (length image.code)) && (at % 4 == 0) else (at == image.cp_at) || (nat_le data_start at && nat_le at (data_start + length image.bytes)))) code place in
    let most = leb-true at (place_address (length image.code)) (and_parts (nat_le at (place_address (length image.code))) (at % 4 == 0) there).0 in
    let few = is.code_fits in
    omega (arith, most, few)

from_word : (image : ImageRec) → IsImage image → (found : Option ℕ) → IfSome found (λ at. IsTrue (is_place (length image.code) (length image.bytes) image.cp_at at)) → IsWord (entry_from found)
from_word image is None place = omega arith
from_word image is (Some at) place = cond_both (nat_le code_start at) at code_start IsWord (λ code. place_word image is at place code) (λ no. omega arith)

image_entry : (image : ImageRec) → IsImage image → IsWord (entry_of image)
image_entry image is =
    from_word image is (address_of image.symbols (codes "main"))
    (named_so (λ at. IsTrue (is_place (length image.code) (length image.bytes) image.cp_at at)) image.symbols (codes "main") is.places)

image_cp : (image : ImageRec) → IsImage image → IsWord image.cp_at
image_cp image is =
    let near = is.cp_near_end in
    let few = is.bytes_fit in
    omega (arith, near, few)

link_fits : (gap : ℕ) → LinkRange (link_with_gap gap)
link_fits gap = by (gap == 0)
  where
    by : (none : Bool) → LinkRange (if none then None else Some (record { buffer = []; sent = []; credited = [] }))
    by true = tt
    by false = record { count = omega arith; tokens = tt }

all_links : (gaps : List ℕ) → AllByRecursion LinkRange (map link_with_gap gaps)
all_links [] = tt
all_links (gap ∷ gaps) = (link_fits gap, all_links gaps)

pub first_range : (plan : NodePlan) (gaps : List ℕ) → length gaps ≡ 8 → IsRunnable plan → NodeRange (node_of plan gaps)
first_range plan gaps eight is = record {
  core = first_core_fits (entry_of plan.image) plan.image.cp_at (first_memory plan.image.bytes) (image_entry plan.image is.image) (image_cp plan.image is.image) (first_memory_fits plan.image.bytes is.image.bytes_fit is.bytes);
  inputs = such_many InputRange 40 Idle tt refl;
  links = record { count = length-map gaps link_with_gap ∙ eight; each = all_links gaps };
  levels = refl;
}

-- ---- The edges of ports

edges_many : (slot : Slot) (clocks : List ClockRec) (before : List Word) (p : PortNumber) (ports : List PortRec) (outside : List Word) → length (edges_from slot clocks before p ports outside).ports ≡ length ports
unfolding edges_from
edges_many slot clocks before p [] outside = refl
edges_many slot clocks before p (port ∷ ports) [] = refl
edges_many slot clocks before p (port ∷ ports) (o ∷ outside) = ap suc (edges_many slot clocks before (p + 1) ports outside)

fact_of_all : (n : PortNumber) (ports : List PortRec) (i p : ℕ) → n + i ≡ p → AllHaveFacts n ports → HasFacts (port_width p) (get_or ports i off_port)
fact_of_all n [] i p e all = is_off
fact_of_all n (port ∷ ports) zero p e all =
    let same : n ≡ p = omega (arith, e) in subst (λ (m : ℕ). HasFacts (port_width m) port) same all.0
fact_of_all n (port ∷ ports) (suc i) p e all = fact_of_all (n + 1) ports i p (omega (arith, e)) all.1

all_facts : (n : PortNumber) (ports : List PortRec) → ((i : ℕ) → HasFacts (port_width (n + i)) (get_or ports i off_port)) → AllHaveFacts n ports
all_facts n [] each = tt
all_facts n (port ∷ ports) each = (
  let same : n + 0 ≡ n = omega arith in subst (λ (m : ℕ). HasFacts (port_width m) port) same (each 0),
  all_facts (n + 1) ports (λ i. let same : n + suc i ≡ n + 1 + i = omega arith in subst (λ (m : ℕ). HasFacts (port_width m) (get_or ports i off_port)) same (each (suc i))),
)

from_zero : (ports : List PortRec) → ((p : PortNumber) → HasFacts (port_width p) (get_or ports p off_port)) → AllHaveFacts 0 ports
from_zero ports all =
    all_facts 0 ports (λ i. let same : i ≡ 0 + i = omega arith in subst (λ (m : ℕ). HasFacts (port_width m) (get_or ports i off_port)) same (all i))

levels_many : (n : ℕ) (ports : List PortRec) (outside : List Word) → length ports ≡ n → length outside ≡ n → length (levels_of ports outside) ≡ n
levels_many zero [] outside a b = refl
levels_many zero (port ∷ ports) outside a b = absurd (omega (arith, a))
levels_many (suc n) [] outside a b = absurd (omega (arith, a))
levels_many (suc n) (port ∷ ports) [] a b = absurd (omega (arith, b))
levels_many (suc n) (port ∷ ports) (o ∷ outside) a b = ap suc (levels_many n ports outside (omega (arith, a)) (omega (arith, b)))

-- ---- A slot

-- what comes to a node: bytes, and levels of the widths of its ports
pub record Comes (arrivals : Arrivals) (pins : PinView) : Type 0 where
  pub tokens : AllByRecursion SentFits arrivals.tokens
  pub shown : LevelsFit pins.level
  pub many : length pins.level ≡ 29

-- what is asked of a plan
pub record IsFixed (fixed : Fixed) : Type 0 where
  pub code : AllByRecursion InRange fixed.code
  pub id : fixed.routes.id < 2 ^ 16

module _ (fixed : Fixed) (rec : NodeRec) (slot : Slot) (arrivals : Arrivals) (pins : PinView) (is : IsFixed fixed) (comes : Comes arrivals pins) (h : NodeRange rec) (facts : HaveFacts rec.core) where
  begun : WorkRange (ports_step slot pins (arrive slot arrivals (slot_begins rec)))
  begun =
      let edged = edges_from slot rec.core.clocks rec.levels 0 rec.core.ports pins.level in
      record {
        node = record {
          core = set_ports rec.core edged.ports h.core (edges_many slot rec.core.clocks rec.levels 0 rec.core.ports pins.level ∙ h.core.ports);
          inputs = h.inputs;
          links = links_range slot arrivals.tokens arrivals.credits rec.links comes.tokens h.links;
          levels = h.levels;
        };
        facts = λ p.
            fact_of_all 0 edged.ports p p (omega arith) (slot_keeps slot rec.core.clocks rec.levels 0 rec.core.ports pins.level comes.shown (from_zero rec.core.ports facts));
        tokens = all_many SentFits 8 None tt;
      }

  before : WorkRange (before_issue fixed rec slot arrivals pins)
  before = moves_range fixed.routes slot 0 40 (ports_step slot pins (arrive slot arrivals (slot_begins rec))) begun

  pub step_range : NodeRange (node_step fixed rec slot arrivals pins).rec
  unfolding node_step
  step_range =
      let m = before_issue fixed rec slot arrivals pins in
      let core = issue_fits fixed.code (setting_of fixed slot pins m.rec) m.rec.core is.id comes.shown is.code before.node.core before.facts in
      record {
        core = core;
        inputs = before.node.inputs;
        links = before.node.links;
        levels = levels_many 29 _ pins.level core.ports comes.many;
      }

  pub step_sends : AllByRecursion SentFits (node_step fixed rec slot arrivals pins).emitted.tokens
  unfolding node_step
  step_sends = before.tokens
