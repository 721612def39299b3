-- Routes in a run: an input at which a directed link ends waits for a link end, and then holds it until its packet has gone through.
use Rattle.std.specs.Prelude.{ℕ, ◌≡◌, ◌≢◌, ◌<◌, ◌⊎◌, true, List, [], ◌∷◌, slice_index}
use Rattle.xs_base.specs.Numbers.{Slot, LinkNumber}
use Rattle.xs_model.specs.declared.dest.Dest.{Dest}
use Rattle.xs_model.specs.Record.{Want, Out}
use Rattle.net_model.specs.Switch.{state_at}
use Rattle.sys_plan.specs.Plan.{PlanRec, IsPlan}
use Rattle.serial_model.specs.Serial.{SystemRec, serial, node_by}
use Rattle.rank_model.specs.declared.verdict.Verdict.TheVariants.{Yes}
use Rattle.rank_model.specs.Lines.{RanksRec}
use Rattle.rank_model.specs.Next.{link_count, arc_at, is_next}
use Rattle.rank_model.specs.Checks.{Judged, checked, ranks_by_link}

-- the input at which directed link l ends holds the link end that directed link k leaves by: what comes by l goes out by k
pub record Holds (plan : PlanRec) (system : SystemRec) (l k : LinkNumber) : Type 0 where
  pub l_there : l < link_count plan
  pub k_there : k < link_count plan
  pub same_node : (arc_at plan k).from ≡ (arc_at plan l).to
  pub headers : ℕ
  pub dest : Dest
  pub out : state_at (node_by system.nodes (arc_at plan l).to) (arc_at plan l).to_end ≡ Out (arc_at plan k).from_end headers dest

-- the input at which directed link l ends wants to go on, and directed link k is one of those by which it may
pub record WaitsFor (plan : PlanRec) (system : SystemRec) (l k : LinkNumber) : Type 0 where
  pub l_there : l < link_count plan
  pub k_there : k < link_count plan
  pub net : ℕ
  pub dest : Dest
  pub want : state_at (node_by system.nodes (arc_at plan l).to) (arc_at plan l).to_end ≡ Want dest net
  pub next : is_next plan (arc_at plan l).to net dest.node k ≡ true

-- each of a row of directed links is held or waited for by the one before it, the first by l
abbrev pub IsHeldRow : PlanRec → SystemRec → LinkNumber → List LinkNumber → Type 0
IsHeldRow plan system l [] = Unit {0}
IsHeldRow plan system l (k ∷ ks) = (Holds plan system l k ⊎ WaitsFor plan system l k) × IsHeldRow plan system k ks

-- the last of a row, or l where it is empty
abbrev pub last_of : LinkNumber → List LinkNumber → LinkNumber
last_of l [] = l
last_of l (k ∷ ks) = last_of k ks

-- wherever an input holds a link end in a system or waits for one, the rank goes up, by the ranks of all directed links by number
pub record HeldRise (plan : PlanRec) (ranks : List ℕ) (system : SystemRec) : Type 0 where
  pub rises : (l k : LinkNumber) → Holds plan system l k → slice_index ranks l < slice_index ranks k
  pub waits : (l k : LinkNumber) → WaitsFor plan system l k → slice_index ranks l < slice_index ranks k
  -- so no row of links that are held or waited for comes back to where it began
  pub no_circle : (l k : LinkNumber) (ks : List LinkNumber) → IsHeldRow plan system l (k ∷ ks) → last_of l (k ∷ ks) ≢ l

-- where the verdict is `Yes`, that is so before every slot
abbrev pub HeldRiseWhereYes : Type 0
HeldRiseWhereYes = (plan : PlanRec) (ranks : RanksRec) (slot : Slot) → IsPlan plan → checked plan ranks ≡ Judged Yes
    → HeldRise plan (ranks_by_link plan ranks.lines) (serial plan slot)
