-- Walks by the ways of a plan, whichever links they take; and that they arrive.
use Rattle.std.specs.Prelude.{ℕ, ◌≡◌, ◌≢◌, ◌<◌, ◌≤◌, true, List, [], ◌∷◌, length}
use Rattle.xs_base.specs.Numbers.{NodeId, Position, LinkNumber}
use Rattle.sys_plan.specs.Plan.{PlanRec, IsPlan}
use Rattle.rank_model.specs.declared.verdict.Verdict.TheVariants.{Yes}
use Rattle.rank_model.specs.Lines.{RanksRec}
use Rattle.rank_model.specs.Next.{link_count, arc_at, id_at, is_next}
use Rattle.rank_model.specs.Verdicts.{has_net}
use Rattle.rank_model.specs.Checks.{Judged, checked}

-- a hop from a node towards an id, in a network: by a directed link of the way on
pub record IsHop (plan : PlanRec) (net : ℕ) (dest : NodeId) (v : Position) (l : LinkNumber) : Type 0 where
  pub there : l < link_count plan
  pub next : is_next plan v net dest l ≡ true

-- a walk: each hop is from where the one before it ends
abbrev pub IsWalk : PlanRec → ℕ → NodeId → Position → List LinkNumber → Type 0
IsWalk plan net dest v [] = Unit {0}
IsWalk plan net dest v (l ∷ ls) = IsHop plan net dest v l × IsWalk plan net dest (arc_at plan l).to ls

-- where a walk ends
abbrev pub end_of : PlanRec → Position → List LinkNumber → Position
end_of plan v [] = v
end_of plan v (l ∷ ls) = end_of plan (arc_at plan l).to ls

-- a walk from a node towards the id of a node, in a network of the plan
pub record IsWalkTo (plan : PlanRec) (net : ℕ) (m v : Position) (ls : List LinkNumber) : Type 0 where
  pub from : v < length plan.nodes
  pub to : m < length plan.nodes
  pub in_plan : has_net plan.links net ≡ true
  pub walk : IsWalk plan net (id_at plan m) v ls

-- every walk towards a node arrives, and soon
pub record WalksArrive (plan : PlanRec) : Type 0 where
  -- no walk, towards whichever id, has more hops than there are directed links
  pub few_hops : (net : ℕ) (dest : NodeId) (v : Position) (ls : List LinkNumber) → IsWalk plan net dest v ls → length ls ≤ link_count plan
  -- one that begins at a node has fewer hops than there are nodes
  pub fewer_than_nodes : (net : ℕ) (dest : NodeId) (v : Position) (ls : List LinkNumber) → v < length plan.nodes → IsWalk plan net dest v ls → length ls < length plan.nodes
  -- and none with a hop comes back to where it began
  pub no_return : (net : ℕ) (dest : NodeId) (v : Position) (l : LinkNumber) (ls : List LinkNumber) → IsWalk plan net dest v (l ∷ ls) → end_of plan v (l ∷ ls) ≢ v
  -- one towards a node that has not come there has a next hop
  pub goes_on : (net : ℕ) (m v : Position) (ls : List LinkNumber) → IsWalkTo plan net m v ls → end_of plan v ls ≢ m
      → (l : LinkNumber) × IsHop plan net (id_at plan m) (end_of plan v ls) l
  -- so one that has none has come there
  pub arrives : (net : ℕ) (m v : Position) (ls : List LinkNumber) → IsWalkTo plan net m v ls
      → ((l : LinkNumber) → IsHop plan net (id_at plan m) (end_of plan v ls) l → ⊥) → end_of plan v ls ≡ m
  -- and one that has come there has none
  pub stays : (net : ℕ) (m : Position) (l : LinkNumber) → IsHop plan net (id_at plan m) m l → ⊥

-- where the verdict is `Yes`, every walk arrives
abbrev pub WalksArriveWhereYes : Type 0
WalksArriveWhereYes = (plan : PlanRec) (ranks : RanksRec) → IsPlan plan → checked plan ranks ≡ Judged Yes → WalksArrive plan
