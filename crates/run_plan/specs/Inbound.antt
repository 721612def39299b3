-- The directed links that come to a node, and what arrives by them.
use Rattle.std.specs.Prelude.{ℕ, zero, suc, ◌≡◌, ◌<◌, ◌≤◌, Bool, false, Option, Some, None, List, [], ◌∷◌, length, drop, map, slice_index_or, IfSome}
use Rattle.std.specs.List.{AllByRecursion}
use Rattle.xs_base.specs.Numbers.{Position, LinkNumber, EndNumber}
use Rattle.xs_base.specs.declared.numbers.TheConstants.{LINK_ENDS}
use Rattle.xs_base.specs.declared.token.Token.{Token}
use Rattle.xs_model.specs.declared.outside.Arrivals.{Arrivals}
use Rattle.sys_plan.specs.Plan.{PlanRec, incoming, link_ends}
use Rattle.crossings.specs.declared.crossing.Crossing.{Crossing}
use Rattle.run_plan.specs.declared.track.Track.{Track}
use Rattle.run_plan.specs.declared.inbound.TheConstants.{NOTHING}
use Rattle.crossings.specs.Crossings.{no_crossing}

-- the arcs that come to the link ends of the node at a position
abbrev pub incoming_of : PlanRec → Position → List (Option LinkNumber)
incoming_of plan n = map (λ end. incoming plan n end) link_ends

-- no arc comes to a link end
abbrev pub IsNowhere : Option LinkNumber → Type 0
IsNowhere link = link ≡ None

-- the arc that comes to each link end, where one does
pub record InboundRec : Type 0 where
  pub links : List (Option LinkNumber)

-- nothing arrives by the link ends that no arc comes to
abbrev pub NothingElse : List (Option LinkNumber) → List (Option Token) → List Bool → Type 0
NothingElse [] [] [] = Unit {0}
NothingElse (link ∷ links) (token ∷ tokens) (credit ∷ credits) =
    (IsNowhere link → (token ≡ None) × (credit ≡ false)) × NothingElse links tokens credits
NothingElse _ _ _ = ⊥

-- of all the link ends, none from this one on is reached; and this is nothing
pub record IsReachedBelow (reached : EndNumber) (links : List (Option LinkNumber)) (nothing : Arrivals) : Type 0 where
  pub all_ends : length links ≡ LINK_ENDS
  pub within : reached ≤ LINK_ENDS
  pub rest : AllByRecursion IsNowhere (drop reached links)
  pub is_nothing : nothing ≡ NOTHING

-- an arc is one of so many
abbrev pub IsBelow : ℕ → Option LinkNumber → Type 0
IsBelow count link = IfSome link (λ k. k < count)

-- what arrives by the arcs, by number
abbrev pub arrived_of : List Track → List Crossing
arrived_of tracks = map (λ (t : Track). t.arrived) tracks

-- what arrives by an arc, where there is one
abbrev pub arrived_by : List Track → Option LinkNumber → Crossing
arrived_by tracks None = no_crossing
arrived_by tracks (Some link) = slice_index_or (arrived_of tracks) link no_crossing

-- what arrives at a node that these arcs reach, by link end
abbrev pub arrivals_by : List Track → List (Option LinkNumber) → Arrivals
arrivals_by tracks links = record {
  tokens = map (λ link. (arrived_by tracks link).token) links;
  credits = map (λ link. (arrived_by tracks link).credit) links;
}

-- what arrives by the first link ends, and nothing else by the rest
abbrev pub Gathers : List Track → EndNumber → List (Option LinkNumber) → List (Option Token) → List Bool → Type 0
Gathers tracks zero links tokens credits = NothingElse links tokens credits
Gathers tracks (suc i) (link ∷ links) (token ∷ tokens) (credit ∷ credits) =
    ((token ≡ (arrived_by tracks link).token) × (credit ≡ (arrived_by tracks link).credit)) × Gathers tracks i links tokens credits
Gathers tracks (suc i) _ _ _ = ⊥
