-- Circles among vertices that wait for one another: what they are, and the one that is told. A graph has, for each vertex by its number, the
-- vertices that it waits for. A number that is no vertex's waits for none.
use Rattle.std.specs.Prelude.{ℕ, zero, suc, ◌≢◌, Bool, true, false, ◌==◌, nat_le, if◌then◌else◌, Option, Some, None, unwrap_or, List, [], ◌∷◌, ◌++◌, length, map, replicate, drop, take, find, position, slice_index_or, Contains, AllPairs}
use Rattle.std.specs.List.{list_any, list_all}

-- the vertices that one waits for
abbrev pub awaited : List (List ℕ) → ℕ → List ℕ
awaited graph a = slice_index_or graph a []

-- one waits for the other
abbrev pub IsEdge : List (List ℕ) → ℕ → ℕ → Type 0
IsEdge graph a b = Contains (awaited graph a) b

-- each of a row waits for the next one, and the last for the end
abbrev pub Leads : List (List ℕ) → List ℕ → ℕ → Type 0
Leads graph [] end = Unit {0}
Leads graph (a ∷ rest) end = IsEdge graph a (slice_index_or rest 0 end) × Leads graph rest end

-- each waits for the next one, the last for the first, and none stands there twice
abbrev pub IsCircle : List (List ℕ) → List ℕ → Type 0
IsCircle graph [] = ⊥
IsCircle graph (a ∷ rest) = Leads graph (a ∷ rest) a × AllPairs (λ x y. x ≢ y) (a ∷ rest)

-- ---- The vertices that are left: those that wait for none that is left are dropped, again and again

-- whether a vertex is left, by what is known of each
abbrev pub is_left : List Bool → ℕ → Bool
is_left left v = slice_index_or left v false

-- those that wait for one that is left
abbrev pub peeled : List (List ℕ) → List Bool → List Bool
peeled graph left = map (list_any (is_left left)) graph

-- which are left after so many rounds
unfoldable pub left_after : List (List ℕ) → ℕ → List Bool
left_after graph zero = replicate (length graph) true
left_after graph (suc rounds) = peeled graph (left_after graph rounds)

-- ---- The circle that is told: that to which a walk comes from the least vertex that is left

-- the first that is left of those that a vertex waits for: there is one for each that is left after all rounds
abbrev pub next_left : List (List ℕ) → List Bool → ℕ → ℕ
next_left graph left v = unwrap_or (find (is_left left) (awaited graph v)) 0

-- a row from a vertex on
unfoldable pub from_vertex : ℕ → List ℕ → List ℕ
from_vertex v [] = []
from_vertex v (x ∷ rest) = if x == v then x ∷ rest else from_vertex v rest

-- the circle to which a walk comes, which passed the vertices of a row, is at the vertex v, and makes at most so many steps more
unfoldable pub circle_on : List (List ℕ) → List Bool → ℕ → List ℕ → ℕ → List ℕ
circle_on graph left zero row v = from_vertex v row
circle_on graph left (suc steps) row v = if list_any (λ x. x == v) row then from_vertex v row else circle_on graph left steps (row ++ v ∷ []) (next_left graph left v)

-- whether none of a row is less
abbrev pub is_least : List ℕ → ℕ → Bool
is_least row v = list_all (λ other. nat_le v other) row

-- where the least of a row stands
abbrev pub least_place : List ℕ → ℕ
least_place row = unwrap_or (position (is_least row) row) 0

-- a circle from its least vertex on
abbrev pub from_least : List ℕ → List ℕ
from_least row = drop (least_place row) row ++ take (least_place row) row

-- the circle to which a walk from a vertex comes
abbrev pub circle_from : List (List ℕ) → List Bool → Option ℕ → Option (List ℕ)
circle_from graph left None = None
circle_from graph left (Some v) = Some (from_least (circle_on graph left (length graph) [] v))

-- the same from the least vertex that is left
abbrev pub circle_among : List (List ℕ) → List Bool → Option (List ℕ)
circle_among graph left = circle_from graph left (position (λ l. l) left)

-- the circle that is told of a graph, if any is left after as many rounds as there are vertices
abbrev pub circle_of : List (List ℕ) → Option (List ℕ)
circle_of graph = circle_among graph (left_after graph (length graph))
