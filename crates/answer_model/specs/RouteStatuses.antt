-- By which statuses `routes` answers: exactly by what its input stands for.
use Rattle.std.specs.Prelude.{ℕ, ◌≡◌, ◌↔◌, Some, List}
use Rattle.answer_model.specs.declared.Form.TheVariants.{Routes}
use Rattle.answer_model.specs.declared.Status.{Status}
use Rattle.answer_model.specs.declared.Status.TheVariants.{Done, SystemFault, SourceFault, ScriptFault}
use Rattle.answer_model.specs.Forms.{form_of_words}
use Rattle.answer_model.specs.RoutesForm as found
use Rattle.answer_model.specs.RoutesForm.{Judged, BadRanks, Frame, Source, Pins, routes_of}
use Rattle.answer_model.specs.Top.{answer}

-- the system and its ranks are taken, whatever the verdict is
abbrev pub IsJudged : found.Routes → Type 0
IsJudged (Judged plan verdict) = Unit {0}
IsJudged _ = ⊥

-- the ranks, or the frame of the system, are refused
abbrev pub IsRanksRefusal : found.Routes → Type 0
IsRanksRefusal (BadRanks line kind) = Unit {0}
IsRanksRefusal (Frame line kind) = Unit {0}
IsRanksRefusal _ = ⊥

-- the source of a node is refused, or the pin script
abbrev pub IsRankedSourceRefusal : found.Routes → Type 0
IsRankedSourceRefusal (Source node line kind) = Unit {0}
IsRankedSourceRefusal _ = ⊥

abbrev pub IsRankedScriptRefusal : found.Routes → Type 0
IsRankedScriptRefusal (Pins line kind) = Unit {0}
IsRankedScriptRefusal _ = ⊥

-- to the word `routes`, this status is answered exactly where what the input stands for is of this kind
abbrev pub TellsRoutes : Status → (found.Routes → Type 0) → Type 0
TellsRoutes wanted IsOfKind =
    (words : List (List ℕ)) (input : List ℕ) → form_of_words words ≡ Some Routes → ((answer words input).status ≡ wanted) ↔ IsOfKind (routes_of input)

pub record RouteStatuses : Type 0 where
  pub done : TellsRoutes Done IsJudged
  pub system_fault : TellsRoutes SystemFault IsRanksRefusal
  pub source_fault : TellsRoutes SourceFault IsRankedSourceRefusal
  pub script_fault : TellsRoutes ScriptFault IsRankedScriptRefusal
