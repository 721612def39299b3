-- The statuses of the answers to ranks and a system.
use Rattle.std.proofs.Common.{◌≡◌, ◌↔◌, sym, ap, ◌∙◌}
use Rattle.answer_model.specs.declared.Status.{Status}
use Rattle.answer_model.specs.declared.Status.TheVariants as status
use Rattle.answer_model.specs.RoutesForm.{Routes, Judged, BadRanks, Frame, Source, Pins, routes_of, answer_to_routes, routes_answer}
use Rattle.answer_model.specs.Top.{answer, answer_of_form}
use Rattle.answer_model.specs.RouteStatuses.{IsJudged, IsRanksRefusal, IsRankedSourceRefusal, IsRankedScriptRefusal, TellsRoutes}
use Rattle.answer_model.proofs.Statuses.{differ, same}

-- whatever the input stands for, this status is answered exactly where it is of this kind
abbrev Tells : Status → (Routes → Type 0) → Type 0
Tells wanted IsOfKind = (routes : Routes) → ((answer_to_routes routes).status ≡ wanted) ↔ IsOfKind routes

of_routes : (wanted : Status) (IsOfKind : Routes → Type 0) → Tells wanted IsOfKind → TellsRoutes wanted IsOfKind
unfolding answer
of_routes wanted IsOfKind tells words input e =
    let told = tells (routes_of input) in
    let same : (answer words input).status ≡ (routes_answer input).status = ap (λ form. (answer_of_form form input).status) e in
    (λ is. told.0 (sym same ∙ is), λ of_kind. same ∙ told.1 of_kind)

judged_told : Tells status.Done IsJudged
judged_told (Judged plan verdict) = same _
judged_told (BadRanks line kind) = differ _ _ (λ e. cc)
judged_told (Frame line kind) = differ _ _ (λ e. cc)
judged_told (Source node line kind) = differ _ _ (λ e. cc)
judged_told (Pins line kind) = differ _ _ (λ e. cc)

refusal_told : Tells status.SystemFault IsRanksRefusal
refusal_told (Judged plan verdict) = differ _ _ (λ e. cc)
refusal_told (BadRanks line kind) = same _
refusal_told (Frame line kind) = same _
refusal_told (Source node line kind) = differ _ _ (λ e. cc)
refusal_told (Pins line kind) = differ _ _ (λ e. cc)

source_told : Tells status.SourceFault IsRankedSourceRefusal
source_told (Judged plan verdict) = differ _ _ (λ e. cc)
source_told (BadRanks line kind) = differ _ _ (λ e. cc)
source_told (Frame line kind) = differ _ _ (λ e. cc)
source_told (Source node line kind) = same _
source_told (Pins line kind) = differ _ _ (λ e. cc)

script_told : Tells status.ScriptFault IsRankedScriptRefusal
script_told (Judged plan verdict) = differ _ _ (λ e. cc)
script_told (BadRanks line kind) = differ _ _ (λ e. cc)
script_told (Frame line kind) = differ _ _ (λ e. cc)
script_told (Source node line kind) = differ _ _ (λ e. cc)
script_told (Pins line kind) = same _

pub exactly_judged : TellsRoutes status.Done IsJudged
exactly_judged = of_routes status.Done IsJudged judged_told

pub exactly_refused : TellsRoutes status.SystemFault IsRanksRefusal
exactly_refused = of_routes status.SystemFault IsRanksRefusal refusal_told

pub exactly_source : TellsRoutes status.SourceFault IsRankedSourceRefusal
exactly_source = of_routes status.SourceFault IsRankedSourceRefusal source_told

pub exactly_script : TellsRoutes status.ScriptFault IsRankedScriptRefusal
exactly_script = of_routes status.ScriptFault IsRankedScriptRefusal script_told
