-- The loops that read directed links and wires.
use Rattle.std.proofs.Common.{◌≡◌, ℕ, zero, suc, ◌<◌, List, [], ◌∷◌, ◌++◌, length, map, get_or, refl, ap, ◌∙◌, append_assoc, arith}
use Rattle.std.proofs.lemmas.List.{map_push}
use Rattle.sys_plan.specs.declared.LinkPlan.{LinkPlan}
use Rattle.sys_plan.specs.declared.WirePlan.{WirePlan}
use Rattle.snap_parts.specs.declared.log.SnapLog.{SnapLog}
use Rattle.snap_parts.specs.Parts.{LogRec, seen}
use Rattle.byte_forms.specs.Forms.{Form, told_by}
use Rattle.byte_forms.specs.Reading.{Refuses}
use Rattle.byte_forms.specs.declared.fault.Fault.{Fault}
use Rattle.byte_forms.specs.declared.fault.Fault.TheVariants.{Memory, Wrong}
use Rattle.snap_codec.specs.Body.{link_at, wire_at}

-- an element that is there is the same by any default
same_within : {X : Type 0} (xs : List X) (i : ℕ) (d e : X) → i < length xs → get_or xs i d ≡ get_or xs i e
same_within [] i d e lt = absurd (omega (arith, lt))
same_within (x ∷ xs) zero d e lt = refl
same_within (x ∷ xs) (suc i) d e lt = same_within xs i d e (omega (arith, lt))

pub link_is : (links each : List LinkPlan) (i k : ℕ) (d : LinkPlan) → each ≡ links → k ≡ i → i < length each → get_or each i d ≡ link_at links k
link_is links each i k d same at lt = rw (← same, at) (same_within each i d _ lt)

pub wire_is : (wires each : List WirePlan) (i k : ℕ) (d : WirePlan) → each ≡ wires → k ≡ i → i < length each → get_or each i d ≡ wire_at wires k
wire_is wires each i k d same at lt = rw (← same, at) (same_within each i d _ lt)

-- two that were pushed one after the other
pub two_seen : (logs one two : List SnapLog) (a b : SnapLog) → one ≡ logs ++ a ∷ [] → two ≡ one ++ b ∷ [] → map seen two ≡ map seen logs ++ (seen a ∷ (seen b ∷ []))
two_seen logs one two a b e1 e2 =
    let all : map seen two ≡ (map seen logs ++ seen a ∷ []) ++ seen b ∷ [] =
    ap (map seen) e2 ∙ map_push seen one b ∙ ap (λ (ls : List LogRec). ls ++ seen b ∷ []) (ap (map seen) e1 ∙ map_push seen logs a)
    in
    all ∙ append_assoc (map seen logs) (seen a ∷ []) (seen b ∷ [])

-- what a form refuses is refused where it is told as another type
pub told_refuses : {A B : Type 0} (form : Form A) (to : A → B) (from : B → A) (bytes : List ℕ) (fault : Fault) → Refuses form bytes fault → Refuses (told_by form to from) bytes fault
told_refuses form to from bytes Memory h = tt
told_refuses form to from bytes (Wrong left) h = rw h refl
