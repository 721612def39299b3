-- A slot in which nothing arrives at a node, or it emits nothing.
use Rattle.std.proofs.Common.{◌≡◌, ℕ, zero, suc, Bool, true, false, cond, Option, Some, None, is_some, List, [], ◌∷◌, ◌++◌, get_or, length, replicate, refl, ap, ap₂}
use Rattle.std.specs.List.{list_any}
use Rattle.std.proofs.lemmas.Bool.{true≢false, or_parts, eq-eqb}
use Rattle.xs_base.specs.Numbers.{Slot, Position, EndNumber, PortNumber}
use Rattle.xs_base.specs.declared.token.Token.{Token}
use Rattle.xs_model.specs.declared.outside.Arrivals.{Arrivals}
use Rattle.xs_model.specs.declared.outside.PinView.{PinView}
use Rattle.xs_model.specs.Record.{NodeRec, PortRec, ClockRec, off_port}
use Rattle.xs_model.specs.Ports.{level_of}
use Rattle.xs_model.specs.Outside.{emitted_events}
use Rattle.sys_plan.specs.Plan.{PlanRec, Joined}
use Rattle.serial_model.specs.Serial.{Coming, serial, arrivals_at, token_entries, credit_entries, sent_by, driven_level, level_entries, carried_by}
use Rattle.locality_laws.specs.Locality.{comes_in_serial, shown_in_serial}
use Rattle.quiet_model.specs.Clocks.{falls_in, counter_after_falls, ports_counted}
use Rattle.quiet_laws.specs.Undisturbed.{no_arrivals}
use Rattle.quiet_laws.specs.Quiet.{only_counted}
use Rattle.busy_slots.specs.Busy.{something_arrives}

-- ---- Nothing arrives

no_token : (tokens : List (Option Token)) → list_any (λ token. is_some token) tokens ≡ false → tokens ≡ replicate (length tokens) None
no_token [] none = refl
no_token (None ∷ tokens) none = ap (λ rest. None ∷ rest) (no_token tokens none)
no_token (Some t ∷ tokens) none = absurd (true≢false none)

no_credit : (credits : List Bool) → list_any (λ (credit : Bool). credit) credits ≡ false → credits ≡ replicate (length credits) false
no_credit [] none = refl
no_credit (false ∷ credits) none = ap (λ rest. false ∷ rest) (no_credit credits none)
no_credit (true ∷ credits) none = absurd (true≢false none)

-- what then comes to a node
abbrev pub no_coming : PlanRec → Position → Slot → Coming
no_coming plan n slot = record { arrivals = no_arrivals; pins = shown_in_serial plan n slot }

pub nothing_comes : (plan : PlanRec) (n : Position) (slot : Slot) → something_arrives plan n slot ≡ false → comes_in_serial plan n slot ≡ no_coming plan n slot
nothing_comes plan n slot none =
    let all = arrivals_at plan (serial plan slot).histories slot n in
    let parts = or_parts (list_any (λ token. is_some token) all.tokens) (list_any (λ (credit : Bool). credit) all.credits) none in
    let pins = shown_in_serial plan n slot in
    ap₂ (λ tokens credits. let a : Arrivals = record { tokens = tokens; credits = credits } in let c : Coming = record { arrivals = a; pins = pins } in c)
    (no_token all.tokens parts.0) (no_credit all.credits parts.1)

-- ---- Nothing is emitted

all_default : {A : Type 0} (n : ℕ) (d : A) (k : ℕ) → get_or (replicate n d) k d ≡ d
all_default zero d k = refl
all_default (suc n) d zero = refl
all_default (suc n) d (suc k) = all_default n d k

sends_nothing : (slot : Slot) (end : EndNumber) → sent_by slot (emitted_events []) end ≡ []
sends_nothing slot end =
    ap₂ (λ token credit. token_entries slot token ++ credit_entries slot credit) (all_default {A = Option Token} 8 None end) (all_default 8 false end)

-- ---- Nothing is carried

-- over a slot in which a port only counts it drives what it drove
count_drives : (clocks : List ClockRec) (from : Slot) (count : ℕ) (ports : List PortRec) (p : PortNumber)
    → (get_or (ports_counted clocks from count ports) p off_port).driven ≡ (get_or ports p off_port).driven
count_drives clocks from count [] p = refl
count_drives clocks from count (port ∷ ports) zero = same port.on
  where
    same : (on : Bool) → (cond on (record port { counter = counter_after_falls (falls_in clocks port.clock from count) port.counter }) port).driven ≡ port.driven
    same true = refl
    same false = refl
count_drives clocks from count (port ∷ ports) (suc p) = count_drives clocks from count ports p

-- a level that stays is not told
stays_untold : (slot : Slot) (level after : ℕ) → after ≡ level → level_entries slot level after ≡ []
stays_untold slot level after same = rw (eq-eqb after level same) refl

-- of a slot in which a node's ports only count, and which emits nothing, no arc carries anything
pub carries_nothing : (slot from : Slot) (count : ℕ) (last : PinView) (rec : NodeRec) (end : EndNumber) (joins : Option Joined)
    → carried_by slot rec (only_counted from count last rec) (emitted_events []) end joins ≡ []
carries_nothing slot from count last rec end None = sends_nothing slot end
carries_nothing slot from count last rec end (Some joined) =
    let after = only_counted from count last rec in
    stays_untold slot (driven_level rec joined.from_port) (driven_level after joined.from_port)
    (ap (λ driven. level_of driven 0) (count_drives rec.core.clocks from count rec.core.ports joined.from_port))
