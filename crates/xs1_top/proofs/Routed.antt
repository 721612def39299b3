-- What is answered to ranks before a system that is refused.
use Rattle.std.proofs.Common.{◌≡◌, ℕ, List, [], ◌∷◌, length, ◌-◌, take, drop, sym, ap, ◌∙◌, subst}
use Rattle.std.proofs.lemmas.List.{take_rest}
use Rattle.system_model.specs.System.{System, Plan, Frame, Source, Pins, system_of}
use Rattle.rank_model.specs.Lines.{RanksRec, system_after}
use Rattle.answer_model.specs.declared.Answer.{Answer}
use Rattle.answer_model.specs.RoutesForm.{answer_to_routes, routes_with}
use Rattle.system_answers.specs.OnSystem.{IsReading}
use Rattle.system_answers.specs.declared.on_system.Reading.{Reading}
use Rattle.system_answers.specs.declared.on_system.Reading.TheVariants.{Refused}

empty_apart : (n : ℕ) (ns : List ℕ) → [] ≡ n ∷ ns → ⊥
empty_apart n ns e = cc

-- what every form answers to a system that is refused is answered to ranks before it
refused_alike : (ranks : RanksRec) (system : System) (a : Answer) → IsReading system (Refused a) → a ≡ answer_to_routes (routes_with ranks system)
refused_alike ranks (Plan plan) a alike = absurd (empty_apart 0 [] (ap (λ (a : Answer). a.text) (sym (alike (λ plan. [])) ∙ alike (λ plan. 0 ∷ []))))
refused_alike ranks (Frame line kind) a alike = alike (λ plan. [])
refused_alike ranks (Source node line kind) a alike = alike (λ plan. [])
refused_alike ranks (Pins line kind) a alike = alike (λ plan. [])

-- so where the system text is read that stands after the ranks
pub refused_after : (input : List ℕ) (ranks : RanksRec) (rest : ℕ) (found : Reading) (a : Answer) → IsReading (system_of (take (length input - rest) (drop rest input))) found
    → found ≡ Refused a → rest ≡ ranks.rest → a ≡ answer_to_routes (routes_with ranks (system_of (system_after input ranks)))
refused_after input ranks rest found a is refuses here =
    let text : take (length input - rest) (drop rest input) ≡ system_after input ranks = take_rest input rest ∙ ap (λ rest. drop rest input) here in
    refused_alike ranks (system_of (system_after input ranks)) a (subst (IsReading (system_of (system_after input ranks))) refuses (subst (λ text. IsReading (system_of text) found) text is))
