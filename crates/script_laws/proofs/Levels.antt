-- What a pin shows by the lines of its node it shows by all lines.
use Rattle.std.proofs.Common.{◌≡◌, Bool, ◌&&◌, ◌==◌, List, [], ◌∷◌, map, refl, sym, ap, ◌∙◌, inl, inr}
use Rattle.std.specs.Prelude.{if◌then◌else◌, filter}
use Rattle.std.proofs.lemmas.Bool.{cases_Bool, cond-true, cond-false, and_left}
use Rattle.pin_scripts.specs.declared.line.PinLine.{PinLine}
use Rattle.pin_scripts.specs.Script.{change_of, is_at_most, value_after}
use Rattle.wave_model.specs.Waves.{script_of}
use Rattle.script_laws.specs.Laws.{ScriptsGiveLevels}

-- what passes both of two tests passes both among what passes the first
filter_twice : {X : Type 0} (p q : X → Bool) (xs : List X) → filter (λ x. p x && q x) (filter p xs) ≡ filter (λ x. p x && q x) xs
filter_twice p q [] = refl
filter_twice p q (x ∷ xs) = elim (cases_Bool (p x)) [
  | inl passes ↦ (ap (λ l. filter (λ y. p y && q y) l) (cond-true _ (x ∷ filter p xs) (filter p xs) passes)
      ∙ ap (λ l. if p x && q x then x ∷ l else l) (filter_twice p q xs))
  | inr fails ↦ (ap (λ l. filter (λ y. p y && q y) l) (cond-false _ (x ∷ filter p xs) (filter p xs) fails)
      ∙ (filter_twice p q xs ∙ sym (cond-false _ (x ∷ filter (λ y. p y && q y) xs) _ (and_left (p x) (q x) fails))))
]

pub levels : ScriptsGiveLevels
levels wave node port slot =
    ap (λ lines. value_after 0 (filter (is_at_most slot) (map change_of lines)))
    (filter_twice (λ (line : PinLine). line.node == node) (λ line. line.port == port) (script_of wave))
