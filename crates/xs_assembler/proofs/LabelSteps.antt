-- Steps of the loop that defines the labels of a line.
use Rattle.std.proofs.Common.{◌≡◌, ◌≢◌, ℕ, Bool, ◌||◌, List, [], ◌∷◌, sym, ap, ◌∙◌}
use Rattle.std.specs.Prelude.{is_some}
use Rattle.std.specs.List.{list_any}
use Rattle.std.proofs.Math.Bool.{or-false, or_assoc}
use Rattle.source_model.specs.declared.layout.Place.{Place}
use Rattle.source_model.specs.Layout.{Label, place_of, define, define_all}
use Rattle.source_model.specs.Source.{defines_twice}

pub defined_next : (place : Place) (name : List ℕ) (before after : List (List ℕ)) (old new all : List Label)
    → before ≡ name ∷ after → new ≡ define place name old
    → define_all place before old ≡ all → define_all place after new ≡ all
unfolding define_all
defined_next place name before after old new all is defines inv =
    ap (λ ls. define_all place after ls) defines ∙ (ap (λ ns. define_all place ns old) (sym is) ∙ inv)

pub twice_next : (place : Place) (name : List ℕ) (before after : List (List ℕ)) (old new : List Label) (twice found now all : Bool)
    → before ≡ name ∷ after → new ≡ define place name old → found ≡ is_some (place_of old name) → now ≡ (twice || found)
    → (twice || defines_twice place old before) ≡ all → (now || defines_twice place new after) ≡ all
unfolding defines_twice
twice_next place name before after old new twice found now all is defines finds joins inv =
    let rest = defines_twice place (define place name old) after in
    ap (λ b. b || defines_twice place new after) joins
    ∙ (ap (λ ls. (twice || found) || defines_twice place ls after) defines
    ∙ (or_assoc twice found rest
    ∙ (ap (λ b. twice || (b || rest)) finds
    ∙ (ap (λ ns. twice || defines_twice place old ns) (sym is) ∙ inv))))

pub any_next : (p : List ℕ → Bool) (name : List ℕ) (before after : List (List ℕ)) (some found now all : Bool)
    → before ≡ name ∷ after → found ≡ p name → now ≡ (some || found)
    → (some || list_any p before) ≡ all → (now || list_any p after) ≡ all
any_next p name before after some found now all is finds joins inv =
    ap (λ b. b || list_any p after) joins
    ∙ (or_assoc some found (list_any p after)
    ∙ (ap (λ b. some || (b || list_any p after)) finds
    ∙ (ap (λ ns. some || list_any p ns) (sym is) ∙ inv)))

pub defined_end : (place : Place) (names : List (List ℕ)) (old all : List Label) → names ≡ [] → define_all place names old ≡ all → old ≡ all
unfolding define_all
defined_end place names old all e inv = ap (λ ns. define_all place ns old) (sym e) ∙ inv

pub twice_end : (place : Place) (names : List (List ℕ)) (old : List Label) (twice all : Bool) → names ≡ [] → (twice || defines_twice place old names) ≡ all → twice ≡ all
unfolding defines_twice
twice_end place names old twice all e inv = sym (or-false twice) ∙ (ap (λ ns. twice || defines_twice place old ns) (sym e) ∙ inv)

pub any_end : (p : List ℕ → Bool) (names : List (List ℕ)) (some all : Bool) → names ≡ [] → (some || list_any p names) ≡ all → some ≡ all
any_end p names some all e inv = sym (or-false some) ∙ (ap (λ ns. some || list_any p ns) (sym e) ∙ inv)

-- a label at the front is one of the labels
pub labels_some : (name : List ℕ) (before after : List (List ℕ)) → before ≡ name ∷ after → before ≢ []
labels_some name before after is = λ none. let apart : name ∷ after ≡ [] = sym is ∙ none in absurd cc
