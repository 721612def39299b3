-- The lines of a text that was put together of lines.
use Rattle.std.proofs.Common.{◌≡◌, ℕ, true, false, ◌&&◌, ◌==◌, List, [], ◌∷◌, ◌++◌, map, refl, ap, ◌∙◌, append_assoc, arith}
use Rattle.std.specs.List.{AllByRecursion, list_all}
use Rattle.std.proofs.lemmas.Bool.{and_parts, cond-false}
use Rattle.std.proofs.lemmas.Bool.Decides.{nat_tests}
use Rattle.xs_text.specs.Bytes.{is_allowed, all_allowed, begins_with}
use Rattle.xs_text.specs.Lines.{lines_of, put_in_front, is_dropped_return}
use Rattle.xs_instructions.specs.Image.{Symbol}
use Rattle.source_model.specs.Canonical.{Item, item_line, lines_text}

no_feed : (b : ℕ) → is_allowed b ≡ true → (b == 10) ≡ false
no_feed b h = grind (arith, nat_tests)

no_return : (b : ℕ) → is_allowed b ≡ true → (b == 13) ≡ false
no_return b h = grind (arith, nat_tests)

-- a line of allowed bytes, with its end
pub lines_of-line : (line rest : List ℕ) → all_allowed line ≡ true → lines_of (line ++ (10 ∷ rest)) ≡ line ∷ lines_of rest
unfolding lines_of
lines_of-line [] rest h = refl
lines_of-line (b ∷ line) rest h =
    let p = and_parts (is_allowed b) (list_all is_allowed line) h in
    let f : is_dropped_return b (line ++ (10 ∷ rest)) ≡ false = ap (λ t. t && begins_with 10 (line ++ (10 ∷ rest))) (no_return b p.0) in
    cond-false _ _ _ (no_feed b p.0) ∙ (cond-false _ _ _ f ∙ ap (put_in_front b) (lines_of-line line rest p.1))

-- a text of no bytes has no line
pub lines_of-none : lines_of [] ≡ []
unfolding lines_of
lines_of-none = refl

-- whether a line of the item has allowed bytes alone
abbrev pub IsAllowedLine : List Symbol → Item → Type 0
IsAllowedLine symbols item = all_allowed (item_line symbols item) ≡ true

-- the lines of the text of items are the items' lines
pub lines_of-lines_text : (symbols : List Symbol) (items : List Item) → AllByRecursion (IsAllowedLine symbols) items → lines_of (lines_text symbols items) ≡ map (item_line symbols) items
lines_of-lines_text symbols [] h = lines_of-none
lines_of-lines_text symbols (item ∷ items) h =
    ap (λ t. lines_of t) (append_assoc (item_line symbols item) (10 ∷ []) (lines_text symbols items))
    ∙ (lines_of-line (item_line symbols item) (lines_text symbols items) h.0 ∙ ap (λ l. item_line symbols item ∷ l) (lines_of-lines_text symbols items h.1))
