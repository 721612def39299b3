-- The operands of an instruction's text have the shapes of its form, and stand for its values.
use Rattle.std.proofs.Common.{◌≡◌, ℕ, ◌≤◌, Bool, true, false, ◌==◌, List, [], ◌∷◌, map, refl, sym, ap, ◌∙◌, subst, inl, inr, arith}
use Rattle.std.specs.Prelude.{Option, Some, min, is_none}
use Rattle.std.specs.List.{AllByRecursion, filter, list_any}
use Rattle.std.proofs.lemmas.Bool.{and_parts, cond-true, cond-false, cases_Bool, eqb-true, or_from}
use Rattle.xs_text.specs.Tokens.{Token}
use Rattle.xs_instructions.specs.declared.rows.Part.{Part}
use Rattle.xs_instructions.specs.declared.rows.Part.TheVariants.{Common, AnyRegister, Register, Small, Width, Short, Exactly, Label, Word}
use Rattle.xs_instructions.specs.Words.{same_name, fixed_text}
use Rattle.xs_instructions.specs.Operands.{at}
use Rattle.xs_instructions.specs.Instr.{AreInRange, takes_value}
use Rattle.xs_instructions.specs.Find.{values_among}
use Rattle.xs_instructions.specs.Spelling.{spelled, spelled_at, shapes, shape_at, values_after}
use Rattle.xs_instructions.specs.Image.{Symbol}
use Rattle.source_model.specs.declared.layout.Section.{Section}
use Rattle.source_model.specs.declared.layout.Section.TheVariants.{Text}
use Rattle.source_model.specs.Operands.{Amount, Known, Target, Operand, operands_after, base_after, shapes_of, shape_of, amount_of}
use Rattle.source_model.specs.Layout.{Sofar, place_of}
use Rattle.source_model.specs.Source.{values_in, amount_value, is_missing, target_value}
use Rattle.source_model.specs.Each.{all_some, put_first}
use Rattle.source_laws.proofs.RowFacts.{labels_clear}
use Rattle.source_laws.proofs.PieceTokens.{piece_bytes, piece_token}
use Rattle.source_laws.proofs.PartsRead.{AllFit, FirstFits, BaseFits, part_shape, part_amount, amount_at, amounts_at, name_of_place}
use Rattle.source_laws.specs.LabelValues.{label_values}

operands-nil : (second last : List ℕ) → operands_after second last [] ≡ []
unfolding operands_after
operands-nil second last = refl

operands-cons : (second last : List ℕ) (t : Token) (rest : List Token) → operands_after second last (t ∷ rest) ≡ record { base = base_after second last; token = t } ∷ operands_after last t.bytes rest
unfolding operands_after
operands-cons second last t rest = refl

shapes_of-nil : shapes_of [] ≡ Some []
unfolding all_some
shapes_of-nil = refl

shapes_of-cons : (o : Operand) (rest : List Operand) → shapes_of (o ∷ rest) ≡ put_first (shape_of o) (shapes_of rest)
unfolding all_some
shapes_of-cons o rest = refl

values_in-nil : (whole : Sofar) → values_in whole [] ≡ Some []
unfolding all_some
values_in-nil whole = refl

values_in-cons : (whole : Sofar) (a : Amount) (amounts : List Amount) → values_in whole (a ∷ amounts) ≡ put_first (amount_value whole a) (values_in whole amounts)
unfolding all_some
values_in-cons whole a amounts = refl

module _ (symbols : List Symbol) where
  -- past a part: a name there counts from no section, and whether the next one does
  record Past (p : Part) (parts : List Part) (values second last : List ℕ) : Type 0 where
    fits : BaseFits symbols p (base_after second last)
    next : Bool
    clear : labels_clear next parts ≡ true
    behind : next ≡ true → same_name (91 ∷ []) (piece_bytes symbols (spelled_at p values)) ≡ false

  never : (p : Part) (values : List ℕ) → false ≡ true → same_name (91 ∷ []) (piece_bytes symbols (spelled_at p values)) ≡ false
  never p values h = absurd (cc)

  behind_word : (n : ℕ) → (11 == n) ≡ true → same_name (91 ∷ []) (fixed_text n) ≡ false
  behind_word n h =
      let P : ℕ → Type 0 = λ m. same_name (91 ∷ []) (fixed_text m) ≡ false in subst P (eqb-true 11 n h) refl

  past : (p : Part) (parts : List Part) (values second last : List ℕ) (clear : Bool) → labels_clear clear (p ∷ parts) ≡ true → (clear ≡ true → same_name (91 ∷ []) last ≡ false) → Past p parts values second last
  past Common parts values second last clear h k = record { fits = tt; next = false; clear = h; behind = never Common values }
  past AnyRegister parts values second last clear h k = record { fits = tt; next = false; clear = h; behind = never AnyRegister values }
  past (Register n) parts values second last clear h k = record { fits = tt; next = false; clear = h; behind = never (Register n) values }
  past Small parts values second last clear h k = record { fits = tt; next = false; clear = h; behind = never Small values }
  past Width parts values second last clear h k = record { fits = tt; next = false; clear = h; behind = never Width values }
  past Short parts values second last clear h k = record { fits = tt; next = false; clear = h; behind = never Short values }
  past (Exactly n) parts values second last clear h k = record { fits = tt; next = false; clear = h; behind = never (Exactly n) values }
  past Label parts values second last clear h k =
      let c = and_parts clear (labels_clear false parts) h in
      record { fits = cond-false _ _ _ (k c.0); next = false; clear = c.1; behind = never Label values }
  past (Word n) parts values second last clear h k = record { fits = tt; next = 11 == n; clear = h; behind = behind_word n }

  -- what operands that are written by parts and values are read as
  pub record AreRead (parts : List Part) (values : List ℕ) (operands : List Operand) : Type 0 where
    pub shapes : shapes_of operands ≡ Some (shapes parts values)
    pub amounts : values_among parts (map amount_of operands) ≡ amounts_at symbols parts values

  abbrev tokens : List Part → List ℕ → List Token
  tokens parts values = map (piece_token symbols) (spelled parts values)

  read_more : (p : Part) (parts : List Part) (values : List ℕ) (base : Option Section) (rest : List Operand) → FirstFits symbols p values → BaseFits symbols p base → AreRead parts (values_after p values) rest → AreRead (p ∷ parts) values (record { base = base; token = piece_token symbols (spelled_at p values) } ∷ rest)
  read_more p parts values base rest fits b h =
      let operand : Operand = record { base = base; token = piece_token symbols (spelled_at p values) } in
      record {
        shapes = shapes_of-cons operand rest ∙ (ap (λ o. put_first o (shapes_of rest)) (part_shape symbols p values base fits b) ∙ ap (λ o. put_first (Some (shape_at p values)) o) h.shapes);
        amounts = elim (cases_Bool (takes_value p)) [
          | inl t ↦ cond-true _ _ _ t ∙ (ap (λ a. a ∷ values_among parts (map amount_of rest)) (part_amount symbols p values base t fits b) ∙ (ap (λ l. amount_at symbols p values ∷ l) h.amounts ∙ sym (cond-true _ _ _ t)))
          | inr f ↦ cond-false _ _ _ f ∙ (h.amounts ∙ sym (cond-false _ _ _ f))
        ];
      }

  pub operands_read : (parts : List Part) (values second last : List ℕ) (clear : Bool) → AllFit symbols parts values → labels_clear clear parts ≡ true → (clear ≡ true → same_name (91 ∷ []) last ≡ false) → AreRead parts values (operands_after second last (tokens parts values))
  operands_read [] values second last clear fits h k =
      let P : List Operand → Type 0 = λ l. AreRead [] values l in
      subst P (sym (operands-nil second last)) (record { shapes = shapes_of-nil; amounts = refl })
  operands_read (p ∷ parts) values second last clear fits h k =
      let t = piece_token symbols (spelled_at p values) in
      let step = past p parts values second last clear h k in
      let rest = operands_read parts (values_after p values) last t.bytes step.next fits.1 step.clear step.behind in
      let P : List Operand → Type 0 = λ l. AreRead (p ∷ parts) values l in
      subst P (sym (operands-cons second last t (tokens parts (values_after p values)))) (read_more p parts values (base_after second last) _ fits.0 step.fits rest)

  -- the values of the amounts, by the labels of all lines

  module _ (whole : Sofar) where
    -- the name of a place stands there
    abbrev pub StandsAt : ℕ → Type 0
    StandsAt p = (place_of whole.labels (name_of_place symbols p) ≡ Some (record { section = Text; offset = p })) × (p ≤ 16384)

    target : (p : ℕ) → StandsAt p → amount_value whole (Target (name_of_place symbols p)) ≡ Some p
    target p h = ap target_value h.0 ∙ ap (λ n. Some n) (let e : min p 16384 ≡ p = omega (arith, h.1) in e)

    put_known : (n : ℕ) (amounts : List Amount) (values : List ℕ) → values_in whole amounts ≡ Some values → values_in whole (Known (Some n) ∷ amounts) ≡ Some (n ∷ values)
    put_known n amounts values e = values_in-cons whole (Known (Some n)) amounts ∙ ap (λ o. put_first (Some n) o) e

    put_target : (p : ℕ) (amounts : List Amount) (values : List ℕ) → StandsAt p → values_in whole amounts ≡ Some values → values_in whole (Target (name_of_place symbols p) ∷ amounts) ≡ Some (p ∷ values)
    put_target p amounts values h e =
        values_in-cons whole (Target (name_of_place symbols p)) amounts
        ∙ (ap (λ o. put_first o (values_in whole amounts)) (target p h) ∙ ap (λ o. put_first (Some p) o) e)

    pub values_back : (parts : List Part) (values : List ℕ) → AreInRange (filter takes_value parts) values → AllByRecursion StandsAt (label_values parts values) → values_in whole (amounts_at symbols parts values) ≡ Some values
    values_back [] [] h k = values_in-nil whole
    values_back [] (v ∷ values) h k = absurd h
    values_back (Common ∷ parts) [] h k = absurd h
    values_back (Common ∷ parts) (v ∷ values) h k = put_known v _ values (values_back parts values h.1 k)
    values_back (AnyRegister ∷ parts) [] h k = absurd h
    values_back (AnyRegister ∷ parts) (v ∷ values) h k = put_known v _ values (values_back parts values h.1 k)
    values_back (Register n ∷ parts) values h k = values_back parts values h k
    values_back (Small ∷ parts) [] h k = absurd h
    values_back (Small ∷ parts) (v ∷ values) h k = put_known v _ values (values_back parts values h.1 k)
    values_back (Width ∷ parts) [] h k = absurd h
    values_back (Width ∷ parts) (v ∷ values) h k = put_known v _ values (values_back parts values h.1 k)
    values_back (Short ∷ parts) [] h k = absurd h
    values_back (Short ∷ parts) (v ∷ values) h k = put_known v _ values (values_back parts values h.1 k)
    values_back (Exactly n ∷ parts) [] h k = absurd h
    values_back (Exactly n ∷ parts) (v ∷ values) h k = put_known v _ values (values_back parts values h.1 k)
    values_back (Label ∷ parts) [] h k = absurd h
    values_back (Label ∷ parts) (v ∷ values) h k = put_target v _ values k.0 (values_back parts values h.1 k.1)
    values_back (Word n ∷ parts) values h k = values_back parts values h k

    none_first : (a : Amount) (amounts : List Amount) → is_missing whole a ≡ false → list_any (is_missing whole) amounts ≡ false → list_any (is_missing whole) (a ∷ amounts) ≡ false
    none_first a amounts h k = or_from (is_missing whole a) (list_any (is_missing whole) amounts) h k

    pub none_missing : (parts : List Part) (values : List ℕ) → AllByRecursion StandsAt (label_values parts values) → list_any (is_missing whole) (amounts_at symbols parts values) ≡ false
    none_missing [] values k = refl
    none_missing (Common ∷ parts) values k = none_missing parts (values_after Common values) k
    none_missing (AnyRegister ∷ parts) values k = none_missing parts (values_after AnyRegister values) k
    none_missing (Register n ∷ parts) values k = none_missing parts values k
    none_missing (Small ∷ parts) values k = none_missing parts (values_after Small values) k
    none_missing (Width ∷ parts) values k = none_missing parts (values_after Width values) k
    none_missing (Short ∷ parts) values k = none_missing parts (values_after Short values) k
    none_missing (Exactly n ∷ parts) values k = none_missing parts (values_after (Exactly n) values) k
    none_missing (Label ∷ parts) values k =
        or_from (is_missing whole (Target (name_of_place symbols (at values 0)))) _ (ap is_none k.0.0) (none_missing parts (values_after Label values) k.1)
    none_missing (Word n ∷ parts) values k = none_missing parts values k
