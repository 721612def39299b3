-- The lines of a section, walked beside the symbols: no line has a fault, and each symbol is defined where it stands.
use Rattle.std.proofs.Common.{◌≡◌, ℕ, suc, ◌+◌, ◌<◌, ◌≤◌, true, false, not, ◌==◌, List, [], ◌∷◌, ◌++◌, map, length, refl, sym, ap, ◌∙◌, subst, inl, inr, arith, append_assoc, append-nil, add-zero}
use Rattle.std.specs.List.{AllByRecursion, flat_map}
use Rattle.std.proofs.lemmas.Bool.{cases_Bool, cond-true, cond-false, and_parts, not-true, eqb-true}
use Rattle.std.proofs.lemmas.List.{map-append}
use Rattle.xs_text.specs.Tokens.{is_name}
use Rattle.xs_instructions.specs.declared.instr.Instr.{Instr}
use Rattle.xs_instructions.specs.Image.{Symbol, AreLabels, AreInOrder, is_reserved, may_be_label}
use Rattle.source_model.specs.declared.layout.Section.{Section}
use Rattle.source_model.specs.declared.layout.Place.{Place}
use Rattle.source_model.specs.Statement.{Line}
use Rattle.source_model.specs.Layout.{Label, Sofar, section_length}
use Rattle.source_model.specs.Canonical as canonical
use Rattle.source_model.specs.Canonical.{Item, labels_at, behind_labels}
use Rattle.source_laws.specs.LabelOrder.{first_at, past_address, symbols_at, symbols_from, IsNext}
use Rattle.source_laws.proofs.Order.{first_from, past_from, first_at-same, first_at-other, first_at-none, past_address-same, past_address-other, past_address-none}
use Rattle.source_laws.proofs.Stands.{place_at, label_of, labels_of, fresh, label_named}
use Rattle.source_laws.proofs.ItemLines.{line_item}
use Rattle.source_laws.proofs.Clean.{state, Fits, IsClean, AreClean, clean-nil, clean-cons, clean-append, clean_label}

-- the symbols of an address and those after them
first_and_past : (at : ℕ) (symbols : List Symbol) → symbols ≡ first_at at symbols ++ past_address at symbols
first_and_past at [] = sym (ap (λ l. l ++ past_address at []) (first_at-none at) ∙ past_address-none at)
first_and_past at (s ∷ symbols) =
    elim (cases_Bool (s.1 == at)) [
      | inl e ↦ ap (λ l. s ∷ l) (first_and_past at symbols)
          ∙ sym (ap (λ l. l ++ past_address at (s ∷ symbols)) (first_at-same at s symbols e) ∙ ap (λ l. s ∷ (first_at at symbols ++ l)) (past_address-same at s symbols e))
      | inr f ↦ sym (ap (λ l. l ++ past_address at (s ∷ symbols)) (first_at-other at s symbols f) ∙ past_address-other at s symbols f)
    ]

pub split_from : (at next : ℕ) (symbols : List Symbol) → AreInOrder symbols → IsNext at next symbols → symbols_from at symbols ≡ symbols_at at symbols ++ symbols_from next symbols
split_from at next symbols h n =
    first_and_past at (symbols_from at symbols)
    ∙ (ap (λ l. l ++ past_address at (symbols_from at symbols)) (first_from at symbols h) ∙ ap (λ l. symbols_at at symbols ++ l) (past_from at next symbols h n))

all_at : (at : ℕ) (symbols : List Symbol) → AllByRecursion (λ (s : Symbol). s.1 ≡ at) (symbols_at at symbols)
all_at at [] = tt
all_at at (s ∷ symbols) =
    let P : List Symbol → Type 0 = λ l. AllByRecursion (λ (s : Symbol). s.1 ≡ at) l in
    elim (cases_Bool (s.1 == at)) [
      | inl e ↦ subst P (sym (cond-true _ (s ∷ symbols_at at symbols) (symbols_at at symbols) e)) (eqb-true s.1 at e, all_at at symbols)
      | inr f ↦ subst P (sym (cond-false _ (s ∷ symbols_at at symbols) (symbols_at at symbols) f)) (all_at at symbols)
    ]

module _ (cp : ℕ) (symbols : List Symbol) (whole : Sofar) where
  abbrev pub line : Item → Line
  line item = line_item symbols item

  free : (name : List ℕ) → may_be_label name ≡ true → is_reserved name ≡ false
  free name h = not-true _ (and_parts (is_name name) (not (is_reserved name)) h).1

  -- labels of one address
  labels_clean : (section : Section) (n d k at : ℕ) → Fits (state section n d k []).layout → place_at cp at ≡ record { section = section; offset = section_length (state section n d k []).layout section } → (before ss more : List Symbol) → AllByRecursion (λ (s : Symbol). s.1 ≡ at) ss → AreLabels (before ++ (ss ++ more)) → AreClean whole (state section n d k (labels_of cp before)) (state section n d k (labels_of cp (before ++ ss))) (map line (canonical.labels_of ss)) [] [] []
  labels_clean section n d k at fits place before [] more all names =
      let P : List Symbol → Type 0 = λ l. AreClean whole (state section n d k (labels_of cp before)) (state section n d k (labels_of cp l)) [] [] [] [] in
      subst P (sym (append-nil before)) (clean-nil whole (state section n d k (labels_of cp before)))
  labels_clean section n d k at fits place before (s ∷ ss) more all names =
      let st : List Label → Sofar = λ l. state section n d k l in
      let here : Label = (s.0, record { section = section; offset = section_length (state section n d k []).layout section }) in
      let is : here ≡ label_of cp s = ap (λ (p : Place). (s.0, p)) (sym (ap (place_at cp) all.0 ∙ place)) in
      let grown : labels_of cp before ++ (here ∷ []) ≡ labels_of cp (before ++ s ∷ []) = ap (λ (x : Label). labels_of cp before ++ (x ∷ [])) is ∙ sym (map-append (label_of cp) before (s ∷ [])) in
      let One : List Label → Type 0 = λ l. IsClean whole (st (labels_of cp before)) (st l) (line (canonical.Label s.0)) [] [] [] in
      let one = subst One grown (clean_label whole section n d k (labels_of cp before) s.0 fits (free s.0 (label_named cp before s (ss ++ more) names)) (fresh cp before s (ss ++ more) names)) in
      let names' = subst AreLabels (sym (append_assoc before (s ∷ []) (ss ++ more))) names in
      let rest = labels_clean section n d k at fits place (before ++ s ∷ []) ss more all.1 names' in
      let Final : List Symbol → Type 0 = λ l. AreClean whole (st (labels_of cp (before ++ s ∷ []))) (st (labels_of cp l)) (map line (canonical.labels_of ss)) [] [] [] in
      clean-cons whole _ _ _ (line (canonical.Label s.0)) _ [] [] [] [] [] [] one (subst Final (append_assoc before (s ∷ []) ss) rest)

  -- a part of the lines, and the symbols that they define: those from the next address on are left
  pub record Walked (next : ℕ) (before : List Symbol) (start final : List Label → Sofar) (lines : List Line) (instructions : List Instr) (in_first in_second : List ℕ) : Type 0 where
    pub after : List Symbol
    pub clean : AreClean whole (start (labels_of cp before)) (final (labels_of cp after)) lines instructions in_first in_second
    pub left : symbols ≡ after ++ symbols_from next symbols

  module _ (names : AreLabels symbols) (order : AreInOrder symbols) where
    pub labels_walked : (section : Section) (n d k at next : ℕ) (before : List Symbol) → Fits (state section n d k []).layout → place_at cp at ≡ record { section = section; offset = section_length (state section n d k []).layout section } → IsNext at next symbols → symbols ≡ before ++ symbols_from at symbols → Walked next before (λ l. state section n d k l) (λ l. state section n d k l) (map line (labels_at symbols at)) [] [] []
    labels_walked section n d k at next before fits place gap left =
        let more = symbols_from next symbols in
        let here = symbols_at at symbols in
        let whole_is : symbols ≡ before ++ (here ++ more) = left ∙ ap (λ l. before ++ l) (split_from at next symbols order gap) in
        record {
          after = before ++ here;
          clean = labels_clean section n d k at fits place before here more (all_at at symbols) (subst AreLabels whole_is names);
          left = whole_is ∙ sym (append_assoc before here more);
        }

    -- elements behind their labels
    module _ {A : Type 0} (item : A → Item) (size most : ℕ) (addr : ℕ → ℕ) (st : ℕ → List Label → Sofar) (Ok : A → Type 0) (c : A → List Instr) (d k : A → List ℕ)
        (addr_next : (m : ℕ) → addr m + size ≡ addr (m + 1))
        (labels_ok : (m : ℕ) → m < most → (before : List Symbol) → symbols ≡ before ++ symbols_from (addr m) symbols → Walked (addr (m + 1)) before (st m) (st m) (map line (labels_at symbols (addr m))) [] [] [])
        (item_ok : (m : ℕ) → m < most → (x : A) → Ok x → (labels : List Label) → IsClean whole (st m labels) (st (m + 1) labels) (line (item x)) (c x) (d x) (k x)) where
      behind-nil : (at : ℕ) → behind_labels item symbols size at [] ≡ []
      unfolding behind_labels
      behind-nil at = refl

      behind-cons : (at : ℕ) (x : A) (xs : List A) → behind_labels item symbols size at (x ∷ xs) ≡ labels_at symbols at ++ (item x ∷ behind_labels item symbols size (at + size) xs)
      unfolding behind_labels
      behind-cons at x xs = refl

      abbrev Run : List A → ℕ → ℕ → List Symbol → Type 0
      Run xs m end before = Walked (addr end) before (st m) (st end) (map line (behind_labels item symbols size (addr m) xs)) (flat_map c xs) (flat_map d xs) (flat_map k xs)

      run_none : (m : ℕ) (before : List Symbol) → symbols ≡ before ++ symbols_from (addr m) symbols → Run [] m m before
      run_none m before left =
          let P : List Item → Type 0 = λ items. AreClean whole (st m (labels_of cp before)) (st m (labels_of cp before)) (map line items) [] [] [] in
          record { after = before; clean = subst P (sym (behind-nil (addr m))) (clean-nil whole (st m (labels_of cp before))); left = left }

      run_more : (x : A) (xs : List A) (m end : ℕ) (before : List Symbol) → m < most → Ok x → (w : Walked (addr (m + 1)) before (st m) (st m) (map line (labels_at symbols (addr m))) [] [] []) → Run xs (m + 1) end w.after → Run (x ∷ xs) m end before
      run_more x xs m end before below ok w r =
          let rest = behind_labels item symbols size (addr (m + 1)) xs in
          let items : behind_labels item symbols size (addr m) (x ∷ xs) ≡ labels_at symbols (addr m) ++ (item x ∷ rest) =
          behind-cons (addr m) x xs ∙ ap (λ a. labels_at symbols (addr m) ++ (item x ∷ behind_labels item symbols size a xs)) (addr_next m) in
          let lines : map line (behind_labels item symbols size (addr m) (x ∷ xs)) ≡ map line (labels_at symbols (addr m)) ++ (line (item x) ∷ map line rest) =
          ap (λ l. map line l) items ∙ map-append line (labels_at symbols (addr m)) (item x ∷ rest) in
          let P : List Line → Type 0 = λ l. AreClean whole (st m (labels_of cp before)) (st end (labels_of cp r.after)) l (flat_map c (x ∷ xs)) (flat_map d (x ∷ xs)) (flat_map k (x ∷ xs)) in
          record {
            after = r.after;
            clean = subst P (sym lines) (clean-append whole _ _ _ (map line (labels_at symbols (addr m))) (line (item x) ∷ map line rest) [] _ [] _ [] _ w.clean
                (clean-cons whole _ _ _ (line (item x)) (map line rest) (c x) (flat_map c xs) (d x) (flat_map d xs) (k x) (flat_map k xs) (item_ok m below x ok (labels_of cp w.after)) r.clean));
            left = r.left;
          }

      pub run_walked : (xs : List A) (m : ℕ) (before : List Symbol) → m + length xs ≤ most → AllByRecursion Ok xs → symbols ≡ before ++ symbols_from (addr m) symbols → Run xs m (m + length xs) before
      run_walked [] m before short ok left =
          let P : ℕ → Type 0 = λ end. Run [] m end before in
          subst P (sym (add-zero m)) (run_none m before left)
      run_walked (x ∷ xs) m before short ok left =
          let w = labels_ok m (omega arith) before left in
          let r = run_walked xs (m + 1) w.after (omega arith) ok.1 w.left in
          let P : ℕ → Type 0 = λ end. Run (x ∷ xs) m end before in
          let e : m + 1 + length xs ≡ m + suc (length xs) = omega arith in
          subst P e (run_more x xs m (m + 1 + length xs) before (omega arith) ok.0 w r)
