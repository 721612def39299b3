-- Assembling the canonical text of an image gives the image.
use Rattle.std.proofs.Common.{◌≡◌, ℕ, suc, zero, ◌+◌, ◌-◌, ◌%◌, ◌<◌, ◌≤◌, true, false, ◌==◌, List, [], ◌∷◌, ◌++◌, map, length, take, drop, replicate, refl, sym, ap, ◌∙◌, subst, inl, inr, arith, append-nil, nat_lt, nat_le, length-drop}
use Rattle.std.specs.Prelude.{Some, min}
use Rattle.std.specs.List.{AllByRecursion, flat_map}
use Rattle.std.proofs.lemmas.Bool.{cases_Bool, cond-true, cond-false}
use Rattle.std.proofs.lemmas.Bool.Decides.{nat_tests}
use Rattle.std.proofs.lemmas.List.{map-append, length-take, take-append-drop}
use Rattle.xs_instructions.specs.declared.instr.Instr.{Instr}
use Rattle.xs_instructions.specs.Rows.{name_of, parts_of}
use Rattle.xs_instructions.specs.Operands.{row_of, values_of}
use Rattle.xs_instructions.specs.Instr.{InRange}
use Rattle.xs_instructions.specs.Find.{find, build}
use Rattle.xs_instructions.specs.Spelling.{shapes}
use Rattle.xs_instructions.specs.Code.{code_start, place_address}
use Rattle.xs_instructions.specs.Image.{ImageRec, IsImage, Symbol, may_follow, is_place, data_start}
use Rattle.source_model.specs.declared.layout.Section.TheVariants.{Text, Data, Constants}
use Rattle.source_model.specs.Statement.{Line, line_of}
use Rattle.source_model.specs.Layout.{Label, Sofar, nothing_yet, bytes_length, round_up_to_word, section_start, address_in}
use Rattle.source_model.specs.Source.{Image, assembled, assembled_from, outcome, image_of, first_fault, bytes_of_lines, bytes_together, symbol_of}
use Rattle.source_model.specs.Canonical as canonical
use Rattle.source_model.specs.Canonical.{Item, Instruction, DataSection, ConstantSection, Byte, labels_at, labels_below, behind_labels, data_room, items, item_line}
use Rattle.source_laws.specs.LabelOrder.{symbols_from, IsNext}
use Rattle.source_laws.proofs.Places.{each, next_place, next_data, next_byte, next_constants, from_first, cp_small}
use Rattle.source_laws.proofs.TextLines.{lines_of-lines_text, IsAllowedLine}
use Rattle.source_laws.proofs.ItemLines.{line_item, IsPlain, item_is_read, item_is_allowed}
use Rattle.source_laws.proofs.Stands.{place_at, labels_of, text_place, data_place, constant_place}
use Rattle.source_laws.proofs.Clean.{state, Fits, IsClean, AreClean, clean-nil, clean-cons, clean-append, clean_instruction, clean_data, clean_constant, clean_begins_data, clean_begins_constants}
use Rattle.source_laws.proofs.Segments.{Walked, labels_walked, run_walked}
use Rattle.source_laws.proofs.Readable.{IsGiven, code_readable, code_given}
use Rattle.source_laws.proofs.PlainItems.{IsByte, taken_bytes, dropped, items_plain}

singles : {A : Type 0} (xs : List A) → flat_map (λ x. x ∷ []) xs ≡ xs
singles [] = refl
singles (x ∷ xs) = ap (λ l. x ∷ l) (singles xs)

nothings : {A B : Type 0} (xs : List A) → flat_map (λ (x : A). let none : List B = [] in none) xs ≡ []
nothings [] = refl
nothings (x ∷ xs) = nothings xs

module _ (image : ImageRec) (h : IsImage image) (bytes : AllByRecursion IsByte image.bytes)
    (found : (ins : Instr) → InRange ins → find (name_of (row_of ins)) (shapes (parts_of (row_of ins)) (values_of ins)) ≡ Some (row_of ins))
    (back : (ins : Instr) → InRange ins → build (row_of ins) (values_of ins) ≡ Some ins) where
  abbrev cp : ℕ
  cp = image.cp_at

  abbrev symbols : List Symbol
  symbols = image.symbols

  abbrev room : ℕ
  room = data_room image

  -- the bytes below `cp_at`, and those from there on
  abbrev first : List ℕ
  first = take room image.bytes

  abbrev second : List ℕ
  second = drop room image.bytes

  abbrev n : ℕ
  n = length image.code

  abbrev d : ℕ
  d = length first

  abbrev k : ℕ
  k = length second

  -- what all lines of the canonical text say together
  abbrev whole : Sofar
  whole = state Constants n d k (labels_of cp symbols)

  long_first : d ≡ min room (length image.bytes)
  long_first = length-take room image.bytes

  long_second : k ≡ length image.bytes - room
  long_second = length-drop room image.bytes

  code_fits : n ≤ 16384
  code_fits = h.code_fits

  small : cp + length image.bytes < code_start
  small = cp_small image h

  fits_code : (m : ℕ) → m ≤ n → Fits (state Text m 0 0 []).layout
  fits_code m s = record { code = omega (arith, code_fits); bytes = omega arith }

  fits_data : (m : ℕ) → m ≤ d → Fits (state Data n m 0 []).layout
  fits_data m s = record { code = code_fits; bytes = omega (arith, long_first, h.bytes_fit) }

  together : (m : ℕ) → m ≤ k → bytes_length d m ≤ 65536
  together zero s = omega (arith, long_first, h.bytes_fit)
  together (suc m) s =
      let full : d ≡ cp - data_start = omega (arith, long_first, long_second) in
      let word : round_up_to_word d ≡ d = omega (arith, full, h.cp_aligned, h.cp_in_data) in
      cond-case m s full word where
        cond-case : (m : ℕ) → suc m ≤ k → d ≡ cp - data_start → round_up_to_word d ≡ d → bytes_length d (suc m) ≤ 65536
        cond-case m s full word =
            let other : (suc m == 0) ≡ false = grind (arith, nat_tests) in
            let P : ℕ → Type 0 = λ x. x ≤ 65536 in
            subst P (sym (cond-false (suc m == 0) d (round_up_to_word d + suc m) other)) (omega (arith, word, full, s, long_second, h.bytes_fit, long_first))

  fits_constants : (m : ℕ) → m ≤ k → Fits (state Constants n d m []).layout
  fits_constants m s = record { code = code_fits; bytes = together m s }

  abbrev line : Item → Line
  line item = line_item symbols item

  -- a part of the lines that are walked
  abbrev Part : ℕ → List Symbol → (List Label → Sofar) → (List Label → Sofar) → List Line → List Instr → List ℕ → List ℕ → Type 0
  Part next before start final lines c in_data in_constants = Walked cp symbols whole next before start final lines c in_data in_constants

  -- the same part by equal results
  same_part : (next next' : ℕ) (before : List Symbol) (start final final' : List Label → Sofar) (lines : List Line) (c c' : List Instr) (a a' b b' : List ℕ) → next ≡ next' → final ≡ final' → c ≡ c' → a ≡ a' → b ≡ b' → Part next before start final lines c a b → Part next' before start final' lines c' a' b'
  same_part next next' before start final final' lines c c' a a' b b' en ef ec ea eb w =
      let P1 : ℕ → Type 0 = λ x. Part x before start final lines c a b in
      let P2 : (List Label → Sofar) → Type 0 = λ x. Part next' before start x lines c a b in
      let P3 : List Instr → Type 0 = λ x. Part next' before start final' lines x a b in
      let P4 : List ℕ → Type 0 = λ x. Part next' before start final' lines c' x b in
      let P5 : List ℕ → Type 0 = λ x. Part next' before start final' lines c' a' x in
      subst P5 eb (subst P4 ea (subst P3 ec (subst P2 ef (subst P1 en w))))

  next_place_is : (m : ℕ) → place_address m + 4 ≡ place_address (m + 1)
  next_place_is m = omega arith

  code_labels : (m : ℕ) → m < n → (before : List Symbol) → symbols ≡ before ++ symbols_from (place_address m) symbols → Part (place_address (m + 1)) before (λ l. state Text m 0 0 l) (λ l. state Text m 0 0 l) (map line (labels_at symbols (place_address m))) [] [] []
  code_labels m below before left =
      labels_walked cp symbols whole h.names h.order Text m 0 0 (place_address m) (place_address (m + 1)) before (fits_code m (omega arith)) (text_place cp m) (next_place image m h) left

  code_item : (m : ℕ) → m < n → (ins : Instr) → IsGiven symbols whole ins → (labels : List Label) → IsClean whole (state Text m 0 0 labels) (state Text (m + 1) 0 0 labels) (line (Instruction ins)) (ins ∷ []) [] []
  code_item m below ins g labels = clean_instruction whole m 0 0 labels (row_of ins) _ ins (fits_code (m + 1) (omega arith)) g.given g.present

  start_left : symbols ≡ [] ++ symbols_from (place_address 0) symbols
  start_left = sym (from_first image h)

  code_part : Part (place_address n) [] (λ l. state Text 0 0 0 l) (λ l. state Text n 0 0 l) (map line (behind_labels Instruction symbols 4 code_start image.code)) image.code [] []
  code_part =
      let run = run_walked cp symbols whole h.names h.order (λ (ins : Instr). Instruction ins) 4 n place_address (λ m l. state Text m 0 0 l) (IsGiven symbols whole) (λ ins. ins ∷ []) (λ ins. []) (λ ins. [])
      next_place_is code_labels code_item image.code 0 [] (omega arith) (code_given image h whole refl back) start_left in
      let e : 0 + n ≡ n = omega arith in
      same_part _ _ [] _ _ _ _ _ _ _ _ _ _ (ap place_address e) (ap (λ m. λ (l : List Label). state Text m 0 0 l) e) (singles image.code) (nothings image.code) (nothings image.code) run

  end_labels : (before : List Symbol) → symbols ≡ before ++ symbols_from (place_address n) symbols → Part data_start before (λ l. state Text n 0 0 l) (λ l. state Text n 0 0 l) (map line (labels_at symbols (place_address n))) [] [] []
  end_labels before left =
      labels_walked cp symbols whole h.names h.order Text n 0 0 (place_address n) data_start before (fits_code n (omega arith)) (text_place cp n) (next_data image h) left

  -- the bytes below `cp_at`

  below_cp : (m : ℕ) → m < d → data_start + m < cp
  below_cp m s = omega (arith, long_first)

  next_address : (base m : ℕ) → base + m + 1 ≡ base + (m + 1)
  next_address base m = omega arith

  next_at : (base m : ℕ) → base + m + 1 < code_start → IsNext (base + m) (base + (m + 1)) symbols
  next_at base m s =
      let P : ℕ → Type 0 = λ x. IsNext (base + m) x symbols in
      subst P (next_address base m) (next_byte (base + m) symbols s)

  data_labels : (m : ℕ) → m < d → (before : List Symbol) → symbols ≡ before ++ symbols_from (data_start + m) symbols → Part (data_start + (m + 1)) before (λ l. state Data n m 0 l) (λ l. state Data n m 0 l) (map line (labels_at symbols (data_start + m))) [] [] []
  data_labels m below before left =
      let c = below_cp m below in
      labels_walked cp symbols whole h.names h.order Data n m 0 (data_start + m) (data_start + (m + 1)) before (fits_data m (omega arith)) (data_place cp m c (omega (arith, small))) (next_at data_start m (omega (arith, c, small))) left

  data_item : (m : ℕ) → m < d → (v : ℕ) → IsByte v → (labels : List Label) → IsClean whole (state Data n m 0 labels) (state Data n (m + 1) 0 labels) (line (Byte v)) [] (v ∷ []) []
  data_item m below v b labels = clean_data whole n m 0 v labels (fits_data (m + 1) (omega arith)) b

  data_part : (before : List Symbol) → symbols ≡ before ++ symbols_from data_start symbols → Part (data_start + d) before (λ l. state Data n 0 0 l) (λ l. state Data n d 0 l) (map line (behind_labels Byte symbols 1 data_start first)) [] first []
  data_part before left =
      let run = run_walked cp symbols whole h.names h.order (λ (v : ℕ). Byte v) 1 d (λ m. data_start + m) (λ m l. state Data n m 0 l) IsByte (λ v. []) (λ v. v ∷ []) (λ v. [])
      (next_address data_start) data_labels data_item first 0 before (omega arith) (taken_bytes room image.bytes bytes) left in
      let e : 0 + d ≡ d = omega arith in
      same_part _ _ before _ _ _ _ _ _ _ _ _ _ (ap (λ m. data_start + m) e) (ap (λ m. λ (l : List Label). state Data n m 0 l) e) (nothings first) (singles first) (nothings first) run

  -- the labels below `cp_at` that no byte follows

  labels_part : (before : List Symbol) → symbols ≡ before ++ symbols_from (data_start + d) symbols → Part cp before (λ l. state Data n d 0 l) (λ l. state Data n d 0 l) (map line (labels_below cp symbols (data_start + length image.bytes))) [] [] []
  labels_part before left =
      let P : List Item → Type 0 = λ items. Part cp before (λ l. state Data n d 0 l) (λ l. state Data n d 0 l) (map line items) [] [] [] in
      let here = labels_at symbols (data_start + length image.bytes) in
      elim (cases_Bool (nat_lt (data_start + length image.bytes) cp)) [
        | inl t ↦
            let below : data_start + length image.bytes < cp = grind (arith, nat_tests) in
            let short : d ≡ length image.bytes = omega (arith, long_first, below) in
            let at : data_start + d ≡ data_start + length image.bytes = ap (λ m. data_start + m) short in
            let Q : ℕ → Type 0 = λ x. IsNext x cp symbols in
            let w = labels_walked cp symbols whole h.names h.order Data n d 0 (data_start + d) cp before (fits_data d (omega arith)) (data_place cp d (omega (arith, below, short)) (omega (arith, small))) (subst Q (sym at) (next_constants image h below)) left in
            let R : ℕ → Type 0 = λ x. Part cp before (λ l. state Data n d 0 l) (λ l. state Data n d 0 l) (map line (labels_at symbols x)) [] [] [] in
            subst P (sym (cond-true _ here [] t)) (subst R at w)
        | inr f ↦
            let above : cp ≤ data_start + length image.bytes = grind (arith, nat_tests) in
            let full : data_start + d ≡ cp = omega (arith, long_first, above, h.cp_in_data) in
            subst P (sym (cond-false _ here [] f)) (record {
              after = before;
              clean = clean-nil whole (state Data n d 0 (labels_of cp before));
              left = left ∙ ap (λ x. before ++ symbols_from x symbols) full;
            })
      ]

  -- the bytes from `cp_at` on

  constant_labels : (m : ℕ) → m < k → (before : List Symbol) → symbols ≡ before ++ symbols_from (cp + m) symbols → Part (cp + (m + 1)) before (λ l. state Constants n d m l) (λ l. state Constants n d m l) (map line (labels_at symbols (cp + m))) [] [] []
  constant_labels m below before left =
      labels_walked cp symbols whole h.names h.order Constants n d m (cp + m) (cp + (m + 1)) before (fits_constants m (omega arith)) (constant_place cp m (omega (arith, small, long_second))) (next_at cp m (omega (arith, small, long_second))) left

  constant_item : (m : ℕ) → m < k → (v : ℕ) → IsByte v → (labels : List Label) → IsClean whole (state Constants n d m labels) (state Constants n d (m + 1) labels) (line (Byte v)) [] [] (v ∷ [])
  constant_item m below v b labels = clean_constant whole n d m v labels (fits_constants (m + 1) (omega arith)) b

  constants_part : (before : List Symbol) → symbols ≡ before ++ symbols_from cp symbols → Part (cp + k) before (λ l. state Constants n d 0 l) (λ l. state Constants n d k l) (map line (behind_labels Byte symbols 1 cp second)) [] [] second
  constants_part before left =
      let at : cp ≡ cp + 0 = omega arith in
      let run = run_walked cp symbols whole h.names h.order (λ (v : ℕ). Byte v) 1 k (λ m. cp + m) (λ m l. state Constants n d m l) IsByte (λ v. []) (λ v. []) (λ v. v ∷ [])
      (next_address cp) constant_labels constant_item second 0 before (omega arith) (dropped room image.bytes bytes) (left ∙ ap (λ x. before ++ symbols_from x symbols) at) in
      let e : 0 + k ≡ k = omega arith in
      let R : ℕ → Type 0 = λ x. Part (cp + k) before (λ l. state Constants n d 0 l) (λ l. state Constants n d k l) (map line (behind_labels Byte symbols 1 x second)) [] [] second in
      subst R (sym at) (same_part _ _ before _ _ _ _ _ _ _ _ _ _ (ap (λ m. cp + m) e) (ap (λ m. λ (l : List Label). state Constants n d m l) e) (nothings second) (nothings second) (singles second) run)

  -- the last labels, after which no symbol is left

  last_labels : (before : List Symbol) → symbols ≡ before ++ symbols_from (cp + k) symbols → Part (cp + (k + 1)) before (λ l. state Constants n d k l) (λ l. state Constants n d k l) (map line (labels_at symbols (cp + k))) [] [] []
  last_labels before left =
      labels_walked cp symbols whole h.names h.order Constants n d k (cp + k) (cp + (k + 1)) before (fits_constants k (omega arith)) (constant_place cp k (omega (arith, small, long_second))) (next_at cp k (omega (arith, small, long_second))) left

  past_the_last : (a : ℕ) → is_place n (length image.bytes) cp a ≡ true → may_follow (cp + (k + 1)) a ≡ false
  past_the_last a p =
      let far : data_start + length image.bytes ≤ cp + k = omega (arith, long_second) in
      let near : cp + (k + 1) < code_start = omega (arith, small, long_second) in
      past_is n (length image.bytes) cp k a far near p where
        past_is : (n m cp k a : ℕ) → data_start + m ≤ cp + k → cp + (k + 1) < code_start → is_place n m cp a ≡ true → may_follow (cp + (k + 1)) a ≡ false
        past_is n m cp k a far near p = grind (arith, nat_tests)

  none_past : (all : List Symbol) → AllByRecursion (λ (s : Symbol). is_place n (length image.bytes) cp s.1 ≡ true) all → symbols_from (cp + (k + 1)) all ≡ []
  none_past [] p = refl
  none_past (s ∷ all) p = cond-false _ _ _ (past_the_last s.1 p.0) ∙ none_past all p.1

  code_walked : Part (place_address n) [] (λ l. state Text 0 0 0 l) (λ l. state Text n 0 0 l) (map line (behind_labels Instruction symbols 4 code_start image.code)) image.code [] []
  code_walked = code_part

  end_walked : Part data_start code_walked.after (λ l. state Text n 0 0 l) (λ l. state Text n 0 0 l) (map line (labels_at symbols (place_address n))) [] [] []
  end_walked = end_labels code_walked.after code_walked.left

  data_walked : Part (data_start + d) end_walked.after (λ l. state Data n 0 0 l) (λ l. state Data n d 0 l) (map line (behind_labels Byte symbols 1 data_start first)) [] first []
  data_walked = data_part end_walked.after end_walked.left

  labels_walked_on : Part cp data_walked.after (λ l. state Data n d 0 l) (λ l. state Data n d 0 l) (map line (labels_below cp symbols (data_start + length image.bytes))) [] [] []
  labels_walked_on = labels_part data_walked.after data_walked.left

  constants_walked : Part (cp + k) labels_walked_on.after (λ l. state Constants n d 0 l) (λ l. state Constants n d k l) (map line (behind_labels Byte symbols 1 cp second)) [] [] second
  constants_walked = constants_part labels_walked_on.after labels_walked_on.left

  last_walked : Part (cp + (k + 1)) constants_walked.after (λ l. state Constants n d k l) (λ l. state Constants n d k l) (map line (labels_at symbols (cp + k))) [] [] []
  last_walked = last_labels constants_walked.after constants_walked.left

  all_defined : last_walked.after ≡ symbols
  all_defined =
      sym (last_walked.left ∙ (ap (λ l. last_walked.after ++ l) (none_past symbols h.places) ∙ append-nil last_walked.after))

  abbrev lines : List Line
  lines = map line (items image)

  abbrev code_lines : List Line
  code_lines = map line (behind_labels Instruction symbols 4 code_start image.code) ++ map line (labels_at symbols (place_address n))

  abbrev data_lines : List Line
  data_lines = map line (behind_labels Byte symbols 1 data_start first) ++ map line (labels_below cp symbols (data_start + length image.bytes))

  abbrev constant_lines : List Line
  constant_lines = map line (behind_labels Byte symbols 1 cp second) ++ map line (labels_at symbols (cp + k))

  lines_are : lines ≡ code_lines ++ (line DataSection ∷ (data_lines ++ (line ConstantSection ∷ constant_lines)))
  lines_are =
      map-append line (canonical.code_items image) (DataSection ∷ (canonical.data_items image ++ (ConstantSection ∷ canonical.constant_items image)))
      ∙ (ap (λ l. l ++ (line DataSection ∷ map line (canonical.data_items image ++ (ConstantSection ∷ canonical.constant_items image)))) (map-append line (behind_labels Instruction symbols 4 code_start image.code) (labels_at symbols (place_address n)))
      ∙ ap (λ l. code_lines ++ (line DataSection ∷ l))
      (map-append line (canonical.data_items image) (ConstantSection ∷ canonical.constant_items image)
      ∙ (ap (λ l. l ++ (line ConstantSection ∷ map line (canonical.constant_items image))) (map-append line (behind_labels Byte symbols 1 data_start first) (labels_below cp symbols (data_start + length image.bytes)))
      ∙ ap (λ l. data_lines ++ (line ConstantSection ∷ l)) (map-append line (behind_labels Byte symbols 1 cp second) (labels_at symbols (cp + k))))))

  constants_clean : AreClean whole (state Constants n d 0 (labels_of cp labels_walked_on.after)) (state Constants n d k (labels_of cp last_walked.after)) constant_lines [] [] (second ++ [])
  constants_clean = clean-append whole _ _ _ _ _ [] [] [] [] second [] constants_walked.clean last_walked.clean

  data_clean : AreClean whole (state Data n 0 0 (labels_of cp end_walked.after)) (state Constants n d k (labels_of cp last_walked.after)) (data_lines ++ (line ConstantSection ∷ constant_lines)) [] ((first ++ []) ++ []) (second ++ [])
  data_clean =
      clean-append whole _ _ _ data_lines _ [] [] (first ++ []) [] [] (second ++ [])
      (clean-append whole _ _ _ _ _ [] [] first [] [] [] data_walked.clean labels_walked_on.clean)
      (clean-cons whole _ _ _ (line ConstantSection) constant_lines [] [] [] [] [] (second ++ []) (clean_begins_constants whole n d (labels_of cp labels_walked_on.after) (fits_constants 0 (omega arith))) constants_clean)

  all_clean : AreClean whole nothing_yet (state Constants n d k (labels_of cp last_walked.after)) (code_lines ++ (line DataSection ∷ (data_lines ++ (line ConstantSection ∷ constant_lines)))) ((image.code ++ []) ++ []) ((first ++ []) ++ []) (second ++ [])
  all_clean =
      clean-append whole _ _ _ code_lines _ (image.code ++ []) [] [] ((first ++ []) ++ []) [] (second ++ [])
      (clean-append whole _ _ _ _ _ image.code [] [] [] [] [] code_walked.clean end_walked.clean)
      (clean-cons whole _ _ _ (line DataSection) _ [] [] [] ((first ++ []) ++ []) [] (second ++ []) (clean_begins_data whole n (labels_of cp end_walked.after) (record { code = code_fits; bytes = omega arith })) data_clean)

  lines_clean : AreClean whole nothing_yet whole lines image.code first second
  lines_clean =
      let P1 : List Line → Type 0 = λ x. AreClean whole nothing_yet whole x image.code first second in
      let P2 : List Symbol → Type 0 = λ x. AreClean whole nothing_yet (state Constants n d k (labels_of cp x)) (code_lines ++ (line DataSection ∷ (data_lines ++ (line ConstantSection ∷ constant_lines)))) image.code first second in
      let P3 : List Instr → Type 0 = λ x. AreClean whole nothing_yet (state Constants n d k (labels_of cp last_walked.after)) (code_lines ++ (line DataSection ∷ (data_lines ++ (line ConstantSection ∷ constant_lines)))) x ((first ++ []) ++ []) (second ++ []) in
      let P4 : List ℕ → Type 0 = λ x. AreClean whole nothing_yet (state Constants n d k (labels_of cp last_walked.after)) (code_lines ++ (line DataSection ∷ (data_lines ++ (line ConstantSection ∷ constant_lines)))) image.code x (second ++ []) in
      let P5 : List ℕ → Type 0 = λ x. AreClean whole nothing_yet (state Constants n d k (labels_of cp last_walked.after)) (code_lines ++ (line DataSection ∷ (data_lines ++ (line ConstantSection ∷ constant_lines)))) image.code first x in
      subst P1 (sym lines_are) (subst P2 all_defined (subst P5 (append-nil second) (subst P4 (append-nil (first ++ []) ∙ append-nil first) (subst P3 (append-nil (image.code ++ []) ∙ append-nil image.code) all_clean))))

  -- the image of the lines

  same_bytes : (bs cs : List ℕ) → (0 < length cs → round_up_to_word (length bs) ≡ length bs) → bytes_together bs cs ≡ bs ++ cs
  same_bytes bs [] e = sym (append-nil bs)
  same_bytes bs (c ∷ cs) e =
      let none : round_up_to_word (length bs) - length bs ≡ 0 = omega (arith, e (omega arith)) in
      ap (λ m. bs ++ (replicate m 0 ++ (c ∷ cs))) none

  bytes_are : bytes_together first second ≡ image.bytes
  bytes_are =
      same_bytes first second (λ some. omega (arith, some, long_first, long_second, h.cp_aligned, h.cp_in_data))
      ∙ take-append-drop room image.bytes

  cp_is : section_start whole.layout Constants ≡ cp
  cp_is = omega (arith, long_first, h.cp_aligned, h.cp_in_data, h.cp_near_end)

  address_is : (a : ℕ) → is_place n (length image.bytes) cp a ≡ true → address_in whole.layout (place_at cp a) ≡ a
  address_is a p =
      elim (cases_Bool (nat_le code_start a)) [
        | inl t ↦
            let word : a % 4 ≡ 0 = grind (arith, nat_tests) in
            let above : code_start ≤ a = grind (arith, nat_tests) in
            ap (address_in whole.layout) (cond-true _ _ _ t) ∙ (omega (arith, word, above))
        | inr f ↦ elim (cases_Bool (nat_lt a cp)) [
          | inl t ↦
              let above : data_start ≤ a = grind (arith, nat_tests) in
              ap (address_in whole.layout) (cond-false _ _ _ f ∙ cond-true _ _ _ t) ∙ (omega (arith, above))
          | inr g ↦
              let above : cp ≤ a = grind (arith, nat_tests) in
              ap (address_in whole.layout) (cond-false _ _ _ f ∙ cond-false _ _ _ g) ∙ (omega (arith, above, cp_is))
        ]
      ]

  symbols_back : (all : List Symbol) → AllByRecursion (λ (s : Symbol). is_place n (length image.bytes) cp s.1 ≡ true) all → map (symbol_of whole.layout) (labels_of cp all) ≡ all
  symbols_back [] p = refl
  symbols_back (s ∷ all) p =
      ap (λ (a : ℕ). (s.0, a) ∷ map (symbol_of whole.layout) (labels_of cp all)) (address_is s.1 p.0) ∙ ap (λ (l : List Symbol). s ∷ l) (symbols_back all p.1)

  image_is : image_of whole lines ≡ image
  image_is =
      let r : List Instr → List ℕ → ℕ → List Symbol → ImageRec = λ c b a s. record { code = c; bytes = b; cp_at = a; symbols = s } in
      let clean = lines_clean in
      let bs : bytes_together (bytes_of_lines Data whole nothing_yet lines) (bytes_of_lines Constants whole nothing_yet lines) ≡ image.bytes =
      ap (λ b. bytes_together b (bytes_of_lines Constants whole nothing_yet lines)) clean.in_data ∙ (ap (λ b. bytes_together first b) clean.in_constants ∙ bytes_are) in
      ap (λ c. r c (bytes_together (bytes_of_lines Data whole nothing_yet lines) (bytes_of_lines Constants whole nothing_yet lines)) (section_start whole.layout Constants) (map (symbol_of whole.layout) whole.labels)) clean.code
      ∙ (ap (λ b. r image.code b (section_start whole.layout Constants) (map (symbol_of whole.layout) whole.labels)) bs
      ∙ (ap (λ a. r image.code image.bytes a (map (symbol_of whole.layout) whole.labels)) cp_is
      ∙ ap (λ s. r image.code image.bytes cp s) (symbols_back symbols h.places)))

  assembled_lines_is : assembled_from lines ≡ Image image
  assembled_lines_is =
      let clean = lines_clean in
      ap (λ (w : Sofar). outcome (first_fault w nothing_yet 1 lines) (image_of w lines)) clean.after
      ∙ (ap (λ o. outcome o (image_of whole lines)) (clean.fault 1) ∙ ap (λ i. Image i) image_is)

  -- the lines of the text

  plain : AllByRecursion (IsPlain symbols) (items image)
  plain = items_plain image h bytes (code_readable image h whole refl back)

  allowed : AllByRecursion (IsAllowedLine symbols) (items image)
  allowed = each (IsPlain symbols) (IsAllowedLine symbols) (item_is_allowed symbols) (items image) plain

  read_all : (all : List Item) → AllByRecursion (IsPlain symbols) all → map line_of (map (item_line symbols) all) ≡ map line all
  read_all [] p = refl
  read_all (it ∷ all) p =
      ap (λ l. l ∷ map line_of (map (item_line symbols) all)) (item_is_read symbols found it p.0) ∙ ap (λ l. line it ∷ l) (read_all all p.1)

  pub assembled_canonical : assembled (canonical.canonical image) ≡ Image image
  assembled_canonical =
      ap (λ ls. assembled_from (map line_of ls)) (lines_of-lines_text symbols (items image) allowed)
      ∙ (ap (λ ls. assembled_from ls) (read_all (items image) plain) ∙ assembled_lines_is)
