-- The line that is refused: the lines before it are read, and nothing after it is looked at.
use Rattle.std.proofs.Common.{◌≡◌, ℕ, suc, ◌+◌, ◌-◌, ◌≤◌, Bool, true, false, ◌==◌, List, [], ◌∷◌, length, take, Option, Some, None, refl, ap, subst, ◌∙◌, arith}
use Rattle.std.specs.Prelude.{if◌then◌else◌}
use Rattle.wave_model.specs.Waves.{WaveRec}
use Rattle.wave_model.specs.Reads.{Reading, Begin, Nodes, Ports, Declared, Changes, after_line, Wave, BadLine, at_end, unless_bad, wave_from}
use Rattle.wave_laws.proofs.ReadOver.{read_over, over_none, over_next}

pub line_no_wave : {P : Type 0} (wave : WaveRec) (n : ℕ) → Wave wave ≡ BadLine n → P
line_no_wave wave n h = absurd (cc)

same_line : (m n : ℕ) → BadLine m ≡ BadLine n → m ≡ n
same_line m n h = cc

-- line m is refused, of those from line n on
pub record IsRefused (n : ℕ) (reading : Reading) (lines : List (List ℕ)) (m : ℕ) : Type 0 where
  pub least : n ≤ m
  pub enough : m - n ≤ length lines
  pub before : Reading
  pub read : read_over reading (take (m - n) lines) ≡ Some before
  pub alike : (others : List (List ℕ)) → take (suc (m - n)) others ≡ take (suc (m - n)) lines → wave_from n reading others ≡ BadLine m

-- where no line is left
ends_at : (n m : ℕ) (reading : Reading) → at_end n reading ≡ BadLine m → n ≡ m
ends_at n m Begin h = same_line n m h
ends_at n m (Nodes numbers) h = same_line n m h
ends_at n m (Ports numbers port) h = same_line n m h
ends_at n m (Declared numbers) h = same_line n m h
ends_at n m (Changes wave next) h = by (next == 0) h
  where
    by : (t : Bool) → (if t then Wave wave else BadLine n) ≡ BadLine m → n ≡ m
    by true e = line_no_wave wave m e
    by false e = same_line n m e

nothing_left : (others : List (List ℕ)) (k : ℕ) → take (suc k) others ≡ [] → others ≡ []
nothing_left [] k e = refl
nothing_left (line ∷ others) k e = absurd (cc)

take_none : (k : ℕ) (lines : List (List ℕ)) → k ≡ 0 → take k lines ≡ []
take_none k lines e = ap (λ j. take j lines) e

at_the_end : (n m : ℕ) (reading : Reading) → n ≡ m → wave_from n reading [] ≡ BadLine m → IsRefused n reading [] m
at_the_end n m reading e h =
    let none : m - n ≡ 0 = omega (arith, e) in
    record {
      least = omega (arith, e);
      enough = omega (arith, e);
      before = reading;
      read = ap (read_over reading) (take_none (m - n) [] none) ∙ over_none reading;
      alike = λ others f. ap (wave_from n reading) (nothing_left others (m - n) f) ∙ h;
    }

-- where the first line is refused
first_alike : (n m : ℕ) (reading : Reading) (line : List ℕ) (lines others : List (List ℕ)) (k : ℕ) → after_line reading line ≡ None → n ≡ m
    → take (suc k) others ≡ take (suc k) (line ∷ lines) → wave_from n reading others ≡ BadLine m
unfolding wave_from
first_alike n m reading line lines [] k none e f = absurd (cc)
first_alike n m reading line lines (other ∷ others) k none e f =
    let same : other ≡ line = cc in
    ap (λ l. unless_bad n (after_line reading l) (λ after. wave_from (n + 1) after others)) same
    ∙ (ap (λ o. unless_bad n o (λ after. wave_from (n + 1) after others)) none ∙ ap BadLine e)

at_first : (n m : ℕ) (reading : Reading) (line : List ℕ) (lines : List (List ℕ)) → after_line reading line ≡ None → n ≡ m
    → IsRefused n reading (line ∷ lines) m
at_first n m reading line lines none e =
    let zero_left : m - n ≡ 0 = omega (arith, e) in
    record {
      least = omega (arith, e);
      enough = omega (arith, e);
      before = reading;
      read = ap (read_over reading) (take_none (m - n) (line ∷ lines) zero_left) ∙ over_none reading;
      alike = λ others f. first_alike n m reading line lines others (m - n) none e f;
    }

-- where the first line is read
later_alike : (n m : ℕ) (reading after : Reading) (line : List ℕ) (lines others : List (List ℕ)) (k j : ℕ) → after_line reading line ≡ Some after → k ≡ suc j
    → ((more : List (List ℕ)) → take (suc j) more ≡ take (suc j) lines → wave_from (n + 1) after more ≡ BadLine m)
    → take (suc k) others ≡ take (suc k) (line ∷ lines) → wave_from n reading others ≡ BadLine m
unfolding wave_from
later_alike n m reading after line lines [] k j some e alike f = absurd (cc)
later_alike n m reading after line lines (other ∷ others) k j some e alike f =
    let same : other ≡ line = cc in
    let rest : take k others ≡ take k lines = cc in
    let rest_too : take (suc j) others ≡ take (suc j) lines = subst (λ i. take i others ≡ take i lines) e rest in
    ap (λ l. unless_bad n (after_line reading l) (λ next. wave_from (n + 1) next others)) same
    ∙ (ap (λ o. unless_bad n o (λ next. wave_from (n + 1) next others)) some ∙ alike others rest_too)

at_later : (n m : ℕ) (reading after : Reading) (line : List ℕ) (lines : List (List ℕ)) → after_line reading line ≡ Some after
    → IsRefused (n + 1) after lines m → IsRefused n reading (line ∷ lines) m
at_later n m reading after line lines some h =
    let one_more : m - n ≡ suc (m - (n + 1)) = omega (arith, h.least) in
    record {
      least = omega (arith, h.least);
      enough = omega (arith, h.least, h.enough);
      before = h.before;
      read = ap (λ k. read_over reading (take k (line ∷ lines))) one_more ∙ (over_next reading after line (take (m - (n + 1)) lines) some ∙ h.read);
      alike = λ others f. later_alike n m reading after line lines others (m - n) (m - (n + 1)) some one_more h.alike f;
    }

pub refused_where : (n m : ℕ) (reading : Reading) (lines : List (List ℕ)) → wave_from n reading lines ≡ BadLine m → IsRefused n reading lines m
unfolding wave_from
refused_where n m reading [] h = at_the_end n m reading (ends_at n m reading h) h
refused_where n m reading (line ∷ lines) h = by (after_line reading line) refl h (λ after. refused_where (n + 1) m after lines)
  where
    by : (o : Option Reading) → after_line reading line ≡ o → unless_bad n o (λ after. wave_from (n + 1) after lines) ≡ BadLine m
        → ((after : Reading) → wave_from (n + 1) after lines ≡ BadLine m → IsRefused (n + 1) after lines m)
        → IsRefused n reading (line ∷ lines) m
    by None e f later = at_first n m reading line lines e (same_line n m f)
    by (Some after) e f later = at_later n m reading after line lines e (later after f)
