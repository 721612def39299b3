-- The form of the first line and the text is lawful.
use Rattle.std.proofs.Common.{◌≡◌, ◌<◌, ◌^◌, List, ℕ, ◌++◌, length, refl, sym, ap, ◌∙◌, append_assoc}
use Rattle.std.specs.Prelude.{bytes_eq}
use Rattle.std.proofs.lemmas.Slice.Eq.{bytes_eq-Decides}
use Rattle.byte_forms.specs.Laws.{Lawful}
use Rattle.byte_forms.proofs.Fields.{bytes-lawful, word-lawful}
use Rattle.byte_forms.proofs.Parts.{where-lawful, both-lawful, seen-lawful}
use Rattle.byte_forms.proofs.Lists.{counted-lawful}
use Rattle.snap_codec.specs.Snaps.{first_line, line, text_field, text_of, with_line, head}

line-lawful : Lawful line
unfolding line
line-lawful = where-lawful (λ l. bytes_eq l first_line) (bytes-lawful 15)

text_field-lawful : Lawful text_field
unfolding text_field
text_field-lawful = counted-lawful word-lawful bytes-lawful (λ n xs h. h.0)

line_is : (l : List ℕ) → line.Holds l → l ≡ first_line
unfolding line
line_is l h = (bytes_eq-Decides l first_line).0 h.1

pub head-lawful : Lawful head
unfolding head
head-lawful =
    seen-lawful text_of with_line (both-lawful line-lawful (λ l. text_field-lawful)) (λ p h. ap (λ (l : List ℕ). (l, p.1)) (sym (line_is p.0 h.0))) (λ text. refl)

-- a text that stands in a snapshot has fewer bytes than its length may say
pub text_few : (text : List ℕ) → head.Holds text → length text < 2 ^ 32
unfolding head text_field
text_few text h = h.1.0

-- the line, and the text after its length, written one after the other
pub head_written : (out text one new : List ℕ) → one ≡ out ++ first_line → new ≡ one ++ text_field.write text → new ≡ out ++ head.write text
unfolding head line
head_written out text one new e1 e2 = e2 ∙ ap (λ (front : List ℕ). front ++ text_field.write text) e1 ∙ append_assoc out first_line (text_field.write text)
