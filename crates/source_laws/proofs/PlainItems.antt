-- Each item of an image's canonical text can be read by itself.
use Rattle.std.proofs.Common.{ℕ, ◌+◌, ◌<◌, ◌==◌, List, [], ◌∷◌, ◌++◌, length, take, drop, sym, subst, inl, inr, nat_lt}
use Rattle.std.specs.Prelude.{filter, suc, zero}
use Rattle.std.specs.List.{AllByRecursion}
use Rattle.std.proofs.lemmas.Bool.{cases_Bool, cond-true, cond-false}
use Rattle.xs_instructions.specs.Code.{code_start, place_address}
use Rattle.xs_instructions.specs.Image.{ImageRec, IsImage, Symbol, AreLabels, data_start}
use Rattle.source_model.specs.Canonical.{Item, Instruction, Byte, labels_of, labels_at, labels_below, behind_labels, code_items, data_items, data_room, items}
use Rattle.source_laws.proofs.ItemLines.{IsPlain, IsReadable}

abbrev pub IsByte : ℕ → Type 0
IsByte b = b < 256

module _ (symbols : List Symbol) where
  abbrev pub ArePlain : List Item → Type 0
  ArePlain list = AllByRecursion (IsPlain symbols) list

  both : (xs ys : List Item) → ArePlain xs → ArePlain ys → ArePlain (xs ++ ys)
  both [] ys h k = k
  both (x ∷ xs) ys h k = (h.0, both xs ys h.1 k)

  kept : (at : ℕ) (all : List Symbol) → AreLabels all → ArePlain (labels_at all at)
  kept at [] h = tt
  kept at (s ∷ all) h =
      let P : List Symbol → Type 0 = λ l. ArePlain (labels_of l) in
      let rest = filter (λ (x : Symbol). x.1 == at) all in
      elim (cases_Bool (s.1 == at)) [
        | inl e ↦ subst P (sym (cond-true _ (s ∷ rest) rest e)) (h.0, kept at all h.2)
        | inr f ↦ subst P (sym (cond-false _ (s ∷ rest) rest f)) (kept at all h.2)
      ]

  module _ (names : AreLabels symbols) where
    labels_plain : (at : ℕ) → ArePlain (labels_at symbols at)
    labels_plain at = kept at symbols names

    below_plain : (limit at : ℕ) → ArePlain (labels_below limit symbols at)
    below_plain limit at =
        elim (cases_Bool (nat_lt at limit)) [
          | inl t ↦ subst ArePlain (sym (cond-true _ (labels_at symbols at) [] t)) (labels_plain at)
          | inr f ↦ subst ArePlain (sym (cond-false _ (labels_at symbols at) [] f)) tt
        ]

    behind_plain : {A : Type 0} (item : A → Item) (size at : ℕ) (xs : List A) → AllByRecursion (λ x. IsPlain symbols (item x)) xs → ArePlain (behind_labels item symbols size at xs)
    unfolding behind_labels
    behind_plain item size at [] h = tt
    behind_plain item size at (x ∷ xs) h = both (labels_at symbols at) _ (labels_plain at) (h.0, behind_plain item size (at + size) xs h.1)

taken : (n : ℕ) (bytes : List ℕ) → AllByRecursion IsByte bytes → AllByRecursion IsByte (take n bytes)
taken zero bytes h = tt
taken (suc n) [] h = tt
taken (suc n) (b ∷ bytes) h = (h.0, taken n bytes h.1)

pub dropped : (n : ℕ) (bytes : List ℕ) → AllByRecursion IsByte bytes → AllByRecursion IsByte (drop n bytes)
dropped zero bytes h = h
dropped (suc n) [] h = tt
dropped (suc n) (b ∷ bytes) h = dropped n bytes h.1

pub taken_bytes : (n : ℕ) (bytes : List ℕ) → AllByRecursion IsByte bytes → AllByRecursion IsByte (take n bytes)
taken_bytes n bytes h = taken n bytes h

pub items_plain : (image : ImageRec) → IsImage image → AllByRecursion IsByte image.bytes → AllByRecursion (IsReadable image.symbols) image.code → AllByRecursion (IsPlain image.symbols) (items image)
items_plain image h bytes code =
    let symbols = image.symbols in
    let room = data_room image in
    both symbols (code_items image) _
    (both symbols (behind_labels Instruction symbols 4 code_start image.code) _ (behind_plain symbols h.names Instruction 4 code_start image.code code) (labels_plain symbols h.names (place_address (length image.code)))) (
      tt,
      both symbols (data_items image) _
          (both symbols (behind_labels Byte symbols 1 data_start (take room image.bytes)) _ (behind_plain symbols h.names Byte 1 data_start (take room image.bytes) (taken room image.bytes bytes)) (below_plain symbols h.names image.cp_at (data_start + length image.bytes)))
          (tt, both symbols (behind_labels Byte symbols 1 image.cp_at (drop room image.bytes)) _ (behind_plain symbols h.names Byte 1 image.cp_at (drop room image.bytes) (dropped room image.bytes bytes)) (labels_plain symbols h.names (image.cp_at + length (drop room image.bytes)))),
    )
