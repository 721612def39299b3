-- What lines begin.
use Rattle.std.proofs.Common.{◌≡◌, ℕ, true, Option, Some, None, List, [], ◌∷◌, is_some, ap, inl, inr, arith}
use Rattle.std.specs.Prelude.{codes, option_map, nat_le}
use Rattle.std.proofs.lemmas.Bool.{cond-true, cases_Bool}
use Rattle.std.proofs.lemmas.Bool.Decides.{nat_tests}
use Rattle.xs_text.specs.Numbers.{number_of, at_most}
use Rattle.xs_instructions.specs.Image.{same_name}
use Rattle.system_model.specs.declared.frame_line.SectionKind.{SectionKind}
use Rattle.system_model.specs.declared.frame_line.SectionKind.TheVariants.{Source}
use Rattle.system_model.specs.FrameLines.{section_line}
use Rattle.frame_lines.specs.declared.openings.Opening.TheVariants.{Other}
use Rattle.frame_lines.specs.Openings.{IsOpening}

two : (name word : List ℕ) → same_name (codes "source") name ≡ true → section_line (name ∷ word ∷ []) ≡ option_map Source (number_of word)
unfolding section_line
two name word e = cond-true _ _ _ e

beyond : (begun : Option SectionKind) (o : Option ℕ) → begun ≡ option_map Source o → is_some o ≡ true → at_most 255 o ≡ None → IsOpening begun Other
beyond begun None b s e = absurd cc
beyond begun (Some n) b s e =
    elim (cases_Bool (nat_le n 255)) [
      | inl within ↦ let some : at_most 255 (Some n) ≡ Some n = cond-true _ _ _ within in absurd cc
      | inr past ↦ (n, b, grind (arith, nat_tests))
    ]

-- the source of a node with a number that is no byte
pub other_source : (name word : List ℕ) → same_name (codes "source") name ≡ true → is_some (number_of word) ≡ true → at_most 255 (number_of word) ≡ None → IsOpening (section_line (name ∷ word ∷ [])) Other
other_source name word e s f = beyond _ (number_of word) (two name word e) s f
