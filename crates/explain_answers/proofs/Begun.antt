-- What lines begin.
use Rattle.std.proofs.Common.{◌≡◌, ℕ, Bool, true, false, None, List, [], ap}
use Rattle.system_model.specs.declared.frame_line.SectionKind.{SectionKind}
use Rattle.explain_whole.specs.Opened.{opened_from}

-- no section is left where no line is
pub none_opened : (kind : SectionKind) (n : ℕ) (inside : Bool) (ls : List (List ℕ)) → ls ≡ [] → opened_from kind n inside ls ≡ None
unfolding opened_from
none_opened kind n true ls e = ap (λ (l : List (List ℕ)). opened_from kind n true l) e
none_opened kind n false ls e = ap (λ (l : List (List ℕ)). opened_from kind n false l) e
