-- What is warned of in sources: of node 7, below line 3 of a text.
use Rattle.std.specs.Prelude.{ℕ, ◌≡◌, List, [], ◌∷◌, codes}
use Rattle.warning_model.specs.Source.{warnings_of_source}
use Rattle.warning_model.specs.Texts.{warnings_text}

abbrev pub warned : List (List ℕ) → List ℕ
warned ls = warnings_text (warnings_of_source [] 7 3 ls)

pub record SourcesWarnedOf : Type 0 where
  pub code_ends : warned (codes "  nop" ∷ [])
      ≡ codes "source 7 line 1: warning: the code ends behind this instruction\n4 |   nop\n"
  pub none : warned (codes "main:" ∷ codes "  freet" ∷ [])
      ≡ []
  pub label_unnamed : warned (codes "a: b: bu a" ∷ [])
      ≡ codes "source 7 line 1: warning: the label b is named nowhere\n4 | a: b: bu a\n"
  pub nothing_behind : warned (codes "  bu a" ∷ codes "a:" ∷ [])
      ≡ codes "source 7 line 2: warning: no instruction comes after the label a\n5 | a:\n"
  pub register_unnamed : warned (codes "getr r0, 2" ∷ codes "getst r1, res[r0]" ∷ codes "freet" ∷ [])
      ≡ codes "source 7 line 2: warning: r1 is named nowhere else\n5 | getst r1, res[r0]\n"
  pub got_again : warned (codes "getr r0, 2" ∷ codes "getr r0, 2" ∷ codes "freet" ∷ [])
      ≡ codes "source 7 line 1: warning: r0 is named nowhere else\n4 | getr r0, 2\nsource 7 line 2: warning: r0 is named nowhere else\n5 | getr r0, 2\n"
  pub destination : warned (codes "setd res[r0], r1" ∷ codes "freet" ∷ codes ".data" ∷ codes ".word 1, 0x00050002, -65538" ∷ [])
      ≡ codes "source 7 line 4: warning: no node has the id 0x0005 of 0x00050002\n7 | .word 1, 0x00050002, -65538\n"
  pub once : warned (codes "a: b: freet" ∷ [])
      ≡ codes "source 7 line 1: warning: the label a is named nowhere\nsource 7 line 1: warning: the label b is named nowhere\n4 | a: b: freet\n"
