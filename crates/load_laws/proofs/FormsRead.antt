-- The lines of a frame by their words, where each word is read as its number or link end.
use Rattle.std.proofs.Common.{◌≡◌, ℕ, List, [], ◌∷◌, ap, ◌∙◌}
use Rattle.std.specs.Prelude.{Option, Some, codes, option_map}
use Rattle.xs_text.specs.Numbers.{number_of}
use Rattle.system_model.specs.declared.frame_line.EndName.{EndName}
use Rattle.system_model.specs.declared.frame_line.FrameLine.{FrameLine}
use Rattle.system_model.specs.declared.frame_line.FrameLine.TheVariants.{Node, Link, Bit, Section}
use Rattle.system_model.specs.declared.frame_line.SectionKind.TheVariants.{Source}
use Rattle.system_model.specs.FrameLines.{frame_line, node_line, link_line, bit_line, wire_line, section_line, numbers_of, end_name, or_line}
use Rattle.load_laws.proofs.NumbersRead.{bind}

-- the first form that a line has
first_form : (o p : Option FrameLine) (line : FrameLine) → o ≡ Some line → or_line o p ≡ Some line
first_form o p line e = ap (λ x. or_line x p) e

-- `node N id ID`
node_by_words : (n i : List ℕ) (number id : ℕ) → number_of n ≡ Some number → number_of i ≡ Some id
    → node_line (codes "node" ∷ n ∷ codes "id" ∷ i ∷ []) ≡ Some (record { number = number; id = id })
unfolding node_line
node_by_words n i number id e f = bind (number_of n) number _ e ∙ bind (number_of i) id _ f

-- the same as a line of a frame
pub node_form : (n i : List ℕ) (number id : ℕ) → number_of n ≡ Some number → number_of i ≡ Some id
    → frame_line 1 (codes "node" ∷ n ∷ codes "id" ∷ i ∷ []) ≡ Some (Node (record { number = number; id = id }))
unfolding frame_line
node_form n i number id e f = first_form _ _ _ (ap (λ o. option_map Node o) (node_by_words n i number id e f))

-- `link N:E M:F delay D gap G`, which is of network 0
link_by_words : (x y d g : List ℕ) (a b : EndName) (delay gap : ℕ) → end_name x ≡ Some a → end_name y ≡ Some b → number_of d ≡ Some delay → number_of g ≡ Some gap
    → link_line 1 (codes "link" ∷ x ∷ y ∷ codes "delay" ∷ d ∷ codes "gap" ∷ g ∷ []) ≡ Some (record { a = a; b = b; delay = delay; gap = gap; net = 0 })
unfolding link_line
link_by_words x y d g a b delay gap e f h k =
    bind (end_name x) a _ e ∙ (bind (end_name y) b _ f ∙ (bind (number_of d) delay _ h ∙ bind (number_of g) gap _ k))

-- the same as a line of a frame
pub link_form : (x y d g : List ℕ) (a b : EndName) (delay gap : ℕ) → end_name x ≡ Some a → end_name y ≡ Some b → number_of d ≡ Some delay → number_of g ≡ Some gap
    → frame_line 1 (codes "link" ∷ x ∷ y ∷ codes "delay" ∷ d ∷ codes "gap" ∷ g ∷ []) ≡ Some (Link (record { a = a; b = b; delay = delay; gap = gap; net = 0 }))
unfolding frame_line node_line
link_form x y d g a b delay gap e f h k = first_form _ _ _ (ap (λ o. option_map Link o) (link_by_words x y d g a b delay gap e f h k))

-- one word that is a number
one_number : (e : List ℕ) (end : ℕ) → number_of e ≡ Some end → numbers_of (e ∷ []) ≡ Some (end ∷ [])
unfolding numbers_of
one_number e end h = bind (number_of e) end _ h

-- `bit N B E`
bit_by_words : (n b e : List ℕ) (node bit end : ℕ) → number_of n ≡ Some node → number_of b ≡ Some bit → number_of e ≡ Some end
    → bit_line (codes "bit" ∷ n ∷ b ∷ e ∷ []) ≡ Some (record { node = node; bit = bit; ends = end ∷ [] })
unfolding bit_line
bit_by_words n b e node bit end h k j = bind (number_of n) node _ h ∙ (bind (number_of b) bit _ k ∙ bind (numbers_of (e ∷ [])) (end ∷ []) _ (one_number e end j))

-- the same as a line of a frame
pub bit_form : (n b e : List ℕ) (node bit end : ℕ) → number_of n ≡ Some node → number_of b ≡ Some bit → number_of e ≡ Some end
    → frame_line 1 (codes "bit" ∷ n ∷ b ∷ e ∷ []) ≡ Some (Bit (record { node = node; bit = bit; ends = end ∷ [] }))
unfolding frame_line node_line link_line
bit_form n b e node bit end h k j = first_form _ _ _ (ap (λ o. option_map Bit o) (bit_by_words n b e node bit end h k j))

-- `source N`
source_by_words : (n : List ℕ) (node : ℕ) → number_of n ≡ Some node → section_line (codes "source" ∷ n ∷ []) ≡ Some (Source node)
unfolding section_line
source_by_words n node h = ap (λ o. option_map Source o) h

-- the same as a line of a frame
pub source_form : (n : List ℕ) (node : ℕ) → number_of n ≡ Some node → frame_line 1 (codes "source" ∷ n ∷ []) ≡ Some (Section (Source node))
unfolding frame_line node_line link_line bit_line wire_line
source_form n node h = ap (λ o. option_map Section o) (source_by_words n node h)
