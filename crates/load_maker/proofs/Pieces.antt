-- A piece of text for each of some numbers in a row, one more each time; and the whole load put together of such pieces.
use Rattle.std.proofs.Common.{◌≡◌, ℕ, suc, ◌+◌, ◌-◌, ◌<◌, List, [], ◌∷◌, ◌++◌, map, refl, ap, sym, ◌∙◌, append_assoc, arith}
use Rattle.std.specs.Prelude.{codes}
use Rattle.std.specs.List.{flat_map, range_with_len}
use Rattle.load_model.specs.Load.{node_numbers, node_text, link_text, bit_text, node_section, text_of_lines, load_text}

module _ (piece : ℕ → List ℕ) where
  left-cons : (i count left : ℕ) → left ≡ suc count → flat_map piece (range_with_len i left) ≡ piece i ++ flat_map piece (range_with_len (i + 1) count)
  left-cons i count left e = ap (λ n. flat_map piece (range_with_len i n)) e

  -- from the text so far and the pieces that are left, to those with one piece more
  pub piece_more : (i end : ℕ) (so_far after all : List ℕ) → i < end → after ≡ so_far ++ piece i → so_far ++ flat_map piece (range_with_len i (end - i)) ≡ all → after ++ flat_map piece (range_with_len (i + 1) (end - (i + 1))) ≡ all
  piece_more i end so_far after all below added h =
      let rest = flat_map piece (range_with_len (i + 1) (end - (i + 1))) in
      ap (λ (t : List ℕ). t ++ rest) added
      ∙ (append_assoc so_far (piece i) rest ∙ (ap (λ (t : List ℕ). so_far ++ t) (sym (left-cons i (end - (i + 1)) (end - i) (omega arith))) ∙ h))

-- lines, each with its end, of a line for each number
text-map : (line : ℕ → List ℕ) (numbers : List ℕ) → text_of_lines (map line numbers) ≡ flat_map (λ i. line i ++ (10 ∷ [])) numbers
text-map line [] = refl
text-map line (i ∷ numbers) = ap (λ (t : List ℕ). (line i ++ (10 ∷ [])) ++ t) (text-map line numbers)

pub text-append : (xs ys : List (List ℕ)) → text_of_lines (xs ++ ys) ≡ text_of_lines xs ++ text_of_lines ys
text-append [] ys = refl
text-append (x ∷ xs) ys =
    ap (λ (t : List ℕ). (x ++ (10 ∷ [])) ++ t) (text-append xs ys) ∙ sym (append_assoc (x ++ (10 ∷ [])) (text_of_lines xs) (text_of_lines ys))

-- of several lines for each number
text-flat_map : (lines : ℕ → List (List ℕ)) (numbers : List ℕ) → text_of_lines (flat_map lines numbers) ≡ flat_map (λ i. text_of_lines (lines i)) numbers
text-flat_map lines [] = refl
text-flat_map lines (i ∷ numbers) =
    text-append (lines i) (flat_map lines numbers) ∙ ap (λ (t : List ℕ). text_of_lines (lines i) ++ t) (text-flat_map lines numbers)

-- the four parts of a load, behind its first line
pub load_parts : (n : ℕ) → load_text n
    ≡ codes "xs1 1\n" ++ (flat_map (λ i. node_text i ++ (10 ∷ [])) (node_numbers n) ++ (flat_map (λ i. link_text n i ++ (10 ∷ [])) (node_numbers n)
    ++ (flat_map (λ i. bit_text n i ++ (10 ∷ [])) (node_numbers n) ++ flat_map (λ i. text_of_lines (node_section n i)) (node_numbers n))))
unfolding load_text
load_parts n =
    let numbers = node_numbers n in
    let nodes = map node_text numbers in
    let links = map (link_text n) numbers in
    let bits = map (bit_text n) numbers in
    let sections = flat_map (node_section n) numbers in
    ap (λ (t : List ℕ). codes "xs1 1\n" ++ t)
    (text-append nodes (links ++ (bits ++ sections))
    ∙ (ap (λ (t : List ℕ). text_of_lines nodes ++ t)
    (text-append links (bits ++ sections) ∙ ap (λ (t : List ℕ). text_of_lines links ++ t) (text-append bits sections))
    ∙ (ap (λ (t : List ℕ). t ++ (text_of_lines links ++ (text_of_lines bits ++ text_of_lines sections))) (text-map node_text numbers)
    ∙ (ap (λ (t : List ℕ). flat_map (λ i. node_text i ++ (10 ∷ [])) numbers ++ (t ++ (text_of_lines bits ++ text_of_lines sections))) (text-map (link_text n) numbers)
    ∙ (ap (λ (t : List ℕ). flat_map (λ i. node_text i ++ (10 ∷ [])) numbers ++ (flat_map (λ i. link_text n i ++ (10 ∷ [])) numbers ++ (t ++ text_of_lines sections))) (text-map (bit_text n) numbers)
    ∙ ap (λ (t : List ℕ). flat_map (λ i. node_text i ++ (10 ∷ [])) numbers ++ (flat_map (λ i. link_text n i ++ (10 ∷ [])) numbers ++ (flat_map (λ i. bit_text n i ++ (10 ∷ [])) numbers ++ t))) (text-flat_map (node_section n) numbers))))))
