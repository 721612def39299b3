-- A line of a frame that has no fault, and what it gives.
use Rattle.std.proofs.Common.{◌≡◌, ℕ, zero, suc, ◌+◌, ◌*◌, ◌<◌, true, false, List, [], ◌∷◌, ◌++◌, map, refl, sym, ap, ◌∙◌, arith, append_assoc}
use Rattle.std.specs.Prelude.{Some, None}
use Rattle.std.specs.List.{range_with_len, flat_map}
use Rattle.std.proofs.lemmas.Bool.{cond-false}
use Rattle.std.proofs.lemmas.List.Concat.{flat_map_single}
use Rattle.std.proofs.Math.Nat.{suc-mul}
use Rattle.xs_text.specs.Bytes.{all_allowed}
use Rattle.system_model.specs.declared.frame_line.FrameLine.{FrameLine}
use Rattle.system_model.specs.FrameLines.{node_line, link_line, bit_line, wire_line, section_line, frame_line}
use Rattle.system_model.specs.Frame.{Given, Form, says, says_in_frame, says_form, first_that_holds, tests, fault_of, given_with, given_after, unless_faulty, frame_from, has_frame_number_out_of_range, names_none, is_given_twice, is_id_twice, is_link_to_itself, is_link_end_twice, is_bit_twice, is_wire_within_node, has_other_widths, is_pin_wired_twice, is_wire_too_many, is_too_many}

-- a line without a fault leads on to what it gives
pub taken : (m : ℕ) (given next : Given) (l : List ℕ) (ls : List (List ℕ)) → fault_of given l ≡ None → given_after m l given ≡ next
    → frame_from m given (l ∷ ls) ≡ frame_from (m + 1) next ls
unfolding frame_from
taken m given next l ls e g =
    ap (λ o. unless_faulty o m (frame_from (m + 1) (given_after m l given) ls)) e ∙ ap (λ s. frame_from (m + 1) s ls) g

-- the tests of a line of a form, none of which holds
pub record NoFault (given : Given) (form : FrameLine) : Type 0 where
  pub range : has_frame_number_out_of_range (Form form) ≡ false
  pub named : names_none given (Form form) ≡ false
  pub once : is_given_twice given (Form form) ≡ false
  pub id_once : is_id_twice given (Form form) ≡ false
  pub to_other : is_link_to_itself (Form form) ≡ false
  pub end_once : is_link_end_twice given (Form form) ≡ false
  pub bit_once : is_bit_twice given (Form form) ≡ false
  pub two_nodes : is_wire_within_node (Form form) ≡ false
  pub one_width : has_other_widths (Form form) ≡ false
  pub pin_once : is_pin_wired_twice given (Form form) ≡ false
  pub few_wires : is_wire_too_many given (Form form) ≡ false
  pub few : is_too_many given (Form form) ≡ false

-- where each test fails none decides
none_holds : (given : Given) (form : FrameLine) → NoFault given form → first_that_holds (tests given true (Form form)) ≡ None
none_holds given form none =
    cond-false _ _ _ none.range ∙ cond-false _ _ _ none.named ∙ cond-false _ _ _ none.once ∙ cond-false _ _ _ none.id_once
    ∙ cond-false _ _ _ none.to_other ∙ cond-false _ _ _ none.end_once ∙ cond-false _ _ _ none.bit_once
    ∙ cond-false _ _ _ none.two_nodes ∙ cond-false _ _ _ none.one_width ∙ cond-false _ _ _ none.pin_once ∙ cond-false _ _ _ none.few_wires
    ∙ cond-false _ _ _ none.few

-- a line of a form that passes them leads on to what the form gives
pub form_taken : (m : ℕ) (given next : Given) (l : List ℕ) (ls : List (List ℕ)) (form : FrameLine) → all_allowed l ≡ true → says given l ≡ Form form
    → NoFault given form → given_with m l (Form form) given ≡ next → frame_from m given (l ∷ ls) ≡ frame_from (m + 1) next ls
form_taken m given next l ls form allowed said none g =
    taken m given next l ls
    (ap (λ b. first_that_holds (tests given b (says given l))) allowed ∙ ap (λ s. first_that_holds (tests given true s)) said ∙ none_holds given form none)
    (ap (λ s. given_with m l s given) said ∙ g)

-- no words are no line of a form
no_words : frame_line 1 [] ≡ None
unfolding frame_line node_line link_line bit_line wire_line section_line
no_words = refl

-- outside of the sections a line after the first line of a load says its form
pub says_its_form : (words : List (List ℕ)) (form : FrameLine) → frame_line 1 words ≡ Some form → says_in_frame (Some 1) words ≡ Form form
says_its_form [] form e = let absent : None ≡ Some form = sym no_words ∙ e in cc
says_its_form (w ∷ ws) form e = ap says_form e

-- blocks of lines that lead from state to state lead from the first state to the last
blocks_taken : (f : ℕ → List (List ℕ)) (st : ℕ → Given) (at : ℕ → ℕ) (c : ℕ) (rest : List (List ℕ))
    → ((i : ℕ) → i < c → (ls : List (List ℕ)) → frame_from (at i) (st i) (f i ++ ls) ≡ frame_from (at (suc i)) (st (suc i)) ls)
    → (a m : ℕ) → a + m ≡ c → frame_from (at a) (st a) (flat_map f (range_with_len a m) ++ rest) ≡ frame_from (at c) (st c) rest
blocks_taken f st at c rest h a zero e = let last : a ≡ c = omega arith in ap (λ k. frame_from (at k) (st k) rest) last
blocks_taken f st at c rest h a (suc m) e =
    let on : a + 1 ≡ suc a = omega arith in
    ap (λ ls. frame_from (at a) (st a) ls) (append_assoc (f a) (flat_map f (range_with_len (a + 1) m)) rest)
    ∙ h a (omega arith) _
    ∙ ap (λ k. frame_from (at (suc a)) (st (suc a)) (flat_map f (range_with_len k m) ++ rest)) on
    ∙ blocks_taken f st at c rest h (suc a) m (omega arith)

-- blocks of so many lines each, the first of which begins at line m
pub blocks_from : (f : ℕ → List (List ℕ)) (st : ℕ → Given) (m many c : ℕ) (rest : List (List ℕ))
    → ((i : ℕ) → i < c → (ls : List (List ℕ)) → frame_from (m + i * many) (st i) (f i ++ ls) ≡ frame_from (m + i * many + many) (st (suc i)) ls)
    → frame_from m (st 0) (flat_map f (range_with_len 0 c) ++ rest) ≡ frame_from (m + c * many) (st c) rest
blocks_from f st m many c rest h =
    let begins : m ≡ m + 0 * many = omega arith in
    ap (λ k. frame_from k (st 0) (flat_map f (range_with_len 0 c) ++ rest)) begins
    ∙ blocks_taken f st (λ i. m + i * many) c rest
    (λ i l ls. h i l ls ∙ ap (λ k. frame_from k (st (suc i)) ls) (next_block i)) 0 c (omega arith)
  where
    next_block : (i : ℕ) → m + i * many + many ≡ m + suc i * many
    next_block i = omega (arith, suc-mul i many)

-- single lines, the first of which is line m
pub lines_from : (f : ℕ → List ℕ) (st : ℕ → Given) (m c : ℕ) (rest : List (List ℕ))
    → ((i : ℕ) → i < c → (ls : List (List ℕ)) → frame_from (m + i) (st i) (f i ∷ ls) ≡ frame_from (m + i + 1) (st (suc i)) ls)
    → frame_from m (st 0) (map f (range_with_len 0 c) ++ rest) ≡ frame_from (m + c) (st c) rest
lines_from f st m c rest h =
    let begins : m ≡ m + 0 = omega arith in
    ap (λ ls. frame_from m (st 0) (ls ++ rest)) (sym (flat_map_single f (range_with_len 0 c)))
    ∙ ap (λ k. frame_from k (st 0) (flat_map (λ i. f i ∷ []) (range_with_len 0 c) ++ rest)) begins
    ∙ blocks_taken (λ i. f i ∷ []) st (λ i. m + i) c rest
    (λ i l ls. h i l ls ∙ ap (λ k. frame_from k (st (suc i)) ls) (next_line i)) 0 c (omega arith)
  where
    next_line : (i : ℕ) → m + i + 1 ≡ m + suc i
    next_line i = omega arith
