-- What is found of a line of the frame.
use Rattle.std.proofs.Common.{◌≡◌, ℕ, suc, ◌+◌, ◌≤◌, Bool, true, false, not, List, [], ◌∷◌, length, map, drop, Option, Some, None, Result, Ok, Err, option_map, refl, sym, ap, ◌∙◌, nat_lt, cond, append-nil, arith}
use Rattle.std.specs.Prelude.{insert, if◌then◌else◌, ◌++◌, option_to_list}
use Rattle.std.specs.List.{prefix_len}
use Rattle.std.proofs.lemmas.Bool.{cond-true, cond-false}
use Rattle.xs_text.specs.Bytes.{all_allowed}
use Rattle.xs_text.specs.Lines.{lines_of}
use Rattle.xs_text.specs.Words.{words_of_line}
use Rattle.system_model.specs.declared.SysKind.{SysKind}
use Rattle.system_model.specs.declared.SysKind.TheVariants.{FirstLine, BadLine, NumberOutOfRange}
use Rattle.system_model.specs.declared.frame_line.FrameLine.{FrameLine}
use Rattle.system_model.specs.declared.frame_line.FrameLine.TheVariants.{Node, Link, Bit, Wire, Section, Step}
use Rattle.system_model.specs.declared.frame_line.GivenNode.{GivenNode}
use Rattle.system_model.specs.declared.frame_line.PlayLine.{PlayLine}
use Rattle.system_model.specs.declared.frame_line.SectionKind.{SectionKind}
use Rattle.system_model.specs.declared.frame_line.SectionKind.TheVariants.{Play}
use Rattle.system_model.specs.FrameLines.{edition_of_header, is_end, frame_line, play_line, are_numbers_in_range}
use Rattle.system_model.specs.Frame.{SectionText, Given, FrameSays, End, Blank, Header, NoHeader, Form, says_header, says_in_frame, says_in_play, says_by, says_form, says, is_empty, fault_of, first_that_holds, tests, put_by_number}
use Rattle.system_model.specs.System.{section_lines}
use Rattle.system_text.specs.Forms.{ranged, formed}
use Rattle.system_text.specs.Judged.{later_fault, said_by, IsFormless, IsFormOf, IsPlaying}
use Rattle.system_text.specs.Sections.{play_from}
use Rattle.system_text.specs.Steps.{stepped}
use Rattle.system_text.specs.declared.frame.Said.{Said}
use Rattle.system_text.specs.declared.frame.Said.TheVariants as said
use Rattle.system_text.proofs.Lists.{none_left}

abbrev lesser : ℕ → GivenNode → Bool
lesser number node = nat_lt node.number number

put_by : (b : Bool) (node n : GivenNode) (ns : List GivenNode) (k : ℕ) → put_by_number node ns ≡ insert ns k node
    → cond b (n ∷ put_by_number node ns) (node ∷ (n ∷ ns)) ≡ insert (n ∷ ns) (cond b (1 + k) 0) node
put_by true node n ns k h = let one : 1 + k ≡ suc k = omega arith in rw one (ap (λ xs. n ∷ xs) h)
put_by false node n ns k h = refl

pub put_is : (node : GivenNode) (nodes : List GivenNode) → put_by_number node nodes ≡ insert nodes (prefix_len (λ n. nat_lt n.number node.number) nodes) node
put_is node [] = refl
put_is node (n ∷ ns) = put_by (nat_lt n.number node.number) node n ns (prefix_len (lesser node.number) ns) (put_is node ns)

-- one more node, as the model has it
pub node_added : (given now : Given) (node : GivenNode) (nodes : List GivenNode) (place : ℕ) → given ≡ now
    → place ≡ prefix_len (λ n. nat_lt n.number node.number) given.nodes → nodes ≡ insert given.nodes place node
    → record given { nodes = nodes } ≡ record now { nodes = put_by_number node now.nodes }
node_added given now node nodes place e p h =
    ap (λ ns. record given { nodes = ns }) (h ∙ (ap (λ k. insert given.nodes k node) p ∙ sym (put_is node given.nodes)))
    ∙ ap (λ (g : Given). record g { nodes = put_by_number node g.nodes }) e

-- The fault of a line by whether its bytes are allowed, and by what it says

abbrev pub fault_by : Given → Bool → FrameSays → Option SysKind
fault_by given allowed said = first_that_holds (tests given allowed said)

pub fault_is : (given : Given) (l : List ℕ) (allowed : Bool) (said : FrameSays) → all_allowed l ≡ allowed → says given l ≡ said → fault_of given l ≡ fault_by given allowed said
fault_is given l allowed said a s = ap (λ b. fault_by given b (says given l)) a ∙ ap (λ x. fault_by given allowed x) s

says_outside : (given : Given) (l : List ℕ) → given.reading ≡ None → says given l ≡ says_in_frame given.edition (words_of_line l)
says_outside given l e = ap (λ r. says_by given.edition r l) e

blank_by : (edition : Option ℕ) (words : List (List ℕ)) → is_empty words ≡ true → says_in_frame edition words ≡ Blank
blank_by edition [] e = refl
blank_by edition (w ∷ ws) e = cc

pub blank_outside : (given : Given) (l : List ℕ) → given.reading ≡ None → is_empty (words_of_line l) ≡ true → says given l ≡ Blank
blank_outside given l r e = says_outside given l r ∙ blank_by given.edition (words_of_line l) e

-- in the section `play`

says_playing : (given : Given) (l : List ℕ) → IsPlaying given → says given l ≡ (if is_end l then End else says_in_play (words_of_line l))
says_playing given l p = ap (λ r. says_by given.edition r l) p.1

pub end_playing : (given : Given) (l : List ℕ) → IsPlaying given → is_end l ≡ true → says given l ≡ End
end_playing given l p e = says_playing given l p ∙ cond-true _ _ _ e

play_blank : (words : List (List ℕ)) → is_empty words ≡ true → says_in_play words ≡ Blank
play_blank [] e = refl
play_blank (w ∷ ws) e = cc

pub blank_playing : (given : Given) (l : List ℕ) → IsPlaying given → is_end l ≡ false → is_empty (words_of_line l) ≡ true → says given l ≡ Blank
blank_playing given l p e b = says_playing given l p ∙ (cond-false _ _ _ e ∙ play_blank (words_of_line l) b)

play_form : (words : List (List ℕ)) → is_empty words ≡ false → says_in_play words ≡ says_form (option_map (λ (x : PlayLine). Step x) (play_line words))
play_form [] e = cc
play_form (w ∷ ws) e = refl

pub form_playing : (given : Given) (l : List ℕ) (read : Result FrameLine SysKind) → IsPlaying given → is_end l ≡ false → is_empty (words_of_line l) ≡ false
    → read ≡ stepped (play_line (words_of_line l)) → IsFormOf given l read
form_playing given l read p e b h = record {
  form = option_map (λ (x : PlayLine). Step x) (play_line (words_of_line l));
  taken = h;
  said = says_playing given l p ∙ (cond-false _ _ _ e ∙ play_form (words_of_line l) b);
}

-- a line that has no fault but by its bytes
formless : (given : Given) (allowed : Bool) (what : Said) → IsFormless what → fault_by given allowed (said_by what) ≡ cond allowed None (Some BadLine)
formless given true said.End k = refl
formless given false said.End k = refl
formless given true said.Blank k = refl
formless given false said.Blank k = refl
formless given true (said.Header edition) k = refl
formless given false (said.Header edition) k = refl
formless given allowed (said.Form form) k = absurd k

pub bytes_allowed : (given : Given) (l : List ℕ) (what : Said) → IsFormless what → says given l ≡ said_by what → all_allowed l ≡ true
    → (fault_of given l ≡ None) × (says given l ≡ said_by what)
bytes_allowed given l what k s a = (fault_is given l true (said_by what) a s ∙ formless given true what k, s)

pub bytes_refused : (given : Given) (l : List ℕ) (what : Said) → IsFormless what → says given l ≡ said_by what → all_allowed l ≡ false → fault_of given l ≡ Some BadLine
bytes_refused given l what k s a = fault_is given l false (said_by what) a s ∙ formless given false what k

first_by : (words : List (List ℕ)) (header : Option ℕ) → is_empty words ≡ false → edition_of_header words ≡ header → says_in_frame None words ≡ says_header header
first_by [] header e h = cc
first_by (w ∷ ws) header e h = ap (λ (o : Option ℕ). says_header o) h

first_said : (given : Given) (l : List ℕ) (header : Option ℕ) → given.edition ≡ None → given.reading ≡ None → is_empty (words_of_line l) ≡ false
    → edition_of_header (words_of_line l) ≡ header → says given l ≡ says_header header
first_said given l header b r e h = says_outside given l r ∙ (ap (λ x. says_in_frame x (words_of_line l)) b ∙ first_by (words_of_line l) header e h)

no_header_by : (given : Given) (allowed : Bool) → fault_by given allowed NoHeader ≡ Some FirstLine
no_header_by given allowed = refl

pub no_header : (given : Given) (l : List ℕ) → given.edition ≡ None → given.reading ≡ None → is_empty (words_of_line l) ≡ false → edition_of_header (words_of_line l) ≡ None → fault_of given l ≡ Some FirstLine
no_header given l b r e h = fault_is given l (all_allowed l) NoHeader refl (first_said given l None b r e h)

pub header_refused : (given : Given) (l : List ℕ) (edition : ℕ) → given.edition ≡ None → given.reading ≡ None → is_empty (words_of_line l) ≡ false
    → edition_of_header (words_of_line l) ≡ Some edition → all_allowed l ≡ false → fault_of given l ≡ Some BadLine
header_refused given l edition b r e h a = fault_is given l false (Header edition) a (first_said given l (Some edition) b r e h)

pub header_allowed : (given : Given) (l : List ℕ) (edition : ℕ) → given.edition ≡ None → given.reading ≡ None → is_empty (words_of_line l) ≡ false
    → edition_of_header (words_of_line l) ≡ Some edition → all_allowed l ≡ true → (fault_of given l ≡ None) × (says given l ≡ Header edition)
header_allowed given l edition b r e h a = let is = first_said given l (Some edition) b r e h in (fault_is given l true (Header edition) a is, is)

form_by : (edition : ℕ) (words : List (List ℕ)) → is_empty words ≡ false → says_in_frame (Some edition) words ≡ says_form (frame_line edition words)
form_by edition [] e = cc
form_by edition (w ∷ ws) e = refl

form_said : (given : Given) (l : List ℕ) (edition : ℕ) → given.edition ≡ Some edition → given.reading ≡ None → is_empty (words_of_line l) ≡ false → says given l ≡ says_form (frame_line edition (words_of_line l))
form_said given l edition b r e = says_outside given l r ∙ (ap (λ x. says_in_frame x (words_of_line l)) b ∙ form_by edition (words_of_line l) e)

bad_form : (given : Given) (o : Option FrameLine) → fault_by given false (says_form o) ≡ Some BadLine
bad_form given None = refl
bad_form given (Some (Node node)) = refl
bad_form given (Some (Link link)) = refl
bad_form given (Some (Bit bit)) = refl
bad_form given (Some (Wire wire)) = refl
bad_form given (Some (Section kind)) = refl
bad_form given (Some (Step step)) = refl

pub form_outside : (given : Given) (l : List ℕ) (read : Result FrameLine SysKind) (edition : ℕ) → given.edition ≡ Some edition → given.reading ≡ None → is_empty (words_of_line l) ≡ false
    → read ≡ formed (frame_line edition (words_of_line l)) → IsFormOf given l read
form_outside given l read edition b r e h = record { form = frame_line edition (words_of_line l); taken = h; said = form_said given l edition b r e }

pub form_not_allowed : (given : Given) (l : List ℕ) (read : Result FrameLine SysKind) → IsFormOf given l read → all_allowed l ≡ false → fault_of given l ≡ Some BadLine
form_not_allowed given l read f a = fault_is given l false _ a f.said ∙ bad_form given f.form

-- the test on numbers, before the others
abbrev checked : Bool → Option SysKind → Option SysKind
checked range later = if not range then Some NumberOutOfRange else later

checked_refused : (range : Bool) (f : FrameLine) (later : Option SysKind) (kind : SysKind) → Err kind ≡ ranged range f → checked range later ≡ Some kind
checked_refused false f later kind e = cc
checked_refused true f later kind e = cc

checked_good : (range : Bool) (f form : FrameLine) (later : Option SysKind) → Ok form ≡ ranged range f → (checked range later ≡ later) × (f ≡ form)
checked_good false f form later e = absurd cc
checked_good true f form later e = (refl, cc)

refused_by : (given : Given) (o : Option FrameLine) (kind : SysKind) → Err kind ≡ formed o → fault_by given true (says_form o) ≡ Some kind
refused_by given None kind e = cc
refused_by given (Some f) kind e = checked_refused (are_numbers_in_range f) f (later_fault given f) kind e

-- the fault of a line whose form and numbers are good
record IsGood (given : Given) (o : Option FrameLine) (form : FrameLine) : Type 0 where
  pub fault : fault_by given true (says_form o) ≡ later_fault given form
  pub said : says_form o ≡ Form form

good : (given : Given) (o : Option FrameLine) (form : FrameLine) → Ok form ≡ formed o → IsGood given o form
good given None form e = absurd cc
good given (Some f) form e =
    let both = checked_good (are_numbers_in_range f) f form (later_fault given f) e in
    record { fault = both.0 ∙ ap (λ x. later_fault given x) both.1; said = ap (λ x. Form x) both.1 }

pub form_refused : (given : Given) (l : List ℕ) (read : Result FrameLine SysKind) (kind : SysKind) → IsFormOf given l read → all_allowed l ≡ true → read ≡ Err kind
    → fault_of given l ≡ Some kind
form_refused given l read kind f a e = fault_is given l true _ a f.said ∙ refused_by given f.form kind (sym e ∙ f.taken)

pub form_faulty : (given : Given) (l : List ℕ) (read : Result FrameLine SysKind) (form : FrameLine) (kind : SysKind) → IsFormOf given l read → all_allowed l ≡ true
    → read ≡ Ok form → Some kind ≡ later_fault given form → fault_of given l ≡ Some kind
form_faulty given l read form kind f a e k =
    let is = good given f.form form (sym e ∙ f.taken) in
    fault_is given l true _ a f.said ∙ (is.fault ∙ sym k)

pub form_good : (given : Given) (l : List ℕ) (read : Result FrameLine SysKind) (form : FrameLine) → IsFormOf given l read → all_allowed l ≡ true → read ≡ Ok form
    → None ≡ later_fault given form → (fault_of given l ≡ None) × (says given l ≡ Form form)
form_good given l read form f a e k =
    let is = good given f.form form (sym e ∙ f.taken) in
    (fault_is given l true _ a f.said ∙ (is.fault ∙ sym k), f.said ∙ is.said)

lines_of-none : lines_of [] ≡ []
unfolding lines_of
lines_of-none = refl

-- no section is left to be looked at
pub no_section_left : {X : Type 0} (f : X → SectionText) (xs : List X) (i : ℕ) (kind : SectionKind) → length xs ≤ i → lines_of [] ≡ section_lines (map f (drop i xs)) kind
no_section_left f xs i kind h = lines_of-none ∙ sym (ap (λ ys. section_lines (map f ys) kind) (none_left xs i h))

-- The end of the section `play`

pub play_ended : (given now : Given) (line : ℕ) (sections : List SectionText) → given ≡ now → given.reading ≡ Some (play_from line)
    → sections ≡ given.sections ++ play_from line ∷ []
    → record given { sections = sections; reading = None } ≡ record now { sections = now.sections ++ option_to_list now.reading; reading = None }
play_ended given now line sections e r s =
    ap (λ ss. record given { sections = ss; reading = None }) (s ∙ ap (λ (o : Option SectionText). given.sections ++ option_to_list o) (sym r))
    ∙ ap (λ (g : Given). record g { sections = g.sections ++ option_to_list g.reading; reading = None }) e

pub none_ended : (given now : Given) → given ≡ now → given.reading ≡ None
    → given ≡ record now { sections = now.sections ++ option_to_list now.reading; reading = None }
none_ended given now e r =
    let ended : (o : Option SectionText) → o ≡ None → record given { reading = o } ≡ record given { sections = given.sections ++ option_to_list o; reading = None } =
    λ o i. rw (i, append-nil given.sections) refl in
    ended given.reading r ∙ ap (λ (g : Given). record g { sections = g.sections ++ option_to_list g.reading; reading = None }) e

-- one more section, whose text is empty
pub section_added : {X : Type 0} (f : X → SectionText) (xs ys : List X) (x : X) (line : ℕ) → ys ≡ xs ++ x ∷ [] → f x ≡ record { kind = Play; line = line; lines = lines_of [] }
    → map f ys ≡ map f xs ++ play_from line ∷ []
section_added f xs ys x line e k = ap (map f) e ∙ by xs
  where
    last : f x ≡ play_from line
    last = k ∙ ap (λ ls. record { kind = Play; line = line; lines = ls }) lines_of-none

    by : (zs : List _) → map f (zs ++ x ∷ []) ≡ map f zs ++ play_from line ∷ []
    by [] = ap (λ s. s ∷ []) last
    by (z ∷ zs) = ap (λ ss. f z ∷ ss) (by zs)
