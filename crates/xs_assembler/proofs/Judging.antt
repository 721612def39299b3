-- A line without faults adds what its content is.
use Rattle.std.proofs.Common.{◌≡◌, ℕ, Bool, true, false, cond, List, [], ◌++◌, Option, Some, None, if◌then◌else◌, refl, sym, ap, ◌∙◌, subst}
use Rattle.std.specs.Prelude.{find, IfSome}
use Rattle.xs_instructions.specs.declared.instr.Instr.{Instr}
use Rattle.source_model.specs.declared.AsmKind.{AsmKind}
use Rattle.source_model.specs.declared.AsmKind.TheVariants.{BadByte, LabelTwice, DirectiveNotAllowed, UnknownName, WrongOperands, NumberOutOfRange}
use Rattle.source_model.specs.declared.layout.Section.{Section}
use Rattle.source_model.specs.declared.layout.Section.TheVariants.{Text, Data, Constants}
use Rattle.source_model.specs.declared.layout.Layout.{Layout}
use Rattle.source_model.specs.Statement as model
use Rattle.source_model.specs.Statement.{Says, Line}
use Rattle.source_model.specs.Layout.{Sofar, section_length}
use Rattle.source_model.specs.Source.{has_kind, order, fault_of_line, is_out_of_range, code_of, bytes_of, same_section}
use Rattle.xs_assembler.specs.declared.contents.Resolved.{Resolved}
use Rattle.xs_assembler.specs.declared.statement.Statement.{Statement}
use Rattle.xs_assembler.specs.declared.output.Output.{Output}
use Rattle.xs_assembler.specs.Contents.{code_in, bytes_in, Resolves}
use Rattle.xs_assembler.specs.Statements.{says_of, statement_of}
use Rattle.xs_assembler.specs.Output.{if_in, Grows, HasLine}

cond_none : {X : Type 0} (b : Bool) (x : X) (o : Option X) → cond b (Some x) o ≡ None → (b ≡ false) × (o ≡ None)
cond_none true x o e = cc
cond_none false x o e = (refl, e)

none_at : (p : AsmKind → Bool) → find p order ≡ None → p NumberOutOfRange ≡ false
none_at p e =
    let a = cond_none (p BadByte) BadByte _ e in
    let b = cond_none (p LabelTwice) LabelTwice _ a.1 in
    let c = cond_none (p DirectiveNotAllowed) DirectiveNotAllowed _ b.1 in
    let d = cond_none (p UnknownName) UnknownName _ c.1 in
    let f = cond_none (p WrongOperands) WrongOperands _ d.1 in
    (cond_none (p NumberOutOfRange) NumberOutOfRange _ f.1).0

none_out : (whole before : Sofar) (line : Line) → fault_of_line whole before line ≡ None → is_out_of_range whole line.statement.says ≡ false
none_out whole before line e = none_at (λ k. has_kind k whole before line) e

code_at : (whole : Sofar) (layout : Layout) (section : Section) (says : Says) (xs : List Instr) → xs ≡ code_of whole (section_length layout section) says
    → if_in Text section xs ≡ (if same_section Text section then code_of whole layout.instructions says else [])
code_at whole layout Text says xs e = e
code_at whole layout Data says xs e = refl
code_at whole layout Constants says xs e = refl

data_at : (whole : Sofar) (layout : Layout) (section : Section) (says : Says) (xs : List ℕ) → xs ≡ bytes_of whole (section_length layout section) says
    → if_in Data section xs ≡ (if same_section Data section then bytes_of whole layout.data_bytes says else [])
data_at whole layout Text says xs e = refl
data_at whole layout Data says xs e = e
data_at whole layout Constants says xs e = refl

constants_at : (whole : Sofar) (layout : Layout) (section : Section) (says : Says) (xs : List ℕ) → xs ≡ bytes_of whole (section_length layout section) says
    → if_in Constants section xs ≡ (if same_section Constants section then bytes_of whole layout.constant_bytes says else [])
constants_at whole layout Text says xs e = refl
constants_at whole layout Data says xs e = refl
constants_at whole layout Constants says xs e = e

abbrev pub GrowsBy : Layout → Output → Output → Resolved → Type 0
GrowsBy layout old new resolved = Grows layout.section (code_in (section_length layout layout.section) resolved.content) (bytes_in (section_length layout layout.section) resolved.content) old new

-- what was put is what the line adds
has_line_of : (whole before : Sofar) (line : Line) (resolved : Option Resolved) (old new : Output) → Resolves whole line.statement.says resolved → fault_of_line whole before line ≡ None
    → IfSome resolved (GrowsBy before.layout old new) → HasLine whole before line old new
has_line_of whole before line None old new h e k = let f : is_out_of_range whole line.statement.says ≡ false = none_out whole before line e in cc
has_line_of whole before line (Some resolved) old new h e k =
    let long = section_length before.layout before.layout.section in
    record {
      code = k.code ∙ ap (λ xs. old.code.items ++ xs) (code_at whole before.layout before.layout.section line.statement.says (code_in long resolved.content) (h.2 long));
      data_bytes = k.data_bytes ∙ ap (λ xs. old.data_bytes.items ++ xs) (data_at whole before.layout before.layout.section line.statement.says (bytes_in long resolved.content) (h.3 long));
      constant_bytes = k.constant_bytes ∙ ap (λ xs. old.constant_bytes.items ++ xs) (constants_at whole before.layout before.layout.section line.statement.says (bytes_in long resolved.content) (h.3 long));
    }

-- a statement that was found resolves as the line's
pub resolves_line : (whole : Sofar) (line : Line) (statement : Statement) (resolved : Option Resolved) → statement_of statement ≡ line.statement → Resolves whole (says_of statement.says) resolved → Resolves whole line.statement.says resolved
resolves_line whole line statement resolved e h = let P : model.Statement → Type 0 = λ s. Resolves whole s.says resolved in subst P e h

pub has_line : (whole before : Sofar) (line : Line) (statement : Statement) (resolved : Option Resolved) (old new : Output) → statement_of statement ≡ line.statement → Resolves whole (says_of statement.says) resolved → None ≡ fault_of_line whole before line
    → IfSome resolved (GrowsBy before.layout old new) → HasLine whole before line old new
has_line whole before line statement resolved old new is h e k = has_line_of whole before line resolved old new (resolves_line whole line statement resolved is h) (sym e) k
