-- What the passes gave is what the source stands for.
use Rattle.std.proofs.Common.{◌≡◌, ℕ, List, None, Result, Ok, Err, refl, sym, ap, ◌∙◌, subst, map}
use Rattle.std.specs.Prelude.{IfOk, IfErr, IsErrAnd}
use Rattle.xs_text.specs.Lines.{lines_of}
use Rattle.xs_instructions.specs.declared.instr.Instr.{Instr}
use Rattle.xs_instructions.specs.Image.{ImageRec, IsImage, Symbol}
use Rattle.source_model.specs.declared.AsmKind.{AsmKind}
use Rattle.source_model.specs.declared.layout.Section.TheVariants.{Data, Constants}
use Rattle.source_model.specs.Statement.{Line, line_of}
use Rattle.source_model.specs.Layout.{Sofar, nothing_yet, whole_of, section_start}
use Rattle.source_model.specs.Source.{Assembled, Image, Fault, first_fault, code_of_lines, bytes_of_lines, image_of, outcome, assembled, bytes_together, symbol_of}
use Rattle.xs_assembler.specs.declared.output.Output.{Output}
use Rattle.xs_assembler.specs.declared.asm_error.AsmError.{AsmError}
use Rattle.xs_assembler.specs.declared.asm_error.AsmError.TheVariants as error
use Rattle.xs_assembler.specs.Assembles.{Assembles, GivesImage, GivesFault, FaultOf, FirstFault}
use Rattle.xs_assembler.specs.Output.{HasLines}
use Rattle.xs_assembler.specs.Passes.{source_lines, image_with}

abbrev made : Sofar → List Instr → List ℕ → List ℕ → ImageRec
made whole code bytes constants = record {
  code = code;
  bytes = bytes_together bytes constants;
  cp_at = section_start whole.layout Constants;
  symbols = map (symbol_of whole.layout) whole.labels;
}

same_image : (whole : Sofar) (lines : List Line) (output : Output) → HasLines whole nothing_yet lines output → image_of whole lines ≡ image_with whole output
same_image whole lines output h =
    sym (ap (λ c. made whole c output.data_bytes.items output.constant_bytes.items) h.code
    ∙ (ap (λ b. made whole (code_of_lines whole nothing_yet lines) b output.constant_bytes.items) h.data_bytes
    ∙ ap (λ k. made whole (code_of_lines whole nothing_yet lines) (bytes_of_lines Data whole nothing_yet lines) k) h.constant_bytes))

-- the parts of an image
pub parts_are : (whole : Sofar) (output : Output) (bytes : List ℕ) (cp_at : ℕ) (symbols : List Symbol) → bytes ≡ bytes_together output.data_bytes.items output.constant_bytes.items
    → cp_at ≡ section_start whole.layout Constants → symbols ≡ map (symbol_of whole.layout) whole.labels
    → record { code = output.code.items; bytes = bytes; cp_at = cp_at; symbols = symbols } ≡ image_with whole output
parts_are whole output bytes cp_at symbols e f g =
    let put : List ℕ → ℕ → List Symbol → ImageRec = λ b c s. record { code = output.code.items; bytes = b; cp_at = c; symbols = s } in
    ap (λ b. put b cp_at symbols) e
    ∙ (ap (λ c. put (bytes_together output.data_bytes.items output.constant_bytes.items) c symbols) f
    ∙ ap (λ s. put (bytes_together output.data_bytes.items output.constant_bytes.items) (section_start whole.layout Constants) s) g)

-- a source without faults
pub stands : (text : List ℕ) (whole : Sofar) (output : Output) (image : ImageRec) → whole ≡ whole_of (source_lines text) → first_fault whole nothing_yet 1 (source_lines text) ≡ None
    → HasLines whole nothing_yet (source_lines text) output → image ≡ image_with whole output → assembled text ≡ Image image
stands text whole output image is none h made =
    let ls = source_lines text in
    ap (λ w. outcome (first_fault w nothing_yet 1 ls) (image_of w ls)) (sym is)
    ∙ (ap (λ o. outcome o (image_of whole ls)) none
    ∙ ap (λ i. Image i) (same_image whole ls output h ∙ sym made))

pub kept : (text : List ℕ) (whole : Sofar) (output : Output) → whole ≡ whole_of (source_lines text) → first_fault whole nothing_yet 1 (source_lines text) ≡ None
    → HasLines whole nothing_yet (source_lines text) output
    → ((ls : List (List ℕ)) → first_fault (whole_of (map line_of ls)) nothing_yet 1 (map line_of ls) ≡ None → IsImage (image_of (whole_of (map line_of ls)) (map line_of ls)))
    → IsImage (image_with whole output)
kept text whole output is none h law =
    let ls = source_lines text in
    let none_of : first_fault (whole_of ls) nothing_yet 1 ls ≡ None = ap (λ w. first_fault w nothing_yet 1 ls) (sym is) ∙ none in
    subst IsImage (ap (λ w. image_of w ls) (sym is) ∙ same_image whole ls output h) (law (lines_of text) none_of)

-- a source with a fault
faulty : (text : List ℕ) (whole : Sofar) (e : AsmError) → whole ≡ whole_of (source_lines text) → FirstFault (first_fault whole nothing_yet 1 (source_lines text)) e → FaultOf (assembled text) e
faulty text whole error.Memory is h = tt
faulty text whole (error.Fault line kind) is h =
    let ls = source_lines text in
    ap (λ w. outcome (first_fault w nothing_yet 1 ls) (image_of w ls)) (sym is) ∙ ap (λ o. outcome o (image_of whole ls)) h

assembles_error : (source : Assembled) (e : AsmError) → FaultOf source e → Assembles source (Err e)
assembles_error source error.Memory h = tt
assembles_error source (error.Fault line kind) h = h

same_err : {T : Type 0} (r : Result T AsmError) (e : AsmError) → IsErrAnd r (λ y. y ≡ e) → r ≡ Err e
same_err (Ok x) e h = absurd h
same_err (Err y) e h = ap (λ z. Err z) h

-- an error that is passed on
pub refuses : (text : List ℕ) (whole : Sofar) (r : Result ImageRec AsmError) (e : AsmError) → whole ≡ whole_of (source_lines text) → FirstFault (first_fault whole nothing_yet 1 (source_lines text)) e
    → IsErrAnd r (λ y. y ≡ e) → Assembles (assembled text) r
refuses text whole r e is h k = subst (Assembles (assembled text)) (sym (same_err r e k)) (assembles_error (assembled text) e (faulty text whole e is h))

-- the other clauses, by this one
pub ok_so : (source : Assembled) (r : Result ImageRec AsmError) → Assembles source r → IfOk r (λ image. source ≡ Image image)
ok_so source (Ok image) h = h
ok_so source (Err e) h = tt

pub fault_so : (source : Assembled) (r : Result ImageRec AsmError) → Assembles source r → IfErr r (FaultOf source)
fault_so source (Ok image) h = tt
fault_so source (Err error.Memory) h = tt
fault_so source (Err (error.Fault line kind)) h = h

pub taken_so : (source : Assembled) (r : Result ImageRec AsmError) → Assembles source r → (image : ImageRec) → source ≡ Image image → GivesImage image r
taken_so source (Ok given) h image e = cc
taken_so source (Err error.Memory) h image e = refl
taken_so source (Err (error.Fault line kind)) h image e = cc

pub refused_so : (source : Assembled) (r : Result ImageRec AsmError) → Assembles source r → (line : ℕ) (kind : AsmKind) → source ≡ Fault line kind → GivesFault line kind r
refused_so source (Ok given) h line kind e = cc
refused_so source (Err error.Memory) h line kind e = tt
refused_so source (Err (error.Fault at why)) h line kind e =
    let same : Fault at why ≡ Fault line kind = sym h ∙ e in
    let a : at ≡ line = cc in
    let b : why ≡ kind = cc in
    (a, b)
