-- What is read where so many bytes are asked for, or nothing.
use Rattle.std.proofs.Common.{◌≡◌, ℕ, ◌<◌, true, false, List, length, take, drop, Option, Some, None, IfSome, sym, ap, ◌∙◌, subst, arith, refl, inl}
use Rattle.std.proofs.lemmas.List.{length-take}
use Rattle.std.proofs.Math.Seq.{drop-append_seam}
use Rattle.std.specs.Io.KnownBytes.{Consumes}
use Rattle.program_calls.specs.Asked.{Asked, AsksFor, IsCoherent, taken}
use Rattle.program_calls.specs.Call.{TookInput}
use Rattle.program_calls.specs.Input.{most_of, reads_of}
use Rattle.program_calls.specs.Reads.{ReadGives, ReadsAtMost}
use Rattle.program_calls.proofs.Pieces.{take_min}

-- what is asked for is something
pub asks-some : (asked : Asked) (asks : Option ℕ) → IsCoherent asked → AsksFor asked asks → IfSome asks (λ most. 0 < most)
asks-some asked None coherent is = tt
asks-some asked (Some most) coherent is = subst (λ most. 0 < most) is.1 (coherent.some is.0)

most-asked : (asked : Asked) (asks : Option ℕ) → IsCoherent asked → AsksFor asked asks → most_of asks ≡ asked.most
most-asked asked None coherent is = sym (coherent.nothing is)
most-asked asked (Some most) coherent is = sym is.1

-- the bytes that are taken
pub taken-asked : (asked : Asked) (asks : Option ℕ) (left : Option (List ℕ)) (bytes : List ℕ) → IsCoherent asked → AsksFor asked asks
    → IfSome left (λ input. bytes ≡ take (most_of asks) input) → IfSome left (λ input. bytes ≡ take (taken asked input) input)
taken-asked asked asks None bytes coherent is front = tt
taken-asked asked asks (Some input) bytes coherent is front =
    front ∙ (ap (λ most. take most input) (most-asked asked asks coherent is) ∙ sym (take_min asked.most input))

-- no read is made
pub nothing_read : {S : Type 0} (gives : ReadGives S) (asked : Asked) (source : S) → IsCoherent asked → ReadsAtMost gives asked.most_reads source source
nothing_read gives asked source coherent = (0, coherent.some_reads, 0, source, (refl, refl), inl refl)

-- the reads that are made
pub reads-asked : {S : Type 0} (gives : ReadGives S) (asked : Asked) (asks : Option ℕ) (from to : S) → IsCoherent asked → AsksFor asked asks
    → ReadsAtMost gives (reads_of asks) from to → (asks ≡ None → to ≡ from) → ReadsAtMost gives asked.most_reads from to
reads-asked gives asked None from to coherent is reads none =
    subst (λ to. ReadsAtMost gives asked.most_reads from to) (sym (none refl)) (nothing_read gives asked from coherent)
reads-asked gives asked (Some most) from to coherent is reads none =
    subst (λ most. ReadsAtMost gives most from to) (sym (coherent.reads is.0 ∙ is.1)) reads

-- where the input isn't asked for, nothing is read
pub unread : {S : Type 0} (asked : Asked) (asks : Option ℕ) (from to : S) → AsksFor asked asks → (asks ≡ None → to ≡ from) → asked.asks ≡ false → to ≡ from
unread asked None from to is none unasked = none refl
unread asked (Some most) from to is none unasked = let apart : true ≡ false = sym is.0 ∙ unasked in absurd cc

-- the input is taken
pub TookInput-read : (asked : Asked) (left after : Option (List ℕ)) (bytes : List ℕ)
    → IfSome left (λ input. bytes ≡ take (taken asked input) input) → Consumes left after bytes → TookInput asked left after
TookInput-read asked (Some input) (Some rest) bytes front took =
    let count : taken asked input ≡ length bytes = omega (arith, ap length front, length-take (taken asked input) input) in
    let after : drop (length bytes) input ≡ rest = ap (drop (length bytes)) took ∙ drop-append_seam bytes rest in
    sym (ap (λ n. drop n input) count ∙ after)
TookInput-read asked (Some input) None bytes front took = absurd took
TookInput-read asked None after bytes front took = tt

-- of what isn't asked for nothing is taken
pub TookInput-none : (asked : Asked) (left : Option (List ℕ)) → asked.most ≡ 0 → TookInput asked left left
TookInput-none asked (Some input) none =
    let no_bytes : taken asked input ≡ 0 = omega (arith, none) in
    sym (ap (λ n. drop n input) no_bytes)
TookInput-none asked None none = tt
