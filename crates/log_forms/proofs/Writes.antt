-- What is written of a log asks for no facts.
use Rattle.std.proofs.Common.{◌≡◌, ℕ, ◌+◌, ◌<◌, Option, None, List, [], ◌∷◌, ◌++◌, length, get_or, take, drop, refl, ap, subst, append_assoc}
use Rattle.std.specs.List.{last_or}
use Rattle.std.proofs.lemmas.List.{take_more, drop_more}
use Rattle.xs_base.specs.Numbers.{Slot}
use Rattle.xs_base.specs.declared.entry.Entry.{Entry}
use Rattle.byte_forms.specs.Forms.{Form, word, long, write_chain}
use Rattle.byte_forms.proofs.Lists.{writes_on}
use Rattle.log_forms.specs.Entries.{any_entry, before_of, link_slot, link_value, level, wire_slot, wire_kind, wire_entry}
use Rattle.log_forms.specs.Windows.{EndsRec, link_count, link_kind, link_entry}
use Rattle.snap_parts.specs.Parts.{LogRec}
use Rattle.log_forms.specs.Logs.{sums, link_log, wire_log}

-- the bytes of elements whose forms write them alike
any_chain : {A : Type 0} (form : List A → Form A) (f : Form A) → ((before : List A) (x : A) → (form before).write x ≡ f.write x)
    → (before other xs : List A) → write_chain form before xs ≡ write_chain (λ before. f) other xs
unfolding write_chain
any_chain form f alike before other [] = refl
any_chain form f alike before other (x ∷ xs) =
    rw (alike before x) (ap (λ (bytes : List ℕ). f.write x ++ bytes) (any_chain form f alike (before ++ x ∷ []) (other ++ x ∷ []) xs))

abbrev pub entries_bytes : List Entry → List ℕ
entries_bytes entries = write_chain (λ before. any_entry) [] entries

-- a count, entries, and what was sent and has arrived
abbrev pub log_bytes : LogRec → List ℕ
log_bytes log = (word.write (length log.entries) ++ entries_bytes log.entries) ++ (long.write log.tokens ++ (long.write log.credits ++ word.write log.level))

link_entry_bytes : (slot : Slot) (delay : ℕ) (ends : Option EndsRec) (count : ℕ) (before : List Entry) (e : Entry)
    → (link_entry slot delay ends count (before_of before)).write e ≡ any_entry.write e
unfolding link_entry link_slot link_kind link_value
link_entry_bytes slot delay ends count before e = refl

wire_entry_bytes : (slot : Slot) (delay width : ℕ) (last : Option Entry) (e : Entry) → (wire_entry slot delay width last).write e ≡ any_entry.write e
unfolding wire_entry wire_slot wire_kind level
wire_entry_bytes slot delay width last e = refl

pub link_bytes : (slot : Slot) (delay : ℕ) (ends : Option EndsRec) (log : LogRec) → (link_log slot delay ends).write log ≡ log_bytes log
unfolding link_log link_count sums
link_bytes slot delay ends log =
    ap (λ (bytes : List ℕ). (word.write (length log.entries) ++ bytes) ++ (long.write log.tokens ++ (long.write log.credits ++ word.write log.level)))
    (any_chain (λ before. link_entry slot delay ends (length log.entries) (before_of before)) any_entry
    (link_entry_bytes slot delay ends (length log.entries)) [] [] log.entries)

pub wire_bytes : (slot : Slot) (delay width : ℕ) (log : LogRec) → (wire_log slot delay width).write log ≡ log_bytes log
unfolding wire_log sums
wire_bytes slot delay width log =
    ap (λ (bytes : List ℕ). (word.write (length log.entries) ++ bytes) ++ (long.write log.tokens ++ (long.write log.credits ++ word.write log.level)))
    (any_chain (λ before. wire_entry slot delay width (last_or None before)) any_entry (λ before. wire_entry_bytes slot delay width (last_or None before)) [] [] log.entries)

-- a step of the loop that writes entries
pub writes_more : (out new : List ℕ) (entries : List Entry) (i : ℕ) (d : Entry) (total : List ℕ) → i < length entries → new ≡ out ++ any_entry.write (get_or entries i d)
    → out ++ write_chain (λ before. any_entry) (take i entries) (drop i entries) ≡ total
    → new ++ write_chain (λ before. any_entry) (take (i + 1) entries) (drop (i + 1) entries) ≡ total
writes_more out new entries i d total lt e so_far =
    let more = rw (drop_more entries i d lt) at so_far in
    rw (e, take_more entries i d lt) (writes_on (λ (before : List Entry). any_entry) out (take i entries) (get_or entries i d) (drop (i + 1) entries) total more)

-- five parts that were written one after another
abbrev five_parts : (a b c d e : List ℕ) → List ℕ
five_parts a b c d e = (a ++ b) ++ (c ++ (d ++ e))

joined : (out a b c d e one two three four five : List ℕ) → one ≡ out ++ a → two ≡ one ++ b → three ≡ two ++ c → four ≡ three ++ d → five ≡ four ++ e
    → five ≡ out ++ five_parts a b c d e
joined out a b c d e one two three four five h1 h2 h3 h4 h5 = rw (h5, h4, h3, h2, h1) (simp append_assoc)

-- the count of a log, its entries, and what was sent and has arrived, written one after another
pub log_written : (out : List ℕ) (log : LogRec) (entries : List Entry) (one two three four five : List ℕ) → entries ≡ log.entries
    → one ≡ out ++ word.write (length entries)
    → two ≡ one ++ write_chain (λ before. any_entry) [] entries
    → three ≡ two ++ long.write log.tokens → four ≡ three ++ long.write log.credits → five ≡ four ++ word.write log.level
    → five ≡ out ++ log_bytes log
log_written out log entries one two three four five same h1 h2 h3 h4 h5 =
    let g1 : one ≡ out ++ word.write (length log.entries) = subst (λ (es : List Entry). one ≡ out ++ word.write (length es)) same h1 in
    let g2 : two ≡ one ++ entries_bytes log.entries = subst (λ (es : List Entry). two ≡ one ++ entries_bytes es) same h2 in
    joined out (word.write (length log.entries)) (entries_bytes log.entries) (long.write log.tokens) (long.write log.credits) (word.write log.level)
    one two three four five g1 g2 h3 h4 h5
