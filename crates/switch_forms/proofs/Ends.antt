-- The law of link ends, and that those which have the form are those that a state may have.
use Rattle.std.proofs.Common.{◌≡◌, ℕ, ◌+◌, Bool, true, false, IsTrue, cond, Option, Some, None, List, length, refl, sym, ap}
use Rattle.std.proofs.lemmas.Bool.{eqb-true}
use Rattle.std.specs.Prelude.{slice_index_or}
use Rattle.byte_forms.specs.Forms.{option_of, flag_and_value}
use Rattle.byte_forms.specs.Laws.{Lawful}
use Rattle.switch_forms.specs.Ends.{end_of_fields, fields_of_end, is_there, may_have_sent, is_last, link_end, link_ends}
use Rattle.byte_forms.proofs.Fields.{byte-lawful, word-lawful}
use Rattle.byte_forms.proofs.Parts.{where-lawful, both-lawful, seen-lawful, below-lawful, flag-lawful}
use Rattle.byte_forms.proofs.Lists.{chain-lawful}
use Rattle.state_forms.proofs.Buffers.{buffer-lawful}

-- ---- The law

last_back : (slot : ℕ) (sent : Bool) (last : ℕ) → IsTrue (is_last slot sent last) → flag_and_value (option_of (sent, last)) ≡ (sent, last)
last_back slot true last h = refl
last_back slot false last h = ap (λ (n : ℕ). (false, n)) (sym (eqb-true last 0 h))

last_again : (last : Option ℕ) → option_of (flag_and_value last) ≡ last
last_again None = refl
last_again (Some n) = refl

pub link_end-lawful : (there : Bool) (slot : ℕ) → Lawful (link_end there slot)
unfolding link_end
link_end-lawful there slot =
    seen-lawful end_of_fields fields_of_end
    (both-lawful (where-lawful (is_there there) flag-lawful) (λ present. both-lawful (buffer-lawful there) (λ tokens. both-lawful (below-lawful (cond there (8 + 1) 1) byte-lawful) (λ window.
    both-lawful (where-lawful (may_have_sent there window) flag-lawful) (λ sent. where-lawful (is_last slot sent) word-lawful)))))
    (λ f h. ap (λ last. (f.0, (f.1.0, (f.1.1.0, last)))) (last_back slot f.1.1.1.0 f.1.1.1.1 h.1.1.1.1.1))
    (λ e. ap (λ last. record { present = e.present; buffer = e.buffer; window = e.window; last = last }) (last_again e.last))

pub link_ends-lawful : (there : List Bool) (slot : ℕ) → Lawful (link_ends there slot)
link_ends-lawful there slot = chain-lawful (λ before. link_end-lawful (slice_index_or there (length before) false) slot) 8
