-- The law of the inputs of the switch, and that those which have the form are those that a node may have.
use Rattle.std.proofs.Common.{◌≡◌, ℕ, zero, suc, ◌*◌, ◌/◌, ◌%◌, Bool, ◌&&◌, IsTrue, eqb, ltb, List, ◌++◌, length, Ok, refl, sym, ap, subst, arith, inl, inr}
use Rattle.std.proofs.lemmas.Bool.{eqb-true, ltb-true, and_parts}
use Rattle.switch_routes.specs.declared.state.InputState.{InputState}
use Rattle.switch_forms.specs.declared.input.Tag.{Tag}
use Rattle.switch_forms.specs.declared.input.Tag.TheVariants as tag
use Rattle.byte_forms.specs.Forms.{Form}
use Rattle.byte_forms.specs.Laws.{Lawful}
use Rattle.switch_forms.specs.Inputs.{number_of, tag_of, may_be_at, tag_at, is_operand, is_dest, is_net, InputFields, input_said, input_of_fields, fields_of_input, input_fields, input, inputs}
use Rattle.byte_forms.proofs.Steps.{ok_is, bind_ok, bind_err}
use Rattle.byte_forms.proofs.Fields.{byte-lawful, word-lawful}
use Rattle.byte_forms.proofs.Parts.{where-lawful, both-lawful, seen-lawful, told-lawful, below-lawful}
use Rattle.byte_forms.proofs.Lists.{chain-lawful}

-- ---- The law

-- `to` and `from` lead back to where they began, of the values of the form
tag_back : (n : ℕ) → IsTrue (ltb n 7) → number_of (tag_of n) ≡ n
tag_back zero h = refl
tag_back (suc zero) h = refl
tag_back (suc (suc zero)) h = refl
tag_back (suc (suc (suc zero))) h = refl
tag_back (suc (suc (suc (suc zero)))) h = refl
tag_back (suc (suc (suc (suc (suc zero))))) h = refl
tag_back (suc (suc (suc (suc (suc (suc zero)))))) h = refl
tag_back (suc (suc (suc (suc (suc (suc (suc n))))))) h = absurd (omega (arith, ltb-true (suc (suc (suc (suc (suc (suc (suc n))))))) 7 h))

tag_again : (t : Tag) → tag_of (number_of t) ≡ t
tag_again tag.Idle = refl
tag_again tag.Head1 = refl
tag_again tag.Head2 = refl
tag_again tag.Want = refl
tag_again tag.Local = refl
tag_again tag.Out = refl
tag_again tag.Lost = refl

pub tag-lawful : (place : ℕ) → Lawful (tag_at place)
unfolding tag_at
tag-lawful place = where-lawful (may_be_at place) (seen-lawful tag_of number_of (below-lawful 7 byte-lawful) (λ n h. tag_back n h.1) tag_again)

abbrev fields : Tag → ℕ → ℕ → ℕ → InputFields
fields t n dest net = (t, (n, (dest, net)))

same : (t : Tag) {n dest net m to by : ℕ} → n ≡ m → dest ≡ to → net ≡ by → fields t n dest net ≡ fields t m to by
same t en ed eb = rw (en, ed, eb) refl

zero_of : (n : ℕ) → IsTrue (eqb n 0) → 0 ≡ n
zero_of n h = sym (eqb-true n 0 h)

first_back : (n : ℕ) → IsTrue (ltb n 65536 && eqb (n % 256) 0) → n / 256 * 256 ≡ n
first_back n h = let low = eqb-true (n % 256) 0 (and_parts (ltb n 65536) (eqb (n % 256) 0) h).1 in omega arith

said_back : (used there : List Bool) (before : List InputState) (t : Tag) (n dest net : ℕ) → IsTrue (is_operand used there before t n) → IsTrue (is_dest t dest) → IsTrue (is_net t net)
    → fields_of_input (input_said t n dest net) ≡ fields t n dest net
said_back used there before tag.Idle n dest net hn hd hk = same tag.Idle (zero_of n hn) (zero_of dest hd) (zero_of net hk)
said_back used there before tag.Head1 n dest net hn hd hk = same tag.Head1 (first_back n hn) (zero_of dest hd) (zero_of net hk)
said_back used there before tag.Head2 n dest net hn hd hk = same tag.Head2 (omega arith) (zero_of dest hd) (zero_of net hk)
said_back used there before tag.Want n dest net hn hd hk = same tag.Want (zero_of n hn) refl refl
said_back used there before tag.Local n dest net hn hd hk = same tag.Local refl (zero_of dest hd) (zero_of net hk)
said_back used there before tag.Out n dest net hn hd hk = same tag.Out (omega arith) refl (zero_of net hk)
said_back used there before tag.Lost n dest net hn hd hk = same tag.Lost (zero_of n hn) (zero_of dest hd) (zero_of net hk)

fields_back : (used there : List Bool) (before : List InputState) (f : InputFields) → (input_fields used there before).Holds f → fields_of_input (input_of_fields f) ≡ f
fields_back used there before f h = said_back used there before f.0 f.1.0 f.1.1.0 f.1.1.1 h.1.0.1 h.1.1.0.1 h.1.1.1.1

pub input-lawful : (used there : List Bool) (before : List InputState) → Lawful (input used there before)
unfolding input
input-lawful used there before =
    told-lawful input_of_fields fields_of_input
    (both-lawful (tag-lawful (length before)) (λ t. both-lawful (where-lawful (is_operand used there before t) word-lawful) (λ n. both-lawful (where-lawful (is_dest t) word-lawful) (λ dest. where-lawful (is_net t) byte-lawful))))
    (fields_back used there before)

pub inputs-lawful : (used there : List Bool) → Lawful (inputs used there)
inputs-lawful used there = chain-lawful (input-lawful used there) 40
