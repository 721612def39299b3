-- The name of a port is read as this port.
use Rattle.std.proofs.Common.{◌≡◌, ℕ, ◌<◌, ◌≤◌, ◌^◌, Bool, true, false, ◌&&◌, ◌==◌, nat_le, List, refl, ap}
use Rattle.std.specs.Prelude.{Option, Some, None}
use Rattle.std.specs.List.{list_all}
use Rattle.std.proofs.lemmas.Bool.{and_parts, agree_below, agree_below_at, eqb-true, leb-true}
use Rattle.xs_base.specs.Ids.{port_width}
use Rattle.xs_text.specs.Bytes.{all_allowed}
use Rattle.pin_scripts.specs.Pins.{port_of, port_word}
use Rattle.trace_model.specs.EventLines.{port_name}
use Rattle.load_laws.proofs.PlainWords.{is_plain}

-- whether what was read is this port
abbrev is_port : ℕ → Option (Option ℕ) → Bool
is_port port (Some (Some read)) = read == port
is_port port _ = false

abbrev is_good_name : ℕ → Bool
is_good_name port =
    is_port port (port_word (port_name port)) && (list_all is_plain (port_name port) && (all_allowed (port_name port) && nat_le (2 ^ port_width port) 4294967296))

-- the 29 names
all_good : agree_below is_good_name (λ _. true) 29 ≡ true
unfolding port_of
all_good = refl

port_is : (port : ℕ) (read : Option (Option ℕ)) → is_port port read ≡ true → read ≡ Some (Some port)
port_is port None h = absurd (cc)
port_is port (Some None) h = absurd (cc)
port_is port (Some (Some read)) h = ap (λ p. Some (Some p)) (eqb-true read port h)

-- what the name of a port is
pub record IsPortName (port : ℕ) (name : List ℕ) : Type 0 where
  pub read : port_word name ≡ Some (Some port)
  pub plain : list_all is_plain name ≡ true
  pub allowed : all_allowed name ≡ true
  pub narrow : 2 ^ port_width port ≤ 4294967296

pub name_of_port : (port : ℕ) → port < 29 → IsPortName port (port_name port)
name_of_port port h =
    let p = and_parts (is_port port (port_word (port_name port))) _ (agree_below_at is_good_name (λ _. true) 29 port all_good h) in
    let q = and_parts (list_all is_plain (port_name port)) _ p.1 in
    let r = and_parts (all_allowed (port_name port)) _ q.1 in
    record { read = port_is port _ p.0; plain = q.0; allowed = r.0; narrow = leb-true (2 ^ port_width port) 4294967296 r.1 }
