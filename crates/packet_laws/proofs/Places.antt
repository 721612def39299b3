-- Where rows of tokens end: one row after the other, and token by token.
use Rattle.std.proofs.Common.{◌≡◌, ℕ, zero, suc, ◌+◌, ◌*◌, ◌/◌, ◌%◌, ◌<◌, ◌≤◌, Bool, true, if◌then◌else◌, Option, Some, None, option_and_then, List, [], ◌∷◌, ◌++◌, refl, sym, ap, ◌∙◌, arith}
use Rattle.xs_base.specs.Numbers.{NodeId}
use Rattle.xs_base.specs.declared.numbers.TheConstants.{HEADER_BYTES}
use Rattle.xs_base.specs.declared.token.Token.{Token}
use Rattle.xs_base.specs.declared.token.Token.TheVariants.{Byte}
use Rattle.xs_model.specs.declared.dest.Dest.{Dest}
use Rattle.net_model.specs.Switch.{ends_packet, header_byte}
use Rattle.packet_laws.specs.Packets.{Place, Between, Within, begun, place_after, place_from, place_of, place_sent}

module _ (passes : NodeId → Bool) where
  -- from a place, or from none, on through more tokens
  abbrev from_there : List Token → Option Place → Option Place
  from_there ts place = option_and_then (λ p. place_from passes p ts) place

  from_next : (next : Option Place) (ts us : List Token) →
      ((p : Place) → place_from passes p (ts ++ us) ≡ from_there us (place_from passes p ts)) →
      from_there (ts ++ us) next ≡ from_there us (from_there ts next)
  from_next None ts us rest = refl
  from_next (Some p) ts us rest = rest p

  -- tokens, and then others
  place-append : (p : Place) (ts us : List Token) → place_from passes p (ts ++ us) ≡ from_there us (place_from passes p ts)
  unfolding place_from
  place-append p [] us = refl
  place-append p (t ∷ ts) us = from_next (place_after passes p t) ts us (λ next. place-append next ts us)

  pub place_of_none : place_of passes [] ≡ Some Between
  unfolding place_from
  place_of_none = refl

  -- ---- One token more

  from_one : (p next : Place) (t : Token) → place_after passes p t ≡ Some next → place_from passes p (t ∷ []) ≡ Some next
  unfolding place_from
  from_one p next t after = ap (option_and_then (λ q. Some q)) after

  pub one_more : (p next : Place) (ts : List Token) (t : Token) →
      place_of passes ts ≡ Some p → place_after passes p t ≡ Some next → place_of passes (ts ++ t ∷ []) ≡ Some next
  one_more p next ts t ends after = place-append Between ts (t ∷ []) ∙ ap (from_there (t ∷ [])) ends ∙ from_one p next t after

  -- where a row goes on past a token, it has a place after the token
  pub record GoesOn (ts : List Token) (p : Place) (t : Token) : Type 0 where
    pub next : Place
    pub after : place_after passes p t ≡ Some next
    pub whole : place_of passes (ts ++ t ∷ []) ≡ Some next

  pub goes_on_past : (ts : List Token) (t : Token) (more : List Token) (p q : Place) →
      place_of passes ts ≡ Some p → place_of passes (ts ++ (t ∷ more)) ≡ Some q → GoesOn ts p t
  unfolding place_from
  goes_on_past ts t more p q first all =
      by (place_after passes p t) refl (ap (from_there (t ∷ more)) (sym first) ∙ sym (place-append Between ts (t ∷ more)) ∙ all)
    where
      by : (next : Option Place) → place_after passes p t ≡ next → from_there more next ≡ Some q → GoesOn ts p t
      by None after rest = cc
      by (Some next) after rest = record { next = next; after = after; whole = one_more p next ts t first after }

  -- ---- The tokens of a packet

  -- a header byte of a packet for an id that passes
  pub one_header : (headers : ℕ) (dest : Dest) → headers < HEADER_BYTES → passes dest.node ≡ true →
      place_after passes (place_sent headers dest) (Byte (header_byte dest headers)) ≡ Some (place_sent (headers + 1) dest)
  one_header zero dest less may = refl
  one_header (suc zero) dest less may = refl
  one_header (suc (suc zero)) dest less may =
      let whole : dest.node / 256 * 256 + dest.node % 256 ≡ dest.node = omega arith in
      ap (λ node. begun passes (record { node = node; chan = dest.chan })) whole ∙ ap (λ passed. if passed then Some (Within dest) else None) may
  one_header (suc (suc (suc n))) dest less may = absurd (omega arith)

  -- a token after the header
  pub one_token : (headers : ℕ) (dest : Dest) (t : Token) → HEADER_BYTES ≤ headers →
      place_after passes (place_sent headers dest) t ≡ Some (if ends_packet t then Between else place_sent headers dest)
  one_token zero dest t more = absurd (omega arith)
  one_token (suc zero) dest t more = absurd (omega arith)
  one_token (suc (suc zero)) dest t more = absurd (omega arith)
  one_token (suc (suc (suc n))) dest t more = refl
