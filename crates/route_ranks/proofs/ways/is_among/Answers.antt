use Rattle.std.proofs.Common.{ℕ, ◌≡◌, ◌<◌, ◌∙◌, length, sym, ap, rules, arith}
use Rattle.std.specs.Int.{bit_at}
use Rattle.std.proofs.lemmas.Bool.{ne_eqb}
use Rattle.route_ranks.proofs.Nets.{of_the_bit, not_of_the_bit}
use Rattle.route_ranks.proofs.ways.is_among.Goals as goal

pub returns-then-bit_at-eq1 : goal.returns-then-bit_at-eq1
returns-then-bit_at-eq1 c =
    let eight : length c.args.nets.now ≡ 8 = search rules in
    let within : c.args.end < length c.args.nets.now = omega (arith, eight, c.requires.within) in
    let same : c.from.result ≡ c.args.ends = omega (arith, c.from.ensures) in
    let bit : bit_at c.args.ends c.args.end ≡ c.bit_at.result = sym (c.bit_at.ensures.value ∙ ap (λ (n : ℕ). bit_at n c.args.end) same) in
    record { value = of_the_bit c.args.ends c.args.nets.now c.args.net c.args.end within (bit ∙ c.if-bit_at-eq1.true) }

pub returns-else-bit_at-eq1 : goal.returns-else-bit_at-eq1
returns-else-bit_at-eq1 c =
    let eight : length c.args.nets.now ≡ 8 = search rules in
    let within : c.args.end < length c.args.nets.now = omega (arith, eight, c.requires.within) in
    let same : c.from.result ≡ c.args.ends = omega (arith, c.from.ensures) in
    let bit : c.bit_at.result ≡ bit_at c.args.ends c.args.end = c.bit_at.ensures.value ∙ ap (λ (n : ℕ). bit_at n c.args.end) same in
    record {
      value = ne_eqb c.bit_at.result 1 c.if-bit_at-eq1.false
          ∙ not_of_the_bit c.args.ends c.args.nets.now c.args.net c.args.end within (λ is. c.if-bit_at-eq1.false (bit ∙ is));
    }
