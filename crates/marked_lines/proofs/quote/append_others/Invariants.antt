use Rattle.std.proofs.Common.{◌≡◌, ◌++◌, take, codes}
use Rattle.std.specs.Prelude.{flat_map}
use Rattle.explain_model.specs.Wants.{want_text}
use Rattle.marked_lines.proofs.quote.append_others.Given as goal

abbrev pub invariant-loop-want : goal.invariant-loop-want
invariant-loop-want l = l.out ≡ l.initial.out ++ flat_map (λ more. codes "; " ++ want_text more) (take l.want-index l.wants)
