use Rattle.std.proofs.Common.{refl, [], ◌∷◌}
use Rattle.std.specs.Prelude.{codes}
use Rattle.system_model.specs.declared.frame_line.SectionKind.TheVariants.{Source, Pins}
use Rattle.system_model.specs.FirstFault.{given_after_lines}
use Rattle.worked_texts.proofs.Computes.{computes}
use Rattle.worked_texts.proofs.cut_texts.worked_cut_texts.Goals as goal

pub returns : goal.returns
unfolding computes given_after_lines
returns c = record {
  whole = refl;
  of_source = refl;
  of_pins = refl;
  ended = refl;
  with_d = refl;
  in_source = record {
    front = codes "xs1 1\nnode 0 id 0\nsource 0\n";
    opening = record {
      up = codes "xs1 1\nnode 0 id 0\nsource 0";
      feed = refl;
      before = codes "xs1 1" ∷ codes "node 0 id 0" ∷ [];
      opening = codes "source 0";
      lines = refl;
      number = refl;
      kind = Source 0;
      begins = refl;
      no_schedule = λ e. cc;
    };
    left = codes "end:\n# x\n  e";
    lost = codes "n";
    others = codes " # x\npins\n\nend\n";
    ending = record {
      own = codes "end:" ∷ codes "# x" ∷ [];
      none_ends = refl;
      ending = codes "  end # x";
      ends = refl;
      after = codes "pins" ∷ [] ∷ codes "end" ∷ [];
      lines = refl;
      begun = codes "  en";
      word = refl;
      up_to_d = refl;
    };
    whole = refl;
    cut = refl;
    before_last = codes "xs1 1" ∷ codes "node 0 id 0" ∷ codes "source 0" ∷ codes "end:" ∷ codes "# x" ∷ [];
    last = codes "  e";
    lines = refl;
    no_end = refl;
  };
  in_pins = record {
    front = codes "xs1 1\nnode 0 id 0\nsource 0\nend:\n# x\n  end # x\npins\n";
    opening = record {
      up = codes "xs1 1\nnode 0 id 0\nsource 0\nend:\n# x\n  end # x\npins";
      feed = refl;
      before = codes "xs1 1" ∷ codes "node 0 id 0" ∷ codes "source 0" ∷ codes "end:" ∷ codes "# x" ∷ codes "  end # x" ∷ [];
      opening = codes "pins";
      lines = refl;
      number = refl;
      kind = Pins;
      begins = refl;
      no_schedule = λ e. cc;
    };
    left = [];
    lost = codes "\nen";
    others = codes "\n";
    ending = record {
      own = [] ∷ [];
      none_ends = refl;
      ending = codes "end";
      ends = refl;
      after = [];
      lines = refl;
      begun = codes "en";
      word = refl;
      up_to_d = refl;
    };
    whole = refl;
    cut = refl;
    before_last = codes "xs1 1" ∷ codes "node 0 id 0" ∷ codes "source 0" ∷ codes "end:" ∷ codes "# x" ∷ codes "  end # x" ∷ [];
    last = codes "pins";
    lines = refl;
    no_end = refl;
  };
}
