use Rattle.std.proofs.Common.{◌≡◌, ℕ, List, ◌++◌, sym, ap, subst, ◌∙◌}
use Rattle.snap_parts.specs.Parts.{body_of}
use Rattle.byte_forms.proofs.Whole.{whole_found}
use Rattle.snap_codec.specs.Snaps.{IsSnapOfSome}
use Rattle.snap_codec.proofs.Bodies.{body-lawful}
use Rattle.snap_codec.proofs.snap.read_of_plan.Goals as goal

pub of-requires : goal.of-requires
of-requires c =
    let plan = c.args.plan.now in
    let b = body_of c.in-Ok.system in
    let kept : c.append.new.self ≡ c.args.text.now = c.in_ok-append-in-Ok.ensures.ok ∙ ap (λ (front : List ℕ). front ++ c.args.text.now) c.new-kept.ensures.empty in
    let f = whole_found (body-lawful plan) c.args.from.now b c.requires.bytes c.in-Ok.ensures.value in
    record {
      facts = subst (λ (text : List ℕ). IsSnapOfSome (record { text = text; body = b })) (sym kept)
          (record { plan = plan; is = record { system = c.requires.plan; text = c.requires.text; body = f.1 } });
    }
