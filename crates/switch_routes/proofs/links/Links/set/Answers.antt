use Rattle.std.proofs.Common.{◌∙◌, true, length, drop, ap}
use Rattle.std.specs.Prelude.{slice_set}
use Rattle.std.proofs.lemmas.List.{length-set, take_at}
use Rattle.switch_routes.specs.Inside.{ends_in}
use Rattle.switch_routes.proofs.Places.{put_in_place}
use Rattle.switch_routes.proofs.links.Links.set.Goals as goal

pub returns : goal.returns
returns c =
    record { value = rw (← c.self.view_is, c.as_mut_slice.ensures.value) (put_in_place c.self.inside.present c.self.inside.ends.items c.args.end c.args.link) }

pub invariant_of-self : goal.invariant_of-self
invariant_of-self c =
    let present = c.self.inside.present in
    let ends = c.self.inside.ends.items in
    let e = c.args.end in
    rw c.as_mut_slice.ensures.value
    (record {
      places = length-set present e true ∙ c.self.invariant.places;
      eight =
          ap length (take_at (slice_set ends e c.args.link) (drop (length (slice_set ends e c.args.link)) ends) (length ends) (length-set ends e c.args.link))
          ∙ length-set ends e c.args.link
          ∙ c.self.invariant.eight;
      marked = rw (put_in_place present ends e c.args.link) (c.noted-self-inside.ensures (ends_in present ends) c.self.invariant.marked);
    })
