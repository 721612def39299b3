use Rattle.std.proofs.Common.{rules, ap, sym, refl, ◌∙◌}
use Rattle.log_cells.proofs.Kept.{begins, parts}
use Rattle.log_cells.proofs.cell.make_cell.Goals as goal

pub new-requires : goal.new-requires
new-requires g c =
    let log = c.in_ok-log.ensures.log in
    let end = c.in_ok-log.ensures.write_end in
    begins _ _ c.in_ok-log.log c.in_ok-log.write_end refl (search rules) record {
      run = ap (λ w. w.run) end ∙ sym (ap (λ l. l.run) log);
      number = ap (λ w. w.number) end ∙ sym (ap (λ l. l.number) log);
      published = ap (λ w. w.published) end ∙ sym (ap (λ l. l.published) log);
      cause = ap (λ w. w.cause) end ∙ sym (ap (λ l. l.cause) log);
    } (ap (λ l. l.base) log)

pub split_seat-read_seat-requires : goal.split_seat-read_seat-requires
split_seat-read_seat-requires g c = (search rules, search rules, parts _ _ _ _ (ap (λ m. m.0) c.in-Ok.ensures.ok.4))
