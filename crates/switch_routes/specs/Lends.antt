-- What a row of link ends ends as, where one of them is lent.
use Rattle.std.specs.Prelude.{Option, Some, List, slice_set}
use Rattle.std.specs.Borrow.{LendsIf, Fml, MutBor}
use Rattle.xs_base.specs.Numbers.{EndNumber}
use Rattle.link_ends.specs.Counts.{EndCounts}
use Rattle.link_ends.specs.contracts.LinkEnd.{the_row as link_row}
use Rattle.switch_routes.specs.contracts.links.Links.{the_row}

-- once the borrow r ends, the link end in this place is the last one written through r; at `None` nothing changes
abbrev pub LendsEnd : MutBor (List (Option EndCounts)) → EndNumber → Option (MutBor EndCounts) → Fml
LendsEnd row end r = LendsIf the_row link_row row r (λ (counts : EndCounts). slice_set row.now end (Some counts)) row.now
