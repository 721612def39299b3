use Rattle.std.proofs.Common.{◌≡◌, ◌-◌, None, []}
use Rattle.std.specs.List.{last_or}
use Rattle.byte_forms.specs.Forms.{read_chain}
use Rattle.log_forms.specs.Entries.{wire_entry}
use Rattle.log_forms.proofs.log.read_wire_entries.Given as goal

abbrev pub invariant-loop : goal.invariant-loop
invariant-loop l =
    record {
      last : l.last ≡ last_or None l.entries.entries;
      so_far : read_chain (λ before. wire_entry l.slot l.delay l.width (last_or None before)) (l.count - l.counter) l.entries.entries l.from
          ≡ read_chain (λ before. wire_entry l.slot l.delay l.width (last_or None before)) l.count [] l.fn.from;
    }
