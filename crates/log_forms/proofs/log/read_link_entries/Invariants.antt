use Rattle.std.proofs.Common.{◌≡◌, ◌-◌, [], length}
use Rattle.byte_forms.specs.Forms.{read_chain}
use Rattle.log_forms.specs.Entries.{before_of}
use Rattle.log_forms.specs.Windows.{link_entry}
use Rattle.log_forms.proofs.log.read_link_entries.Given as goal

abbrev pub invariant-loop : goal.invariant-loop
invariant-loop l =
    record {
      told : l.before ≡ before_of l.entries.entries;
      len : length l.entries.entries ≡ l.counter;
      so_far : read_chain (λ before. link_entry l.slot l.delay l.ends l.count (before_of before)) (l.count - l.counter) l.entries.entries l.from
          ≡ read_chain (λ before. link_entry l.slot l.delay l.ends l.count (before_of before)) l.count [] l.fn.from;
    }
