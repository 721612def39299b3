use Rattle.std.proofs.lemmas.Result.{on_ok_weaker}
use Rattle.snap_parts.specs.Parts.{seen}
use Rattle.log_forms.proofs.Writes.{log_written, link_bytes, wire_bytes}
use Rattle.log_forms.proofs.log.write_log.Goals as goal

pub returns-clause-link : goal.returns-clause-link
returns-clause-link c slot delay ends = on_ok_weaker c.write_word-2.result (λ e.
    rw (link_bytes slot delay ends (seen c.args.log.now)) (log_written c.args.out.now (seen c.args.log.now) c.entries-entries.result.now
    c.write_word.new.out c.write_entries.new.out c.write_long.new.out c.write_long-2.new.out c.write_word-2.new.out c.entries-entries.ensures.value
    c.in_ok-write_word.ensures.value c.in_ok-write_entries.ensures.value c.in_ok-write_long.ensures.value c.in_ok-write_long-2.ensures.value e)) c.write_word-2.ensures.value

pub returns-clause-wire : goal.returns-clause-wire
returns-clause-wire c slot delay width = on_ok_weaker c.write_word-2.result (λ e.
    rw (wire_bytes slot delay width (seen c.args.log.now)) (log_written c.args.out.now (seen c.args.log.now) c.entries-entries.result.now
    c.write_word.new.out c.write_entries.new.out c.write_long.new.out c.write_long-2.new.out c.write_word-2.new.out c.entries-entries.ensures.value
    c.in_ok-write_word.ensures.value c.in_ok-write_entries.ensures.value c.in_ok-write_long.ensures.value c.in_ok-write_long-2.ensures.value e)) c.write_word-2.ensures.value
