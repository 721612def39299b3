-- What each kind of step counts: refusals, the turns of an end that reads, and how often the news are raised.
use Rattle.std.proofs.Common.{◌≡◌, ℕ, zero, suc, ◌+◌, List, [], ◌++◌, refl, sym, ap, ◌∙◌, arith}
use Rattle.atomic_table.specs.Table.{Step}
use Rattle.link_logs.specs.Logs.{LogRec}
use Rattle.log_cells.specs.declared.view.View.TheVariants.{Writer, Reader}
use Rattle.log_cells.specs.Rule.{WritingIn, ReadingIn, refused_of, raised_of, turns_of}
use Rattle.log_cells.specs.Plays.{SeatIn, logs_in, claims_as_writer, claims_as_reader}
use Rattle.log_cells.specs.Keeps.{Counts, CountsClaim, StepsCount}

none_more : (n : ℕ) → n ≡ n + 0
none_more n = omega arith

module _ {Run : Type 0} where
  -- a seat that has become another
  counted : (me me' after : SeatIn Run) (more : ℕ) (found : List (LogRec Run)) (news : ℕ) → me' ≡ after
      → refused_of after.0 ≡ refused_of me.0 + more → turns_of after.0 ≡ found ++ turns_of me.0 → raised_of after.0 ≡ raised_of me.0 + news → Counts more found news me me'
  counted me me' after more found news is refused turns rose = record {
    refused = ap (λ (m : SeatIn Run). refused_of m.0) is ∙ refused;
    turns = ap (λ (m : SeatIn Run). turns_of m.0) is ∙ turns;
    raised = ap (λ (m : SeatIn Run). raised_of m.0) is ∙ rose;
  }

  writer_counts : (step : Step (LogRec Run)) (view : WritingIn Run) → CountsClaim (claims_as_writer step) (λ me. []) (Writer view, [])
  writer_counts step view me' zero kind = counted _ me' _ 0 [] 0 ((kind view refl).0 refl).2 (none_more view.refused) refl (none_more view.raised)
  writer_counts step view me' (suc word) kind = counted _ me' _ 1 [] 0 ((kind view refl).1 (λ h. omega (arith, h))) refl refl (none_more view.raised)

  -- the logs that a seat has are those that it has as another
  logs_are : (view : ReadingIn Run) (me after : SeatIn Run) → me ≡ after → logs_in after.1 ++ view.turns ≡ logs_in me.1 ++ view.turns
  logs_are view me after is = ap (λ (m : SeatIn Run). logs_in m.1 ++ view.turns) (sym is)

  reader_counts : (step : Step (LogRec Run)) (view : ReadingIn Run) → CountsClaim (claims_as_reader step) (λ me. logs_in me.1) (Reader view, [])
  reader_counts step view me' zero kind = let won = (kind view refl).0 refl in
      counted _ me' _ 0 (logs_in me'.1) 0 won.2 (none_more view.refused) (logs_are view me' _ won.2) refl
  reader_counts step view me' (suc word) kind = let lost = (kind view refl).1 (λ h. omega (arith, h)) in
      counted _ me' _ 1 (logs_in me'.1) 0 lost refl (logs_are view me' _ lost) refl

pub steps_count : (Run : Type 0) → StepsCount Run
steps_count Run = record {
  claim_to_write = writer_counts;
  claim_to_read = reader_counts;
  give_written = λ step view log me' word kind. counted _ me' _ 0 [] 0 (kind view log refl) (none_more view.refused) refl (none_more view.raised);
  give_taken = λ step view log me' word kind. counted _ me' _ 0 [] 0 (kind view log refl) (none_more view.refused) refl refl;
  give_shut = λ step view log me' word kind. counted _ me' _ 0 [] 0 (kind view log refl) (none_more view.refused) refl refl;
  raise = λ step view me' word kind. counted _ me' _ 0 [] 1 (kind view refl) (none_more view.refused) refl refl;
}
