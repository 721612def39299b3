-- What calls answer, by what is found at a channel end.
use Rattle.net_model.specs.Chans.{Found, Got, Waits, Refused}
use Rattle.chan_ends.specs.declared.answers.Put.{Put}
use Rattle.chan_ends.specs.declared.answers.Put.TheVariants as put
use Rattle.chan_ends.specs.declared.answers.Take.{Take}
use Rattle.chan_ends.specs.declared.answers.Take.TheVariants as take

abbrev pub put_answer : Found → Put
put_answer (Got chan word) = put.Done
put_answer Waits = put.Full
put_answer Refused = put.Bad

abbrev pub take_answer : Found → Take
take_answer (Got chan word) = take.Got word
take_answer Waits = take.Wait
take_answer Refused = take.Bad
