-- What rows do at a channel end.
use Rattle.std.specs.Prelude.{Option, Some, None}
use Rattle.xs_base.specs.Numbers.{Word, Register, ChanNumber}
use Rattle.xs_model.specs.declared.thread.Thread.{Thread}
use Rattle.xs_model.specs.declared.thread.Wait.{Wait}
use Rattle.xs_model.specs.Record.{ChanRec}
use Rattle.net_model.specs.Chans.{Found, put_token, put_word, take_word, take_byte, take_ctrl, check_token, look, look_word, take_dest, tell_dest, take_net, tell_net}
use Rattle.step_model.specs.ResourceRows.{room, tokens, no_wait, takes_nothing, takes_into}
use Rattle.chan_ends.specs.declared.answers.Put.{Put}
use Rattle.chan_ends.specs.declared.answers.Put.TheVariants as put
use Rattle.chan_ends.specs.declared.answers.Take.{Take}
use Rattle.chan_ends.specs.declared.answers.Take.TheVariants as take
use Rattle.resource_rows.specs.declared.actions.Action.{Action}
use Rattle.resource_rows.specs.declared.actions.Action.TheVariants as action

-- what an action finds there
abbrev pub does : Action → ChanRec → Found
does (action.Put t) = put_token t
does (action.PutWord word) = put_word word
does action.TakeWord = take_word
does action.TakeByte = take_byte
does action.TakeCtrl = take_ctrl
does (action.Check value) = check_token value
does action.Look = look
does action.LookWord = look_word
does (action.SetDest dest) = take_dest dest
does action.TellDest = tell_dest
does (action.SetNet n) = take_net n
does action.TellNet = tell_net

-- where its thread would wait
abbrev pub waits : Action → ChanNumber → Wait
waits (action.Put t) = room 1
waits (action.PutWord word) = room 4
waits action.TakeWord = tokens 4
waits action.TakeByte = tokens 1
waits action.TakeCtrl = tokens 1
waits (action.Check value) = tokens 1
waits action.Look = tokens 1
waits action.LookWord = tokens 4
waits (action.SetDest dest) = no_wait
waits action.TellDest = no_wait
waits (action.SetNet n) = no_wait
waits action.TellNet = no_wait

-- what a thread does with the word that is found, by the register that is to have it
abbrev pub takes : Option Register → Word → Thread → Thread
takes None = takes_nothing
takes (Some d) = takes_into d

-- what became of tokens that were put, as an answer with no word
abbrev pub of_put : Put → Take
of_put put.Done = take.Got 0
of_put put.Full = take.Wait
of_put put.Bad = take.Bad
