-- The law of channel ends, and that those which have the form are those that a state may have.
use Rattle.std.proofs.Common.{refl}
use Rattle.std.specs.Prelude.{is_some}
use Rattle.net_model.specs.Chans.{is_chan_id}
use Rattle.byte_forms.specs.Laws.{Lawful}
use Rattle.state_forms.specs.Chans.{chan, chan_of_fields, fields_of_chan}
use Rattle.byte_forms.proofs.Fields.{byte-lawful, word-lawful}
use Rattle.byte_forms.proofs.Parts.{both-lawful, seen-lawful, below-lawful, flag-lawful, option-lawful}
use Rattle.state_forms.proofs.Buffers.{buffer-lawful}

pub chan-lawful : Lawful chan
unfolding chan
chan-lawful =
    seen-lawful chan_of_fields fields_of_chan
    (both-lawful flag-lawful (λ used. both-lawful (below-lawful 4 byte-lawful) (λ net. both-lawful (option-lawful is_chan_id word-lawful) (λ dest.
    both-lawful (buffer-lawful (is_some dest)) (λ output. buffer-lawful _)))))
    (λ f h. refl) (λ c. refl)
