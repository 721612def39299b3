use Rattle.single_port.proofs.Fits.{fits_transfer}
use Rattle.single_port.proofs.port.Port.take_in.Goals as goal

pub take_transfer-requires : goal.take_transfer-requires
take_transfer-requires c = rw (← c.take_transfer.view_is) (fits_transfer c.take_transfer.inside.transfer_width c.take_transfer.inside.transfer c.take_transfer.invariant.transfer)
