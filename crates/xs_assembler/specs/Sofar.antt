-- What lines say together, as it is kept.
use Rattle.source_model.specs.Layout as model
use Rattle.xs_assembler.specs.declared.sofar.Sofar.{Sofar}

abbrev pub sofar_of : Sofar → model.Sofar
sofar_of sofar = record { layout = sofar.layout; labels = sofar.names.labels }
