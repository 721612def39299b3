mod Asked
mod CountedReads
mod FormOfWords
mod Links
mod Ranks
mod Rests
mod Routed
mod Systems
