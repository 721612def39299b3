mod Asks
mod Calls
mod CountedReads
mod Pieces
mod RowsOfReads
