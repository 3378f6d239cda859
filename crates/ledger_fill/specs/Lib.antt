-- What the ledger's code is handed, as the scan of `ledger_rows`: sets as words, two tables of bonds and rows of bay energies. Assumes nothing.
pub mod Handed
pub mod Bays
pub mod Last
