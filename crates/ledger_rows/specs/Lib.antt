-- The ledger over any sets and any added numbers: what it holds, what it answers, and the theorem of the least energy. Assumes nothing.
pub mod Scan
pub mod Blocks
pub mod Trace
pub mod LeastEnergyTheorem
