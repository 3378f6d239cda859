pub mod Energies
pub mod ScanSum
