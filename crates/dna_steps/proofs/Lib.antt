pub mod StepTables
pub mod Published
