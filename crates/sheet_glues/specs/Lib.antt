pub mod SheetGlues
