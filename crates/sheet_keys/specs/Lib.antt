pub mod SheetKeys
