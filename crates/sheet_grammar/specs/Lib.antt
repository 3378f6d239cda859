pub mod Grammar
pub mod Contents
pub mod FirstFault
pub mod AsWritten
