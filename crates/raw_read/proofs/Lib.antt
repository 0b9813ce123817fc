pub mod SlotNames
pub mod FieldLaws
pub mod RowLaws
pub mod RawLaws
mod OneFault
