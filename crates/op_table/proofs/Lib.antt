pub mod Numbers
pub mod RowTables
pub mod FormLemmas
pub mod OpcodeTable
pub mod NameLemmas
