pub mod NameTables
mod NumberLaws
