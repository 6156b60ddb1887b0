pub mod Gathered
pub mod RaisedLaws
pub mod TableLaws
pub mod LaidLaws
pub mod FitLaws
pub mod ApartLaws
pub mod CommunalLaws
pub mod Printed
pub mod SaidLaws
pub mod TextLaws
pub mod LineLaws
pub mod ReadLaws
pub mod SeveralLaws
pub mod OwnLaws
mod OrderModule
mod ComdefLaws
mod DosLaws
mod HomeLaws
mod CommunalRecords
