mod DataLaws
mod FilesLaws
mod ImageLaws
mod PlacedLaws
mod RecordLaws
mod RowLaws
