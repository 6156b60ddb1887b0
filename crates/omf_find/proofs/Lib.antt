mod GapLaws
mod GatheredLaws
mod MzLaws
mod NearlyLaws
mod PartLaws
mod RoomLaws
mod RowLaws
mod TextLaws
