mod Padded
mod InParts
mod EndingLaws
mod UnwrittenLaws
mod NumberLaws
