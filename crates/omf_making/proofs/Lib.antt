mod NameLaws
mod MadeLaws
mod TakenLaws
mod PageNumbers
mod PrimeLaws
mod CostLaws
mod SoundLaws
