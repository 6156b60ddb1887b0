-- What is shown of a record, and what is kept of it, computed from what is kept of the records before it.
use Rattle.std.specs.Prelude.{◌≡◌, ℕ}
use Rattle.omf_frame.specs.Types.{width_of}
use Rattle.omf_frame.specs.declared.kinds.Width.{Width}
use Rattle.omf_records.specs.Values.{Contents}
use Rattle.omf_check.specs.Inner.Kept.{threads_after}
use Rattle.omf_dump.specs.Contents.{shown_with}
use Rattle.omf_dump.specs.Fields.{Shown}
use Rattle.omf_dump.specs.Inner.Keeping.{data_after, with_contents}
use Rattle.omf_dump.specs.Inner.Resolving.{start_items_by, subrecord_items_by}
use Rattle.omf_dump.specs.declared.known.Known.{Known}

abbrev pub shown_in : Known → Width → ℕ → Contents → Shown
shown_in known width kind c = shown_with (subrecord_items_by known.tables known.fixed width known.threads) (start_items_by known.tables width known.threads) known.tables width kind c

abbrev pub shown_by : Known → ℕ → Contents → Shown
shown_by known kind c = shown_in known (width_of kind) kind c

-- what is kept after one more record
pub record Keeps (old : Known) (c : Contents) (new : Known) : Type 0 where
  pub tables : new.tables ≡ with_contents old.tables c
  pub threads : new.threads ≡ threads_after old.threads c
  pub fixed : new.fixed ≡ data_after old.fixed c
