-- A walk over the records of a module.
use Rattle.std.specs.Prelude.{◌≡◌, ℕ, List, [], ◌++◌, length, flat_map, Option, Result, Ok, Err}
use Rattle.std.specs.Io.KnownBytes.{Appends}
use Rattle.omf_frame.specs.Device.{Writes}
use Rattle.omf_frame.specs.Bytes.{with_before}
use Rattle.omf_frame.specs.Framing.{Raw, raw_bytes}
use Rattle.omf_records.specs.Values.{Rec}
use Rattle.omf_check.specs.Tables.{subrecords}
use Rattle.omf_check.specs.Inner.Kept.{HasThreads}
use Rattle.omf_check.specs.WellFormed.{recs}
use Rattle.omf_dump.specs.Dump.{AreRecords, dump_text, record_dump}
use Rattle.omf_dump.specs.Known.{fixed_data, tables}
use Rattle.omf_dump.specs.declared.fault.DumpFault.{DumpFault}
use Rattle.omf_dump.specs.declared.format.Style.{Style}
use Rattle.omf_dump.specs.declared.known.Known.{Known}

-- what is kept is what the records before give
pub record Holds (known : Known) (before : List Rec) : Type 0 where
  pub tables : known.tables ≡ tables before
  pub threads : HasThreads known.threads (subrecords before)
  pub fixed : known.fixed ≡ fixed_data before

-- the walk is after the records `before`: `left` and `after` are the others
pub record IsWalked (f : Style) (records : List Raw) (known : Known) (count at : ℕ) (left : List ℕ) (old now : List ℕ) : Type 0 where
  pub before : List Raw
  pub after : List Raw
  pub all : records ≡ before ++ after
  pub spelled : left ≡ flat_map raw_bytes after
  pub number : count ≡ length before
  pub start : at ≡ length (flat_map raw_bytes before)
  pub holds : Holds known (recs before)
  pub written : now ++ with_before (record_dump f) before after ≡ old ++ dump_text f records

-- a front of the text is written, and `left` is the rest
pub record IsSent (old new : Option (List ℕ)) (text left : List ℕ) : Type 0 where
  pub front : List ℕ
  pub whole : text ≡ front ++ left
  pub written : Appends old new front

-- all of the text is written but what is still collected, or at a fault a front of it
abbrev pub Passes : Option (List ℕ) → Option (List ℕ) → Result (Unit {0}) DumpFault → List ℕ → List ℕ → Type 0
Passes old new (Ok done) text kept = IsSent old new text kept
Passes old new (Err e) text kept = Writes old new (Err e) text

-- what the walk made is written but for what is still collected
pub record IsStreamed (f : Style) (bytes : List ℕ) (known : Known) (count at : ℕ) (left : List ℕ) (old new : Option (List ℕ)) (kept : List ℕ) : Type 0 where
  pub front : List ℕ
  pub written : Appends old new front
  pub walked : (records : List Raw) → AreRecords bytes records → IsWalked f records known count at left [] (front ++ kept)
