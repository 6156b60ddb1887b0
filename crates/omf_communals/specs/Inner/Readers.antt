-- The reading of the layout of Typdef.
use Rattle.std.proofs.Common.{ℕ, ◌+◌, List, drop, Result, Ok, Err}
use Rattle.std.specs.Prelude.{◌==◌, [], ◌∷◌}
use Rattle.omf_frame.specs.Bytes.{is_one_of}
use Rattle.omf_frame.specs.Fault.{Fault}
use Rattle.omf_frame.specs.declared.fault.Reason.TheVariants as reason
use Rattle.omf_records.specs.Entries.{unless}
use Rattle.omf_records.specs.Layout.{byte}
use Rattle.omf_records.specs.Inner.Reads.{After, after, Reader, Whole}
use Rattle.omf_records.specs.Inner.FieldReaders.{byte_reader, index_reader, communal_length_reader, name_reader}
use Rattle.omf_records.specs.Inner.Readers.{◌>=>|◌, checked_reader, choose_whole, ends_whole}
use Rattle.omf_records.specs.Inner.EntryReaders.{one_reason}
use Rattle.omf_communals.specs.Typdef.{code, far, near, typdef}

abbrev pub code_reader : (allowed : List ℕ) → Reader (code allowed)
code_reader allowed = checked_reader byte (λ c. unless (is_one_of allowed c) reason.CommunalType) byte_reader (λ c. one_reason (is_one_of allowed c) reason.CommunalType)

abbrev pub near_whole : Whole near
near_whole = code_reader (0x77 ∷ 0x79 ∷ 0x7B ∷ []) >=>| λ k. communal_length_reader >=>| λ n. ends_whole _

abbrev pub far_whole : Whole far
far_whole = code_reader (0x77 ∷ []) >=>| λ k. communal_length_reader >=>| λ n. index_reader >=>| λ i. ends_whole _

abbrev pub typdef_whole : Whole typdef
typdef_whole = name_reader >=>| λ t. code_reader (0 ∷ []) >=>| λ e. code_reader (0x61 ∷ 0x62 ∷ []) >=>| λ l. choose_whole near far near_whole far_whole (l == 0x62)

-- A value with the position in the contents after it, as a reading with the rest of the bytes. Contents begin at offset 3.
abbrev pub read_to : {A : Type 0} → List ℕ → Result (A × ℕ) Fault → Result (After A) Fault
read_to bytes (Ok x) = Ok (after x.0 (3 + x.1) (drop x.1 bytes))
read_to bytes (Err e) = Err e
