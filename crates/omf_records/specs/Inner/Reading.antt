-- Reading contents: the layouts of Records, computed. Contents begin at offset 3.
use Rattle.std.specs.Prelude.{ℕ, List, [], ◌∷◌, Result, Ok, Err}
use Rattle.omf_frame.specs.Fault.{Fault}
use Rattle.omf_frame.specs.Framing.{Raw}
use Rattle.omf_records.specs.Values.{Contents, Carried, Rec}
use Rattle.omf_records.specs.Inner.RecordReaders.{contents_whole}

abbrev pub read_body : ℕ → List ℕ → Result Contents Fault
read_body kind body = (contents_whole kind).read 3 body

-- The layout fault of a record, if it has one, and its contents; contents with a fault are kept as bytes.
abbrev pub fault_list : Result Contents Fault → List Fault
fault_list (Ok c) = []
fault_list (Err f) = f ∷ []

abbrev pub contents_or : List ℕ → Result Contents Fault → Contents
contents_or body (Ok c) = c
contents_or body (Err f) = Carried body

abbrev pub layout_faults : Raw → List Fault
layout_faults r = fault_list (read_body r.kind r.body)

abbrev pub typed : Raw → Rec
typed r = record { kind = r.kind; contents = contents_or r.body (read_body r.kind r.body) }
