-- The size of a communal of the code, as one of the specification.
use Rattle.std.specs.Prelude.{◌≡◌, Bool, Result, Ok, Err}
use Rattle.omf_frame.specs.Fault.{Fault}
use Rattle.omf_records.specs.declared.entry.CommunalSize.{CommunalSize as CodeSize}
use Rattle.omf_records.specs.declared.entry.CommunalSize.TheVariants as code
use Rattle.omf_records.specs.declared.here.Here.{Here}
use Rattle.omf_records.specs.Values.{CommunalSize, Near, Far}
use Rattle.omf_records.specs.Inner.Reads.{After}

abbrev pub size_seen : CodeSize → CommunalSize
size_seen (code.Near n) = Near n
size_seen (code.Far count size) = Far count size

-- The result of a function is that of the reading of a size.
abbrev pub GivesSize : Bool → Result (CodeSize × Here) Fault → Result (After CommunalSize) Fault → Type 0
GivesSize w (Ok x) read = (read ≡ Ok (record { value = size_seen x.0; within = x.1.within; rest = x.1.bytes.now })) × (x.1.wide ≡ w)
GivesSize w (Err e) read = read ≡ Err e
