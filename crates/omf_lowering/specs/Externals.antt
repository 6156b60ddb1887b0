-- A CEXTDEF as EXTDEFs and LEXTDEFs (TIS OMF 1.1, "CEXTDEF": its names are entries of the table of LNAMES and LLNAMES; "EXTDEF"; "LEXTDEF": names of the module itself; "LLNAMES").
use Rattle.std.specs.Prelude.{ℕ, Bool, List, [], ◌∷◌, Option, Some, None, Result, Ok, Err, if◌then◌else◌}
use Rattle.omf_frame.specs.Fault.{Fault}
use Rattle.omf_frame.specs.Framing.{Raw, raw_of}
use Rattle.omf_frame.specs.declared.fault.Reason.TheVariants as reason
use Rattle.omf_records.specs.Layout.{fault}
use Rattle.omf_records.specs.Shortest.{external_bytes}
use Rattle.omf_records.specs.Values.{At, ExternalItem}
-- computed: readings_meet_layouts of omf_records.
use Rattle.omf_records.specs.Inner.Reads.{and_then}
use Rattle.omf_check.specs.Tables.{entry}
-- computed: readings_meet_layouts of omf_lowering.
use Rattle.omf_lowering.specs.Inner.Readers.{cextdef_whole}
use Rattle.omf_lowering.specs.Values.{Tables, is_local_name}
use Rattle.omf_lowering.specs.declared.values.NamedExternal.{NamedExternal}

-- f of each, or the first fault.
abbrev pub all_of : {A B : Type 0} → (A → Result B Fault) → List A → Result (List B) Fault
all_of f [] = Ok []
all_of f (x ∷ xs) = and_then (f x) (λ y. and_then (all_of f xs) (λ ys. Ok (y ∷ ys)))

-- An external of a CEXTDEF: whether its name is local, and the external as a record for externals has it.
pub record OwnExternal : Type 0 where
  pub is_local : Bool
  pub item : ExternalItem

-- An external with its name, the entry of the table that its index names; UndefinedName if there is none.
abbrev pub with_name : At NamedExternal → Bool → Option (List ℕ) → Result OwnExternal Fault
with_name x local (Some name) = Ok (record { is_local = local; item = record { name = name; type_index = x.item.type_index } })
with_name x local None = Err (fault x.item.name.within reason.UndefinedName)

abbrev pub named : Tables → At NamedExternal → Result OwnExternal Fault
named t x = with_name x (is_local_name t.locals x.item.name.item) (entry t.names x.item.name.item)

-- The externals of a CEXTDEF with these contents, or its first fault: of layout, or else of a name.
abbrev pub externals_by : Tables → List ℕ → Result (List OwnExternal) Fault
externals_by t body = and_then (cextdef_whole.read 3 body) (all_of (named t))

-- The record of one external: an EXTDEF, or an LEXTDEF if its name is local.
abbrev pub external_record : OwnExternal → Raw
external_record e = raw_of (if e.is_local then 0xB4 else 0x8C) (external_bytes e.item)
