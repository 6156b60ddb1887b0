use Rattle.std.proofs.Common.{◌≡◌, ◌++◌, false}
use Rattle.std.specs.Prelude.{flat_map, string_bytes}
use Rattle.omf_check.specs.Module.{records_in}
use Rattle.omf_check.specs.WellFormed.{recs}
use Rattle.omf_map.specs.MapText.{public_line, public_lines}
use Rattle.omf_map.proofs.MapLaws.{listed_publics}
use Rattle.omf_map.proofs.listing.print_publics.Given as goal

-- the lines so far, and those of the records that are left
abbrev pub invariant-loop-rec : goal.invariant-loop-rec
invariant-loop-rec l =
    string_bytes l.text ++ flat_map (public_line l.number) (listed_publics false l.addresses.segments l.rec-iterator) ≡ string_bytes l.fn.text ++ public_lines (l.number, (recs (records_in l.«module».bytes), l.addresses))
