-- The texts that `list`, `check` and `canon` print of a module (this profile's rule).
use Rattle.std.specs.Prelude.{ℕ, List, [], ◌∷◌, ◌++◌, length, flat_map, codes, decimal}
use Rattle.std.specs.List.{enumerate_from}
use Rattle.omf_frame.specs.Bytes.{with_before}
use Rattle.omf_frame.specs.Types.{type_name}
use Rattle.omf_frame.specs.Framing.{Raw, raw_bytes}
use Rattle.omf_records.specs.Values.{Contents, Publics}
use Rattle.omf_check.specs.Tables.{names, segments, groups, externals}
use Rattle.omf_check.specs.WellFormed.{recs}
use Rattle.omf_cmd.specs.Printed.{line, index_or_dash}
use Rattle.omf_placement.specs.Quoted.{hex, quoted, named}

-- P: group, segment, offset, name of each item of a PUBDEF or LPUBDEF, in file order. The offset has at least eight hexadecimal digits.
abbrev pub public_lines : Contents → List ℕ
public_lines (Publics p) = flat_map (λ q. line (codes "P" ∷ index_or_dash p.group.item ∷ index_or_dash p.segment.item ∷ hex 8 q.item.offset ∷ quoted q.item.name ∷ [])) p.items
public_lines _ = []

-- The text of `list`. R: number, start, type, contents length (without the checksum byte), name; the start has at least eight hexadecimal digits,
-- the type two. S: index, length, name. G and E: index, name. Then the publics.
abbrev pub list_text : List Raw → List ℕ
list_text rs = with_before (λ before r. line (codes "R" ∷ decimal (length before) ∷ hex 8 (length (flat_map raw_bytes before)) ∷ hex 2 r.kind ∷ decimal (length r.body) ∷ type_name r.kind ∷ [])) [] rs
    ++ flat_map (λ s. line (codes "S" ∷ decimal s.0 ∷ decimal s.1.length ∷ named (names (recs rs)) s.1.name ∷ [])) (enumerate_from 1 (segments (recs rs)))
    ++ flat_map (λ g. line (codes "G" ∷ decimal g.0 ∷ named (names (recs rs)) g.1.name.item ∷ [])) (enumerate_from 1 (groups (recs rs)))
    ++ flat_map (λ e. line (codes "E" ∷ decimal e.0 ∷ quoted e.1 ∷ [])) (enumerate_from 1 (externals (recs rs)))
    ++ flat_map (λ r. public_lines r.contents) (recs rs)

-- The text of `check`: the numbers of records and bytes.
abbrev pub check_text : List Raw → List ℕ
check_text rs = line (codes "OK" ∷ decimal (length rs) ∷ codes "records," ∷ decimal (length (flat_map raw_bytes rs)) ∷ codes "bytes" ∷ [])
