-- What is shown of findings (this profile's rule): the segments of modules that are found, and their publics (TIS OMF 1.1, "PUBDEF": an offset in a segment).
use Rattle.std.specs.Prelude.{ℕ, ◌+◌, List, [], ◌∷◌, ◌++◌, flat_map, map, Bool, true, false, Option, Some, None, option_map, option_to_list, slice_get, IsPermutation, if◌then◌else◌}
use Rattle.std.specs.Box.{box_value}
use Rattle.std.specs.List.{enumerate_from}
use Rattle.std.specs.List.Sorted.{IsNonDecreasingBy}
use Rattle.omf_check.specs.Module.{Module, recs_of}
use Rattle.omf_frame.specs.Bytes.{is_one_of}
use Rattle.omf_frame.specs.Types.{is_local}
use Rattle.omf_check.specs.Tables.{entry, segments}
use Rattle.omf_check.specs.declared.segment.SegInfo.{SegInfo}
use Rattle.omf_records.specs.Values.{At, Contents, PublicItem, Publics, Rec}
use Rattle.omf_finding.specs.declared.findings.Found.{Found}
use Rattle.omf_finding.specs.declared.findings.Verdict.{Verdict}
use Rattle.omf_finding.specs.declared.findings.Verdict.TheVariants as verdict
use Rattle.omf_find.specs.NameRow.{NameRow}
use Rattle.omf_find.specs.declared.rows.SegmentRow.{SegmentRow}

-- Where a segment of a module that is found is; nowhere if it is absent.
abbrev pub base_of : Found → ℕ → Option ℕ
base_of f i = if is_one_of f.absent i then None else option_map (λ p. p.address) (entry f.placement.segments i)

-- The segments of a module, each that is in the program.
abbrev pub segment_row : ℕ → Found → ℕ × SegInfo → Option SegmentRow
segment_row number f s = option_map (λ a. record { address = a; «module» = number; index = s.0; length = s.1.length }) (base_of f s.0)

abbrev pub segment_rows : ℕ → List Rec → Found → List SegmentRow
segment_rows number m f = flat_map (λ s. option_to_list (segment_row number f s)) (enumerate_from 1 (segments m))

abbrev pub verdict_segments : ℕ → List Rec → Option Verdict → List SegmentRow
verdict_segments number m (Some (verdict.Found f)) = segment_rows number m (box_value f)
verdict_segments number m _ = []

-- The publics of a module, each in a segment that is in the program, at its offset there.
abbrev pub name_row : ℕ → ℕ → ℕ → At PublicItem → NameRow
name_row number segment base q = record { address = base + q.item.offset; «module» = number; segment = segment; name = q.item.name }

abbrev pub name_rows : ℕ → ℕ → ℕ → List (At PublicItem) → List NameRow
name_rows number segment base qs = map (name_row number segment base) qs

abbrev pub based_rows : ℕ → ℕ → Option ℕ → List (At PublicItem) → List NameRow
based_rows number segment None qs = []
based_rows number segment (Some base) qs = name_rows number segment base qs

abbrev pub contents_rows : ℕ → Found → Contents → List NameRow
contents_rows number f (Publics p) = based_rows number p.segment.item (base_of f p.segment.item) p.items
contents_rows number f _ = []

-- Those of a PUBDEF, or of an LPUBDEF.
abbrev pub record_rows : Bool → ℕ → Found → ℕ → Contents → List NameRow
record_rows true number f kind c = if is_local kind then contents_rows number f c else []
record_rows false number f kind c = if is_local kind then [] else contents_rows number f c

abbrev pub public_rows : Bool → ℕ → List Rec → Found → List NameRow
public_rows local number m f = flat_map (λ r. record_rows local number f r.kind r.contents) m

abbrev pub verdict_names : ℕ → List Rec → Option Verdict → List NameRow
verdict_names number m (Some (verdict.Found f)) = public_rows false number m (box_value f) ++ public_rows true number m (box_value f)
verdict_names number m _ = []

-- Those of all modules, from a number on.
abbrev pub all_segments : ℕ → List Module → List Verdict → List SegmentRow
all_segments n [] vs = []
all_segments n (m ∷ ms) vs = verdict_segments n (recs_of m.bytes) (slice_get vs n) ++ all_segments (n + 1) ms vs

abbrev pub all_names : ℕ → List Module → List Verdict → List NameRow
all_names n [] vs = []
all_names n (m ∷ ms) vs = verdict_names n (recs_of m.bytes) (slice_get vs n) ++ all_names (n + 1) ms vs

-- They are shown in ascending order of address.
pub record AreSegments (ms : List Module) (vs : List Verdict) (rows : List SegmentRow) : Type 0 where
  pub same : IsPermutation (all_segments 0 ms vs) rows
  pub order : IsNonDecreasingBy (λ r. r.address) rows

pub record AreNames (ms : List Module) (vs : List Verdict) (rows : List NameRow) : Type 0 where
  pub same : IsPermutation (all_names 0 ms vs) rows
  pub order : IsNonDecreasingBy (λ r. r.address) rows
