-- The map of what is found (this profile's rule): a line for each segment, and then for each public; among the other lines that follow are those of segments
-- that are near.
use Rattle.std.specs.Prelude.{◌≡◌, List, ℕ, ◌++◌, flat_map, codes}
use Rattle.omf_finding.specs.declared.findings.Verdict.{Verdict}
use Rattle.omf_find.specs.Fields.{Address, Name, closed, field_text, head_text}
use Rattle.omf_find.specs.NameRow.{NameRow}
use Rattle.omf_find.specs.NearLines.{HasNearLines}
use Rattle.omf_find.specs.Origin.{origin_text, segment_text}
use Rattle.omf_find.specs.Rows.{AreNames, AreSegments}
use Rattle.omf_find.specs.declared.fields.Format.{Format}
use Rattle.omf_find.specs.declared.near.Nearly.{Nearly}
use Rattle.omf_find.specs.declared.reading.Gathered.{Gathered}
use Rattle.omf_find.specs.declared.rows.SegmentRow.{SegmentRow}

abbrev pub segment_line : Format → List (List ℕ) → Gathered → SegmentRow → List ℕ
segment_line f files g r = head_text f (codes "segment") r.address ++ (field_text f (codes "length") (Address r.length) ++ (origin_text f files g r.«module» ++ (segment_text f g r.«module» r.index ++ closed f)))

abbrev pub name_line : Format → List (List ℕ) → Gathered → List ℕ → NameRow → List ℕ
name_line f files g what r = head_text f what r.address ++ (field_text f (codes "name") (Name r.name) ++ (origin_text f files g r.«module» ++ closed f))

-- The map: the segments of the modules that are found, and their publics, each in ascending order of address; and these segments that are near.
pub record IsMap (f : Format) (files : List (List ℕ)) (g : Gathered) (vs : List Verdict) (ys : List Nearly) (text : List ℕ) : Type 0 where
  pub segments : List SegmentRow
  pub are_segments : AreSegments g.modules.items vs segments
  pub names : List NameRow
  pub are_names : AreNames g.modules.items vs names
  pub others : List ℕ
  pub near : HasNearLines f files g ys others
  pub text_is : text ≡ flat_map (segment_line f files g) segments ++ (flat_map (name_line f files g (codes "public")) names ++ others)
