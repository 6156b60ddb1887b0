-- The step from one record to the next, in the list of those after a record at fault, and what is shown of one.
use Rattle.std.specs.Prelude.{ℕ, List, [], if◌then◌else◌}
use Rattle.omf_frame.specs.Framing.{after_front, is_end}
use Rattle.omf_dump.specs.Fields.{Shown}
use Rattle.omf_dump.specs.Inner.Showing.{shown_by}
use Rattle.omf_dump.specs.Later.{front_kind, unjudged_contents}
use Rattle.omf_dump.specs.declared.known.Known.{Known}
use Rattle.omf_dump.specs.declared.lost.Lost.{Lost}

-- the bytes after the record at the front; none if it is a MODEND
abbrev pub following : List ℕ → List ℕ
following bytes = if is_end (front_kind bytes) then [] else after_front bytes

-- what is shown of a record that is not judged, by what is kept of the records before it
abbrev pub unjudged_shown : Known → Lost → ℕ → List ℕ → Shown
unjudged_shown known lost kind body = shown_by known kind (unjudged_contents lost kind body)
