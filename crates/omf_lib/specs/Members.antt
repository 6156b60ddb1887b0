-- The members of a library, and the publics that they have (this profile's rule).
use Rattle.std.specs.Prelude.{◌≡◌, ◌⊎◌, ℕ, ◌+◌, ◌==◌, ◌&&◌, nat_lt, not, Bool, true, false, if◌then◌else◌, List, [], ◌∷◌, ◌++◌, map, Option, Some, None, Result, Ok, Err}
use Rattle.omf_image.specs.Limits.{profile_limits}
use Rattle.omf_check.specs.Checking.{Decides}
use Rattle.omf_check.specs.Module.{recs_of}
use Rattle.omf_check.specs.Refusal.{IsRefused}
use Rattle.omf_check.specs.declared.profile.Profile.{Profile}
use Rattle.omf_library.specs.Dictionary.{IsDictionary}
use Rattle.omf_library.specs.Library.{HasHeader, IsHeaderRead, header_of, page_size}
use Rattle.omf_making.specs.Names.{Defined, defined_names}
use Rattle.omf_library.specs.Spans.{AreSpansIn}
use Rattle.omf_making.specs.Taken.{IsTaken, IsUntaken}
use Rattle.omf_library.specs.declared.dictionary.Dictionary.{Dictionary}
use Rattle.omf_library.specs.declared.fault.LibraryFault.{LibraryFault}
use Rattle.omf_library.specs.declared.header.Header.{Header}
use Rattle.omf_making.specs.declared.names.Kind.{Kind}
use Rattle.omf_making.specs.declared.names.Kind.TheVariants as kind
use Rattle.omf_library.specs.declared.spans.Span.{Span}
use Rattle.omf_making.specs.declared.taken.Refusal.{Refusal}
use Rattle.omf_making.specs.declared.taken.Taken.{Taken}
use Rattle.omf_lib.specs.declared.finding.Listed.{Listed}
use Rattle.omf_lib.specs.declared.library.Library.{Library}
use Rattle.omf_lib.specs.declared.members.Verdict.{Verdict}
use Rattle.omf_lib.specs.declared.members.Verdict.TheVariants as verdict

-- The bytes begin with a module that the check accepts; or it refuses them, with this reason and place.
abbrev pub IsVerdict : Profile → List ℕ → Verdict → Type 0
IsVerdict profile bytes (verdict.Accepted m) = Decides profile bytes (Ok m)
IsVerdict profile bytes (verdict.Refused why at) = IsRefused profile profile_limits bytes why at

-- A public: the number of its member, and its name.
pub record Public : Type 0 where
  pub member : ℕ
  pub name : List ℕ

abbrev pub public_seen : Listed → Public
public_seen p = record { member = p.member; name = p.name.items }

abbrev pub publics_seen : List Listed → List Public
publics_seen ps = map public_seen ps

abbrev pub is_public : Kind → Bool
is_public kind.Public = true
is_public kind.Comdat = true
is_public _ = false

-- The publics among the names that a module defines.
abbrev pub publics_among : ℕ → List Defined → List Public
publics_among member [] = []
publics_among member (d ∷ ds) = if is_public d.kind then record { member = member; name = d.name } ∷ publics_among member ds else publics_among member ds

-- The publics of a member: those of the module that a program takes of it, or none.
abbrev pub ArePublics : Profile → ℕ → List ℕ → List Public → Type 0
ArePublics profile number bytes ps =
    ((t : Taken) × IsTaken profile bytes t × (ps ≡ publics_among number (defined_names (recs_of t.«module».bytes))))
    ⊎ ((why : Refusal) × IsUntaken profile bytes why × (ps ≡ []))

-- The publics of members, in order. The first of these members has this number.
abbrev pub AreAllPublics : Profile → ℕ → List Span → List Public → Type 0
AreAllPublics profile number [] ps = ps ≡ []
AreAllPublics profile number (m ∷ ms) ps = (own : List Public) × (others : List Public) × ArePublics profile number m.bytes.now own × AreAllPublics profile (number + 1) ms others × (ps ≡ own ++ others)

-- Whether the dictionary of a header with one begins before an offset.
abbrev pub begins_before : Header → ℕ → Bool
begins_before h offset = not (h.blocks == 0) && nat_lt h.dictionary offset

-- The dictionary that is looked at: it is in the file, and does not begin before the F1H record at this offset.
abbrev pub IsPlaced : Header → List ℕ → ℕ → Option Dictionary → Type 0
IsPlaced h bytes end None = IsDictionary h bytes None ⊎ (begins_before h end ≡ true)
IsPlaced h bytes end (Some d) = IsDictionary h bytes (Some d) × (begins_before h end ≡ false)

-- What of a file can be read as a library: its header, its members, and how they end; or why it has no header.
abbrev pub IsLibraryRead : List ℕ → Result Library LibraryFault → Type 0
IsLibraryRead bytes (Ok l) = HasHeader bytes × (l.bytes.now ≡ bytes) × (l.header ≡ header_of bytes) × AreSpansIn bytes (page_size bytes) l.spans.members.items l.spans.end
IsLibraryRead bytes (Err f) = IsHeaderRead bytes (Err f)
