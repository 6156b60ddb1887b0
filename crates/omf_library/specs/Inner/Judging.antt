-- The members of a library, one after another (the steps of the code).
use Rattle.std.specs.Prelude.{◌≡◌, ⊤, ℕ, ◌+◌, ◌<◌, ◌≤◌, List, drop, length, Result, Ok, Err}
use Rattle.omf_image.specs.Limits.{profile_limits}
use Rattle.omf_check.specs.Refusal.{IsRefused}
use Rattle.omf_check.specs.declared.profile.Profile.{Profile}
use Rattle.omf_library.specs.LibraryMembers.{IsMemberAt}
use Rattle.omf_library.specs.Spans.{IsSpansEnd}
use Rattle.omf_library.specs.declared.fault.LibraryFault.{LibraryFault}
use Rattle.omf_library.specs.declared.fault.LibraryFault.TheVariants as fault
use Rattle.omf_library.specs.declared.judged.Judged.{Judged}
use Rattle.omf_library.specs.declared.spans.SpanFault.{SpanFault}

-- The member at an offset, after `count` others, or why none is there.
abbrev pub IsJudged : Profile → List ℕ → ℕ → ℕ → Result Judged LibraryFault → Type 0
IsJudged profile bytes count at (Ok j) = IsMemberAt profile bytes at j.member j.length × (0 < j.length) × (at + j.length ≤ length bytes)
IsJudged profile bytes count at (Err fault.Memory) = ⊤
IsJudged profile bytes count at (Err (fault.Refused member offset why place)) = (member ≡ count) × (offset ≡ at) × IsRefused profile profile_limits (drop at bytes) why place
    × (f : SpanFault) × IsSpansEnd bytes count at (Err f)
IsJudged profile bytes count at (Err _) = ⊥
