use Rattle.std.proofs.Common.{drop}
use Rattle.std.specs.Prelude.{string_bytes}
use Rattle.omf_library.specs.LibraryMembers.{names_kept}
use Rattle.omf_lib.specs.Members.{publics_seen}
use Rattle.omf_lib.proofs.FindLaws.{IsWrittenOf}
use Rattle.omf_lib.proofs.finding.put_names.Given as goal

-- the text so far, and the names that are left
abbrev pub invariant-loop-name : goal.invariant-loop-name
invariant-loop-name l =
    IsWrittenOf l.sources.ignores_case l.sources.dictionary (publics_seen l.sources.publics.now) (names_kept l.names) (names_kept (drop l.name-index l.names)) l.is_refused (string_bytes l.fn.text) (string_bytes l.text)
