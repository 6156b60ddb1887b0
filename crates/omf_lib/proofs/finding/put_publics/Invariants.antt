use Rattle.std.proofs.Common.{◌≡◌, ◌++◌, length}
use Rattle.std.specs.Prelude.{string_bytes}
use Rattle.omf_lib.specs.Find.{publics_text}
use Rattle.omf_lib.specs.Members.{publics_seen}
use Rattle.omf_lib.proofs.finding.put_publics.Given as goal

-- the text so far, and that of the publics that are left
abbrev pub invariant-loop-rest : goal.invariant-loop-rest
invariant-loop-rest l =
    string_bytes l.text ++ publics_text l.is_case_sensitive l.name (publics_seen l.rest) ≡ string_bytes l.fn.text ++ publics_text l.is_case_sensitive l.name (publics_seen l.all)

abbrev pub decreases-loop-rest : goal.decreases-loop-rest
decreases-loop-rest l = length l.rest
