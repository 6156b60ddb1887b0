-- The walk from module to module: which ones have joined. Only private functions use these definitions.
use Rattle.std.specs.Prelude.{◌≡◌, ℕ, ◌≤◌, List, length, Bool, false, Option, Some, None, slice_get, slice_index_or, if◌then◌else◌}
use Rattle.omf_frame.specs.Bytes.{is_one_of}
use Rattle.omf_records.specs.Values.{Rec}
use Rattle.omf_check.specs.Module.{Module, recs_of}
use Rattle.omf_check.specs.Tables.{entry, externals, locals}
use Rattle.omf_finding.specs.Chain.{Draft, IsChained, Refers, draft_at}
use Rattle.omf_finding.specs.Near.{AreClosed}
use Rattle.omf_finding.specs.declared.chaining.Tried.{Tried}
use Rattle.omf_finding.specs.declared.closed.ClosedByte.{ClosedByte}
use Rattle.omf_finding.specs.declared.findings.Found.{Found}
use Rattle.omf_finding.specs.declared.patterning.PatternByte.{PatternByte}
use Rattle.omf_finding.specs.declared.program.Program.{Program}

-- The name of an external that is not local, of which something shows where it is.
pub record IsKnown (m : List Rec) (f : Found) (external : ℕ) (name : List ℕ) : Type 0 where
  pub name_is : entry (externals m) external ≡ Some name
  pub shared : entry (locals m) external ≡ Some false
  pub known : is_one_of f.unknown external ≡ false

-- Whether a module has joined.
abbrev pub has_joined : List Bool → ℕ → Bool
has_joined marks n = slice_index_or marks n false

abbrev pub kept : {X : Type 0} → Option X → Bool → Option X
kept draft is_joined = if is_joined then draft else None

-- The drafts of those that have.
abbrev pub found_by : List Draft → List Bool → ℕ → Option Found
found_by drafts marks i = kept (draft_at drafts i) (has_joined marks i)

-- Each that has joined is at the end of a chain of such.
abbrev pub AreJoined : Program → ℕ → List Module → List Draft → List Bool → Type 0
AreJoined program n ms drafts marks = (i : ℕ) (f : Found) → found_by drafts marks i ≡ Some f → IsChained program n ms (found_by drafts marks) i

-- The same of a walk, with a mark for each module.
abbrev pub HaveJoined : Tried → List Bool → Type 0
HaveJoined t marks = AreJoined t.program.now t.least t.modules.now t.drafts.now marks × (length marks ≡ length t.modules.now)

-- One module refers to another, at their drafts.
pub record RefersAt (ms : List Module) (drafts : List Draft) (i j : ℕ) : Type 0 where
  pub m : Module
  pub f : Found
  pub module_is : slice_get ms i ≡ Some m
  pub found_is : draft_at drafts i ≡ Some f
  pub other : Module
  pub g : Found
  pub other_is : slice_get ms j ≡ Some other
  pub there_is : draft_at drafts j ≡ Some g
  pub refers : Refers (recs_of m.bytes) f (recs_of other.bytes) g
