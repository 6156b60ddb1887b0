-- The lowering of a module after the steps before it: each frame that it names by a number has a segment, COMDATs are in place of virtual segments, and no segment has A = 6
-- or 7.
use Rattle.std.specs.Prelude.{◌⊎◌, ⊤, ℕ, List}
use Rattle.omf_frame.specs.declared.fault.Place.{Place}
use Rattle.omf_frame.specs.declared.fault.Reason.{Reason}
use Rattle.omf_explicit.specs.Modules.{IsWithSegments, Stays as FramesStay}
use Rattle.omf_explicit.specs.Origins.{ComesFrom as ComesBySegments}
use Rattle.omf_virtual.specs.Modules.{IsWithComdats, Stays as VirtualsStay}
use Rattle.omf_virtual.specs.Origins.{ComesFrom as ComesByComdats}
use Rattle.omf_aligned.specs.Changed.{IsWithPages, Stays as AlignmentsStay}
use Rattle.omf_aligned.specs.Origins.{ComesFrom as ComesByPages}
use Rattle.omf_lowered.specs.Places.{IsPlaceOf}
use Rattle.omf_lowering.specs.Lowering.{IsLowered, IsRefused}
use Rattle.omf_lowering.specs.declared.fault.LoweringFault.{LoweringFault}
use Rattle.omf_lowering.specs.declared.fault.LoweringFault.TheVariants as lowering

-- ---- a step, and what comes next
--
-- A step changes the module at the front of an input: `changes` is between the input, the bytes of the changed module, and the rest of the input. An input that it does not
-- change stays as it is. `comes` is between the input, the number of a record of the changed module, and the number of the input's record from which it comes.

-- What comes next makes this output of the changed module. (It has no bytes after that module, so that the rest is the one of the input.)
pub record IsLoweredChanged (changes next : List ℕ → List ℕ → List ℕ → Type 0) (input out rest : List ℕ) : Type 0 where
  pub own : List ℕ
  pub after : List ℕ
  pub changed : changes input own rest
  pub lowered : next own out after

-- What comes next makes this output, after the step.
abbrev pub IsLoweredAfter : (List ℕ → List ℕ → List ℕ → Type 0) → (List ℕ → Type 0) → (List ℕ → List ℕ → List ℕ → Type 0) → List ℕ → List ℕ → List ℕ → Type 0
IsLoweredAfter changes stays next input out rest = (stays input × next input out rest) ⊎ IsLoweredChanged changes next input out rest

-- What comes next refuses the changed module, at a place in it; this is the place in the input.
pub record IsRefusedChanged (changes : List ℕ → List ℕ → List ℕ → Type 0) (comes : List ℕ → ℕ → ℕ → Type 0) (refuses : List ℕ → Reason → Place → Type 0) (input : List ℕ) (why : Reason)
    (at : Place) : Type 0 where
  pub own : List ℕ
  pub rest : List ℕ
  pub there : Place
  pub changed : changes input own rest
  pub refused : refuses own why there
  pub origin : comes input there.number at.number
  pub place : IsPlaceOf input own there at

-- What comes next refuses the module, after the step.
abbrev pub IsRefusedNext : (List ℕ → List ℕ → List ℕ → Type 0) → (List ℕ → ℕ → ℕ → Type 0) → (List ℕ → Type 0) → (List ℕ → Reason → Place → Type 0) → List ℕ → Reason → Place → Type 0
IsRefusedNext changes comes stays refuses input why at = (stays input × refuses input why at) ⊎ IsRefusedChanged changes comes refuses input why at

-- ---- the steps, the last one first

-- A = 4 in place of A = 6 and 7, and then the lowering.
abbrev pub IsLoweredPaged : List ℕ → List ℕ → List ℕ → Type 0
IsLoweredPaged = IsLoweredAfter IsWithPages AlignmentsStay IsLowered

abbrev pub IsPagedRefused : List ℕ → Reason → Place → Type 0
IsPagedRefused = IsRefusedNext IsWithPages ComesByPages AlignmentsStay IsRefused

-- COMDATs in place of virtual segments, and then that.
abbrev pub IsLoweredComdats : List ℕ → List ℕ → List ℕ → Type 0
IsLoweredComdats = IsLoweredAfter IsWithComdats VirtualsStay IsLoweredPaged

abbrev pub IsComdatRefused : List ℕ → Reason → Place → Type 0
IsComdatRefused = IsRefusedNext IsWithComdats ComesByComdats VirtualsStay IsPagedRefused

-- An input begins with a module that is lowered to these bytes, after all steps, and the rest follows: segments in place of frame numbers come first.
abbrev pub IsLoweredModule : List ℕ → List ℕ → List ℕ → Type 0
IsLoweredModule = IsLoweredAfter IsWithSegments FramesStay IsLoweredComdats

abbrev pub IsModuleRefused : List ℕ → Reason → Place → Type 0
IsModuleRefused = IsRefusedNext IsWithSegments ComesBySegments FramesStay IsComdatRefused

-- The cause of a fault. Memory may run out at any time.
abbrev pub IsFaultBy : (List ℕ → Reason → Place → Type 0) → List ℕ → LoweringFault → Type 0
IsFaultBy refuses input lowering.Memory = ⊤
IsFaultBy refuses input (lowering.Refused why at) = refuses input why at

abbrev pub IsPagedFault : List ℕ → LoweringFault → Type 0
IsPagedFault = IsFaultBy IsPagedRefused

abbrev pub IsComdatFault : List ℕ → LoweringFault → Type 0
IsComdatFault = IsFaultBy IsComdatRefused

abbrev pub IsModuleFault : List ℕ → LoweringFault → Type 0
IsModuleFault = IsFaultBy IsModuleRefused
