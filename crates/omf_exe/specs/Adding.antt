-- The modules that a linker adds to those of a program (this profile's rule).
use Rattle.std.specs.Prelude.{◌≡◌, ℕ, List, Bool, true, false, Option, Some, None, map, unwrap_or}
use Rattle.omf_check.specs.Module.{Module, typed_modules}
use Rattle.omf_layout.specs.Own.Order.{ask_dos_order}
use Rattle.omf_combining.specs.Stack.{stack_bytes}
use Rattle.omf_exe.specs.Ordering.{AreInClassOrder, AreOrdered}
use Rattle.omf_exe.specs.Sharing.{AreShared, IsCheckedOf, with_added}
use Rattle.omf_exe.specs.declared.options.Order.{Order}
use Rattle.omf_exe.specs.declared.options.Order.TheVariants.{Classes, Dos, Input}
use Rattle.omf_exe.specs.declared.options.ProgramKind.{ProgramKind}
use Rattle.omf_exe.specs.declared.options.ProgramKind.TheVariants.{Exe, Com}

-- The least length of the stack: as is asked for. Of an .EXE file it is even also where none is asked for, as with Microsoft LINK. A .COM file has no SP: DOS sets it.
abbrev pub least_stack : ProgramKind → Option ℕ → Option ℕ
least_stack Exe asked = Some (unwrap_or asked 0)
least_stack Com asked = asked

-- The module of the stack, if there is a least length and the stack of the modules is shorter, or its length is odd.
abbrev pub IsStackOf : List Module → Option ℕ → Option Module → Type 0
IsStackOf ms None m = m ≡ None
IsStackOf ms (Some size) m = IsCheckedOf (stack_bytes (typed_modules ms) size) m

-- Modules, and if they are laid in DOS order, before them the module of that order.
abbrev pub AreOrderedIf : Bool → List Module → List Module → Type 0
AreOrderedIf true ms all = AreOrdered ms all
AreOrderedIf false ms all = all ≡ ms

-- Modules in the order that the options ask for: before them the module of that order, if there is one. Where they name none, they are laid in DOS order if a
-- module asks for it (TIS OMF 1.1, "COMENT", class 9EH).
abbrev pub AreOrderedBy : Option Order → List Module → List Module → Type 0
AreOrderedBy (Some Dos) ms all = AreOrdered ms all
AreOrderedBy (Some Input) ms all = all ≡ ms
AreOrderedBy (Some (Classes names)) ms all = AreInClassOrder (map (λ n. n.now) names.items) ms all
AreOrderedBy None ms all = AreOrderedIf (ask_dos_order (typed_modules ms)) ms all

-- Whether there is a module of the order.
abbrev pub has_order : Option Order → List Module → Bool
has_order (Some Dos) ms = true
has_order (Some Input) ms = false
has_order (Some (Classes names)) ms = true
has_order None ms = ask_dos_order (typed_modules ms)

-- Modules with those that are added: after them that of their communals and that of the stack; before all that of their order.
pub record AreAdded (kind : ProgramKind) (stack : Option ℕ) (order : Option Order) (ms all : List Module) : Type 0 where
  pub shared : List Module
  pub communals : AreShared kind ms shared
  pub added : Option Module
  pub stacked : IsStackOf shared (least_stack kind stack) added
  pub ordered : AreOrderedBy order (with_added shared added) all
