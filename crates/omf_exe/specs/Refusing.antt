-- Why there is no program: what a refusal is for (this profile's rule). Memory may run out at any time: then the refusal names this, and nothing of the modules.
use Rattle.std.specs.Prelude.{◌≡◌, ◌⊎◌, ◌≤◌, ◌++◌, ℕ, List, Bool, true, false, Option, Some, None, length, map}
use Rattle.std.specs.List.{AllZip}
use Rattle.omf_check.specs.Module.{Module, typed_modules}
use Rattle.omf_cmd.specs.Programs.{FaultReport}
use Rattle.omf_layout.specs.declared.own.fault.CommunalsFault.{CommunalsFault}
use Rattle.omf_layout.specs.declared.own.fault.CommunalsFault.TheVariants as communals
use Rattle.omf_layout.specs.declared.own.order.OrderFault.{OrderFault}
use Rattle.omf_layout.specs.declared.own.order.OrderFault.TheVariants as dos
use Rattle.omf_layout.specs.Own.Order.{ask_dos_order}
use Rattle.omf_layout.specs.Several.Placing.{arranged_places}
use Rattle.omf_library.specs.declared.fault.LibraryFault.{LibraryFault}
use Rattle.omf_library.specs.declared.fault.LibraryFault.TheVariants as library
use Rattle.omf_library.specs.declared.judged.LibraryMember.{LibraryMember}
use Rattle.omf_library.specs.declared.judged.RefusedMember.{RefusedMember}
use Rattle.omf_linking.specs.File.{InputFile}
use Rattle.omf_linking.specs.Folded.{IsFolded}
use Rattle.omf_linking.specs.declared.fault.LinkFault.TheVariants as link
use Rattle.omf_output.specs.declared.exe.com_fault.ComFault.{ComFault}
use Rattle.omf_output.specs.declared.exe.com_fault.ComFault.TheVariants as com_fault
use Rattle.omf_output.specs.declared.exe.fault.ExeFault.{ExeFault}
use Rattle.omf_output.specs.declared.exe.fault.ExeFault.TheVariants as exe
use Rattle.omf_placement.specs.declared.several.fault.DeriveFault.{DeriveFault}
use Rattle.omf_placement.specs.declared.several.fault.DeriveFault.TheVariants as derive
use Rattle.omf_aliases.specs.Aliases.{IsAskerOf, IsFollowingFault}
use Rattle.omf_aliases.specs.declared.fault.FollowingFault.{FollowingFault}
use Rattle.omf_aliases.specs.declared.fault.FollowingFault.TheVariants as following
use Rattle.omf_exe.specs.Adding.{IsStackOf, least_stack}
use Rattle.omf_exe.specs.Clashing.{clash_lines}
use Rattle.omf_exe.specs.Input.{AllGive, IsInputFault, IsMemberFolded}
use Rattle.omf_exe.specs.Lowered.{is_link_memory}
use Rattle.omf_exe.specs.Ordering.{IsClassOrderingFault, IsOrderingFault}
use Rattle.omf_exe.specs.Program.{IsExternalFault, IsMemberComFault, IsMemberFault, at_0}
use Rattle.omf_exe.specs.Sharing.{AreShared, IsSharingFault, with_added}
use Rattle.omf_exe.specs.Taken.{IsFirstRefused}
use Rattle.omf_exe.specs.declared.input.InputFault.{InputFault}
use Rattle.omf_exe.specs.declared.input.InputFault.TheVariants as input
use Rattle.omf_exe.specs.declared.joining.JoiningFault.{JoiningFault}
use Rattle.omf_exe.specs.declared.joining.JoiningFault.TheVariants as joining
use Rattle.omf_lines.specs.Files.{files_report}
use Rattle.omf_externals.specs.Repeated.{IsRepeatedText}
use Rattle.omf_externals.specs.Unresolved.{all_rows, spots_of}
use Rattle.omf_exe.specs.declared.options.Order.{Order}
use Rattle.omf_exe.specs.declared.options.Order.TheVariants as asked
use Rattle.omf_exe.specs.declared.options.ProgramKind.{ProgramKind}
use Rattle.omf_exe.specs.declared.ordering.OrderingFault.{OrderingFault}
use Rattle.omf_exe.specs.declared.ordering.OrderingFault.TheVariants as ordering
use Rattle.omf_exe.specs.declared.refusal.Refusal.{Refusal}
use Rattle.omf_exe.specs.declared.refusal.Refusal.TheVariants as refusal
use Rattle.omf_exe.specs.declared.sharing.SharingFault.{SharingFault}
use Rattle.omf_exe.specs.declared.sharing.SharingFault.TheVariants as sharing
use Rattle.omf_lines.specs.declared.fault.ImageFault.TheVariants as image
use Rattle.omf_lines.specs.declared.files_fault.FilesFault.TheVariants as files

-- What is reported of a refusal: the exit status, and its lines.
abbrev pub refusal_report : Refusal → FaultReport
refusal_report (refusal.Files f) = files_report f
refusal_report (refusal.Undefined lines) = record { status = 1; text = lines.items }
refusal_report (refusal.Line lines) = record { status = 1; text = lines.items }

-- ---- out of memory

-- Whether a refusal is that memory ran out.
abbrev pub is_out_of_memory : Refusal → Bool
is_out_of_memory (refusal.Files (files.Link (image.Link link.Memory))) = true
is_out_of_memory _ = false

-- A refusal is for a reason, or memory ran out.
abbrev pub IsRefusalFor : Type 0 → Refusal → Type 0
IsRefusalFor Reason r = is_out_of_memory r ≡ false → Reason

-- The same of faults.
abbrev pub is_library_memory : LibraryFault → Bool
is_library_memory library.Memory = true
is_library_memory _ = false

abbrev pub is_input_memory : InputFault → Bool
is_input_memory input.Memory = true
is_input_memory (input.Library file f) = is_library_memory f
is_input_memory (input.Modules file f) = is_link_memory f

abbrev pub is_joining_memory : JoiningFault → Bool
is_joining_memory joining.Memory = true
is_joining_memory (joining.Refused number r) = false

abbrev pub is_communals_memory : CommunalsFault → Bool
is_communals_memory communals.Memory = true
is_communals_memory _ = false

abbrev pub is_sharing_memory : SharingFault → Bool
is_sharing_memory (sharing.Communals f) = is_communals_memory f
is_sharing_memory (sharing.Refused why at) = false

abbrev pub is_order_memory : OrderFault → Bool
is_order_memory dos.Memory = true
is_order_memory _ = false

abbrev pub is_ordering_memory : OrderingFault → Bool
is_ordering_memory (ordering.Order f) = is_order_memory f
is_ordering_memory (ordering.Refused why at) = false

abbrev pub is_following_memory : FollowingFault → Bool
is_following_memory following.Memory = true
is_following_memory _ = false

abbrev pub is_derive_memory : DeriveFault → Bool
is_derive_memory derive.Memory = true
is_derive_memory _ = false

abbrev pub is_exe_memory : ExeFault → Bool
is_exe_memory exe.Memory = true
is_exe_memory _ = false

abbrev pub is_com_memory : ComFault → Bool
is_com_memory com_fault.Memory = true
is_com_memory (com_fault.Exe f) = is_exe_memory f
is_com_memory _ = false

-- ---- the reasons

-- Why files do not give modules: a file is not read; or a member of a library is refused that the modules need.
abbrev pub AreUnread : List InputFile → Type 0
AreUnread fs = (f : InputFault) × (is_input_memory f ≡ false) × IsInputFault fs f

abbrev pub NeedRefused : List Module → List LibraryMember → Type 0
NeedRefused given members = (number : ℕ) × (r : RefusedMember) × IsFirstRefused given members number r

pub record HaveRefused (fs : List InputFile) : Type 0 where
  pub given : List Module
  pub members : List LibraryMember
  pub hold : AllGive fs given members
  pub refused : NeedRefused given members

abbrev pub GiveNoModules : List InputFile → Type 0
GiveNoModules fs = AreUnread fs ⊎ HaveRefused fs

-- The same with names compared without case.
pub record HaveRefusedFolded (fs : List InputFile) : Type 0 where
  pub given : List Module
  pub members : List LibraryMember
  pub folded_given : List Module
  pub folded_members : List LibraryMember
  pub hold : AllGive fs given members
  pub fold_given : AllZip IsFolded given folded_given
  pub fold_members : AllZip IsMemberFolded members folded_members
  pub refused : NeedRefused folded_given folded_members

abbrev pub GiveNoFolded : List InputFile → Type 0
GiveNoFolded fs = AreUnread fs ⊎ HaveRefusedFolded fs

-- Why there is no module of the communals of modules.
abbrev pub AreNotShared : ProgramKind → List Module → Type 0
AreNotShared kind ms = (f : SharingFault) × (is_sharing_memory f ≡ false) × IsSharingFault kind ms f

-- Why there is no module that puts modules in DOS order, and defines the names for which they ask, also by aliases.
abbrev pub AreNotOrdered : List Module → Type 0
AreNotOrdered ms = (asker : Option Module) × IsAskerOf ms asker × ((f : OrderingFault) × (is_ordering_memory f ≡ false) × IsOrderingFault (with_added ms asker) f)

-- Why there is no module that puts classes in the order that the options ask for.
abbrev pub AreNotInClassOrder : List (List ℕ) → List Module → Type 0
AreNotInClassOrder classes ms = (f : OrderingFault) × (is_ordering_memory f ≡ false) × IsClassOrderingFault classes ms f

-- Why modules are not put in the order that the options ask for, or a module does.
abbrev pub AreNotOrderedBy : Option Order → List Module → Type 0
AreNotOrderedBy (Some asked.Dos) ms = AreNotOrdered ms
AreNotOrderedBy (Some asked.Input) ms = ⊥
AreNotOrderedBy (Some (asked.Classes names)) ms = AreNotInClassOrder (map (λ n. n.now) names.items) ms
AreNotOrderedBy None ms = (ask_dos_order (typed_modules ms) ≡ true) × AreNotOrdered ms

-- Why the modules of communals, stack and order are not added: there is none of the communals; or none of the order.
pub record HaveNoOrder (kind : ProgramKind) (stack : Option ℕ) (order : Option Order) (ms : List Module) : Type 0 where
  pub shared : List Module
  pub communals : AreShared kind ms shared
  pub added : Option Module
  pub stacked : IsStackOf shared (least_stack kind stack) added
  pub fault : AreNotOrderedBy order (with_added shared added)

abbrev pub AreNotAdded : ProgramKind → Option ℕ → Option Order → List Module → Type 0
AreNotAdded kind stack order ms = AreNotShared kind ms ⊎ HaveNoOrder kind stack order ms

-- Why modules do not get the defaults that aliases give to their externals.
abbrev pub AreNotFollowed : List Module → Type 0
AreNotFollowed ms = (f : FollowingFault) × (is_following_memory f ≡ false) × IsFollowingFault ms f

-- Why modules have no places in a program.
abbrev pub AreUnplaced : List Module → Type 0
AreUnplaced ms = (arranged_places at_0 (typed_modules ms) ≡ None) ⊎ ((f : DeriveFault) × (is_derive_memory f ≡ false) × IsExternalFault ms f)

-- Why modules at their placements are no program, and no .COM program.
abbrev pub AreNoProgram : List Module → Type 0
AreNoProgram ms = (f : ExeFault) × (is_exe_memory f ≡ false) × IsMemberFault ms f

abbrev pub AreNoComProgram : List Module → Type 0
AreNoComProgram ms = (f : ComFault) × (is_com_memory f ≡ false) × IsMemberComFault ms f

-- ---- looks

-- A look finds something, or nothing.
abbrev pub Finds : {A : Type 0} → (Option A → Type 0) → Bool → Type 0
Finds {A} IsFirst true = (x : A) × IsFirst (Some x)
Finds {A} IsFirst false = IsFirst None

-- What is found is allowed.
abbrev pub IsAllowed : Bool → Bool → Type 0
IsAllowed is_allowed is_found = is_allowed ≡ false → is_found ≡ false

-- What a look shows: what it finds, if that is allowed; else it refuses the modules.
abbrev pub IsLooked : {A : Type 0} → (Option A → Type 0) → Bool → Bool → Type 0
IsLooked IsFirst is_allowed is_found = Finds IsFirst is_found × IsAllowed is_allowed is_found

abbrev pub IsNotAllowed : {A : Type 0} → (Option A → Type 0) → Bool → Type 0
IsNotAllowed IsFirst is_allowed = (is_allowed ≡ false) × Finds IsFirst true

-- How many publics have a name: more than one have some name, or one at most has each.
abbrev pub count_of : List Module → List ℕ → ℕ
count_of ms name = length (spots_of (all_rows (typed_modules ms)) name)

abbrev pub HaveNamesTwice : List Module → Bool → Type 0
HaveNamesTwice ms true = (name : List ℕ) × (2 ≤ count_of ms name)
HaveNamesTwice ms false = (name : List ℕ) → count_of ms name ≤ 1

-- The lines of these names, by what the modules are called, and after them those of the COMDATs that are not left out.
abbrev pub AreTwiceLines : List Module → List ℕ → Type 0
AreTwiceLines ms text = (labels : List (List ℕ)) × (names : List ℕ) × IsRepeatedText labels (all_rows (typed_modules ms)) names × (text ≡ names ++ clash_lines labels ms)
