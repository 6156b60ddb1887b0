-- The DOS program of modules (this profile's rule): they are laid out from address 0 on in real mode, and their externals are derived from their publics.
use Rattle.std.specs.Prelude.{◌≡◌, ◌⊎◌, ⊤, ℕ, ◌+◌, ◌≤◌, List, [], ◌∷◌, Bool, Option, Some, None, Ok, Err, is_some, length}
use Rattle.omf_check.specs.Module.{Module, typed_modules}
use Rattle.omf_placement.specs.declared.several.fault.DeriveFault.{DeriveFault}
use Rattle.omf_placement.specs.declared.several.fault.DeriveFault.TheVariants as no_external
use Rattle.omf_placement.specs.declared.several.given.Given.{Given}
use Rattle.omf_placement.specs.Derive.{placed_modules}
-- computed: derived_is_taken of omf_placement.
use Rattle.omf_placement.specs.Inner.Derived.{derived}
use Rattle.omf_placement.specs.Placement.{Places}
use Rattle.omf_placement.specs.Weak.{with_weak}
use Rattle.omf_layout.specs.declared.fault.LayoutFault.{LayoutFault}
use Rattle.omf_layout.specs.declared.fault.LayoutFault.TheVariants as layout
use Rattle.omf_layout.specs.declared.options.Frames.TheVariants.{Real}
use Rattle.omf_layout.specs.declared.options.Options.{Options}
use Rattle.omf_layout.specs.Several.Laying.{laid}
use Rattle.omf_layout.specs.Several.Placing.{arranged_places}
use Rattle.omf_output.specs.declared.exe.com_fault.ComFault.{ComFault}
use Rattle.omf_output.specs.declared.exe.fault.ExeFault.{ExeFault}
use Rattle.omf_output.specs.Exe.Com.{IsComFault, after_prefix, com_bytes, com_fault, com_loaded, stack_bytes}
use Rattle.omf_output.specs.Exe.Derived.{AreMovers}
use Rattle.omf_output.specs.Exe.Exe.{exe}
use Rattle.omf_output.specs.Exe.Linked.{IsExeFault, exe_fault, linked, linked_at}
use Rattle.omf_output.specs.Exe.Loading.{loaded}
use Rattle.omf_output.specs.Exe.Members.{Member, portions, stack}
use Rattle.omf_output.specs.Exe.Moved.{Movers}
use Rattle.omf_map.specs.Far.{IsProgramMap}
use Rattle.omf_symbols.specs.Placed.{placed_symbols}
use Rattle.omf_symbols.specs.Text.{symbols_text}
use Rattle.omf_host.specs.declared.tool.Tool.{Tool}
use Rattle.omf_exe.specs.declared.input.Origin.{Origin}
use Rattle.omf_output.specs.Near.{first_near}
use Rattle.omf_output.specs.Stacks.{first_between}
use Rattle.omf_output.specs.declared.stacks.Interval.{Interval}
use Rattle.omf_output.specs.declared.near.Stray.{Stray}
use Rattle.omf_warnings.specs.Long.{first_long}
use Rattle.omf_combining.specs.Mixed.{first_mixed}
use Rattle.omf_combining.specs.declared.mixed.CodePart.{CodePart}
use Rattle.omf_warnings.specs.declared.wide.FarMember.{FarMember}

-- The modules of a program, and the origin of each; one that the linker added has none.
pub record ProgramModules : Type 0 where
  pub modules : List Module
  pub from : List (Option Origin)

-- Real mode, from address 0 on.
abbrev pub at_0 : Options
at_0 = record { base = 0; frames = Real }

-- Modules with their placements and what moves of them, numbered.
abbrev pub members_from : ℕ → List Module → List Places → List Movers → List Member
members_from j [] pls mvs = []
members_from j (m ∷ ms) [] mvs = []
members_from j (m ∷ ms) (pl ∷ pls) [] = []
members_from j (m ∷ ms) (pl ∷ pls) (mv ∷ mvs) = record { number = j; bytes = m.bytes; places = pl; movers = mv } ∷ members_from (j + 1) ms pls mvs

-- The places of modules.
pub record AreLaid (ms : List Module) (places : List Places) : Type 0 where
  pub free : ℕ
  pub laid : arranged_places at_0 (typed_modules ms) ≡ Some (laid places free)

-- The entries of externals for `derive`: those of weak externals without a public, at the places of their defaults. No external has a place given by hand.
abbrev pub weak_of : List Module → List Places → List Given
weak_of ms places = with_weak (placed_modules ms places) []

-- The placements of the modules of a program: those that are derived at their places.
pub record ArePlaced (ms : List Module) (placements : List Places) : Type 0 where
  pub places : List Places
  pub laid : AreLaid ms places
  pub derived : derived (placed_modules ms places) (weak_of ms places) ≡ Ok placements

-- The same with what moves of each module.
pub record AreSettled (ms : List Module) (placements : List Places) (movers : List Movers) : Type 0 where
  pub placed : ArePlaced ms placements
  pub moving : AreMovers (typed_modules ms) (placed_modules ms placed.places) movers

-- The modules of a program: each with its placement, and with what moves of it.
pub record AreMade (ms : List Module) (members : List Member) : Type 0 where
  pub placements : List Places
  pub movers : List Movers
  pub settled : AreSettled ms placements movers
  pub numbered : members ≡ members_from 0 ms placements movers

-- The bytes of the program, and whether it has a stack. Its header asks for a maximum of paragraphs after the image. What DOS loads at paragraph k, for every k, is what these modules are at their placements moved
-- by k paragraphs. The modules so placed have no fault.
pub record IsProgramOf (most : ℕ) (ms : List Module) (bytes : List ℕ) (has_stack : Bool) : Type 0 where
  pub members : List Member
  pub made : AreMade ms members
  pub file : bytes ≡ exe most (linked members)
  pub loads : (k : ℕ) → loaded bytes k ≡ linked_at k members
  pub stack : has_stack ≡ is_some (stack (portions members))
  pub none : exe_fault members ≡ None

-- The first segment, or else the first member of a group, that ends too far from its frame, with the modules at the places of their program.
pub record IsLongOf (ms : List Module) (found : Option FarMember) : Type 0 where
  pub places : List Places
  pub laid : AreLaid ms places
  pub first : found ≡ first_long (placed_modules ms places)

-- The first two parts of one segment of which one is 16-bit and the other 32-bit.
abbrev pub IsMixedOf : List Module → Option (CodePart × CodePart) → Type 0
IsMixedOf ms found = found ≡ first_mixed (typed_modules ms)

-- The first segment between the parts of the stack, with the modules at the places of their program.
pub record IsBetweenOf (ms : List Module) (found : Option Interval) : Type 0 where
  pub places : List Places
  pub laid : AreLaid ms places
  pub first : found ≡ first_between (placed_modules ms places)

-- The first near reference into another frame, with the modules at the placements of their program.
pub record IsNearOf (ms : List Module) (found : Option Stray) : Type 0 where
  pub placements : List Places
  pub placed : ArePlaced ms placements
  pub first : found ≡ first_near ms placements

-- The map of a program: of the modules that it shows, at the placements of the program's.
pub record IsMapOf (ms shown : List Module) (text : List ℕ) : Type 0 where
  pub placements : List Places
  pub placed : ArePlaced ms placements
  pub printed : IsProgramMap shown placements text

-- The symbols of a program for a tool that loads it at an address, of the same modules.
pub record AreSymbolsOf (tool : Tool) (load : ℕ) (ms shown : List Module) (text : List ℕ) : Type 0 where
  pub placements : List Places
  pub placed : ArePlaced ms placements
  pub printed : text ≡ symbols_text tool (placed_symbols load (placed_modules shown placements))

-- Why modules have no places: a segment does not end below 2^20; or an external has no place. Memory may run out at any time.
abbrev pub IsLayoutFault : List Module → LayoutFault → Type 0
IsLayoutFault ms layout.Memory = ⊤
IsLayoutFault ms layout.NoRoom = arranged_places at_0 (typed_modules ms) ≡ None

pub record IsExternalFault (ms : List Module) (f : DeriveFault) : Type 0 where
  pub places : List Places
  pub laid : AreLaid ms places
  pub fault : (f ≡ no_external.Memory) ⊎ (derived (placed_modules ms places) (weak_of ms places) ≡ Err f)

-- Why modules at their placements are no program: they have a fault.
pub record IsMemberFault (ms : List Module) (f : ExeFault) : Type 0 where
  pub members : List Member
  pub made : AreMade ms members
  pub fault : IsExeFault members f

-- ---- .COM programs

-- The bytes of the .COM program. What DOS makes of them in segment k, for every k, is what these modules are at their placements moved by k paragraphs, from
-- offset 100H on. No byte of the modules is below 100H, and they end with room for the stack before the word at FFFEH.
pub record IsComOf (ms : List Module) (bytes : List ℕ) : Type 0 where
  pub members : List Member
  pub made : AreMade ms members
  pub file : bytes ≡ com_bytes members
  pub loads : (k : ℕ) → com_loaded bytes k ≡ after_prefix (linked_at k members)
  pub short : length bytes + (256 + stack_bytes (portions members)) ≤ 65534
  pub none : com_fault members ≡ None

-- Why modules at their placements are no .COM program: they have a fault.
pub record IsMemberComFault (ms : List Module) (f : ComFault) : Type 0 where
  pub members : List Member
  pub made : AreMade ms members
  pub fault : IsComFault members f
