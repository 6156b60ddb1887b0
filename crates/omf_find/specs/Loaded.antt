-- The program that a file is (the MZ format; DOS loads a .COM file at 100H of a segment; the rest is this profile's rule).
use Rattle.std.specs.Prelude.{◌≡◌, ℕ, ◌+◌, ◌-◌, ◌^◌, ◌<◌, ◌≤◌, ◌==◌, ◌&&◌, List, [], ◌∷◌, drop, length, nat_le, Bool, true, false, Option, Some, None, MatchOption, IsPermutation, if◌then◌else◌}
use Rattle.omf_finding.specs.declared.program.Program.{Program}
use Rattle.omf_find.specs.Marks.{other, packer}
use Rattle.omf_find.specs.Mz.{IsMz, IsMzFault, header_fault, is_mz}
use Rattle.omf_find.specs.declared.loading.Loaded.{Loaded}
use Rattle.omf_symbols.specs.declared.tool.Kind.TheVariants as kind
use Rattle.omf_find.specs.declared.loading.LoadFault.{LoadFault}
use Rattle.omf_find.specs.declared.loading.LoadFault.TheVariants as fault
use Rattle.omf_find.specs.declared.mz.Mz.{Mz}

-- ---- programs

-- Of an MZ file: its image, loaded at 0, and the words, CS:IP and SS that DOS has for paragraph 0.
pub record IsMzProgram (m : Mz) (p : Program) : Type 0 where
  pub bytes : p.bytes.items ≡ m.image.now
  pub base : p.base ≡ 0
  pub relocated : MatchOption p.relocated ⊥ (λ v. IsPermutation m.words.items v.items)
  pub start : p.start ≡ Some m.code
  pub selectors : p.selectors.items ≡ m.stack ∷ []

-- Of a .COM file: its bytes at 100H, where it starts, and no relocation word.
pub record IsComProgram (file : List ℕ) (p : Program) : Type 0 where
  pub bytes : p.bytes.items ≡ file
  pub base : p.base ≡ 256
  pub relocated : MatchOption p.relocated ⊥ (λ v. v.items ≡ [])
  pub start : p.start ≡ Some (0, 256)
  pub selectors : p.selectors.items ≡ []

-- Of a raw image: its bytes at its address, and nothing more than the selectors that are given.
pub record IsRawProgram (file : List ℕ) (first : ℕ) (given : List ℕ) (p : Program) : Type 0 where
  pub bytes : p.bytes.items ≡ file
  pub base : p.base ≡ first
  pub relocated : p.relocated ≡ None
  pub start : p.start ≡ None
  pub selectors : p.selectors.items ≡ given

-- ---- names

-- A letter in lower case.
abbrev pub lower : ℕ → ℕ
lower c = if nat_le 65 c && nat_le c 90 then c + 32 else c

-- The name ends in .com, in any case.
abbrev pub is_dot_com : List ℕ → Bool
is_dot_com (dot ∷ c ∷ o ∷ m ∷ []) = dot == 46 && (lower c == 99 && (lower o == 111 && lower m == 109))
is_dot_com _ = false

abbrev pub is_com_name : List ℕ → Bool
is_com_name name = is_dot_com (drop (length name - 4) name)

-- ---- files

pub record IsRawLoaded (base : ℕ) (selectors file : List ℕ) (l : Loaded) : Type 0 where
  pub program : IsRawProgram file base selectors l.program
  pub kind : l.kind ≡ kind.Raw
  pub packer : l.packer ≡ None
  pub inside : base + length file ≤ 2 ^ 32

pub record IsComLoaded (file : List ℕ) (l : Loaded) : Type 0 where
  pub program : IsComProgram file l.program
  pub kind : l.kind ≡ kind.Com
  pub packer : l.packer ≡ None
  pub short : length file ≤ 65280

pub record IsMzLoaded (file : List ℕ) (l : Loaded) : Type 0 where
  pub m : Mz
  pub read : IsMz file m
  pub program : IsMzProgram m l.program
  pub kind : l.kind ≡ kind.Mz
  pub packer : l.packer ≡ packer file
  pub alone : other file ≡ None

-- A file that is no raw image is an MZ file by its first bytes, or a .COM file by its name.
abbrev pub IsFileLoaded : Bool → List ℕ → List ℕ → Loaded → Type 0
IsFileLoaded true name file l = IsMzLoaded file l
IsFileLoaded false name file l = (is_com_name name ≡ true) × IsComLoaded file l

abbrev pub IsLoaded : Option ℕ → List ℕ → List ℕ → List ℕ → Loaded → Type 0
IsLoaded (Some base) selectors name file l = IsRawLoaded base selectors file l
IsLoaded None selectors name file l = IsFileLoaded (is_mz file) name file l

-- ---- faults. Memory only if there is no other.

abbrev pub IsRawFault : ℕ → List ℕ → LoadFault → Type 0
IsRawFault base file fault.High = 2 ^ 32 < base + length file
IsRawFault base file _ = ⊥

abbrev pub IsComFault : List ℕ → LoadFault → Type 0
IsComFault file fault.LongCom = 65280 < length file
IsComFault file _ = ⊥

abbrev pub IsMzLoadFault : List ℕ → LoadFault → Type 0
IsMzLoadFault file (fault.Other o) = other file ≡ Some o
IsMzLoadFault file (fault.Mz f) = (other file ≡ None) × IsMzFault file f
IsMzLoadFault file fault.Memory = (other file ≡ None) × (header_fault file ≡ None)
IsMzLoadFault file _ = ⊥

abbrev pub IsFileFault : Bool → Bool → List ℕ → LoadFault → Type 0
IsFileFault true is_com file f = IsMzLoadFault file f
IsFileFault false true file f = IsComFault file f
IsFileFault false false file f = f ≡ fault.Unknown

abbrev pub IsLoadFault : Option ℕ → List ℕ → List ℕ → LoadFault → Type 0
IsLoadFault (Some base) name file f = IsRawFault base file f
IsLoadFault None name file f = IsFileFault (is_mz file) (is_com_name name) file f
