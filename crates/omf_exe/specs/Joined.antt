-- The file of `omf-link join`: the modules of a program, one after another (this profile's rule).
use Rattle.std.specs.Prelude.{◌≡◌, ◌==◌, ◌&&◌, ℕ, Bool, false, if◌then◌else◌, List, [], ◌∷◌, flat_map}
use Rattle.omf_frame.specs.Framing.{Raw, raw_bytes}
use Rattle.omf_check.specs.Module.{Module, records_in}
use Rattle.omf_exe.specs.Making.{AreCompleted, AreIncomplete, AreOf, ProgramFiles, modules_of}
use Rattle.omf_exe.specs.Program.{ProgramModules}
use Rattle.omf_exe.specs.declared.options.ExeOptions.{ExeOptions}

-- A COMENT of class 9EH asks a linker for DOS order (TIS OMF 1.1, "COMENT").
abbrev pub asks_order : ℕ → List ℕ → Bool
asks_order kind (type_byte ∷ class ∷ text) = (kind == 0x88) && (class == 0x9E)
asks_order kind _ = false

-- The bytes of a module without these comments.
abbrev pub ordered_bytes : Raw → List ℕ
ordered_bytes r = if asks_order r.kind r.body then [] else raw_bytes r

abbrev pub without_order : List ℕ → List ℕ
without_order bytes = flat_map ordered_bytes (records_in bytes)

-- The bytes of modules, one after another. The segments are in order, and stay so: no module asks for another.
abbrev pub all_bytes : List Module → List ℕ
all_bytes ms = flat_map (λ m. without_order m.bytes) ms

-- The modules are those of which a program of the files is made.
pub record IsJoinedFile (options : ExeOptions) (p : ProgramFiles) (bytes : List ℕ) : Type 0 where
  pub given : AreOf p.ignores_case p.files p.modules
  pub linked : ProgramModules
  pub completed : AreCompleted options (modules_of p) linked
  pub file : bytes ≡ all_bytes linked.modules

-- Why files have none: their modules are not completed.
pub record IsNotJoined (options : ExeOptions) (p : ProgramFiles) : Type 0 where
  pub given : AreOf p.ignores_case p.files p.modules
  pub why : AreIncomplete options p.modules
