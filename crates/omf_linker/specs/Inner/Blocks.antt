-- A text that goes to a writer in blocks, while it is printed.
use Rattle.std.specs.Prelude.{◌≡◌, ℕ, List, ◌++◌, Result, Ok, Err}
use Rattle.std.specs.Io.KnownBytes.{Appends}
use Rattle.omf_frame.specs.Device.{Device}
use Rattle.omf_cmd.specs.Runs.{IsUnbroken, PrintsOr}

-- a front of the text is written, and `left` is the rest; the writer did not break
pub record IsWrittenUpTo (old new : Device) (text left : List ℕ) : Type 0 where
  pub front : List ℕ
  pub whole : text ≡ front ++ left
  pub unbroken : IsUnbroken old new
  pub written : Appends old.bytes new.bytes front

-- all of the text is written but what is in the block; or a front of it, if the writer failed
abbrev pub Passes : {F : Type 0} → F → Device → Device → Result (Unit {0}) F → List ℕ → List ℕ → Type 0
Passes failed old new (Ok done) text kept = IsWrittenUpTo old new text kept
Passes failed old new (Err e) text kept = PrintsOr failed old new (Ok text) (Err e)
