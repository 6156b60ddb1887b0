-- What is written of a text in pieces, while it is printed.
use Rattle.std.specs.Prelude.{◌≡◌, ℕ, ◌++◌, List, Option, Result, Ok, Err}
use Rattle.std.specs.Io.KnownBytes.{Appends}
use Rattle.omf_cmd.specs.declared.fault.RunFault.{RunFault}
use Rattle.omf_cmd.specs.Runs.{IsPart}

-- a front of the text is written, and `left` is the rest
pub record IsWrittenUpTo (old new : Option (List ℕ)) (text left : List ℕ) : Type 0 where
  pub front : List ℕ
  pub whole : text ≡ front ++ left
  pub written : Appends old new front

-- all of the text is written but what is still collected, or at a fault a front of it
abbrev pub Passes : Option (List ℕ) → Option (List ℕ) → Result (Unit {0}) RunFault → List ℕ → List ℕ → Type 0
Passes old new (Ok done) text kept = IsWrittenUpTo old new text kept
Passes old new (Err e) text kept = IsPart old new text
