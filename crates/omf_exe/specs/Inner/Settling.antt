-- What is known of modules at the placements of their program.
use Rattle.std.specs.Prelude.{◌≡◌, ◌<◌, ◌^◌, List, Bool, false, length}
use Rattle.omf_check.specs.Module.{Module}
use Rattle.omf_output.specs.Exe.Moved.{Movers}
use Rattle.omf_placement.specs.Placement.{Places}
use Rattle.omf_exe.specs.Program.{AreSettled}
use Rattle.omf_exe.specs.Refusing.{HaveNamesTwice}

-- Whether names repeat is known for sure only if none does.
pub record AreKnown (ms : List Module) (placements : List Places) (movers : List Movers) (repeats : Bool) : Type 0 where
  pub few : length ms < 2 ^ 32
  pub settled : AreSettled ms placements movers
  pub apart : repeats ≡ false → HaveNamesTwice ms false
