use Rattle.omf_exe.proofs.MapAddresses.{maps-show-programs}
use Rattle.omf_exe.proofs.laws.maps_show_programs.Goals as goal

pub returns : goal.returns
returns c = maps-show-programs
