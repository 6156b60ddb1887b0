use Rattle.std.proofs.Common.{◌∙◌}
use Rattle.omf_check.proofs.ThreadLaws.{frame_kept, target_kept}
use Rattle.omf_check.specs.Module.{records_in}
use Rattle.omf_check.specs.Tables.{subrecords}
use Rattle.omf_check.specs.WellFormed.{recs}
use Rattle.omf_check.proofs.ending.threads_of_end.Goals as goal
