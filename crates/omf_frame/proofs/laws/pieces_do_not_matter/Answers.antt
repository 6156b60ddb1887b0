use Rattle.omf_frame.proofs.RunLaws.{run_joined, takes_law, fails_law, open_after, fed_law}
use Rattle.omf_frame.proofs.laws.pieces_do_not_matter.Goals as goal

pub returns : goal.returns
returns c = record {
  joined = run_joined;
  takes = takes_law;
  fails = fails_law;
  open_after = open_after;
  fed = fed_law;
}
