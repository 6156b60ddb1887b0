use Rattle.std.proofs.Common.{sym, subst}
use Rattle.omf_canon.proofs.CutLaws.{cut-greedy, greedy-cut}
use Rattle.omf_canon.specs.Cut.{IsGreedyCut}
use Rattle.omf_canon.proofs.laws.cuts_are_greedy.Goals as goal

pub returns : goal.returns
returns c = λ kind fixups groups. (greedy-cut kind fixups groups, λ e. subst (IsGreedyCut kind fixups) (sym e) (cut-greedy kind fixups))
