use Rattle.omf_check.proofs.CellLaws.{cells_are_threads, thread-append, few_numbers}
use Rattle.omf_check.proofs.laws.cells_are_threads.Goals as goal

pub returns : goal.returns
returns c = (cells_are_threads, λ subs s is_frame k. thread-append is_frame k subs s, few_numbers)
