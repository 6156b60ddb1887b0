use Rattle.std.specs.Prelude.{refl}
use Rattle.std.specs.Fmt.{digits}
use Rattle.omf_lines.proofs.rows.lines_by_names.Goals as goal

pub returns-clause-high : goal.returns-clause-high
unfolding digits
returns-clause-high c = refl

pub returns-clause-missing : goal.returns-clause-missing
unfolding digits
returns-clause-missing c = refl

pub returns-clause-no_frame : goal.returns-clause-no_frame
unfolding digits
returns-clause-no_frame c = refl

pub returns-clause-absolute : goal.returns-clause-absolute
unfolding digits
returns-clause-absolute c = refl

pub returns-clause-far : goal.returns-clause-far
unfolding digits
returns-clause-far c = refl

pub returns-clause-local : goal.returns-clause-local
unfolding digits
returns-clause-local c = refl

pub returns-clause-grouped : goal.returns-clause-grouped
unfolding digits
returns-clause-grouped c = refl

pub returns-clause-near : goal.returns-clause-near
unfolding digits
returns-clause-near c = refl

pub returns-clause-starts : goal.returns-clause-starts
unfolding digits
returns-clause-starts c = refl

pub returns-clause-beyond : goal.returns-clause-beyond
unfolding digits
returns-clause-beyond c = refl

pub returns-clause-overlap : goal.returns-clause-overlap
unfolding digits
returns-clause-overlap c = refl

pub returns-clause-outside : goal.returns-clause-outside
unfolding digits
returns-clause-outside c = refl
