use Rattle.std.specs.Prelude.{refl}
use Rattle.std.specs.Fmt.{digits}
use Rattle.omf_cmd.proofs.rows.texts_and_images.Goals as goal

pub returns-clause-first : goal.returns-clause-first
unfolding digits
returns-clause-first c = refl

pub returns-clause-empty : goal.returns-clause-empty
unfolding digits
returns-clause-empty c = refl

pub returns-clause-threads : goal.returns-clause-threads
unfolding digits
returns-clause-threads c = refl

pub returns-clause-overlaid : goal.returns-clause-overlaid
unfolding digits
returns-clause-overlaid c = refl

pub returns-clause-overlapping : goal.returns-clause-overlapping
unfolding digits
returns-clause-overlapping c = refl

pub returns-clause-beyond : goal.returns-clause-beyond
unfolding digits
returns-clause-beyond c = refl

pub returns-clause-unsigned : goal.returns-clause-unsigned
unfolding digits
returns-clause-unsigned c = refl

pub returns-clause-call : goal.returns-clause-call
unfolding digits
returns-clause-call c = refl

pub returns-clause-near : goal.returns-clause-near
unfolding digits
returns-clause-near c = refl

pub returns-clause-far : goal.returns-clause-far
unfolding digits
returns-clause-far c = refl

pub returns-clause-flat : goal.returns-clause-flat
unfolding digits
returns-clause-flat c = refl

pub returns-clause-blocks : goal.returns-clause-blocks
unfolding digits
returns-clause-blocks c = refl
