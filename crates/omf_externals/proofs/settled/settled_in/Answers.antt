use Rattle.std.proofs.Common.{◌∙◌, ap₂}
use Rattle.omf_externals.specs.Unresolved.{with_marks}
use Rattle.omf_externals.proofs.settled.settled_in.Goals as goal

pub returns : goal.returns
returns c = λ rows h.
    c.put_marks.ensures
    ∙ ap₂ with_marks (c.deref-2.ensures.value ∙ c.in_ok-pairs.ensures rows c.args.by_hand.now h (c.deref.ensures.value ∙ c.in_ok-marks.ensures)) c.in_ok-marks.ensures
