use Rattle.std.proofs.Common.{◌∙◌, sym, ap}
use Rattle.omf_frame.specs.Framing.{present, standing_fault}
use Rattle.omf_frame.proofs.FramingLaws.{present-append}
use Rattle.omf_frame.proofs.Standing.{standing_stays, present_twice}
use Rattle.omf_frame.proofs.laws.standing_faults_stay.Goals as goal

pub returns : goal.returns
returns c = λ f x y g e. ap (standing_fault f) (sym (present-append x y)) ∙ standing_stays f (present x) y g (present_twice x) e
