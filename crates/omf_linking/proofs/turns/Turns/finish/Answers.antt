use Rattle.std.proofs.Common.{◌∙◌, ap, refl, subst, sym}
use Rattle.omf_linking.proofs.SpaceLaws.LowestLaws.{gone}
use Rattle.omf_linking.specs.Space.Memory.{pieces, shares, IsFirstOverlap}
use Rattle.omf_linking.specs.Starts.{one_start}
use Rattle.omf_linking.proofs.turns.Turns.finish.Goals as goal

pub returns : goal.returns
returns c =
    let none = gone c.first_overlap.result (sym c.is_some.ensures ∙ c.if-is_some.false) in
    record {
      same = sym c.deref.ensures.value ∙ c.are_same.ensures c.if-not-are_same.false;
      apart = λ ss lies of. subst (IsFirstOverlap (shares (pieces ss))) none (c.first_overlap.ensures ss lies of);
      memory = refl;
      starts = ap one_start (sym c.deref-2.ensures.value) ∙ c.in_ok-start.ensures;
    }
