use Rattle.std.proofs.Common.{◌++◌, ap, ◌∙◌}
use Rattle.std.specs.Prelude.{map}
use Rattle.omf_check.specs.Module.{records_in}
use Rattle.omf_layout.specs.Own.Claims.{record_claims}
use Rattle.omf_layout.specs.Several.Gathered.{named}
use Rattle.omf_layout.proofs.Gathered.{more-given, all-given}
use Rattle.omf_layout.proofs.OwnLaws.{claims-by, claims-all}
use Rattle.omf_layout.proofs.own.claims.add_module.Goals as goal

pub loop-rec-init : goal.loop-rec-init
loop-rec-init c =
    let listed = c.into_iter-rec-iterator.ensures.into_iter_gives ∙ c.undecoded-rec-items.ensures.listed in
    ap (λ xs. map named c.args.claims.now.items ++ xs) (ap claims-by listed ∙ claims-all 0 0 (records_in c.args.«module».now.bytes))

pub loop-rec-preserved : goal.loop-rec-preserved
loop-rec-preserved c =
    more-given (map named c.loop-rec.claims.items) (map named c.add_record.new.claims.items) (record_claims c.in-Some.rec.kind c.in-Some.rec.contents) _ _ _ (c.in_ok-add_record.ensures) (ap claims-by c.in-Some.ensures.steps) c.loop-rec.invariant

pub returns : goal.returns
returns c = all-given (map named c.loop-rec.claims.items) _ _ (ap claims-by c.in-None.ensures.steps.0) c.loop-rec.invariant
