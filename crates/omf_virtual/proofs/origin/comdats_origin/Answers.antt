use Rattle.std.proofs.Common.{◌≡◌, subst}
use Rattle.std.specs.Prelude.{IfOk, IfSome}
use Rattle.omf_explicit.specs.Modules.{IsModule}
use Rattle.omf_virtual.specs.Origins.{comdats_origin}
use Rattle.omf_virtual.proofs.OriginLaws.{origin_comes}
use Rattle.omf_virtual.proofs.origin.comdats_origin.Goals as goal

pub returns : goal.returns
returns c =
    let bytes = c.args.bytes.now in
    let read = subst (λ f. IfSome f (λ m. IsModule bytes m.records.items m.rest.now)) c.in-Some.is c.in_ok-module.ensures.some in
    let same = subst (λ rs. IfOk c.origin_of.result (λ found. found ≡ comdats_origin rs c.args.number)) c.deref.ensures.value c.origin_of.ensures in
    origin_comes bytes c.in-Some.module.rest.now c.in-Some.module.records.items c.args.number c.origin_of.result read same
