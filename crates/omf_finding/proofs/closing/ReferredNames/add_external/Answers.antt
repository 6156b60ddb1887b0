use Rattle.std.proofs.Common.{◌≡◌, ◌∙◌, sym, ap}
use Rattle.std.specs.Prelude.{Some}
use Rattle.std.proofs.lemmas.Option.{none-some}
use Rattle.omf_check.specs.Module.{recs_of}
use Rattle.omf_check.specs.Tables.{entry}
use Rattle.omf_finding.specs.Inner.Closing.{RefersBy}
use Rattle.omf_finding.proofs.CloseLaws.{adds-none, adds-one, by-one, on-ok}
use Rattle.omf_finding.proofs.closing.ReferredNames.add_external.Goals as goal

pub returns-in_default : goal.returns-in_default
returns-in_default c =
    let m = recs_of c.args.«module».now.bytes in
    let f = c.args.found.now in
    adds-none c.args.self.now.spots (RefersBy m f c.args.external)
    (λ cs b r. none-some r.place (sym c.in_default.is ∙ c.external.ensures ∙ ap (entry f.placement.externals) c.from.ensures ∙ r.place_is))

pub returns-in-Some-known_name : goal.returns-in-Some-known_name
returns-in-Some-known_name c =
    let m = recs_of c.args.«module».now.bytes in
    let f = c.args.found.now in
    let known = c.in-Some-known_name.ensures.some in
    let place = c.in-Some.place in
    let at : entry f.placement.externals c.args.external ≡ Some place = sym (ap (entry f.placement.externals) c.from.ensures) ∙ sym c.external.ensures ∙ c.in-Some.is in
    let name = c.in-Some-known_name.name.now in
    let address = c.from-in-Some-known_name.result in
    let same : place.address ≡ address = sym c.from-in-Some-known_name.ensures in
    on-ok (λ more. adds-one c.args.self.now.spots c.add.new.self.spots name address (RefersBy m f c.args.external) more (record { named = known; place = place; place_is = at; address_is = same }) (by-one m f c.args.external name place address known.name_is at same))
    c.add.result c.add.ensures

pub returns-in-None : goal.returns-in-None
returns-in-None c = adds-none c.args.self.now.spots (RefersBy (recs_of c.args.«module».now.bytes) c.args.found.now c.args.external) (λ cs b r. c.in-None.ensures.none cs r.named)
