use Rattle.std.proofs.Common.{◌≡◌, List, All, Contains, ◌<◌, true, subst, sym}
use Rattle.omf_finding.specs.Inner.Singling.{AreApart, IsUnrivaledAmong, has_key}
use Rattle.omf_finding.specs.declared.singles.Single.{Single}
use Rattle.omf_finding.proofs.SingleLaws.{all-singles, apart-moved, whole-moved}
use Rattle.omf_finding.proofs.singles.Singles.of.Goals as goal

pub alone-requires-clause-apart : goal.alone-requires-clause-apart
alone-requires-clause-apart c =
    subst (λ (xs : List Single). AreApart xs) (sym c.deref-2.ensures.value) (apart-moved c.in_ok-singles_of.field-0.items c.by_start-all.result.items c.by_start-all.ensures.same c.in_ok-singles_of.ensures.apart)

pub alone-requires-clause-whole : goal.alone-requires-clause-whole
alone-requires-clause-whole c =
    let ms = c.args.modules.now in
    subst (λ (xs : List Single). All (λ (x : Single). x.start < x.end) xs) (sym c.deref-2.ensures.value) (whole-moved c.args.least ms c.args.shapes.now _ c.in_ok-singles_of.field-0.items c.by_start-all.result.items c.by_start-all.ensures.same c.in_ok-singles_of.ensures.have)

pub returns : goal.returns
returns c =
    let sorted = c.by_start-all.result.items in
    λ program most zipped.
    all-singles program most c.args.least c.args.modules.now c.args.shapes.now c.in_ok-singles_of.field-0.items sorted c.in_ok-alone.field-0 zipped c.in_ok-singles_of.ensures.have c.by_start-all.ensures.same
    (subst (λ (xs : List Single). (x : Single) → Contains xs x → IsUnrivaledAmong xs x → has_key c.in_ok-alone.field-0 x.owner x.segment ≡ true) c.deref-2.ensures.value c.in_ok-alone.ensures)
