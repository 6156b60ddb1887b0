use Rattle.std.proofs.Common.{List, ◌∙◌, sym, subst}
use Rattle.std.specs.Global.{Vec}
use Rattle.std.specs.List.{AllZip}
use Rattle.omf_finding.specs.Inner.Shaping.{HasShapes}
use Rattle.omf_finding.specs.Inner.Singling.{AreSingles}
use Rattle.omf_finding.specs.declared.shapes.Shape.{Shape}
use Rattle.omf_finding.specs.Chain.{Draft}
use Rattle.omf_finding.specs.Inner.Chaining.{AreJoined}
use Rattle.omf_finding.specs.Inner.Closing.{AreAllJoined}
use Rattle.omf_finding.specs.Inner.Surely.{AreSureJoined}
use Rattle.omf_finding.proofs.ChainLaws.{chained-verdicts}
use Rattle.omf_finding.proofs.CloseLaws.{all-found, sure-found}
use Rattle.omf_finding.proofs.finding.find.Goals as goal

pub returns-clause-chained : goal.returns-clause-chained
returns-clause-chained c =
    let program = c.args.program.now in
    let least = c.args.options.now.least in
    let ms = c.args.modules.now in
    let drafts = c.in_ok-drafts.drafts.items in
    let marks = c.in_ok-joined.joined.marks.items in
    let known = c.in_ok-verdicts.ensures in
    chained-verdicts program least ms drafts marks c.in_ok-verdicts.field-0.verdicts.items known.found (subst (λ (ds : List Draft). AreJoined program least ms ds marks) c.as_slice.ensures.value c.in_ok-joined.ensures.joined)

pub of-requires : goal.of-requires
of-requires c =
    let program = c.args.program.now in
    let most = c.args.options.now.most in
    (program, most, subst (λ (ss : List (Vec Shape)). AllZip (HasShapes program most) c.args.modules.now ss) (sym c.deref.ensures.value) c.in_ok-shapes.ensures)

pub joined_among-requires-clause-singles : goal.joined_among-requires-clause-singles
joined_among-requires-clause-singles c =
    let program = c.args.program.now in
    let most = c.args.options.now.most in
    let ms = c.args.modules.now in
    let zipped = subst (λ (ss : List (Vec Shape)). AllZip (HasShapes program most) ms ss) (sym c.deref.ensures.value) c.in_ok-shapes.ensures in
    subst (λ (ss : List (Vec Shape)). AreSingles program c.args.options.now.least ms ss c.in_ok-singles.singles.alone) (c.deref.ensures.value ∙ sym c.deref-4.ensures.value) (c.in_ok-singles.ensures program most zipped)

pub returns-clause-sure : goal.returns-clause-sure
returns-clause-sure c =
    let program = c.args.program.now in
    let ms = c.args.modules.now in
    let drafts = c.in_ok-drafts.drafts.items in
    let marks = c.in_ok-joined.joined.marks.items in
    let known = c.in_ok-verdicts.ensures in
    sure-found program c.args.options.now.least c.args.options.now.most ms drafts marks c.in_ok-verdicts.field-0.unreferenced.items known.unreferenced
    (subst (λ (ds : List Draft). AreSureJoined program c.args.options.now.least c.args.options.now.most ms ds marks) c.as_slice.ensures.value c.in_ok-joined.ensures.sure)

pub returns-clause-all : goal.returns-clause-all
returns-clause-all c =
    let program = c.args.program.now in
    let ms = c.args.modules.now in
    let drafts = c.in_ok-drafts.drafts.items in
    let marks = c.in_ok-joined.joined.marks.items in
    let known = c.in_ok-verdicts.ensures in
    all-found program ms drafts marks c.in_ok-verdicts.field-0.verdicts.items c.in_ok-verdicts.field-0.unreferenced.items known.found known.unreferenced (subst (λ (ds : List Draft). AreAllJoined program ms ds marks) c.as_slice.ensures.value c.in_ok-joined.ensures.all)
