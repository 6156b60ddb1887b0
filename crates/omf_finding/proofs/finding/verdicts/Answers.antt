use Rattle.std.proofs.Common.{rules, ◌≡◌, ◌+◌, ◌∙◌, ◌∷◌, List, take, drop, length, refl, sym, ap, subst, arith}
use Rattle.std.specs.List.{AllZip}
use Rattle.std.specs.Vec.Iter.{into_iter_items}
use Rattle.std.proofs.lemmas.Option.{slice_get_read}
use Rattle.std.specs.Prelude.{not, option_map}
use Rattle.std.specs.Box.{box_value}
use Rattle.omf_finding.specs.declared.findings.Verdict.{Verdict}
use Rattle.omf_finding.specs.Finding.{IsTold}
use Rattle.omf_finding.specs.Chain.{Draft, IsDraft}
use Rattle.omf_finding.specs.Inner.Chaining.{has_joined, kept}
use Rattle.omf_finding.specs.Inner.Shaping.{HasShapes, HaveShapes}
use Rattle.omf_finding.proofs.CandidateLaws.{zip-at, zip-long}
use Rattle.omf_finding.proofs.ChainLaws.{draft-kept, drop-first, drop-rest, so-all, so-first, so-next, zip-first, zip-get, zip-size}
use Rattle.omf_finding.proofs.CloseLaws.{left-all, left-first, left-next}
use Rattle.omf_finding.proofs.TellingLaws.{zip-more, zip-end}
use Rattle.omf_finding.proofs.finding.verdicts.Goals as goal

pub loop-number-init : goal.loop-number-init
loop-number-init c =
    let drafts = c.args.drafts.items in
    let ms = c.args.modules.now in
    let left : into_iter_items c.into_iter-left.result ≡ drafts = search rules in
    record {
      told = zip-first (IsTold c.args.ended.program.now c.args.ended.most) ms c.in_ok-verdicts.verdicts.items c.in_ok-verdicts.ensures.items;
      left = left;
      size = omega (arith, ap length left, zip-size (IsDraft c.args.ended.program.now) ms drafts c.requires.drafts);
      found = so-first drafts c.args.joined.now.marks.items c.in_ok-verdicts.verdicts.items c.in_ok-verdicts.ensures.items;
      drafts = zip-first (IsDraft c.args.ended.program.now) ms c.in_ok-unreferenced.unreferenced.items c.in_ok-unreferenced.ensures.items;
      unreferenced = left-first drafts c.args.joined.now.marks.items c.in_ok-unreferenced.unreferenced.items c.in_ok-unreferenced.ensures.items;
    }

pub bounds-shapes-number : goal.bounds-shapes-number
bounds-shapes-number c =
    let long = zip-long (HasShapes c.args.ended.program.now c.args.ended.most) c.args.modules.now c.args.shapes.now c.requires.shapes in
    omega (arith, c.loop-number-test.true, long)

pub verdict-requires-clause-shapes : goal.verdict-requires-clause-shapes
verdict-requires-clause-shapes c =
    let program = c.args.ended.program.now in
    let most = c.args.ended.most in
    let m = c.index-modules-number.result in
    let has = zip-at (HasShapes program most) c.args.modules.now c.args.shapes.now c.loop-number.number m c.index-shapes-number.result c.requires.shapes c.loop-number-test.true c.index-modules-number.is c.index-shapes-number.is in
    subst (HaveShapes program most m) (sym c.as_slice-own.ensures.value) has

pub verdict-requires-clause-found : goal.verdict-requires-clause-found
verdict-requires-clause-found c =
    let program = c.args.ended.program.now in
    let ms = c.args.modules.now in
    let m = c.index-modules-number.result in
    let n = c.loop-number.number in
    let d = c.in-Some.draft in
    let drafts = c.args.drafts.items in
    let rest = into_iter_items c.next.new.self in
    let steps : drop n drafts ≡ d ∷ rest = sym c.loop-number.invariant.left ∙ c.in-Some.ensures.items in
    subst (IsDraft program m) (sym (ap (λ (x : Draft × Draft). x.0) c.split-found.ensures))
    (draft-kept program m d c.has.result (zip-get (IsDraft program) ms drafts n m d c.requires.drafts (slice_get_read ms (length ms) n m refl c.loop-number-test.true c.index-modules-number.is) (drop-first drafts rest n d steps)))

pub loop-number-preserved : goal.loop-number-preserved
loop-number-preserved c =
    let told = IsTold c.args.ended.program.now c.args.ended.most in
    let ms = c.args.modules.now in
    let m = c.index-modules-number.result in
    let n = c.loop-number.number in
    let d = c.in-Some.draft in
    let drafts = c.args.drafts.items in
    let rest = into_iter_items c.next.new.self in
    let steps : drop n drafts ≡ d ∷ rest = sym c.loop-number.invariant.left ∙ c.in-Some.ensures.items in
    let marks = c.args.joined.now.marks.items in
    let program = c.args.ended.program.now in
    let other : c.split-found.result.1 ≡ kept d (not (has_joined marks n)) = ap (λ (x : Draft × Draft). x.1) c.split-found.ensures ∙ ap (λ b. kept d (not b)) c.has.ensures in
    record {
      told = subst (λ (vs : List Verdict). AllZip told (take (n + 1) ms) vs) (sym c.in_ok-push.ensures.items)
          (zip-more told ms c.loop-number.verdicts.items n m c.in_ok-verdict.field-0 c.index-modules-number.is c.loop-number-test.true c.loop-number.invariant.told c.in_ok-verdict.ensures.told);
      left = sym (drop-rest drafts rest n d steps);
      size = omega (arith, ap length c.in-Some.ensures.items, c.loop-number.invariant.size);
      found = so-next drafts rest c.args.joined.now.marks.items c.loop-number.verdicts.items c.push.new.self.items n c.in_ok-verdict.field-0 d steps (c.in_ok-verdict.ensures.found ∙ ap (option_map box_value) (ap (λ (x : Draft × Draft). x.0) c.split-found.ensures ∙ ap (kept d) c.has.ensures)) c.in_ok-push.ensures.items c.loop-number.invariant.found;
      drafts = subst (λ (us : List Draft). AllZip (IsDraft program) (take (n + 1) ms) us) (sym c.in_ok-push-2.ensures.items)
          (zip-more (IsDraft program) ms c.loop-number.unreferenced.items n m c.split-found.result.1 c.index-modules-number.is c.loop-number-test.true c.loop-number.invariant.drafts
          (subst (IsDraft program m) (sym other)
          (draft-kept program m d (not (has_joined marks n)) (zip-get (IsDraft program) ms drafts n m d c.requires.drafts (slice_get_read ms (length ms) n m refl c.loop-number-test.true c.index-modules-number.is) (drop-first drafts rest n d steps)))));
      unreferenced = left-next drafts rest marks c.loop-number.unreferenced.items c.push-in-loop-number.new.self.items n c.split-found.result.1 d steps other c.in_ok-push-2.ensures.items c.loop-number.invariant.unreferenced;
    }

pub returns-clause-told : goal.returns-clause-told
returns-clause-told c = zip-end (IsTold c.args.ended.program.now c.args.ended.most) c.args.modules.now c.loop-number.verdicts.items c.loop-number.number c.loop-number-test.false c.loop-number.invariant.told

pub returns-clause-found : goal.returns-clause-found
returns-clause-found c =
    let drafts = c.args.drafts.items in
    let ms = c.args.modules.now in
    let size = zip-size (IsDraft c.args.ended.program.now) ms drafts c.requires.drafts in
    so-all drafts c.args.joined.now.marks.items c.loop-number.verdicts.items c.loop-number.number (omega (arith, size, c.loop-number-test.false)) c.loop-number.invariant.found

pub returns-clause-drafts : goal.returns-clause-drafts
returns-clause-drafts c = zip-end (IsDraft c.args.ended.program.now) c.args.modules.now c.loop-number.unreferenced.items c.loop-number.number c.loop-number-test.false c.loop-number.invariant.drafts

pub returns-clause-unreferenced : goal.returns-clause-unreferenced
returns-clause-unreferenced c =
    let drafts = c.args.drafts.items in
    let ms = c.args.modules.now in
    let size = zip-size (IsDraft c.args.ended.program.now) ms drafts c.requires.drafts in
    left-all drafts c.args.joined.now.marks.items c.loop-number.unreferenced.items c.loop-number.number (omega (arith, size, c.loop-number-test.false)) c.loop-number.invariant.unreferenced
