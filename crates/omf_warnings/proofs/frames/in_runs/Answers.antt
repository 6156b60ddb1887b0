use Rattle.std.proofs.Common.{◌+◌, ◌∙◌, ap, sym, drop}
use Rattle.std.specs.Prelude.{map}
use Rattle.omf_warnings.specs.Frames.{split_run}
use Rattle.omf_warnings.proofs.FrameLaws.{next-list, no-list}
use Rattle.omf_warnings.proofs.WideLaws.{first_found, first_later, first_none}
use Rattle.omf_warnings.proofs.frames.in_runs.Goals as goal

pub returns-in-Some : goal.returns-in-Some
returns-in-Some c =
    let f = split_run c.args.placements.now in
    let rs = c.args.runs.now in
    let i = c.loop-run.run-index in
    let r = c.run-item.result in
    first_found f (map (λ v. v.items) (drop i rs)) r.items (map (λ v. v.items) (drop (i + 1) rs)) c.in-Some.found _ (next-list rs i r c.run-item.is c.loop-run-test.true)
    (ap f (sym c.deref.ensures.value) ∙ sym c.in_ok-found.ensures ∙ c.in-Some.is) c.loop-run.invariant

pub loop-run-preserved : goal.loop-run-preserved
loop-run-preserved c =
    let f = split_run c.args.placements.now in
    let rs = c.args.runs.now in
    let i = c.loop-run.run-index in
    let r = c.run-item.result in
    first_later f (map (λ v. v.items) (drop i rs)) r.items (map (λ v. v.items) (drop (i + 1) rs)) _ (next-list rs i r c.run-item.is c.loop-run-test.true)
    (ap f (sym c.deref.ensures.value) ∙ sym c.in_ok-found.ensures ∙ c.in_default.is) c.loop-run.invariant

pub returns : goal.returns
returns c =
    let rs = c.args.runs.now in
    let i = c.loop-run.run-index in
    first_none (split_run c.args.placements.now) (map (λ v. v.items) (drop i rs)) _ (no-list rs i c.loop-run-test.false) c.loop-run.invariant
