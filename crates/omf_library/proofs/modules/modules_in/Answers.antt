use Rattle.std.proofs.Common.{◌≡◌, ◌≢◌, ◌+◌, ◌<◌, ◌≤◌, ◌∙◌, length, sym, ap, subst, rules}
use Rattle.std.specs.Prelude.{slice_index, Err}
use Rattle.omf_records.specs.Inner.Seen.{map_ok}
use Rattle.omf_library.specs.Library.{AreModulesIn, IsAfter, IsModuleRead, library_end, next_page}
use Rattle.omf_library.proofs.ModuleLaws.{first_after, first_fails, first_more}
use Rattle.omf_library.proofs.modules.modules_in.Goals as goal

pub returns-in_err-module : goal.returns-in_err-module
returns-in_err-module c =
    let bytes = c.args.bytes.now in
    let f = c.in_err-module.field-0.0 in
    let same : c.from_residual-in_err-module.result ≡ Err f = search rules in
    let read : IsModuleRead c.args.profile bytes (length c.loop-at.modules.items) c.loop-at.at (Err f) = search rules in
    let more : slice_index bytes c.loop-at.at ≢ library_end = search rules in
    let low : c.loop-at.at < length bytes = search rules in
    subst (λ r. AreModulesIn c.args.profile bytes (map_ok (λ v. v.items) r)) (sym same) (first_fails c.args.profile bytes c.loop-at.modules.items c.loop-at.at f c.loop-at.invariant.first low more read)

pub loop-at-preserved : goal.loop-at-preserved
loop-at-preserved c =
    let i = c.loop-at.invariant in
    let bytes = c.args.bytes.now in
    let page = c.in_ok-page.field-0.page in
    let m = c.in_ok-module.module in
    let next : c.next_page-at.result ≡ next_page page (c.loop-at.at + length m.bytes) = c.next_page-at.ensures ∙ ap (λ bs. next_page page (c.loop-at.at + length bs)) c.bytes.ensures.bytes in
    record {
      paged = i.paged;
      filled = i.filled;
      low = i.low;
      first = first_more c.args.profile bytes page c.loop-at.at c.next_page-at.result c.loop-at.modules.items c.push.new.self.items m i.paged c.in_ok-push.ensures.items next i.first c.in_ok-module.ensures.0;
    }

pub returns : goal.returns
returns c =
    let bytes = c.args.bytes.now in
    let count : c.len.result ≡ length c.loop-at.modules.items = search rules in
    let after : IsAfter c.args.profile bytes c.len.result c.loop-at.at =
    subst (λ n. IsAfter c.args.profile bytes n c.loop-at.at) (sym count) (first_after c.args.profile bytes c.loop-at.modules.items c.loop-at.at c.loop-at.invariant.first) in
    let high : length bytes ≤ c.loop-at.at = search rules in
    (after, high)
