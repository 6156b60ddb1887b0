use Rattle.std.proofs.Common.{◌≡◌, ◌+◌, ◌∷◌, refl, ap, drop, false, List, subst, sym}
use Rattle.std.specs.Prelude.{All, flat_map}
use Rattle.std.proofs.lemmas.List.Elements.{All-cons, All-nil}
use Rattle.std.specs.List.{enumerate_from}
use Rattle.omf_records.specs.Values.{Rec}
use Rattle.omf_image.specs.Limits.{profile_limits}
use Rattle.omf_check.specs.Module.{records_in, typed_modules}
use Rattle.omf_check.specs.Sound.{ModuleHolds}
use Rattle.omf_check.specs.WellFormed.{recs}
use Rattle.omf_placement.specs.Inner.Linkage.{IsSourceTable, all_sources, sources}
use Rattle.omf_placement.proofs.Filling.{fill-start, fill-more, fill-end}
use Rattle.omf_placement.proofs.SourceLaws.{sources-empty}
use Rattle.omf_placement.proofs.WeakLaws.{next_one, none_left}
use Rattle.omf_placement.proofs.several.sources.SourceTable.of.Goals as goal

pub loop-j-init : goal.loop-j-init
loop-j-init c = record {
  filled = fill-start IsSourceTable (record { by_name = c.new.result; repeats = false }) _ _ refl;
  hold = λ h. h;
}

pub loop-j-preserved : goal.loop-j-preserved
loop-j-preserved c =
    let ms = c.args.modules.now in
    let j = c.loop-j.j in
    let m = recs (records_in c.index-modules-j.result.bytes) in
    let next : typed_modules (drop j ms) ≡ m ∷ typed_modules (drop (j + 1) ms) = next_one ms j c.index-modules-j.result c.index-modules-j.is c.loop-j-test.true in
    let from = λ (k : _) (xs : List (List Rec)). flat_map (λ m. sources false m.0 m.1) (enumerate_from k xs) in
    record {
      filled = fill-more IsSourceTable (record { by_name = c.new.result; repeats = false }) c.loop-j.table c.add_module.new.self (sources false j m) (from j (typed_modules (drop j ms)))
          (from (j + 1) (typed_modules (drop (j + 1) ms))) (all_sources (typed_modules ms)) (ap (from j) next) c.in_ok-add_module.ensures.more c.loop-j.invariant.filled;
      hold = λ h. c.loop-j.invariant.hold (subst (All (ModuleHolds profile_limits)) (sym next) (All-cons (ModuleHolds profile_limits) m _ c.in_ok-add_module.ensures.holds h));
    }

pub returns-clause-hold : goal.returns-clause-hold
returns-clause-hold c =
    c.loop-j.invariant.hold (subst (All (ModuleHolds profile_limits)) (sym (none_left c.args.modules.now c.loop-j.j c.loop-j-test.false)) (All-nil (ModuleHolds profile_limits)))

pub returns-clause-table : goal.returns-clause-table
returns-clause-table c =
    let ms = c.args.modules.now in
    let j = c.loop-j.j in
    sources-empty (record { by_name = c.new.result; repeats = false }) c.loop-j.table (all_sources (typed_modules ms)) c.new.ensures.empty refl
    (fill-end IsSourceTable (record { by_name = c.new.result; repeats = false }) c.loop-j.table (flat_map (λ m. sources false m.0 m.1) (enumerate_from j (typed_modules (drop j ms)))) _ (ap (λ xs. flat_map (λ m. sources false m.0 m.1) (enumerate_from j xs)) (none_left ms j c.loop-j-test.false)) c.loop-j.invariant.filled)
