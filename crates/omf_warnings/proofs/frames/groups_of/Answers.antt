use Rattle.std.proofs.Common.{◌≡◌, ℕ, ◌+◌, ◌∷◌, ◌++◌, ◌∙◌, ap, sym, drop, append_assoc, append-nil}
use Rattle.std.specs.Prelude.{flat_map, map}
use Rattle.std.specs.List.{enumerate_from}
use Rattle.omf_check.specs.Module.{records_in}
use Rattle.omf_check.specs.WellFormed.{recs}
use Rattle.omf_layout.specs.Several.Gathered.{named}
use Rattle.omf_placement.specs.Derive.{PlacedModule, placed_modules}
use Rattle.omf_placement.proofs.TableLaws.{next-placed, none-left}
use Rattle.omf_warnings.specs.Frames.{groups_in}
use Rattle.omf_warnings.proofs.frames.groups_of.Goals as goal

pub loop-j-preserved : goal.loop-j-preserved
loop-j-preserved c =
    let ms = placed_modules c.args.modules.now c.args.placements.now in
    let j = c.loop-j.j in
    let m : PlacedModule = (recs (records_in c.index-modules-j.result.bytes), c.index-placements-j.result) in
    let next : drop j ms ≡ m ∷ drop (j + 1) ms
    = next-placed c.args.modules.now c.args.placements.now j c.index-modules-j.result c.index-placements-j.result c.index-modules-j.is c.index-placements-j.is c.loop-j-test.true c.requires.placed in
    let f : ℕ × PlacedModule → _ = λ x. groups_in x.0 x.1 in
    let done = map named c.loop-j.groups.items in
    let rest = flat_map f (enumerate_from (j + 1) (drop (j + 1) ms)) in
    ap (λ l. l ++ rest) c.in_ok-add_groups.ensures ∙ append_assoc done (f (j, m)) rest
    ∙ sym (ap (λ l. done ++ flat_map f (enumerate_from j l)) next) ∙ c.loop-j.invariant

pub returns : goal.returns
returns c =
    let ms = placed_modules c.args.modules.now c.args.placements.now in
    let j = c.loop-j.j in
    let f : ℕ × PlacedModule → _ = λ x. groups_in x.0 x.1 in
    let done = map named c.loop-j.groups.items in
    sym (append-nil done) ∙ sym (ap (λ l. done ++ flat_map f (enumerate_from j l)) (none-left c.args.modules.now c.args.placements.now j c.loop-j-test.false)) ∙ c.loop-j.invariant
