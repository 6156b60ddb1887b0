use Rattle.std.proofs.Common.{◌≡◌, ◌∙◌, ◌∷◌, [], ap, drop}
use Rattle.std.specs.Prelude.{map}
use Rattle.std.specs.List.{enumerate_from}
use Rattle.std.proofs.lemmas.List.{map-append}
use Rattle.omf_check.specs.Module.{records_in, typed_modules}
use Rattle.omf_check.specs.WellFormed.{recs}
use Rattle.omf_placement.proofs.WeakLaws.{next_one, no_entries, none_left}
use Rattle.omf_output.specs.Inner.Referred.{linked_externals}
use Rattle.omf_output.proofs.LowLaws.{more-of}
use Rattle.omf_output.proofs.exe.movement.all_externals.Goals as goal

pub loop-j-preserved : goal.loop-j-preserved
loop-j-preserved c =
    let ms = c.args.modules.now in
    let j = c.loop-j.j in
    let m = c.index-modules-j.result in
    let v = c.in_ok-externals_of.field-0 in
    more-of (linked_externals c.args.bases.now c.args.linkage.now.links) (map (λ e. e.items) c.loop-j.all.items) (map (λ e. e.items) c.push.new.self.items) v.items _ _ (j, recs (records_in m.bytes)) _
    (ap (map (λ e. e.items)) c.in_ok-push.ensures.items ∙ map-append (λ e. e.items) c.loop-j.all.items (v ∷ [])) c.in_ok-externals_of.ensures
    (ap (enumerate_from j) (next_one ms j m c.index-modules-j.is c.loop-j-test.true)) c.loop-j.invariant

pub returns : goal.returns
returns c =
    let ms = c.args.modules.now in
    let left = map (linked_externals c.args.bases.now c.args.linkage.now.links) (enumerate_from c.loop-j.j (typed_modules (drop c.loop-j.j ms))) in
    no_entries (map (λ e. e.items) c.loop-j.all.items) left _ (ap (λ xs. map (linked_externals c.args.bases.now c.args.linkage.now.links) (enumerate_from c.loop-j.j xs)) (none_left ms c.loop-j.j c.loop-j-test.false)) c.loop-j.invariant
