use Rattle.std.proofs.Common.{◌≡◌, ◌∙◌, List, ap, ap₂, length, subst, sym}
use Rattle.std.specs.Prelude.{IfOk, Option, map, zip}
use Rattle.std.specs.List.{enumerate_from}
use Rattle.std.proofs.lemmas.List.{length-map}
use Rattle.std.proofs.lemmas.List.FromFn.{length-enumerate_from}
use Rattle.omf_check.specs.Module.{typed_modules}
use Rattle.omf_placement.specs.Derive.{placed_modules}
use Rattle.omf_placement.specs.declared.several.sources.Definer.{Definer}
use Rattle.omf_placement.specs.Inner.Linkage.{linkage}
use Rattle.omf_output.specs.declared.exe.movers.Moving.{Moving}
use Rattle.omf_output.specs.Exe.Derived.{all_movers, bases_in, lows, with_bases}
use Rattle.omf_output.specs.Exe.Moved.{Movers}
use Rattle.omf_output.specs.Inner.Referred.{completed, linked_externals}
use Rattle.omf_output.proofs.ReferredLaws.{movers-are}
use Rattle.omf_output.proofs.exe.movement.movers_of.Goals as goal

pub with_externals-requires : goal.with_externals-requires
with_externals-requires c =
    let tm = typed_modules c.args.modules.now in
    let ls = lows (placed_modules c.args.modules.now c.args.places.now) in
    let bases : c.in_ok-bases.bases.items ≡ map (bases_in ls) tm = c.in_ok-bases.ensures ls c.in_ok-table.ensures in
    sym (length-map c.in_ok-externals.externals.items (λ e. e.items)) ∙ ap length c.in_ok-externals.ensures
    ∙ length-map (enumerate_from 0 tm) (linked_externals c.deref.result.now c.args.linkage.now.links) ∙ length-enumerate_from 0 tm
    ∙ sym (ap length bases ∙ length-map tm (bases_in ls))

pub returns : goal.returns
returns c =
    let tm = typed_modules c.args.modules.now in
    let ls = lows (placed_modules c.args.modules.now c.args.places.now) in
    let bases : c.in_ok-bases.bases.items ≡ map (bases_in ls) tm = c.in_ok-bases.ensures ls c.in_ok-table.ensures in
    let externals : map (λ e. e.items) c.in_ok-externals.externals.items ≡ map (linked_externals (map (bases_in ls) tm) (linkage tm)) (enumerate_from 0 tm)
    = c.in_ok-externals.ensures ∙ ap₂ (λ (bs : List Movers) (l : List (List (Option Definer))). map (linked_externals bs l) (enumerate_from 0 tm)) (c.deref.ensures.value ∙ bases) c.requires.linked.is in
    let whole : map completed (zip c.in_ok-bases.bases.items (map (λ e. e.items) c.in_ok-externals.externals.items)) ≡ all_movers (with_bases ls tm)
    = ap₂ (λ (bs : List Movers) (es : List (List Moving)). map completed (zip bs es)) bases externals ∙ movers-are ls tm in
    subst (λ (x : List Movers). IfOk c.with_externals.result (λ v. v.items ≡ x)) whole c.with_externals.ensures
