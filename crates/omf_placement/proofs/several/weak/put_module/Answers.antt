use Rattle.std.proofs.Common.{◌≡◌, ◌∙◌, ◌++◌, List, ap, subst, sym, true}
use Rattle.std.specs.Prelude.{OnOk, Result, filter_map}
use Rattle.omf_placement.specs.declared.frame.Placed.{Placed}
use Rattle.omf_placement.specs.declared.several.fault.DeriveFault.{DeriveFault}
use Rattle.omf_placement.specs.declared.several.pairs.WeakPair.{WeakPair}
use Rattle.omf_placement.specs.Derive.{PlacedModule, publics, seen_publics}
use Rattle.omf_placement.specs.Inner.Derived.{external_places}
use Rattle.omf_placement.specs.Inner.PublicTable.{IsTable}
use Rattle.omf_placement.specs.Weak.{pair_given, weak_pairs}
use Rattle.omf_placement.proofs.several.weak.put_module.Goals as goal

pub returns : goal.returns
returns c = λ ms given m e h k.
    let own : IsTable c.in_ok-own.own.by_name (seen_publics ms m true) = subst (λ (x : PlacedModule). IsTable c.in_ok-own.own.by_name (publics true x)) (sym e) c.in_ok-own.ensures in
    let places = external_places (seen_publics ms m) given c.args.number in
    let outcomes : c.deref.result.now ≡ places m.0 = c.deref.ensures.value ∙ c.in_ok-outcomes.ensures (seen_publics ms m) given h own k ∙ ap (λ (x : PlacedModule). places x.0) (sym e) in
    let pairs : c.deref-2.result.now ≡ weak_pairs m.0 = c.deref-2.ensures.value ∙ c.in_ok-pairs.ensures ∙ ap (λ (x : PlacedModule). weak_pairs x.0) (sym e) in
    subst (λ (ps : List WeakPair). OnOk c.put_pairs.result (c.put_pairs.new.entries.items ≡ c.args.entries.now.items ++ filter_map (pair_given c.args.number (places m.0)) ps)) pairs
    (subst (λ (rs : List (Result Placed DeriveFault)). OnOk c.put_pairs.result (c.put_pairs.new.entries.items ≡ c.args.entries.now.items ++ filter_map (pair_given c.args.number rs) c.deref-2.result.now)) outcomes c.put_pairs.ensures)
