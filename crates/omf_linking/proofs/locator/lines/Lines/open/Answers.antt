use Rattle.std.proofs.Common.{◌≡◌, ◌<◌, ◌∷◌, [], ◌∙◌, List, ℕ, length, refl, sym, subst, true, false, arith}
use Rattle.std.specs.Prelude.{◌==◌, filter_map, slice_get, Some, Ok}
use Rattle.std.specs.List.{list_any}
use Rattle.std.proofs.lemmas.Option.{same_Some}
use Rattle.omf_check.specs.Module.{records_in, typed_modules}
use Rattle.omf_check.specs.WellFormed.{recs}
use Rattle.omf_records.specs.Values.{Rec}
use Rattle.omf_linking.specs.Inner.KeyTables.{AreEntryKeys}
use Rattle.omf_linking.specs.Inner.LineParsing.{key_seen}
use Rattle.omf_linking.specs.Locator.Items.{Opened, opened}
use Rattle.omf_linking.specs.Locator.Keys.{module_named}
use Rattle.omf_linking.specs.declared.locator.fault.LineFault.TheVariants as why
use Rattle.omf_linking.proofs.EachLaws.{typed_length}
use Rattle.omf_linking.proofs.NamingLaws.{next_module}
use Rattle.omf_linking.proofs.WalkLaws.{fault_taken, module_within, more_opened, opens_again, opens_first, opens_none, was_none, was_there}
use Rattle.omf_linking.proofs.locator.lines.Lines.open.Goals as goal

pub returns-in-Err : goal.returns-in-Err
returns-in-Err c items at =
    let ms = typed_modules c.args.modules.now in
    fault_taken ms c.args.self.now items c.args.line c.in-Err.why _ c.at_fault.result c.at_fault.ensures (opens_none ms items (key_seen c.args.key) c.in-Err.why (sym (c.named.ensures ms at.keys_are) ∙ c.in-Err.is))

pub returns-then-at-modules : goal.returns-then-at-modules
returns-then-at-modules c items at =
    let ms = typed_modules c.args.modules.now in
    let j = c.in-Ok.number in
    let named : module_named ms (key_seen c.args.key) ≡ Ok j = sym (c.named.ensures ms at.keys_are) ∙ c.in-Ok.is in
    let low : j < length ms = module_within ms (key_seen c.args.key) j named in
    absurd (omega (arith, low, typed_length c.args.modules.now, c.if-at-modules.true))

pub returns-then-not-branch : goal.returns-then-not-branch
returns-then-not-branch c items at =
    let ms = typed_modules c.args.modules.now in
    let j = c.in-Ok.number in
    let named : module_named ms (key_seen c.args.key) ≡ Ok j = sym (c.named.ensures ms at.keys_are) ∙ c.in-Ok.is in
    let has : list_any (λ (i : ℕ). i == j) (filter_map opened items) ≡ true = sym (at.opened_is j) ∙ was_there _ _ c.in_ok-insert.ensures.added c.if-not-branch.true in
    fault_taken ms _ items c.args.line why.Twice _ c.at_fault-then-not-branch.result c.at_fault-then-not-branch.ensures (opens_again ms items (key_seen c.args.key) j named has)

pub returns : goal.returns
returns c items at =
    let ms = typed_modules c.args.modules.now in
    let j = c.in-Ok.number in
    let named : module_named ms (key_seen c.args.key) ≡ Ok j = sym (c.named.ensures ms at.keys_are) ∙ c.in-Ok.is in
    let has : list_any (λ (i : ℕ). i == j) (filter_map opened items) ≡ false = sym (at.opened_is j) ∙ was_none _ _ c.in_ok-insert.ensures.added c.if-not-branch.false in
    let here : slice_get ms j ≡ Some (recs (records_in c.index-modules-at.result.bytes)) = next_module c.args.modules.now j c.index-modules-at.result c.index-modules-at.is c.if-at-modules.false in
    let own = λ (m : List Rec) (found : slice_get ms j ≡ Some m). subst (λ (x : List Rec). AreEntryKeys x c.in_ok-keys.keys) (same_Some (recs (records_in c.index-modules-at.result.bytes)) m (sym here ∙ found)) c.in_ok-keys.ensures in
    (Opened j ∷ [], opens_first ms items (key_seen c.args.key) j named has, more_opened ms c.args.self.now _ items j c.in_ok-keys.keys at c.in_ok-insert.ensures.updates own refl refl refl refl refl)
