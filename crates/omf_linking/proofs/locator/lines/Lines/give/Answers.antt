use Rattle.std.proofs.Common.{◌≡◌, ◌≤◌, ℕ, List, length, sym, ap, subst, rules}
use Rattle.std.specs.Prelude.{Some, Ok, Err, Result, slice_get}
use Rattle.omf_check.specs.Module.{records_in, typed_modules}
use Rattle.omf_check.specs.WellFormed.{recs}
use Rattle.omf_linking.specs.Inner.LineParsing.{target_seen}
use Rattle.omf_linking.specs.Inner.Walking.{IsTaken}
use Rattle.omf_linking.specs.Locator.Items.{Item, alone, told_kind}
use Rattle.omf_linking.specs.Locator.Keys.{entry_named}
use Rattle.omf_linking.specs.Locator.LinkEntries.{Numbered, Own}
use Rattle.omf_linking.specs.declared.locator.fault.LineFault.{LineFault}
use Rattle.omf_linking.specs.declared.locator.fault.LineFault.TheVariants as why
use Rattle.omf_linking.proofs.EachLaws.{typed_length}
use Rattle.omf_linking.proofs.NamingLaws.{next_module}
use Rattle.omf_linking.proofs.WalkLaws.{fault_taken, in_far, in_none, in_one, named_within}
use Rattle.omf_linking.proofs.locator.lines.Lines.give.Goals as goal

pub returns-then-at-modules : goal.returns-then-at-modules
returns-then-at-modules c items at =
    let ms = typed_modules c.args.modules.now in
    let j = c.args.gift.now.«module» in
    let far : length ms ≤ j = subst (λ (n : ℕ). n ≤ j) (sym (typed_length c.args.modules.now)) c.if-at-modules.true in
    fault_taken ms c.args.self.now items c.args.line why.NoModule _ c.at_fault.result c.at_fault.ensures (ap alone (in_far ms items (Numbered c.args.gift.now.index) (Own (target_seen c.args.gift.now.target)) j far))

pub returns-in-Err : goal.returns-in-Err
returns-in-Err c items at =
    let ms = typed_modules c.args.modules.now in
    let j = c.args.gift.now.«module» in
    let k = Numbered c.args.gift.now.index in
    let t = Own (target_seen c.args.gift.now.target) in
    let m = recs (records_in c.index-modules-at.result.bytes) in
    let found : slice_get ms j ≡ Some m = next_module c.args.modules.now j c.index-modules-at.result c.index-modules-at.is c.if-at-modules.false in
    let named : entry_named m (told_kind t) k ≡ Err c.in-Err.why = search rules in
    fault_taken ms c.args.self.now items c.args.line c.in-Err.why _ c.at_fault-in-Err.result c.at_fault-in-Err.ensures (ap alone (in_none ms items k t j m found c.in-Err.why named))

pub returns : goal.returns
returns c items at =
    let ms = typed_modules c.args.modules.now in
    let j = c.args.gift.now.«module» in
    let k = Numbered c.args.gift.now.index in
    let t = Own (target_seen c.args.gift.now.target) in
    let m = recs (records_in c.index-modules-at.result.bytes) in
    let found : slice_get ms j ≡ Some m = next_module c.args.modules.now j c.index-modules-at.result c.index-modules-at.is c.if-at-modules.false in
    let i = c.in-Ok.index in
    let named : entry_named m (told_kind t) k ≡ Ok i = search rules in
    let within = named_within m (told_kind t) k i named in
    subst (λ (r : Result (List Item) LineFault). IsTaken ms c.settle.new.self items c.args.line r c.settle.result) (sym (ap alone (in_one ms items k t j m found i named)))
    (c.settle.ensures items m at found within.0 within.1)
