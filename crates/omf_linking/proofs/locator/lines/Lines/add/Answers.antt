use Rattle.std.proofs.Common.{◌≡◌, ◌≤◌, ◌∙◌, ℕ, List, length, sym, ap, subst}
use Rattle.std.specs.Prelude.{Some, Ok, Err, Result, slice_get}
use Rattle.omf_check.specs.Module.{records_in, typed_modules}
use Rattle.omf_check.specs.WellFormed.{recs}
use Rattle.omf_linking.specs.Inner.LineParsing.{key_seen, told_seen}
use Rattle.omf_linking.specs.Inner.Walking.{IsTaken}
use Rattle.omf_linking.specs.Locator.Items.{Item, alone, current, told_kind}
use Rattle.omf_linking.specs.Locator.Keys.{entry_named}
use Rattle.omf_linking.specs.declared.locator.fault.LineFault.{LineFault}
use Rattle.omf_linking.specs.declared.locator.fault.LineFault.TheVariants as why
use Rattle.omf_linking.proofs.EachLaws.{typed_length}
use Rattle.omf_linking.proofs.NamingLaws.{next_module}
use Rattle.omf_linking.proofs.WalkLaws.{fault_taken, gives_by, in_far, in_none, in_one, named_within, some_current}
use Rattle.omf_linking.proofs.locator.lines.Lines.add.Goals as goal

pub returns-then-at-modules : goal.returns-then-at-modules
returns-then-at-modules c items at =
    let ms = typed_modules c.args.modules.now in
    let j = c.in-Some.current.number in
    let k = key_seen c.args.key in
    let t = told_seen c.args.told in
    let here = some_current ms c.args.self.now items c.in-Some.current at c.in-Some.is in
    let now : current items ≡ Some j = here.0 in
    let far : length ms ≤ j = subst (λ (n : ℕ). n ≤ j) (sym (typed_length c.args.modules.now)) c.if-at-modules.true in
    fault_taken ms c.args.self.now items c.args.line why.NoModule _ c.at_fault-then-at-modules.result c.at_fault-then-at-modules.ensures (gives_by ms items k t j now ∙ ap alone (in_far ms items k t j far))

pub returns-in-Err : goal.returns-in-Err
returns-in-Err c items at =
    let ms = typed_modules c.args.modules.now in
    let j = c.in-Some.current.number in
    let k = key_seen c.args.key in
    let t = told_seen c.args.told in
    let here = some_current ms c.args.self.now items c.in-Some.current at c.in-Some.is in
    let now : current items ≡ Some j = here.0 in
    let m = recs (records_in c.index-modules-at.result.bytes) in
    let found : slice_get ms j ≡ Some m = next_module c.args.modules.now j c.index-modules-at.result c.index-modules-at.is c.if-at-modules.false in
    let named : entry_named m (told_kind t) k ≡ Err c.in-Err.why = ap (λ d. entry_named m d k) (sym c.told_kind-kind.ensures) ∙ sym (c.in_ok-found.ensures (here.1 m found)) ∙ c.in-Err.is in
    fault_taken ms c.args.self.now items c.args.line c.in-Err.why _ c.at_fault-in-Err.result c.at_fault-in-Err.ensures (gives_by ms items k t j now ∙ ap alone (in_none ms items k t j m found c.in-Err.why named))

pub returns : goal.returns
returns c items at =
    let ms = typed_modules c.args.modules.now in
    let j = c.in-Some.current.number in
    let k = key_seen c.args.key in
    let t = told_seen c.args.told in
    let here = some_current ms c.args.self.now items c.in-Some.current at c.in-Some.is in
    let now : current items ≡ Some j = here.0 in
    let m = recs (records_in c.index-modules-at.result.bytes) in
    let found : slice_get ms j ≡ Some m = next_module c.args.modules.now j c.index-modules-at.result c.index-modules-at.is c.if-at-modules.false in
    let i = c.in-Ok.index in
    let named : entry_named m (told_kind t) k ≡ Ok i = ap (λ d. entry_named m d k) (sym c.told_kind-kind.ensures) ∙ sym (c.in_ok-found.ensures (here.1 m found)) ∙ c.in-Ok.is in
    let within = named_within m (told_kind t) k i named in
    subst (λ (r : Result (List Item) LineFault). IsTaken ms c.settle.new.self items c.args.line r c.settle.result) (sym (gives_by ms items k t j now ∙ ap alone (in_one ms items k t j m found i named)))
    (c.settle.ensures items m at found within.0 within.1)
