use Rattle.std.proofs.Common.{◌≡◌, ◌≤◌, ◌∙◌, ◌∷◌, ◌++◌, [], List, length, vec_len, get_or, refl, sym, ap, subst, arith, rules}
use Rattle.std.specs.Prelude.{Some, Ok, slice_get}
use Rattle.std.proofs.lemmas.Option.{same_Some}
use Rattle.omf_check.specs.Module.{records_in, typed_modules}
use Rattle.omf_check.specs.WellFormed.{recs}
use Rattle.omf_records.specs.Inner.Seen.{map_ok}
use Rattle.omf_records.specs.Values.{Rec}
use Rattle.omf_reloc.specs.Reach.{entries}
use Rattle.omf_linking.specs.Inner.LineParsing.{target_seen, told_seen}
use Rattle.omf_linking.specs.Inner.Titling.{AreTitles}
use Rattle.omf_linking.specs.Locator.Items.{Given, alone, kind_of, settled, told_kind, unless_again}
use Rattle.omf_linking.specs.declared.locator.fault.LineFault.TheVariants as why
use Rattle.omf_linking.proofs.EachLaws.{typed_length}
use Rattle.omf_linking.proofs.NamingLaws.{next_module}
use Rattle.omf_linking.proofs.WalkLaws.{as_many_lines, fault_taken, gives_again, gives_first, gives_unshared, more_given, not_given, now_given, own_tables, settled_kind, slice_within}
use Rattle.omf_linking.proofs.locator.lines.Lines.settle.Goals as goal

pub returns-then-at-modules : goal.returns-then-at-modules
returns-then-at-modules c items m at found low high =
    absurd (omega (arith, typed_length c.args.modules.now, slice_within (typed_modules c.args.modules.now) c.args.entry.«module» m found, c.if-at-modules.true))

pub returns-then-at-len : goal.returns-then-at-len
returns-then-at-len c items m at found low high =
    let ms = typed_modules c.args.modules.now in
    let many : vec_len c.args.self.now.given ≡ length c.args.self.now.given.items = search rules in
    absurd (omega (arith, as_many_lines ms c.args.self.now items at, many, c.len.ensures, slice_within ms c.args.entry.«module» m found, c.if-at-len.true))

pub returns-in-Err : goal.returns-in-Err
returns-in-Err c items m at found low high =
    let ms = typed_modules c.args.modules.now in
    let j = c.args.entry.«module» in
    let i = c.args.entry.index in
    let t = told_seen c.args.told in
    let own = recs (records_in c.index-modules-at.result.bytes) in
    let here : slice_get ms j ≡ Some own = next_module c.args.modules.now j c.index-modules-at.result c.index-modules-at.is c.if-at-modules.false in
    let same : own ≡ m = same_Some own m (sym here ∙ found) in
    let within : i ≤ entries own (told_kind t) = subst (λ q. i ≤ entries q (told_kind t)) (sym same) high in
    let entry : c.entry_index-index.result ≡ i = c.entry_index-index.ensures (subst (λ d. i ≤ entries own d) (sym c.told_kind.ensures) within) in
    let settles : map_ok target_seen c.in_ok-settled.settled ≡ settled ms items own t i = c.in_ok-settled.ensures ms items at.titles_are ∙ ap (settled ms items own t) entry in
    fault_taken ms c.args.self.now items c.args.line c.in-Err.why _ c.at_fault-in-Err.result c.at_fault-in-Err.ensures
    (ap (λ (q : List Rec). alone (unless_again items (map_ok (Given j i) (settled ms items q t i)))) (sym same) ∙ gives_unshared ms items t j i own c.in-Err.why (sym settles ∙ ap (map_ok target_seen) c.in-Err.is))

pub returns-then-not-give : goal.returns-then-not-give
returns-then-not-give c items m at found low high =
    let ms = typed_modules c.args.modules.now in
    let j = c.args.entry.«module» in
    let i = c.args.entry.index in
    let t = told_seen c.args.told in
    let own = recs (records_in c.index-modules-at.result.bytes) in
    let here : slice_get ms j ≡ Some own = next_module c.args.modules.now j c.index-modules-at.result c.index-modules-at.is c.if-at-modules.false in
    let same : own ≡ m = same_Some own m (sym here ∙ found) in
    let within : i ≤ entries own (told_kind t) = subst (λ q. i ≤ entries q (told_kind t)) (sym same) high in
    let entry : c.entry_index-index.result ≡ i = c.entry_index-index.ensures (subst (λ d. i ≤ entries own d) (sym c.told_kind.ensures) within) in
    let settles : map_ok target_seen c.in_ok-settled.settled ≡ settled ms items own t i = c.in_ok-settled.ensures ms items at.titles_are ∙ ap (settled ms items own t) entry in
    let x = target_seen c.in-Ok.target in
    let is : settled ms items own t i ≡ Ok x = sym settles ∙ ap (map_ok target_seen) c.in-Ok.is in
    let mine : c.index_mut.result.now ≡ get_or c.args.self.now.given.items j c.index_mut.result.now = search rules in
    let tables = own_tables ms c.args.self.now items j own c.index_mut.result.now at here mine in
    let kind : kind_of x ≡ told_kind t = settled_kind ms items own t i x is in
    let again = not_given (j, own) i x c.index_mut.result.now c.give.new.self c.give.result (c.give.ensures (j, own)) items tables c.if-not-give.true low (subst (λ d. i ≤ entries own d) (sym kind) within) in
    fault_taken ms _ items c.args.line why.Twice _ c.at_fault-then-not-give.result c.at_fault-then-not-give.ensures
    (ap (λ (q : List Rec). alone (unless_again items (map_ok (Given j i) (settled ms items q t i)))) (sym same) ∙ gives_again ms items t j i own x is again)

pub returns : goal.returns
returns c items m at found low high =
    let ms = typed_modules c.args.modules.now in
    let j = c.args.entry.«module» in
    let i = c.args.entry.index in
    let t = told_seen c.args.told in
    let own = recs (records_in c.index-modules-at.result.bytes) in
    let here : slice_get ms j ≡ Some own = next_module c.args.modules.now j c.index-modules-at.result c.index-modules-at.is c.if-at-modules.false in
    let same : own ≡ m = same_Some own m (sym here ∙ found) in
    let within : i ≤ entries own (told_kind t) = subst (λ q. i ≤ entries q (told_kind t)) (sym same) high in
    let entry : c.entry_index-index.result ≡ i = c.entry_index-index.ensures (subst (λ d. i ≤ entries own d) (sym c.told_kind.ensures) within) in
    let settles : map_ok target_seen c.in_ok-settled.settled ≡ settled ms items own t i = c.in_ok-settled.ensures ms items at.titles_are ∙ ap (settled ms items own t) entry in
    let x = target_seen c.in-Ok.target in
    let is : settled ms items own t i ≡ Ok x = sym settles ∙ ap (map_ok target_seen) c.in-Ok.is in
    let mine : c.index_mut.result.now ≡ get_or c.args.self.now.given.items j c.index_mut.result.now = search rules in
    let tables = own_tables ms c.args.self.now items j own c.index_mut.result.now at here mine in
    let new = now_given (j, own) i x c.index_mut.result.now c.give.new.self c.give.result (c.give.ensures (j, own)) items tables c.if-not-give.false in
    let titles = subst (λ k. AreTitles ms c.note.new.self (items ++ Given j k x ∷ [])) entry (c.in_ok-note.ensures ms items j here at.titles_are) in (
      Given j i x ∷ [],
      ap (λ (q : List Rec). alone (unless_again items (map_ok (Given j i) (settled ms items q t i)))) (sym same) ∙ gives_first ms items t j i own x is new.0,
      more_given ms c.args.self.now _ items j i x own c.give.new.self at here new.1 refl refl refl refl refl titles,
    )
