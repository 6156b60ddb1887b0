use Rattle.std.proofs.Common.{◌≡◌, ◌∙◌, ◌++◌, refl, ap, ap₂, arith, map, rules}
use Rattle.std.specs.Prelude.{flat_map, string_bytes}
use Rattle.std.specs.List.{enumerate_from}
use Rattle.omf_check.specs.Module.{records_in, typed_modules}
use Rattle.omf_check.specs.WellFormed.{recs}
use Rattle.omf_placement.proofs.TableLaws.{next-placed, none-left}
use Rattle.omf_layout.specs.Reading.{AreShort}
use Rattle.omf_layout.proofs.Printed.{none-so-far, more-hold, all-hold}
use Rattle.omf_placement.specs.Quoted.{quoted}
use Rattle.omf_linking.specs.Inner.Sharing.{shares_seen}
use Rattle.omf_linking.specs.Locator.Drafted.{all_shared, sharing_of}
use Rattle.omf_linking.specs.Locator.KeyForms.{is_repeated, module_texts}
use Rattle.omf_linking.specs.Locator.Keys.{module_name}
use Rattle.omf_externals.specs.Names.{seen_names}
use Rattle.omf_drafting.specs.Reading.{HasFew}
use Rattle.omf_drafting.specs.Text.{module_text, opening_by, opening_line, part_text}
use Rattle.omf_linking.proofs.KeyLaws.{named-at, names-there}
use Rattle.omf_linking.proofs.SharingLaws.{shared-at, shared-long, shared-many}
use Rattle.omf_drafting.proofs.PlacesLaws.{all-parts, as-many, has-at, here-at, is-short, more-parts, typed-at, typed-length}
use Rattle.omf_drafting.proofs.draft.text_of.Goals as goal

pub print_part-requires-clause-segments : goal.print_part-requires-clause-segments
print_part-requires-clause-segments c =
    (has-at c.args.modules.now c.args.placements.now c.loop-number.number c.index-modules-number.result c.index-placements-number.result c.index-modules-number.is c.index-placements-number.is c.loop-number-test.true c.requires.entries).segments

pub print_part-requires-clause-groups : goal.print_part-requires-clause-groups
print_part-requires-clause-groups c =
    (has-at c.args.modules.now c.args.placements.now c.loop-number.number c.index-modules-number.result c.index-placements-number.result c.index-modules-number.is c.index-placements-number.is c.loop-number-test.true c.requires.entries).groups

pub print_part-requires-clause-shared_segments : goal.print_part-requires-clause-shared_segments
print_part-requires-clause-shared_segments c =
    let ms = c.args.modules.now in
    let pls = c.args.placements.now in
    let j = c.loop-number.number in
    let m = recs (records_in c.index-modules-number.result.bytes) in
    let pl = c.index-placements-number.result in
    let shown : map shares_seen c.deref-shares.result.now ≡ all_shared (typed_modules ms) pls = ap (map shares_seen) c.deref-shares.ensures.value ∙ c.in_ok-shared.ensures in
    (shared-long (sharing_of (typed_modules ms) pls j m) m pl _
    (shared-at ms pls c.deref-shares.result.now j c.index-shares-number.result c.index-modules-number.result pl shown c.index-shares-number.is c.index-modules-number.is c.index-placements-number.is c.loop-number-test.true c.requires.entries)
    (has-at ms pls j c.index-modules-number.result pl c.index-modules-number.is c.index-placements-number.is c.loop-number-test.true c.requires.entries)).0

pub print_part-requires-clause-shared_groups : goal.print_part-requires-clause-shared_groups
print_part-requires-clause-shared_groups c =
    let ms = c.args.modules.now in
    let pls = c.args.placements.now in
    let j = c.loop-number.number in
    let m = recs (records_in c.index-modules-number.result.bytes) in
    let pl = c.index-placements-number.result in
    let shown : map shares_seen c.deref-shares.result.now ≡ all_shared (typed_modules ms) pls = ap (map shares_seen) c.deref-shares.ensures.value ∙ c.in_ok-shared.ensures in
    (shared-long (sharing_of (typed_modules ms) pls j m) m pl _
    (shared-at ms pls c.deref-shares.result.now j c.index-shares-number.result c.index-modules-number.result pl shown c.index-shares-number.is c.index-modules-number.is c.index-placements-number.is c.loop-number-test.true c.requires.entries)
    (has-at ms pls j c.index-modules-number.result pl c.index-modules-number.is c.index-placements-number.is c.loop-number-test.true c.requires.entries)).1

pub loop-number-init : goal.loop-number-init
loop-number-init c = record { parts = search rules; short = none-so-far AreShort c.args.placements.now; few = none-so-far HasFew (typed_modules c.args.modules.now) }

pub loop-number-preserved : goal.loop-number-preserved
loop-number-preserved c =
    let ms = c.args.modules.now in
    let pls = c.args.placements.now in
    let j = c.loop-number.number in
    let module_here = c.index-modules-number.result in
    let m = recs (records_in module_here.bytes) in
    let pl = c.index-placements-number.result in
    let frames = c.args.frames in
    let sharing = sharing_of (typed_modules ms) pls j m in
    let f = module_text frames (typed_modules ms) pls in
    let has = has-at ms pls j module_here pl c.index-modules-number.is c.index-placements-number.is c.loop-number-test.true c.requires.entries in
    let count = as-many ms pls c.requires.entries in
    let shown : map shares_seen c.deref-shares.result.now ≡ all_shared (typed_modules ms) pls = ap (map shares_seen) c.deref-shares.ensures.value ∙ c.in_ok-shared.ensures in
    let names = c.deref-names.result.now in
    let made : map string_bytes names ≡ module_texts (typed_modules ms) = ap (map string_bytes) c.deref-names.ensures.value ∙ c.in_ok-kept.ensures in
    let name : string_bytes c.index-names-number.result ≡ quoted (module_name m) = named-at ms names made j c.index-names-number.result module_here c.index-names-number.is c.index-modules-number.is c.loop-number-test.true in
    let again : c.is_repeated-repeated.result ≡ is_repeated (module_texts (typed_modules ms)) (quoted (module_name m))
    = c.is_repeated-repeated.ensures (map string_bytes names) c.in_ok-table.ensures ∙ ap₂ is_repeated made (c.as_bytes.ensures.value ∙ name) in
    record {
      parts = more-parts _ _ _ (opening_line (typed_modules ms) j m) (part_text frames sharing (seen_names (typed_modules ms) m) m pl) _ _ _
          (c.in_ok-print_opening.ensures ∙ ap (λ b. string_bytes c.loop-number.text ++ opening_by b j m) again)
          (c.in_ok-print_part.ensures.text sharing (seen_names (typed_modules ms) m)
          (shared-at ms pls c.deref-shares.result.now j c.index-shares-number.result module_here pl shown c.index-shares-number.is c.index-modules-number.is c.index-placements-number.is c.loop-number-test.true c.requires.entries)
          c.in_ok-all.ensures refl)
          (ap (λ zs. flat_map f (enumerate_from j zs)) (next-placed ms pls j module_here pl c.index-modules-number.is c.index-placements-number.is c.loop-number-test.true count)) c.loop-number.invariant.parts;
      short = more-hold AreShort pls j pl c.loop-number.invariant.short (here-at pls j pl c.index-placements-number.is (omega (arith, c.loop-number-test.true, count)))
          (is-short m pl has c.in_ok-print_part.ensures.segments c.in_ok-print_part.ensures.groups);
      few = more-hold HasFew (typed_modules ms) j m c.loop-number.invariant.few (typed-at ms j module_here c.index-modules-number.is c.loop-number-test.true)
          (record { segments = c.in_ok-print_part.ensures.few_segments; groups = c.in_ok-print_part.ensures.few_groups });
    }

pub returns-clause-text : goal.returns-clause-text
returns-clause-text c =
    let ms = c.args.modules.now in
    let pls = c.args.placements.now in
    let j = c.loop-number.number in
    all-parts _ _ _ (ap (λ zs. flat_map (module_text c.args.frames (typed_modules ms) pls) (enumerate_from j zs)) (none-left ms pls j c.loop-number-test.false)) c.loop-number.invariant.parts

pub returns-clause-short : goal.returns-clause-short
returns-clause-short c =
    all-hold AreShort c.args.placements.now c.loop-number.number (omega (arith, c.loop-number-test.false, as-many c.args.modules.now c.args.placements.now c.requires.entries)) c.loop-number.invariant.short

pub bounds-placements-number : goal.bounds-placements-number
bounds-placements-number c = omega (arith, c.loop-number-test.true, as-many c.args.modules.now c.args.placements.now c.requires.entries)

pub returns-clause-entries : goal.returns-clause-entries
returns-clause-entries c =
    all-hold HasFew (typed_modules c.args.modules.now) c.loop-number.number (omega (arith, c.loop-number-test.false, typed-length c.args.modules.now)) c.loop-number.invariant.few

pub bounds-shares-number : goal.bounds-shares-number
bounds-shares-number c =
    let ms = c.args.modules.now in
    let pls = c.args.placements.now in
    let shown : map shares_seen c.deref-shares.result.now ≡ all_shared (typed_modules ms) pls = ap (map shares_seen) c.deref-shares.ensures.value ∙ c.in_ok-shared.ensures in
    omega (arith, c.loop-number-test.true, shared-many (typed_modules ms) pls c.deref-shares.result.now c.requires.entries shown, typed-length ms)

pub bounds-names-number : goal.bounds-names-number
bounds-names-number c =
    let made = ap (map string_bytes) c.deref-names.ensures.value ∙ c.in_ok-kept.ensures in
    omega (arith, c.loop-number-test.true, names-there c.args.modules.now c.deref-names.result.now made)
