use Rattle.std.proofs.Common.{◌≡◌, ◌+◌, ◌++◌, ◌∙◌, ℕ, Bool, List, true, false, ap₂, refl, arith, rules}
use Rattle.std.specs.Prelude.{Some, string_bytes, unwrap_or, zip}
use Rattle.omf_check.specs.Module.{records_in}
use Rattle.omf_check.specs.Tables.{externals, locals, entry}
use Rattle.omf_check.specs.WellFormed.{recs}
use Rattle.omf_placement.specs.Derive.{named_externals}
use Rattle.omf_placement.proofs.NamedLaws.{named-entry, named-count}
use Rattle.omf_layout.specs.Wants.{rooms}
use Rattle.omf_layout.proofs.Printed.{more-printed, all-printed, entry-zip, zip-short}
use Rattle.omf_linking.specs.Locator.KeyForms.{key_form}
use Rattle.omf_reloc.specs.declared.fault.Kind.TheVariants as kinds
use Rattle.omf_externals.specs.Names.{IsNameTable, has_name}
use Rattle.omf_drafting.specs.Text.{external_by, external_text}
use Rattle.omf_drafting.proofs.part.print_wanted_lines.Goals as goal

pub loop-before-init : goal.loop-before-init
loop-before-init c = record { end = c.externals-before-end.ensures.count; lines = λ among h k. record { whole = refl } }

pub loop-before-preserved : goal.loop-before-preserved
loop-before-preserved c =
    let m = recs (records_in c.args.«module».now.bytes) in
    let j = c.loop-before.before in
    let local = unwrap_or (entry (locals m) (j + 1)) false in
    let same_local : c.unwrap_or-local.result ≡ local = search rules in
    let told : entry (externals m) (j + 1) ≡ Some c.in-Some.name = search rules in
    let roomed : entry (rooms m) (j + 1) ≡ Some c.in-Some-entry_of.room = search rules in
    let named : entry (named_externals m) (j + 1) ≡ Some (c.in-Some.name, local) = named-entry m (j + 1) c.in-Some.name (omega arith) told in
    let form : c.form-form.result ≡ key_form m kinds.External (j + 1)
    = c.form-form.ensures m kinds.External c.requires.keys (omega arith) (omega (arith, c.loop-before-test.true, c.loop-before.invariant.end)) in
    let seen : (among : Bool → List (List ℕ)) → IsNameTable c.args.all.now (among false) → IsNameTable c.args.own.now (among true) → c.is_public-seen.result ≡ has_name (among local) c.in-Some.name
    = λ among h k. c.is_public-seen.ensures among h k ∙ ap₂ (λ (n : List ℕ) (b : Bool). has_name (among b) n) c.name.view_is same_local in
    record {
      end = c.loop-before.invariant.end;
      lines = λ among h k. more-printed (external_text among m) (zip (named_externals m) (rooms m)) j _ _ _ _ (c.loop-before.invariant.lines among h k)
          (entry-zip (named_externals m) (rooms m) j _ _ named roomed)
          (c.in_ok-print_external.ensures ∙ ap₂ (λ s f. string_bytes c.loop-before.text ++ external_by s m f (j + 1) c.in-Some-entry_of.room) (seen among h k) form);
    }

pub returns : goal.returns
returns c = λ among h k.
    let m = recs (records_in c.args.«module».now.bytes) in
    all-printed (external_text among m) (zip (named_externals m) (rooms m)) c.loop-before.before _ _
    (omega (arith, c.loop-before-test.false, c.loop-before.invariant.end, zip-short (named_externals m) (rooms m), named-count m)) (c.loop-before.invariant.lines among h k)
