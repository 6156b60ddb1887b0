use Rattle.std.proofs.Common.{rules, ◌≡◌, ◌∙◌, ◌++◌, ◌∷◌, ◌≤◌, [], ap, ap₂, sym, arith, false, length}
use Rattle.std.specs.Prelude.{Some, unwrap_or, ◌||◌}
use Rattle.omf_check.specs.Module.{recs_of}
use Rattle.omf_check.specs.Tables.{externals, locals, entry}
use Rattle.omf_frame.specs.Bytes.{is_one_of}
use Rattle.omf_placement.specs.Derive.{named_externals}
use Rattle.omf_placement.proofs.NamedLaws.{named-entry}
use Rattle.omf_placement.proofs.WeakLaws.{entries_more, no_entries}
use Rattle.omf_library.specs.Inner.Names.{names_seen}
use Rattle.omf_library.specs.Inner.Weak.{is_marked}
use Rattle.omf_library.specs.Needed.{name_unless, needed_name, needed_names, weak_indices}
use Rattle.omf_library.proofs.WeakLaws.{names_from, next_name, no_names}
use Rattle.omf_library.proofs.needed.names.put_needed_names.Goals as goal

pub loop-i-init : goal.loop-i-init
loop-i-init c = record {
  start = omega arith;
  end = search rules;
  so_far = let m = recs_of c.args.«module».now.bytes in ap (λ ns. names_seen ns ++ names_from (weak_indices m) m 1) c.clear.ensures.items;
}

pub loop-i-preserved : goal.loop-i-preserved
loop-i-preserved c =
    let m = recs_of c.args.«module».now.bytes in
    let i = c.loop-i.i in
    let weak = weak_indices m in
    let local = unwrap_or (entry (locals m) i) false in
    let inside : i ≤ length (externals m) = omega (arith, c.loop-i-test.true, c.loop-i.invariant.end) in
    let left : c.is_left_out.result ≡ (local || is_one_of weak i) = c.is_left_out.ensures ∙ ap (λ b. local || b) (c.in_ok-weak.ensures i inside) in
    let named : entry (named_externals m) i ≡ Some (c.in-Some.name, local) = named-entry m i c.in-Some.name c.loop-i.invariant.start (sym c.external.ensures ∙ c.in-Some.is) in
    let next = next_name weak m i (c.in-Some.name, local) c.loop-i.invariant.start named in
    record {
      start = omega (arith, c.loop-i.invariant.start);
      end = c.loop-i.invariant.end;
      so_far = entries_more (names_seen c.loop-i.names.items) (names_seen c.push_unless.new.names.items) (needed_name weak (i, (c.in-Some.name, local))) _ _ _
          (c.in_ok-push_unless-in-Some.ensures ∙ ap₂ (λ b n. names_seen c.loop-i.names.items ++ name_unless b n) left c.name.view_is) next c.loop-i.invariant.so_far;
    }

pub returns : goal.returns
returns c =
    let m = recs_of c.args.«module».now.bytes in
    no_entries (names_seen c.loop-i.names.items) _ _ (no_names (weak_indices m) m c.loop-i.i (omega (arith, c.loop-i-test.false, c.loop-i.invariant.end))) c.loop-i.invariant.so_far
