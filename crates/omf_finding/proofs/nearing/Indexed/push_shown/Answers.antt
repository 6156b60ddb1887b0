use Rattle.std.proofs.Common.{◌∙◌, ◌++◌, Option, ℕ, ap, sym}
use Rattle.std.specs.Prelude.{option_to_list}
use Rattle.omf_finding.proofs.ShownLaws.{adds-common, windows-done, windows-end, windows-next}
use Rattle.omf_finding.proofs.nearing.Indexed.push_shown.Goals as goal

pub returns-then-is_some : goal.returns-then-is_some
returns-then-is_some c =
    let program = c.args.self.now.program.now in
    let sorted = c.args.self.now.windows.now.sorted.items in
    adds-common program.bytes.items sorted c.requires program.base c.args.rare.key c.args.rare.offset c.first-first.result (record { before = c.first-first.ensures.before; after = c.first-first.ensures.after }) c.offset.result
    (sym c.offset.ensures) (sym c.is_some.ensures ∙ c.if-is_some.true) c.args.addresses.now.items

pub returns-in_default : goal.returns-in_default
returns-in_default c =
    let program = c.args.self.now.program.now in
    let sorted = c.args.self.now.windows.now.sorted.items in
    windows-end program.bytes.items sorted c.requires program.base c.args.rare.key c.args.rare.offset c.first-first.result (record { before = c.first-first.ensures.before; after = c.first-first.ensures.after }) c.loop-k.k
    c.args.addresses.now.items c.loop-k.addresses.items (sym c.in_default.ensures) c.loop-k.invariant

pub loop-k-preserved : goal.loop-k-preserved
loop-k-preserved c =
    let program = c.args.self.now.program.now in
    let sorted = c.args.self.now.windows.now.sorted.items in
    windows-next program.bytes.items sorted c.requires program.base c.args.rare.key c.args.rare.offset c.first-first.result (record { before = c.first-first.ensures.before; after = c.first-first.ensures.after }) c.loop-k.k c.in-Some.at
    c.args.addresses.now.items c.loop-k.addresses.items c.push_address.new.addresses.items (sym c.in-Some.ensures)
    (c.in_ok-push_address.ensures ∙ ap (λ (o : Option ℕ). c.loop-k.addresses.items ++ option_to_list o) c.address_for.ensures) c.loop-k.invariant

pub returns : goal.returns
returns c =
    let program = c.args.self.now.program.now in
    let sorted = c.args.self.now.windows.now.sorted.items in
    windows-done program.bytes.items sorted c.requires program.base c.args.rare.key c.args.rare.offset c.first-first.result (record { before = c.first-first.ensures.before; after = c.first-first.ensures.after }) c.loop-k.k c.offset.result
    c.args.addresses.now.items c.loop-k.addresses.items (sym c.offset.ensures) (sym c.is_some.ensures ∙ c.if-is_some.false) c.loop-k-test.false c.loop-k.invariant
