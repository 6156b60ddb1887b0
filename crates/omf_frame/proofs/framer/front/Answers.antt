use Rattle.std.proofs.Common.{◌∙◌, ◌-◌, sym, length, drop, arith}
use Rattle.std.specs.Prelude.{◌==◌}
use Rattle.std.proofs.lemmas.List.{length-take}
use Rattle.omf_frame.proofs.Records.{record_at, small}
use Rattle.omf_frame.proofs.framer.front.Goals as goal

pub returns-in-len4-up-clause-record : goal.returns-in-len4-up-clause-record
returns-in-len4-up-clause-record c =
    (record_at (c.args.number == 0) c.args.bytes.now (λ i. omega (arith, c.type_inv.bytes i)) c.requires.short (sym (sym c.if-not-is_whole.false ∙ c.is_whole.ensures)) c.requires.sound).0

pub returns-in-len4-up-clause-spelled : goal.returns-in-len4-up-clause-spelled
returns-in-len4-up-clause-spelled c =
    (record_at (c.args.number == 0) c.args.bytes.now (λ i. omega (arith, c.type_inv.bytes i)) c.requires.short (sym (sym c.if-not-is_whole.false ∙ c.is_whole.ensures)) c.requires.sound).1

pub returns-in-len4-up-clause-sound : goal.returns-in-len4-up-clause-sound
returns-in-len4-up-clause-sound c =
    (record_at (c.args.number == 0) c.args.bytes.now (λ i. omega (arith, c.type_inv.bytes i)) c.requires.short (sym (sym c.if-not-is_whole.false ∙ c.is_whole.ensures)) c.requires.sound).2

pub returns-in-len4-up-clause-small : goal.returns-in-len4-up-clause-small
returns-in-len4-up-clause-small c =
    let b = c.args.bytes.now in
    let s = small b (λ i. omega (arith, c.type_inv.bytes i)) c.requires.short in
    omega (arith, length-take (length b - 1 - 3) (drop 3 b))
