use Rattle.std.proofs.Common.{◌∙◌, arith, sym}
use Rattle.omf_check.specs.Module.{recs_of}
use Rattle.omf_placement.specs.Weak.{weak_pairs}
use Rattle.omf_aliases.proofs.AliasLaws.{own-at, own-none, own-past, own-zero}
use Rattle.omf_aliases.proofs.own.OwnDefaults.entry_of.Goals as goal

pub returns-in_default : goal.returns-in_default
returns-in_default c h =
    let m = recs_of c.args.«module».now.bytes in
    own-none m c.args.external c.default_of.result (c.default_of.ensures (weak_pairs m) h) c.in_default.is

pub returns-then-default-eq0 : goal.returns-then-default-eq0
returns-then-default-eq0 c h =
    let m = recs_of c.args.«module».now.bytes in
    own-zero m c.args.external c.default_of.result c.in-Some.default (c.default_of.ensures (weak_pairs m) h) c.in-Some.is c.if-default-eq0.true

pub returns-then-default-externals : goal.returns-then-default-externals
returns-then-default-externals c h =
    let m = recs_of c.args.«module».now.bytes in
    own-past m c.args.external c.default_of.result c.in-Some.default (c.default_of.ensures (weak_pairs m) h) c.in-Some.is (omega (arith, c.if-default-externals.true, c.externals.ensures.count))

pub returns : goal.returns
returns c h =
    let m = recs_of c.args.«module».now.bytes in
    sym c.external_at.ensures.named ∙ own-at m c.args.external c.default_of.result c.in-Some.default (c.default_of.ensures (weak_pairs m) h) c.in-Some.is
