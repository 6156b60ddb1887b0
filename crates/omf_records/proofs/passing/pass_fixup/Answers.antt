use Rattle.std.proofs.Common.{◌≡◌, ℕ, List, Bool, get_or, drop, refl, subst, arith}
use Rattle.std.specs.Prelude.{true, IfSome, ⊤}
use Rattle.omf_records.specs.Values.{target_bits}
use Rattle.omf_records.specs.Inner.EntryReaders.{datum_reader, displacement_reader}
use Rattle.omf_records.specs.Inner.Names.{has_frame_datum}
use Rattle.omf_records.specs.Inner.Passing.{Passes, IsEntry}
use Rattle.omf_records.proofs.PassingLaws.{IsFrame, if-some, passes, three}
use Rattle.omf_records.proofs.passing.pass_fixup.Goals as goal

pub returns-in-Some-pass_index : goal.returns-in-Some-pass_index
returns-in-Some-pass_index c =
    let here = c.args.here in
    let counts = c.args.counts.now in
    let b = c.bytes.result.now in
    let h = get_or b 0 0 in
    let l = get_or b 1 0 in
    let f = get_or b 2 0 in
    let p = c.pass.result in
    let framed = c.in-Some.framed in
    let aimed = c.in-Some-pass_index.aimed in
    let low : c.from.result ≡ target_bits f = omega arith in
    let first = subst (λ (t : List ℕ). Passes (IsFrame counts f) p.wide ((datum_reader (has_frame_datum f)).read p.within t) framed) c.pass.ensures.bytes c.in-Some.ensures in
    let second = subst (λ (k : ℕ). Passes (IsEntry (get_or counts k 0)) framed.wide ((datum_reader true).read framed.within framed.bytes.now) aimed) low c.in-Some-pass_index.ensures in
    let third = subst (λ (t : Bool). IfSome c.pass_displacement.result (Passes (λ d. ⊤) aimed.wide ((displacement_reader aimed.wide t).read aimed.within aimed.bytes.now))) c.has_displacement.ensures c.pass_displacement.ensures in
    if-some c.pass_displacement.result (passes here.wide here.within here.bytes.now h l f (drop 3 here.bytes.now) (three here.bytes.now b c.bytes.ensures c.in-len3-up.len_at_least) counts c.args.len
    (c.if-not-is_within.ensures.high refl) (c.if-not-is_within.ensures.location refl) (c.if-not-is_within.ensures.within refl) (c.if-not-is_own.ensures.methods refl) (c.if-not-is_own.ensures.frame refl) (c.if-not-is_own.ensures.target refl)
    p.wide c.pass.ensures.width p.within c.pass.ensures.within framed first aimed second) third
