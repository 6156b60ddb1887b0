use Rattle.std.proofs.Common.{◌≡◌, List, ℕ, sym, subst, get_or}
use Rattle.std.specs.Prelude.{Bool, true, IsOk, IfSome, ⊤}
use Rattle.byteorder.specs.Endian.{little_bytes}
use Rattle.omf_frame.specs.Bytes.{AreBytes}
use Rattle.omf_records.specs.Inner.Direct.{begins_direct, Copies, IsNonzero}
use Rattle.omf_records.specs.Inner.EntryReaders.{datum_reader, displacement_reader}
use Rattle.omf_records.specs.Shortest.{option_bytes, datum_bytes}
use Rattle.omf_records.specs.Values.{width}
use Rattle.omf_records.specs.declared.here.Here.{Here}
use Rattle.omf_records.proofs.DirectLaws.{Front, front, frame-can, target-can, number-can, copied, if-some}
use Rattle.omf_records.proofs.direct.copy_direct.Goals as goal

-- the three bytes at the front, of the same bytes under another name
begins : (bytes same : List ℕ) → same ≡ bytes → begins_direct bytes ≡ true → AreBytes bytes → Front bytes (get_or same 0 0) (get_or same 1 0) (get_or same 2 0)
begins bytes same e b k = subst (λ (x : List ℕ). Front bytes (get_or x 0 0) (get_or x 1 0) (get_or x 2 0)) (sym e) (front bytes b k)

-- an index that is there by the fix data byte
named : (v b d : Bool) (w : ℕ) (t out new : List ℕ) (here : Here) → b ≡ d → Copies (λ x. ⊤) (option_bytes datum_bytes) v ((datum_reader b).read w t) out new here → Copies (λ x. ⊤) (option_bytes datum_bytes) v ((datum_reader d).read w t) out new here
named v b d w t out new here e c = subst (λ x. Copies (λ x. ⊤) (option_bytes datum_bytes) v ((datum_reader x).read w t) out new here) e c

pub copy_datum-framed-requires-clause-read : goal.copy_datum-framed-requires-clause-read
copy_datum-framed-requires-clause-read c =
    let h = c.args.here in
    let b = c.bytes.result.now in
    let p = c.pass.result in
    let begun = begins h.bytes.now b c.bytes.ensures c.requires.begins h.are_bytes in
    subst (λ b. IsOk ((datum_reader b).read p.within p.bytes.now)) (sym c.has_frame_datum.ensures)
    (frame-can h.wide h.within h.bytes.now (get_or b 0 0) (get_or b 1 0) (get_or b 2 0) begun c.requires.read p.within p.bytes.now c.pass.ensures.within c.pass.ensures.bytes)

pub copy_index-aimed-requires-clause-read : goal.copy_index-aimed-requires-clause-read
copy_index-aimed-requires-clause-read c =
    let h = c.args.here in
    let b = c.bytes.result.now in
    let p = c.pass.result in
    let f = c.copy_datum-framed.result in
    let begun = begins h.bytes.now b c.bytes.ensures c.requires.begins h.are_bytes in
    let o0 = c.push_head.new.out.items in
    let o1 = c.copy_datum-framed.new.out.items in
    target-can h.wide h.within h.bytes.now (get_or b 0 0) (get_or b 1 0) (get_or b 2 0) begun c.requires.read c.args.kind p.within p.bytes.now c.pass.ensures.within c.pass.ensures.bytes
    p.wide c.pass.ensures.width c.args.out.now.items o0 o1 f (named p.wide _ _ p.within p.bytes.now o0 o1 f c.has_frame_datum.ensures c.copy_datum-framed.ensures.copied)

pub copy_displacement-requires-clause-read : goal.copy_displacement-requires-clause-read
copy_displacement-requires-clause-read c =
    let h = c.args.here in
    let b = c.bytes.result.now in
    let p = c.pass.result in
    let f = c.copy_datum-framed.result in
    let t = c.copy_index-aimed.result in
    let begun = begins h.bytes.now b c.bytes.ensures c.requires.begins h.are_bytes in
    let o0 = c.push_head.new.out.items in
    let o1 = c.copy_datum-framed.new.out.items in
    subst (λ b. IsOk ((displacement_reader t.wide b).read t.within t.bytes.now)) (sym c.has_displacement.ensures)
    (number-can h.wide h.within h.bytes.now (get_or b 0 0) (get_or b 1 0) (get_or b 2 0) begun c.requires.read c.args.kind p.within p.bytes.now c.pass.ensures.within c.pass.ensures.bytes
    p.wide c.pass.ensures.width c.args.out.now.items o0 o1 f (named p.wide _ _ p.within p.bytes.now o0 o1 f c.has_frame_datum.ensures c.copy_datum-framed.ensures.copied)
    c.copy_index-aimed.new.out.items t c.copy_index-aimed.ensures.copied)

pub returns-in-len3-up-clause-copied : goal.returns-in-len3-up-clause-copied
returns-in-len3-up-clause-copied c =
    let h = c.args.here in
    let b = c.bytes.result.now in
    let p = c.pass.result in
    let f = c.copy_datum-framed.result in
    let t = c.copy_index-aimed.result in
    let begun = begins h.bytes.now b c.bytes.ensures c.requires.begins h.are_bytes in
    let o0 = c.push_head.new.out.items in
    let o1 = c.copy_datum-framed.new.out.items in
    let o2 = c.copy_index-aimed.new.out.items in
    let o3 = c.copy_displacement.new.out.items in
    if-some c.copy_displacement.result (λ d c3.
    copied h.wide h.within h.bytes.now (get_or b 0 0) (get_or b 1 0) (get_or b 2 0) begun c.requires.read c.args.kind p.within p.bytes.now c.pass.ensures.within c.pass.ensures.bytes
    p.wide c.pass.ensures.width c.args.out.now.items o0 o1 f (named p.wide _ _ p.within p.bytes.now o0 o1 f c.has_frame_datum.ensures c.copy_datum-framed.ensures.copied)
    o2 t c.copy_index-aimed.ensures.copied c.push_head.ensures.items o3 d c3)
    (subst (λ b. IfSome c.copy_displacement.result (Copies IsNonzero (option_bytes (little_bytes (width c.args.kind))) t.wide ((displacement_reader t.wide b).read t.within t.bytes.now) o2 o3)) c.has_displacement.ensures c.copy_displacement.ensures.copied)
