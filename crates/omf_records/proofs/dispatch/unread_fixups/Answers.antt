use Rattle.std.proofs.Common.{◌≡◌, Some, List, ℕ, Bool, sym, ap, subst, ◌∙◌}
use Rattle.omf_frame.specs.declared.kinds.RecordType.TheVariants.{Fixupp}
use Rattle.omf_records.specs.Entries.{subrecord}
use Rattle.omf_records.specs.Inner.EntryReaders.{subrecord_reader, subrecord_shrinks}
use Rattle.omf_records.specs.Inner.Front.{AreInFront, are_in_front}
use Rattle.omf_records.specs.Inner.Unread.{fixups_read}
use Rattle.omf_records.specs.Values.{At, Subrecord, is_wide}
use Rattle.omf_records.proofs.AtStart.{at_start, fixupp_type}
use Rattle.omf_records.proofs.dispatch.unread_fixups.Goals as goal

pub returns-then-is_fixupp-clause-read : goal.returns-then-is_fixupp-clause-read
returns-then-is_fixupp-clause-read c =
    sym (at_start (Some Fixupp) (fixups_read c.new.result.items) c.args.raw.now.kind c.start.result c.args.raw.now.body.now
    c.start.ensures.place c.start.ensures.width c.start.ensures.bytes
    (fixupp_type c.args.raw.now.kind (sym c.is_fixupp.ensures ∙ c.if-is_fixupp.true)) (ap fixups_read c.new.ensures.items))

-- the same items of the same bytes, under other names
same_front : (w v : Bool) (at : ℕ) (bytes body : List ℕ) (xs : List (At Subrecord)) → w ≡ v → at ≡ 3 → bytes ≡ body → AreInFront (subrecord w) at bytes xs → AreInFront (subrecord v) 3 body xs
same_front w v at bytes body xs a b c h =
    subst (λ (z : List ℕ). AreInFront (subrecord v) 3 z xs) c
    (subst (λ (k : ℕ). AreInFront (subrecord v) k bytes xs) b
    (subst (λ (x : Bool). AreInFront (subrecord x) at bytes xs) a h))

pub returns-then-is_fixupp-clause-front : goal.returns-then-is_fixupp-clause-front
returns-then-is_fixupp-clause-front c =
    let h = c.start.result in
    let all = are_in_front (subrecord h.wide) (subrecord_reader h.wide) (subrecord_shrinks h.wide) h.within h.bytes.now h.are_bytes in
    let given = subst (λ (xs : List (At Subrecord)). AreInFront (subrecord h.wide) h.within h.bytes.now xs) (sym c.new.ensures.front) all in
    same_front h.wide (is_wide c.args.raw.now.kind) h.within h.bytes.now c.args.raw.now.body.now c.new.result.front c.start.ensures.width c.start.ensures.place c.start.ensures.bytes given
