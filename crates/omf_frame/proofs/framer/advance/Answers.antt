use Rattle.std.proofs.Common.{◌≡◌, ◌∙◌, ◌++◌, ◌==◌, ◌<◌, ℕ, List, None, sym, ap, length, arith}
use Rattle.std.specs.Prelude.{option_map}
use Rattle.std.proofs.lemmas.Result.{err_from_is_err_and}
use Rattle.omf_frame.specs.Framing.{present}
use Rattle.omf_frame.specs.Framer.{refused, open_at}
use Rattle.omf_frame.specs.Inner.Judging.{whole_fault, found}
use Rattle.omf_frame.proofs.Judged.{sound_type, type_none, by_type, by_whole}
use Rattle.omf_frame.proofs.framer.advance.Goals as goal

pub joined_type_fault-requires : goal.joined_type_fault-requires
joined_type_fault-requires c = rw c.deref.ensures.value (sound_type _ _ c.requires.sound)

pub returns-in-Some-clause-err : goal.returns-in-Some-clause-err
returns-in-Some-clause-err c =
    let at = c.args.at in
    let a = c.args.bytes.now.items in
    ap (option_map (refused (open_at a at.number at.start))) (by_type (at.number == 0) (present (a ++ c.args.piece.now)) c.joined_type_fault.result (c.in-Some.reason, c.in-Some.within) (rw c.deref.ensures.value at c.joined_type_fault.ensures) c.in-Some.is)

pub returns-in_err-taken-clause-err : goal.returns-in_err-taken-clause-err
returns-in_err-taken-clause-err c =
    let p = err_from_is_err_and c.from_residual.result c.from_residual.ensures.1 in
    let a = c.args.bytes.now.items in
    let b = c.args.piece.now in
    let some : 0 < length (present (a ++ b)) = omega (arith, c.in_err-taken.ensures.lacked) in
    let none : c.joined_type_fault.result ≡ None = c.in_default.is in
    let fresh = c.requires.room c.in_err-taken.ensures.first in
    rw (p.1, p.2) (fresh.0, fresh.1, some, type_none (present (a ++ b)) some (sym (rw c.deref.ensures.value at c.joined_type_fault.ensures) ∙ none))

pub returns-in-Some-whole_fault-clause-err : goal.returns-in-Some-whole_fault-clause-err
returns-in-Some-whole_fault-clause-err c =
    let at = c.args.at in
    let a = c.args.bytes.now.items in
    let now : List ℕ = present (a ++ c.args.piece.now) in
    let none : c.joined_type_fault.result ≡ None = c.in_default.is in
    let w : c.whole_fault.result ≡ whole_fault (at.number == 0) now = c.whole_fault.ensures ∙ ap (whole_fault (at.number == 0)) (c.deref-2.ensures.value ∙ c.in_ok-taken.ensures.ok) in
    ap (option_map (refused (open_at a at.number at.start))) (by_whole (at.number == 0) now c.joined_type_fault.result c.whole_fault.result (rw c.deref.ensures.value at c.joined_type_fault.ensures) none w ∙ ap (option_map found) c.in-Some-whole_fault.is)

pub returns-in-None-clause-sound : goal.returns-in-None-clause-sound
returns-in-None-clause-sound c =
    let at = c.args.at in
    let a = c.args.bytes.now.items in
    let now : List ℕ = present (a ++ c.args.piece.now) in
    let none : c.joined_type_fault.result ≡ None = c.in_default.is in
    let w : c.whole_fault.result ≡ whole_fault (at.number == 0) now = c.whole_fault.ensures ∙ ap (whole_fault (at.number == 0)) (c.deref-2.ensures.value ∙ c.in_ok-taken.ensures.ok) in
    rw c.in_ok-taken.ensures.ok (by_whole (at.number == 0) now c.joined_type_fault.result c.whole_fault.result (rw c.deref.ensures.value at c.joined_type_fault.ensures) none w ∙ ap (option_map found) c.in-None.is)
