-- A text that is printed in blocks.
use Rattle.std.proofs.Common.{◌≡◌, ℕ, List, [], ◌++◌, Result, Ok, Err, refl, sym, ap, subst, ◌∙◌, append_assoc, append-nil, arith}
use Rattle.std.proofs.KnownBytes.{Appends-nil, Appends-trans}
use Rattle.std.specs.Result.{IsErrAnd}
use Rattle.omf_frame.specs.Device.{Device}
use Rattle.omf_cmd.specs.Runs.{PrintsOr}
use Rattle.omf_cmd.proofs.Pieces.{unbroken_on}
use Rattle.omf_cmd.proofs.Written.{IsUpTo, ended as ended_text, stopped as stopped_text}
use Rattle.omf_linker.specs.Inner.Blocks.{IsWrittenUpTo, Passes}

-- nothing is written yet
pub begun : (device : Device) (text : List ℕ) → IsWrittenUpTo device device text text
begun device text = record { front = []; whole = refl; unbroken = (refl, omega arith); written = Appends-nil device.bytes }

up_to : (old new : Device) (text left : List ℕ) → IsWrittenUpTo old new text left → IsUpTo old new text left
up_to old new text left h = record { front = h.front; whole = h.whole; unbroken = h.unbroken; written = h.written }

-- all of a text is written
pub whole_written : {F : Type 0} (failed : F) (old new : Device) (text : List ℕ) → PrintsOr failed old new (Ok text) (Ok tt) → IsWrittenUpTo old new text []
whole_written failed old new text h = record { front = text; whole = sym (append-nil text); unbroken = h.0; written = h.1 }

-- what was due went on, `left` of it is in the block, and more is still to come
pub went_on : (old mid new : Device) (text rest due more left : List ℕ) → IsWrittenUpTo old mid text rest → due ++ more ≡ rest → IsWrittenUpTo mid new due left → IsWrittenUpTo old new text (left ++ more)
went_on old mid new text rest due more left h e w = record {
  front = h.front ++ w.front;
  whole = h.whole ∙ ap (λ (t : List ℕ). h.front ++ t) (sym e ∙ ap (λ (t : List ℕ). t ++ more) w.whole ∙ append_assoc w.front left more) ∙ sym (append_assoc h.front w.front (left ++ more));
  unbroken = unbroken_on old mid new h.unbroken w.unbroken;
  written = Appends-trans old.bytes mid.bytes new.bytes h.front w.front h.written w.written;
}

-- the writer failed while what was due went on
pub stopped : {F : Type 0} (failed : F) (old mid new : Device) (text rest due more left : List ℕ) (r : Result (Unit {0}) F) (e : F) → IsErrAnd r (λ x. x ≡ e) → IsWrittenUpTo old mid text rest → due ++ more ≡ rest
    → PrintsOr failed mid new (Ok due) (Err e) → Passes failed old new r text left
stopped failed old mid new text rest due more left (Ok done) e is h d p = absurd is
stopped failed old mid new text rest due more left (Err x) e is h d p = stopped_text failed old mid new text rest due more (up_to old mid text rest h) (sym d) e (Err x) refl is p

-- what is in the block is written too, or the writer failed
pub ended : {F : Type 0} (failed : F) (old mid new : Device) (text kept : List ℕ) (r : Result (Unit {0}) F) → IsWrittenUpTo old mid text kept → PrintsOr failed mid new (Ok kept) r → PrintsOr failed old new (Ok text) r
ended failed old mid new text kept r h p = ended_text failed old mid new text kept r (up_to old mid text kept h) p

-- the writer failed while a text went through an empty block
pub begun_empty : {F : Type 0} (failed : F) (old new : Device) (text kept : List ℕ) (r : Result (Unit {0}) F) (e : F) → kept ≡ [] → IsErrAnd r (λ x. x ≡ e) → PrintsOr failed old new (Ok (kept ++ text)) (Err e) → PrintsOr failed old new (Ok text) r
begun_empty {F = F} failed old new text kept (Ok done) e none is p = absurd is
begun_empty {F = F} failed old new text kept (Err x) e none is p =
    subst (λ (t : List ℕ). PrintsOr failed old new (Ok (t ++ text)) (Err x)) none (subst (λ (y : F). PrintsOr failed old new (Ok (kept ++ text)) (Err y)) (sym is) p)
