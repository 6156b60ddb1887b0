-- A text that goes to a writer in pieces.
use Rattle.std.proofs.Common.{◌≡◌, ℕ, List, [], ◌++◌, Result, Ok, Err, refl, sym, ap, subst, ◌∙◌, append_assoc, arith, inl, inr}
use Rattle.std.proofs.KnownBytes.{Appends-nil, Appends-trans, Keeps-refl}
use Rattle.std.proofs.lemmas.List.{append-nil}
use Rattle.std.specs.Io.KnownBytes.{Appends}
use Rattle.std.specs.Prelude.{Option, IfErr}
use Rattle.std.specs.Result.{IsErr, IsErrAnd}
use Rattle.omf_frame.specs.Device.{Device}
use Rattle.omf_frame.proofs.Tries.{failed_later, gives_up_later}
use Rattle.omf_check.specs.declared.profile.Profile.{Profile}
use Rattle.omf_cmd.specs.Relocating.{IsAnswered, Relocates}
use Rattle.omf_cmd.specs.Runs.{HasGivenUp, IsPart, IsPrintCause, IsUnbroken, Prints, PrintsInPieces}
use Rattle.omf_cmd.specs.Inner.Printing.{IsWrittenUpTo, Passes}
use Rattle.omf_cmd.specs.declared.fault.RunFault.{RunFault}
use Rattle.omf_cmd.specs.declared.fault.RunFault.TheVariants as fault

-- nothing of it is written yet
pub none_written : (old : Option (List ℕ)) (text : List ℕ) → IsWrittenUpTo old old text text
none_written old text = record { front = []; whole = refl; written = Appends-nil old }

-- of what was left, the front was passed on, and more of it is left
pub passed_on : (old mid new : Option (List ℕ)) (text due more left : List ℕ) → IsWrittenUpTo old mid text (due ++ more) → IsWrittenUpTo mid new due left → IsWrittenUpTo old new text (left ++ more)
passed_on old mid new text due more left h w = record {
  front = h.front ++ w.front;
  whole = h.whole ∙ ap (λ (t : List ℕ). h.front ++ (t ++ more)) w.whole ∙ ap (λ (t : List ℕ). h.front ++ t) (append_assoc w.front left more) ∙ sym (append_assoc h.front w.front (left ++ more));
  written = Appends-trans old mid new h.front w.front h.written w.written;
}

-- a fault came when the front of what was left was passed on
pub stopped : (old mid new : Option (List ℕ)) (text due more : List ℕ) → IsWrittenUpTo old mid text (due ++ more) → IsPart mid new due → IsPart old new text
stopped old mid new text due more h p = (
  h.front ++ p.0,
  p.1 ++ more,
  h.whole ∙ ap (λ (t : List ℕ). h.front ++ (t ++ more)) p.2 ∙ ap (λ (t : List ℕ). h.front ++ t) (append_assoc p.0 p.1 more) ∙ sym (append_assoc h.front p.0 (p.1 ++ more)),
  Appends-trans old mid new h.front p.0 h.written p.3,
)

-- a fault came before any of what was left was passed on
pub kept_back : (old new : Option (List ℕ)) (text left : List ℕ) → IsWrittenUpTo old new text left → IsPart old new text
kept_back old new text left h = (h.front, left, h.whole, h.written)

pub halted : (old new : Option (List ℕ)) (text left kept : List ℕ) (r : Result (Unit {0}) RunFault) → IsErr r → IsWrittenUpTo old new text left → Passes old new r text kept
halted old new text left kept (Ok done) is h = absurd (cc is)
halted old new text left kept (Err x) is h = kept_back old new text left h

-- ---- what a device did, one call after another

pub unbroken_on : (old mid new : Device) → IsUnbroken old mid → IsUnbroken mid new → IsUnbroken old new
unbroken_on old mid new h k = (k.0 ∙ h.0, let first = h.1 in let second = k.1 in omega (arith, first, second))

pub given_up_later : (old mid new : Device) → IsUnbroken old mid → HasGivenUp mid new → HasGivenUp old new
given_up_later old mid new h k = (failed_later old.failures mid.failures new.failures h.1 k.0, gives_up_later old mid new h.0 h.1 k.1)

pub cause_later : (old mid new : Device) (r : Result (Unit {0}) RunFault) → IsUnbroken old mid → IsPrintCause mid new r → IsPrintCause old new r
cause_later old mid new (Ok done) h c = unbroken_on old mid new h c
cause_later old mid new (Err fault.Memory) h c = unbroken_on old mid new h c
cause_later old mid new (Err fault.Write) h c = given_up_later old mid new h c
cause_later old mid new (Err fault.Read) h c = absurd c
cause_later old mid new (Err (fault.Refused why at)) h c = absurd c
cause_later old mid new (Err (fault.Line n)) h c = absurd c
cause_later old mid new (Err fault.TooLong) h c = absurd c
cause_later old mid new (Err (fault.Reach r)) h c = absurd c

-- ---- a text that is printed in pieces

-- a fault came while what was due went on, and more was still to come
pub stopped_by : (old mid new : Option (List ℕ)) (text rest due more left : List ℕ) (r : Result (Unit {0}) RunFault) → IsErr r → IsWrittenUpTo old mid text rest → due ++ more ≡ rest → IsPart mid new due → Passes old new r text left
stopped_by old mid new text rest due more left (Ok done) is h e p = absurd (cc is)
stopped_by old mid new text rest due more left (Err x) is h e p = stopped old mid new text due more (subst (IsWrittenUpTo old mid text) (sym e) h) p

-- what a fault leaves of a text: a part of it is written, and the writer is named where it failed
pub record IsLeft (old new : Device) (r : Result (Unit {0}) RunFault) (text left : List ℕ) : Type 0 where
  pub passes : Passes old.bytes new.bytes r text left
  pub cause : IsPrintCause old new r

pub left_by : (old mid new : Device) (text rest due more left : List ℕ) (r : Result (Unit {0}) RunFault) (e : RunFault) → IsErrAnd r (λ x. x ≡ e) → IsWrittenUpTo old.bytes mid.bytes text rest → IsUnbroken old mid → due ++ more ≡ rest
    → IsPart mid.bytes new.bytes due → IsPrintCause mid new (Err e) → IsLeft old new r text left
left_by old mid new text rest due more left (Ok done) e is h u d p c = absurd is
left_by old mid new text rest due more left (Err x) e is h u d p c = record {
  passes = stopped old.bytes mid.bytes new.bytes text due more (subst (IsWrittenUpTo old.bytes mid.bytes text) (sym d) h) p;
  cause = cause_later old mid new (Err x) u (subst (λ (y : RunFault). IsPrintCause mid new (Err y)) (sym is) c);
}

-- what was due went on, and more is still to come
pub went_on : (old mid new : Option (List ℕ)) (text rest due more left : List ℕ) → IsWrittenUpTo old mid text rest → due ++ more ≡ rest → IsWrittenUpTo mid new due left → IsWrittenUpTo old new text (left ++ more)
went_on old mid new text rest due more left h e w = passed_on old mid new text due more left (subst (IsWrittenUpTo old mid text) (sym e) h) w

-- a fault of printing leaves a part of the text
pub part_printed : (old new : Option (List ℕ)) (text : List ℕ) (e : RunFault) (before after : Device) → IsPrintCause before after (Err e) → IsPart old new text → PrintsInPieces old new (Err e) text
part_printed old new text fault.Memory before after f p = p
part_printed old new text fault.Write before after f p = p
part_printed old new text fault.Read before after f p = absurd f
part_printed old new text (fault.Refused why at) before after f p = absurd f
part_printed old new text (fault.Line n) before after f p = absurd f
part_printed old new text fault.TooLong before after f p = absurd f
part_printed old new text (fault.Reach r) before after f p = absurd f

-- what was left of the text was written, or the writer failed
pub rest_printed : (old mid new : Option (List ℕ)) (text left shown : List ℕ) (r : Result (Unit {0}) RunFault) → IsWrittenUpTo old mid text left → shown ≡ left → IfErr r (λ e. e ≡ fault.Write) → Prints mid new r shown → PrintsInPieces old new r text
rest_printed old mid new text left shown (Ok done) h e w p =
    subst (λ (t : List ℕ). Appends old new t) (ap (λ (t : List ℕ). h.front ++ t) e ∙ sym h.whole) (Appends-trans old mid new h.front shown h.written p)
rest_printed old mid new text left shown (Err x) h e w p =
    let part : IsPart mid new shown = subst (λ (y : RunFault). Prints mid new (Err y) shown) w p in
    let before : IsWrittenUpTo old mid text (shown ++ []) = subst (IsWrittenUpTo old mid text) (sym (append-nil shown ∙ e)) h in
    subst (λ (y : RunFault). PrintsInPieces old new (Err y) text) (sym w) (stopped old mid new text shown [] before part)

-- of no text nothing is printed
pub none_of : (held : Option (List ℕ)) → IsPart held held []
none_of held = ([], [], refl, Appends-nil held)

pub nothing_printed : (held : Option (List ℕ)) (e : RunFault) → PrintsInPieces held held (Err e) []
nothing_printed held fault.Memory = none_of held
nothing_printed held fault.Write = none_of held
nothing_printed held fault.Read = Keeps-refl held
nothing_printed held (fault.Refused why at) = Keeps-refl held
nothing_printed held (fault.Line n) = Keeps-refl held
nothing_printed held fault.TooLong = Keeps-refl held
nothing_printed held (fault.Reach r) = Keeps-refl held

-- where nothing is printed, the answer is that for the input
pub nothing_relocated : (profile : Profile) (input : List ℕ) (old new : Option (List ℕ)) (e : RunFault) → IsAnswered profile input old new (Err e) → Relocates profile input old new [] (Err e)
nothing_relocated profile input old new fault.Memory a = inr (refl, a)
nothing_relocated profile input old new fault.Write a = absurd a.0
nothing_relocated profile input old new fault.Read a = a
nothing_relocated profile input old new (fault.Refused why at) a = a
nothing_relocated profile input old new (fault.Line n) a = a
nothing_relocated profile input old new fault.TooLong a = a
nothing_relocated profile input old new (fault.Reach r) a = a

-- where the image's text is printed, or a part of it, it is that of the input
pub relocates : (profile : Profile) (input text : List ℕ) (old new : Option (List ℕ)) (before after : Device) (r : Result (Unit {0}) RunFault) → IsPrintCause before after r → IsAnswered profile input old new (Ok text)
    → Relocates profile input old new text r
relocates profile input text old new before after (Ok done) f a = a
relocates profile input text old new before after (Err fault.Memory) f a = inl a
relocates profile input text old new before after (Err fault.Write) f a = a
relocates profile input text old new before after (Err fault.Read) f a = absurd f
relocates profile input text old new before after (Err (fault.Refused why at)) f a = absurd f
relocates profile input text old new before after (Err (fault.Line n)) f a = absurd f
relocates profile input text old new before after (Err fault.TooLong) f a = absurd f
relocates profile input text old new before after (Err (fault.Reach x)) f a = absurd f

-- with nothing kept yet, the whole text is to be written
pub begun_empty : (held : Option (List ℕ)) (front back kept : List ℕ) → kept ≡ [] → IsWrittenUpTo held held (front ++ back) ((kept ++ front) ++ back)
begun_empty held front back kept e = subst (λ (t : List ℕ). IsWrittenUpTo held held (front ++ back) ((t ++ front) ++ back)) (sym e) (none_written held (front ++ back))

-- ---- a text of several parts, one after another

-- none of five parts is printed yet
pub begun_in_parts : (held : Option (List ℕ)) (kept a b c d e : List ℕ) → IsWrittenUpTo held held (kept ++ ((((a ++ b) ++ c) ++ d) ++ e)) (kept ++ (a ++ (b ++ (c ++ (d ++ e)))))
begun_in_parts held kept a b c d e =
    let parts = append_assoc ((a ++ b) ++ c) d e ∙ append_assoc (a ++ b) c (d ++ e) ∙ append_assoc a b (c ++ (d ++ e)) in
    subst (IsWrittenUpTo held held (kept ++ ((((a ++ b) ++ c) ++ d) ++ e))) (ap (λ (t : List ℕ). kept ++ t) parts) (none_written held (kept ++ ((((a ++ b) ++ c) ++ d) ++ e)))

-- the next part was printed, and more is still to come
pub part_done : (old mid new : Option (List ℕ)) (text kept part more left : List ℕ) → IsWrittenUpTo old mid text (kept ++ (part ++ more)) → IsWrittenUpTo mid new (kept ++ part) left → IsWrittenUpTo old new text (left ++ more)
part_done old mid new text kept part more left h w = went_on old mid new text (kept ++ (part ++ more)) (kept ++ part) more left h (append_assoc kept part more) w

-- a fault came in the next part
pub part_stopped : (old mid new : Option (List ℕ)) (text kept part more left : List ℕ) (r : Result (Unit {0}) RunFault) → IsErr r → IsWrittenUpTo old mid text (kept ++ (part ++ more)) → IsPart mid new (kept ++ part) → Passes old new r text left
part_stopped old mid new text kept part more left r is h p = stopped_by old mid new text (kept ++ (part ++ more)) (kept ++ part) more left r is h (append_assoc kept part more) p

-- the last part was printed, or a fault came in it
pub last_part : (old mid new : Option (List ℕ)) (text due left : List ℕ) (r : Result (Unit {0}) RunFault) → IsWrittenUpTo old mid text due → Passes mid new r due left → Passes old new r text left
last_part old mid new text due left (Ok done) h p = subst (IsWrittenUpTo old new text) (append-nil left) (went_on old mid new text due due [] left h (append-nil due) p)
last_part old mid new text due left (Err x) h p = stopped old mid new text due [] (subst (IsWrittenUpTo old mid text) (sym (append-nil due)) h) p
