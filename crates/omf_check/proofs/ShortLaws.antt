-- The blocks of an LIDATA are at the end of its record's contents.
use Rattle.std.proofs.Common.{◌≡◌, ℕ, ◌+◌, ◌≤◌, List, ◌++◌, sym, ◌∙◌, ap, subst, arith, length, length-append, append_assoc}
use Rattle.std.specs.Prelude.{⊤}
use Rattle.omf_frame.specs.Bytes.{AreBytes}
use Rattle.omf_records.specs.Values.{Contents, Header, Iterated}
use Rattle.omf_records.specs.Records.{contents}
use Rattle.omf_records.specs.Inner.Steps.{AreBytes-back}
use Rattle.omf_records.proofs.LaidOut.{IsLaidOut, laid-out}
use Rattle.omf_check.specs.Inner.Judging.{IsShort}

abbrev IsIn : ℕ → List ℕ → Contents → Type 0
IsIn at bytes (Iterated d) = (front : List ℕ) × (bytes ≡ front ++ d.bytes) × (d.offset.within ≤ at + length bytes)
IsIn at bytes _ = ⊤

laid_in : (kind at : ℕ) (bytes : List ℕ) (c : Contents) → IsLaidOut kind at bytes c → IsIn at bytes c
laid_in kind at bytes (Iterated d) (f1, b1, x1, p1, s1, (f2, b2, x2, p2, s2, (x, same, is))) =
    let first : length bytes ≡ length f1 + length b1 = ap length p1 ∙ length-append f1 b1 in
    let place : d.offset.within ≡ at + length f1 = ap (λ z. z.offset.within) is ∙ s2.0 in
    let rest : bytes ≡ (f1 ++ f2) ++ d.bytes
    = p1 ∙ ap (λ z. f1 ++ z) p2 ∙ sym (append_assoc f1 f2 b2) ∙ ap (λ z. (f1 ++ f2) ++ z) (sym (ap (λ z. z.bytes) is ∙ same)) in
    (f1 ++ f2, rest, omega (arith, place, first))
laid_in kind at bytes (Header name) h = tt
laid_in kind at bytes _ h = tt

is_in : (kind : ℕ) (body : List ℕ) (c : Contents) → (contents kind).Spells 3 body c → IsIn 3 body c
is_in kind body c s = laid_in kind 3 body c (laid-out kind 3 body c s)

is_short : (body : List ℕ) (c : Contents) → length body ≤ 65534 → IsIn 3 body c → IsShort c
is_short body (Iterated d) le (front, parts, place) =
    let e : length body ≡ length front + length d.bytes = ap length parts ∙ length-append front d.bytes in (omega (arith, le, place), omega (arith, le, e))
is_short body (Header name) le h = tt
is_short body _ le h = tt

pub spelled_short : (kind : ℕ) (body : List ℕ) (c : Contents) → length body ≤ 65534 → (contents kind).Spells 3 body c → IsShort c
spelled_short kind body c le s = is_short body c le (is_in kind body c s)

-- the blocks are bytes
abbrev pub HasBytes : Contents → Type 0
HasBytes (Iterated d) = AreBytes d.bytes
HasBytes _ = ⊤

bytes_in : (body : List ℕ) (c : Contents) → AreBytes body → IsIn 3 body c → HasBytes c
bytes_in body (Iterated d) small (front, parts, place) = AreBytes-back front d.bytes (subst AreBytes parts small)
bytes_in body (Header name) small h = tt
bytes_in body _ small h = tt

pub spelled_bytes : (kind : ℕ) (body : List ℕ) (c : Contents) → AreBytes body → (contents kind).Spells 3 body c → HasBytes c
spelled_bytes kind body c small s = bytes_in body c small (is_in kind body c s)
