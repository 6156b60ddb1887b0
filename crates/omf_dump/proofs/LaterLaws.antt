-- The records after a record at fault, one after another.
use Rattle.std.proofs.Common.{◌≡◌, ℕ, zero, suc, ◌+◌, ◌-◌, ◌*◌, ◌<◌, ◌≤◌, List, [], ◌∷◌, ◌++◌, length, drop, Bool, true, false, cond, refl, sym, ap, ap₂, ◌∙◌, arith, append_assoc, length-drop}
use Rattle.std.specs.Prelude.{nat_le, ◌&&◌}
use Rattle.std.proofs.lemmas.Bool.{leb-true}
use Rattle.omf_frame.specs.Framing.{after_front, is_end, is_whole, record_len, stated_length}
use Rattle.omf_dump.specs.Inner.Later.{following}
use Rattle.omf_dump.specs.Later.{front_kind, goes_on, kept_record, later_from, later_text, lost_by, unjudged_text}
use Rattle.omf_dump.specs.Known.{tables}
use Rattle.omf_dump.specs.Library.{after_member}
use Rattle.omf_dump.specs.declared.format.Style.{Style}
use Rattle.omf_dump.specs.declared.known.Known.{Known}
use Rattle.omf_dump.specs.declared.lost.Lost.{Lost}
use Rattle.omf_records.specs.Values.{Rec}
use Rattle.std.specs.Prelude.{Option}
use Rattle.std.specs.Io.KnownBytes.{Appends}
use Rattle.std.proofs.KnownBytes.{Appends-nil, Appends-trans}
use Rattle.std.proofs.lemmas.List.{append-nil}
use Rattle.omf_dump.specs.Inner.Walking.{Holds, IsSent}
use Rattle.omf_dump.proofs.StreamLaws.{IsPart}

pub by_true : {A : Type 0} (b : Bool) (x y : A) → b ≡ true → cond b x y ≡ x
by_true true x y e = refl
by_true false x y e = absurd cc

pub by_false : {A : Type 0} (b : Bool) (x y : A) → b ≡ false → cond b x y ≡ y
by_false true x y e = absurd cc
by_false false x y e = refl

-- bytes that belong to the record before
skipped : (f : Style) (before : List Rec) (lost : Lost) (number start n : ℕ) (bytes : List ℕ) → later_from f before lost number start n bytes ≡ later_from f before lost number (start + n) 0 (drop n bytes)
skipped f before lost number start zero bytes = let e : start ≡ start + 0 = omega arith in ap (λ (s : ℕ). later_from f before lost number s 0 bytes) e
skipped f before lost number start (suc n) [] = refl
skipped f before lost number start (suc n) (b ∷ bytes) =
    let e : start + 1 + n ≡ start + suc n = omega arith in
    skipped f before lost number (start + 1) n bytes ∙ ap (λ (s : ℕ). later_from f before lost number s 0 (drop n bytes)) e

-- a whole record fits
pub whole_fits : (bytes : List ℕ) → is_whole bytes ≡ true → 3 + stated_length bytes ≤ length bytes
whole_fits [] e = absurd cc
whole_fits (t ∷ []) e = absurd cc
whole_fits (t ∷ lo ∷ []) e = absurd cc
whole_fits (t ∷ lo ∷ hi ∷ rest) e = let fits = leb-true (lo + 256 * hi) (length rest) e in omega (arith, fits)

-- what follows it
pub after_is : (bytes : List ℕ) → 3 + stated_length bytes ≤ length bytes → drop (3 + stated_length bytes) bytes ≡ after_front bytes
after_is [] e = absurd (omega (arith, e))
after_is (t ∷ []) e = absurd (omega (arith, e))
after_is (t ∷ lo ∷ []) e = absurd (omega (arith, e))
after_is (t ∷ lo ∷ hi ∷ rest) e =
    let k : 3 + (lo + 256 * hi) ≡ suc (suc (suc (lo + 256 * hi))) = omega arith in
    ap (λ (n : ℕ). drop n (t ∷ lo ∷ hi ∷ rest)) k

pub record_len_is : (bytes : List ℕ) → 3 + stated_length bytes ≤ length bytes → record_len bytes ≡ 3 + stated_length bytes
record_len_is [] e = absurd (omega (arith, e))
record_len_is (t ∷ []) e = absurd (omega (arith, e))
record_len_is (t ∷ lo ∷ []) e = absurd (omega (arith, e))
record_len_is (t ∷ lo ∷ hi ∷ rest) e = refl

following_len : (b : Bool) (rest : List ℕ) → length (cond b [] rest) ≤ length rest
following_len true rest = omega arith
following_len false rest = omega arith

pub following_fits : (bytes : List ℕ) → is_whole bytes ≡ true → length (following bytes) + (3 + stated_length bytes) ≤ length bytes
following_fits [] e = absurd cc
following_fits (t ∷ []) e = absurd cc
following_fits (t ∷ lo ∷ []) e = absurd cc
following_fits (t ∷ lo ∷ hi ∷ rest) e =
    let fits = whole_fits (t ∷ lo ∷ hi ∷ rest) e in
    let most = following_len (is_end t) (drop (lo + 256 * hi) rest) in
    let left = length-drop (lo + 256 * hi) rest in
    omega (arith, fits, most, left)

ended : (f : Style) (before : List Rec) (lost : Lost) (number start : ℕ) (b : Bool) (more : List ℕ) (rest : List ℕ) → more ≡ later_from f before lost number start 0 rest
    → cond b [] more ≡ later_from f before lost number start 0 (cond b [] rest)
ended f before lost number start true more rest e = refl
ended f before lost number start false more rest e = e

-- a record, and those that follow it
pub next_later : (f : Style) (before : List Rec) (lost : Lost) (number start : ℕ) (bytes : List ℕ) → is_whole bytes ≡ true
    → later_from f before lost number start 0 bytes
    ≡ unjudged_text f before lost number start bytes ++ later_from f (before ++ kept_record (tables before) lost bytes ∷ []) (lost_by (tables before) lost bytes) (number + 1) (start + (3 + stated_length bytes)) 0 (following bytes)
next_later f before lost number start [] e = absurd cc
next_later f before lost number start (t ∷ []) e = absurd cc
next_later f before lost number start (t ∷ lo ∷ []) e = absurd cc
next_later f before lost number start (t ∷ lo ∷ hi ∷ rest) e =
    let k : ℕ = lo + 256 * hi in
    let all : List ℕ = t ∷ lo ∷ hi ∷ rest in
    let kept : List Rec = before ++ kept_record (tables before) lost all ∷ [] in
    let gone : Lost = lost_by (tables before) lost all in
    let size : 3 + k - 1 ≡ suc (suc k) = omega arith in
    let at : start + 1 + 1 + 1 + k ≡ start + (3 + k) = omega arith in
    let more : later_from f kept gone (number + 1) (start + 1) (3 + k - 1) (lo ∷ hi ∷ rest) ≡ later_from f kept gone (number + 1) (start + (3 + k)) 0 (drop k rest) =
    ap (λ (n : ℕ). later_from f kept gone (number + 1) (start + 1) n (lo ∷ hi ∷ rest)) size
    ∙ skipped f kept gone (number + 1) (start + 1 + 1 + 1) k rest
    ∙ ap (λ (s : ℕ). later_from f kept gone (number + 1) s 0 (drop k rest)) at in
    by_true (is_whole all) _ [] e
    ∙ ap (λ (x : List ℕ). unjudged_text f before lost number start all ++ x) (ended f kept gone (number + 1) (start + (3 + k)) (is_end t) _ (drop k rest) more)

-- no record follows
pub none_later : (f : Style) (before : List Rec) (lost : Lost) (number start : ℕ) (bytes : List ℕ) → is_whole bytes ≡ false → later_from f before lost number start 0 bytes ≡ []
none_later f before lost number start [] e = refl
none_later f before lost number start (t ∷ bytes) e = by_false (is_whole (t ∷ bytes)) _ [] e

-- ---- the text of these records goes out in pieces

-- a record was shown
pub went_on : (front text more later later' shown whole : List ℕ) → whole ≡ front ++ (text ++ later) → later ≡ more ++ later' → shown ≡ text ++ more → whole ≡ front ++ (shown ++ later')
went_on front text more later later' shown whole e step made =
    e ∙ ap (λ (t : List ℕ). front ++ (text ++ t)) step ∙ ap (λ (t : List ℕ). front ++ t) (sym (append_assoc text more later') ∙ ap (λ (t : List ℕ). t ++ later') (sym made))

-- a piece of it was sent
pub piece_sent : (old mid new : Option (List ℕ)) (whole front shown left rest : List ℕ) → whole ≡ front ++ (shown ++ rest) → Appends old mid front → IsSent mid new shown left → IsSent old new whole (left ++ rest)
piece_sent old mid new whole front shown left rest e w s = record {
  front = front ++ s.front;
  whole = e ∙ ap (λ (t : List ℕ). front ++ (t ++ rest)) s.whole ∙ regroup front s.front left rest;
  written = Appends-trans old mid new front s.front w s.written;
}
  where
    regroup : (a b c d : List ℕ) → a ++ ((b ++ c) ++ d) ≡ (a ++ b) ++ (c ++ d)
    regroup a b c d = simp append_assoc

-- only a beginning of the piece was sent
pub piece_failed : (old mid new : Option (List ℕ)) (whole front shown rest : List ℕ) → whole ≡ front ++ (shown ++ rest) → Appends old mid front → IsPart mid new shown → IsPart old new whole
piece_failed old mid new whole front shown rest e w p =
    (front ++ p.0, p.1 ++ rest, e ∙ ap (λ (t : List ℕ). front ++ (t ++ rest)) p.2 ∙ regroup front p.0 p.1 rest, Appends-trans old mid new front p.0 w p.3)
  where
    regroup : (a b c d : List ℕ) → a ++ ((b ++ c) ++ d) ≡ (a ++ b) ++ (c ++ d)
    regroup a b c d = simp append_assoc

-- ---- whether records follow at all

both_left : (a b : Bool) → (a && b) ≡ true → a ≡ true
both_left true b e = refl
both_left false b e = absurd cc

pub goes_whole : (number : ℕ) (bytes : List ℕ) → goes_on number bytes ≡ true → 3 + stated_length bytes ≤ length bytes
goes_whole number bytes e = whole_fits bytes (both_left (is_whole bytes) _ e)

pub later_is : (f : Style) (before : List Rec) (lost : Lost) (number start : ℕ) (bytes : List ℕ) → goes_on number bytes ≡ true
    → later_text f before lost number start bytes
    ≡ later_from f before lost (number + 1) (start + (3 + stated_length bytes)) 0 (drop (3 + stated_length bytes) bytes)
later_is f before lost number start bytes e =
    let fits = goes_whole number bytes e in
    by_true (goes_on number bytes) _ [] e
    ∙ ap₂ (λ (n : ℕ) (bs : List ℕ). later_from f before lost (number + 1) (start + n) 0 bs) (record_len_is bytes fits) (sym (after_is bytes fits))

pub none_follows : (f : Style) (before : List Rec) (lost : Lost) (number start : ℕ) (bytes : List ℕ) → goes_on number bytes ≡ false → later_text f before lost number start bytes ≡ []
none_follows f before lost number start bytes e = by_false (goes_on number bytes) _ [] e

-- nothing more, and nothing was sent
pub nothing_sent : (old : Option (List ℕ)) (text more : List ℕ) → more ≡ [] → IsSent old old (text ++ more) text
nothing_sent old text more e = record {
  front = [];
  whole = ap (λ (t : List ℕ). text ++ t) e ∙ append-nil text;
  written = Appends-nil old;
}

-- what is sent and kept of the records from one on, after these records
pub record Follows (f : Style) (old now : Option (List ℕ)) (whole : List ℕ) (known : Known) (lost : Lost) (number start : ℕ) (left kept : List ℕ) : Type 0 where
  pub before : List Rec
  pub holds : Holds known before
  pub sent : IsSent old now whole (kept ++ later_from f before lost number start 0 left)

-- ---- the bytes after a member

after_skips : (n : ℕ) (bytes : List ℕ) → after_member n bytes ≡ after_member 0 (drop n bytes)
after_skips zero bytes = refl
after_skips (suc n) [] = refl
after_skips (suc n) (b ∷ bytes) = after_skips n bytes

-- after a record that is no MODEND
pub after_one : (bytes : List ℕ) → is_end (front_kind bytes) ≡ false → after_member 0 bytes ≡ after_member 0 (after_front bytes)
after_one [] e = refl
after_one (t ∷ []) e = by_false (is_end t) _ _ e
after_one (t ∷ lo ∷ []) e = by_false (is_end t) _ _ e
after_one (t ∷ lo ∷ hi ∷ rest) e =
    let size : 3 + (lo + 256 * hi) - 1 ≡ suc (suc (lo + 256 * hi)) = omega arith in
    by_false (is_end t) _ _ e ∙ ap (λ (n : ℕ). after_member n (lo ∷ hi ∷ rest)) size ∙ after_skips (lo + 256 * hi) rest

pub after_last : (bytes : List ℕ) → is_end (front_kind bytes) ≡ true → after_member 0 bytes ≡ after_front bytes
after_last [] e = refl
after_last (t ∷ bytes) e = by_true (is_end t) _ _ e

pub front_shorter : (bytes : List ℕ) → 0 < length bytes → length (after_front bytes) < length bytes
front_shorter [] h = absurd (omega (arith, h))
front_shorter (t ∷ []) h = omega arith
front_shorter (t ∷ lo ∷ []) h = omega arith
front_shorter (t ∷ lo ∷ hi ∷ rest) h = let left = length-drop (lo + 256 * hi) rest in omega (arith, left)
