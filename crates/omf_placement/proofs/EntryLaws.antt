-- The computed entry is the entry that the text spells.
use Rattle.std.proofs.Common.{◌≡◌, ◌⊎◌, ℕ, ◌<◌, List, [], ◌∷◌, ◌++◌, refl, sym, ◌∙◌, ap, ap₂, subst, inl, inr, ⊎_elim, Bool, true, false, cond, length, arith, eqb}
use Rattle.std.specs.Prelude.{All, Option, Some, None, option_map, option_and_then, ◌&&◌, nat_le, nat_lt, codes, bytes_eq}
use Rattle.std.specs.List.{list_all}
use Rattle.std.specs.Char.{digit_value, is_digit}
use Rattle.std.specs.Str.Parse.{AllDigits, digits_value}
use Rattle.std.proofs.lemmas.Bool.{ltb-true, leb-true, lt-ltb, le-leb, and_parts, and_from, ne_eqb, false≢true}
use Rattle.std.proofs.lemmas.List.Elements.{All-nil, All-cons}
use Rattle.std.proofs.lemmas.List.Splits.{slice_split_none, slice_split_at, join_with_byte-slice_split}
use Rattle.std.proofs.lemmas.Option.{none-some, same_Some, cond_some, option_and_then_some}
use Rattle.std.proofs.lemmas.Slice.Eq.{bytes_eq-Decides}
use Rattle.omf_placement.specs.declared.frame.Frame.{Frame}
use Rattle.omf_placement.specs.Placement.{Placed, real_frame}
use Rattle.omf_placement.specs.Entries.{Entry, Blank, SegmentEntry, GroupEntry, ExternalEntry, IsHexadecimal, SpellsPlaced, SpellsReal, SpellsFrame, Spells, in_words}
use Rattle.omf_placement.specs.Inner.EntryReading.{hexadecimal, frame_of, placed_of, real_of, two_words, three_words, four_words, entry_of_words, words_of, entry_said}

-- Digits.
digits-from : (cs : List ℕ) → list_all (λ c. is_digit c 16) cs ≡ true → AllDigits 16 cs
digits-from [] h = tt
digits-from (c ∷ cs) h = let parts = and_parts (is_digit c 16) (list_all (λ d. is_digit d 16) cs) h in (ltb-true (digit_value c) 16 parts.0, digits-from cs parts.1)

digits-to : (cs : List ℕ) → AllDigits 16 cs → list_all (λ c. is_digit c 16) cs ≡ true
digits-to [] h = refl
digits-to (c ∷ cs) h = and_from (is_digit c 16) (list_all (λ d. is_digit d 16) cs) (lt-ltb (digit_value c) 16 h.0) (digits-to cs h.1)

pub hexadecimal-from : (most : ℕ) (cs : List ℕ) (n : ℕ) → hexadecimal most cs ≡ Some n → IsHexadecimal most cs n
hexadecimal-from most cs n h =
    let test = nat_lt 0 (length cs) && (nat_le (length cs) most && list_all (λ c. is_digit c 16) cs) in
    let parts = cond_some test (digits_value 16 cs) n h in
    let one = and_parts (nat_lt 0 (length cs)) (nat_le (length cs) most && list_all (λ c. is_digit c 16) cs) parts.0 in
    let two = and_parts (nat_le (length cs) most) (list_all (λ c. is_digit c 16) cs) one.1 in
    record { numeral = (ltb-true 0 (length cs) one.0, digits-from cs two.1); short = leb-true (length cs) most two.0; value = sym parts.1 }

taken : {A : Type 0} (b : Bool) (x y : A) → b ≡ true → cond b x y ≡ x
taken true x y e = refl
taken false x y e = absurd (false≢true e)

pub hexadecimal-to : (most : ℕ) (cs : List ℕ) (n : ℕ) → IsHexadecimal most cs n → hexadecimal most cs ≡ Some n
hexadecimal-to most cs n h =
    let test = nat_lt 0 (length cs) && (nat_le (length cs) most && list_all (λ c. is_digit c 16) cs) in
    taken test (Some (digits_value 16 cs)) None
    (and_from (nat_lt 0 (length cs)) _ (lt-ltb 0 (length cs) h.numeral.0) (and_from (nat_le (length cs) most) _ (le-leb (length cs) most h.short) (digits-to cs h.numeral.1)))
    ∙ ap Some (sym h.value)

-- A number contains no space, so words can be separated.
abbrev NoSpace : List ℕ → Type 0
NoSpace w = All (λ c. eqb c 32 ≡ false) w

no-space : (cs : List ℕ) → AllDigits 16 cs → NoSpace cs
no-space [] h = All-nil (λ c. eqb c 32 ≡ false)
no-space (c ∷ cs) h = All-cons (λ d. eqb d 32 ≡ false) c cs
    (ne_eqb c 32 (λ e. absurd (omega (arith, subst (λ d. digit_value d < 16) e h.0)))) (no-space cs h.1)

last-word : (w : List ℕ) → NoSpace w → words_of w ≡ w ∷ []
last-word w h = slice_split_none (λ c. eqb c 32) w h

more-words : (w rest : List ℕ) → NoSpace w → words_of (w ++ 32 ∷ rest) ≡ w ∷ words_of rest
more-words w rest h = slice_split_at (λ c. eqb c 32) w 32 rest h refl

-- From the computed entry to the spelling.
map_some : {A B P : Type 0} (f : A → B) (o : Option A) (y : B) → option_map f o ≡ Some y → ((x : A) → o ≡ Some x → f x ≡ y → P) → P
map_some f None y h k = absurd (none-some y h)
map_some f (Some x) y h k = k x refl (same_Some (f x) y h)

frame-from : (b s : List ℕ) (f : Frame) → frame_of b s ≡ Some f → IsHexadecimal 8 b f.base × IsHexadecimal 4 s f.selector
frame-from b s f h = option_and_then_some _ (hexadecimal 8 b) f h (λ n e g. map_some _ (hexadecimal 4 s) f g (λ k e2 g2.
    (subst (IsHexadecimal 8 b) (ap (λ x. x.base) g2) (hexadecimal-from 8 b n e), subst (IsHexadecimal 4 s) (ap (λ x. x.selector) g2) (hexadecimal-from 4 s k e2))))

pub placed-from : (a b s : List ℕ) (p : Placed) → placed_of a b s ≡ Some p → IsHexadecimal 8 a p.address × (IsHexadecimal 8 b p.frame.base × IsHexadecimal 4 s p.frame.selector)
placed-from a b s p h = option_and_then_some _ (hexadecimal 8 a) p h (λ n e g. map_some _ (frame_of b s) p g (λ f e2 g2. (
  subst (IsHexadecimal 8 a) (ap (λ x. x.address) g2) (hexadecimal-from 8 a n e),
  subst (λ x. IsHexadecimal 8 b x.base × IsHexadecimal 4 s x.selector) (ap (λ x. x.frame) g2) (frame-from b s f e2),
)))

real-from : (a : List ℕ) (p : Placed) → real_of a ≡ Some p → IsHexadecimal 8 a p.address × (real_frame p.address ≡ Some p.frame)
real-from a p h = option_and_then_some _ (hexadecimal 8 a) p h (λ n e g. map_some _ (real_frame n) p g (λ f e2 g2.
    subst (λ x. IsHexadecimal 8 a x.address × (real_frame x.address ≡ Some x.frame)) g2 (hexadecimal-from 8 a n e, e2)))

choose : (b : Bool) (x y : Option Entry) (e : Entry) → cond b x y ≡ Some e → ((b ≡ true) × (x ≡ Some e)) ⊎ (y ≡ Some e)
choose true x y e h = inl (refl, h)
choose false x y e h = inr h

same-bytes : (w x : List ℕ) → bytes_eq w x ≡ true → w ≡ x
same-bytes w x h = (bytes_eq-Decides w x).0 h

two-from : (w x : List ℕ) (e : Entry) → two_words w x ≡ Some e → Spells (in_words (w ∷ x ∷ [])) e
two-from w x e h =
    let parts = cond_some (bytes_eq w (codes "G") && bytes_eq x (codes "real")) (GroupEntry None) e h in
    let both = and_parts (bytes_eq w (codes "G")) (bytes_eq x (codes "real")) parts.0 in
    subst (Spells (in_words (w ∷ x ∷ []))) parts.1 (ap₂ (λ a b. in_words (a ∷ b ∷ [])) (same-bytes w (codes "G") both.0) (same-bytes x (codes "real") both.1))

spells-real : (w x y : List ℕ) (e : Entry) → (bytes_eq w (codes "S") && bytes_eq y (codes "real")) ≡ true → option_map SegmentEntry (real_of x) ≡ Some e → Spells (in_words (w ∷ x ∷ y ∷ [])) e
spells-real w x y e test h =
    let both = and_parts (bytes_eq w (codes "S")) (bytes_eq y (codes "real")) test in
    map_some SegmentEntry (real_of x) e h (λ p e2 g. subst (Spells (in_words (w ∷ x ∷ y ∷ []))) g (inr (record {
      address = x;
      words = ap₂ (λ a b. in_words (a ∷ x ∷ b ∷ [])) (same-bytes w (codes "S") both.0) (same-bytes y (codes "real") both.1);
      is_address = (real-from x p e2).0;
      frame = (real-from x p e2).1;
    })))

spells-frame : (w x y : List ℕ) (e : Entry) → cond (bytes_eq w (codes "G")) (option_map (λ f. GroupEntry (Some f)) (frame_of x y)) None ≡ Some e → Spells (in_words (w ∷ x ∷ y ∷ [])) e
spells-frame w x y e h = ⊎_elim
    (λ both. map_some (λ f. GroupEntry (Some f)) (frame_of x y) e both.1 (λ f e2 g. subst (Spells (in_words (w ∷ x ∷ y ∷ []))) g (record {
      base = x;
      selector = y;
      words = ap (λ a. in_words (a ∷ x ∷ y ∷ [])) (same-bytes w (codes "G") both.0);
      is_base = (frame-from x y f e2).0;
      is_selector = (frame-from x y f e2).1;
    })))
    (λ none. absurd (none-some e none))
    (choose (bytes_eq w (codes "G")) _ None e h)

three-from : (w x y : List ℕ) (e : Entry) → three_words w x y ≡ Some e → Spells (in_words (w ∷ x ∷ y ∷ [])) e
three-from w x y e h = ⊎_elim (λ both. spells-real w x y e both.0 both.1) (λ other. spells-frame w x y e other)
    (choose (bytes_eq w (codes "S") && bytes_eq y (codes "real")) _ _ e h)

spells-placed : (letter w x y z : List ℕ) (p : Placed) → bytes_eq w letter ≡ true → placed_of x y z ≡ Some p → SpellsPlaced letter (in_words (w ∷ x ∷ y ∷ z ∷ [])) p
spells-placed letter w x y z p test h = record {
  address = x;
  base = y;
  selector = z;
  words = ap (λ a. in_words (a ∷ x ∷ y ∷ z ∷ [])) (same-bytes w letter test);
  is_address = (placed-from x y z p h).0;
  is_base = (placed-from x y z p h).1.0;
  is_selector = (placed-from x y z p h).1.1;
}

spells-external : (w x y z : List ℕ) (e : Entry) → cond (bytes_eq w (codes "E")) (option_map ExternalEntry (placed_of x y z)) None ≡ Some e → Spells (in_words (w ∷ x ∷ y ∷ z ∷ [])) e
spells-external w x y z e h = ⊎_elim
    (λ both. map_some ExternalEntry (placed_of x y z) e both.1 (λ p e2 g. subst (Spells (in_words (w ∷ x ∷ y ∷ z ∷ []))) g (spells-placed (codes "E") w x y z p both.0 e2)))
    (λ none. absurd (none-some e none))
    (choose (bytes_eq w (codes "E")) _ None e h)

four-from : (w x y z : List ℕ) (e : Entry) → four_words w x y z ≡ Some e → Spells (in_words (w ∷ x ∷ y ∷ z ∷ [])) e
four-from w x y z e h = ⊎_elim
    (λ both. map_some SegmentEntry (placed_of x y z) e both.1 (λ p e2 g. subst (Spells (in_words (w ∷ x ∷ y ∷ z ∷ []))) g (inl (spells-placed (codes "S") w x y z p both.0 e2))))
    (λ other. spells-external w x y z e other)
    (choose (bytes_eq w (codes "S")) _ _ e h)

words-from : (ws : List (List ℕ)) (e : Entry) → entry_of_words ws ≡ Some e → Spells (in_words ws) e
words-from [] e h = absurd (none-some e h)
words-from ([] ∷ []) e h = subst (Spells []) (same_Some Blank e h) refl
words-from ((c ∷ w) ∷ []) e h = absurd (none-some e h)
words-from (w ∷ x ∷ []) e h = two-from w x e h
words-from (w ∷ x ∷ y ∷ []) e h = three-from w x y e h
words-from (w ∷ x ∷ y ∷ z ∷ []) e h = four-from w x y z e h
words-from (w ∷ x ∷ y ∷ z ∷ v ∷ vs) e h = absurd (none-some e h)

pub entry-from : (text : List ℕ) (e : Entry) → entry_said text ≡ Some e → Spells text e
entry-from text e h = subst (λ t. Spells t e) (join_with_byte-slice_split 32 text) (words-from (words_of text) e h)

-- And back.
real-word : words_of (codes "real") ≡ codes "real" ∷ []
real-word = refl

and-then : {A B : Type 0} (f : A → Option B) (o : Option A) (x : A) (r : Option B) → o ≡ Some x → f x ≡ r → option_and_then f o ≡ r
and-then f o x r e g = ap (option_and_then f) e ∙ g

frame-to : (b s : List ℕ) (f : Frame) → IsHexadecimal 8 b f.base → IsHexadecimal 4 s f.selector → frame_of b s ≡ Some f
frame-to b s f h k = and-then _ (hexadecimal 8 b) f.base (Some f) (hexadecimal-to 8 b f.base h) (ap (option_map (λ x. record f { selector = x })) (hexadecimal-to 4 s f.selector k))

pub placed-to : (letter text : List ℕ) (p : Placed) (c : SpellsPlaced letter text p) → placed_of c.address c.base c.selector ≡ Some p
placed-to letter text p c = and-then _ (hexadecimal 8 c.address) p.address (Some p) (hexadecimal-to 8 c.address p.address c.is_address)
    (ap (option_map (λ f. record p { frame = f })) (frame-to c.base c.selector p.frame c.is_base c.is_selector))

real-to : (text : List ℕ) (p : Placed) (c : SpellsReal text p) → real_of c.address ≡ Some p
real-to text p c = and-then _ (hexadecimal 8 c.address) p.address (Some p) (hexadecimal-to 8 c.address p.address c.is_address) (ap (option_map (λ f. record p { frame = f })) c.frame)

letter-words : (letter rest : List ℕ) → NoSpace letter → (text : List ℕ) (ws : List (List ℕ)) → text ≡ letter ++ 32 ∷ rest → words_of rest ≡ ws → words_of text ≡ letter ∷ ws
letter-words letter rest h text ws e g = ap words_of e ∙ more-words letter rest h ∙ ap (λ t. letter ∷ t) g

number-words : {most n : ℕ} (w rest : List ℕ) (ws : List (List ℕ)) → IsHexadecimal most w n → words_of rest ≡ ws → words_of (w ++ 32 ∷ rest) ≡ w ∷ ws
number-words w rest ws h g = more-words w rest (no-space w h.numeral.1) ∙ ap (λ t. w ∷ t) g

number-word : {most n : ℕ} (w : List ℕ) → IsHexadecimal most w n → words_of w ≡ w ∷ []
number-word w h = last-word w (no-space w h.numeral.1)

placed-words : (letter text : List ℕ) (p : Placed) (c : SpellsPlaced letter text p) → NoSpace letter → words_of text ≡ letter ∷ c.address ∷ c.base ∷ c.selector ∷ []
placed-words letter text p c h = letter-words letter _ h text _ c.words
    (number-words c.address _ _ c.is_address (number-words c.base _ _ c.is_base (number-word c.selector c.is_selector)))

one-letter : (c : ℕ) → eqb c 32 ≡ false → NoSpace (c ∷ [])
one-letter c h = All-cons (λ d. eqb d 32 ≡ false) c [] h (All-nil (λ d. eqb d 32 ≡ false))

frame-words : (text : List ℕ) (f : Frame) (c : SpellsFrame text f) → words_of text ≡ codes "G" ∷ c.base ∷ c.selector ∷ []
frame-words text f c = letter-words (codes "G") _ (one-letter 71 refl) text _ c.words (number-words c.base _ _ c.is_base (number-word c.selector c.is_selector))

real-words : (text : List ℕ) (p : Placed) (c : SpellsReal text p) → words_of text ≡ codes "S" ∷ c.address ∷ codes "real" ∷ []
real-words text p c = letter-words (codes "S") _ (one-letter 83 refl) text _ c.words (number-words c.address _ _ c.is_address real-word)

pub entry-to : (text : List ℕ) (e : Entry) → Spells text e → entry_said text ≡ Some e
entry-to text Blank h = ap entry_said h
entry-to text (SegmentEntry p) (inl c) = ap entry_of_words (placed-words (codes "S") text p c (one-letter 83 refl)) ∙ ap (option_map SegmentEntry) (placed-to (codes "S") text p c)
entry-to text (SegmentEntry p) (inr c) = ap entry_of_words (real-words text p c) ∙ ap (option_map SegmentEntry) (real-to text p c)
entry-to text (GroupEntry None) h = ap entry_said h
entry-to text (GroupEntry (Some f)) c = ap entry_of_words (frame-words text f c) ∙ ap (option_map (λ x. GroupEntry (Some x))) (frame-to c.base c.selector f c.is_base c.is_selector)
entry-to text (ExternalEntry p) c = ap entry_of_words (placed-words (codes "E") text p c (one-letter 69 refl)) ∙ ap (option_map ExternalEntry) (placed-to (codes "E") text p c)
