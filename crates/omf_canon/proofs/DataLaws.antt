-- The contents of an LEDATA or an LIDATA whose index is in its shortest spelling are the shortest ones.
use Rattle.std.proofs.Common.{◌≡◌, ℕ, zero, suc, ◌+◌, ◌-◌, ◌*◌, ◌/◌, ◌%◌, ◌<◌, ◌≤◌, ◌⊎◌, inl, inr, List, [], ◌∷◌, ◌++◌, length, refl, sym, ◌∙◌, ap, ap₂, subst, Bool, true, cond, arith, Result, Ok}
use Rattle.std.specs.Prelude.{OnOk, Option, None, ◌==◌, ◌||◌, not, nat_le, ⊤}
use Rattle.std.proofs.lemmas.Bool.{eqb-true, or_cases, leb-true, cases_Bool, eqb-false}
use Rattle.byteorder.specs.Endian.{little_bytes, little_from}
use Rattle.byteorder.specs.Numbers.{little_from-cons}
use Rattle.omf_frame.specs.Bytes.{AreBytes}
use Rattle.omf_frame.specs.Fields.{IsIndex, IsLittle, index_bytes}
use Rattle.omf_frame.specs.Inner.FieldLaws.{little_spelled, little_fits, by_lt}
use Rattle.omf_records.specs.Shortest.{data_bytes, contents_bytes}
use Rattle.omf_records.specs.Layout.{called}
use Rattle.omf_records.specs.Inner.Reading.{read_body}
use Rattle.omf_records.specs.Records.{data_item, contents}
use Rattle.omf_records.specs.Inner.RecordReaders.{contents_whole}
use Rattle.omf_records.specs.Values.{Contents, DataItem, Plain, Iterated, is_wide, width, alone}
use Rattle.omf_check.specs.declared.threads.Threads.{Threads}
use Rattle.omf_reloc.specs.Plain.{Piece, Kept}
use Rattle.omf_check.specs.Inner.Kept.{threads_after}
use Rattle.omf_canon.specs.Inner.Writing.{Held, closed, record_bytes, contents_pieces, ArePut, is_data, begins_short}
use Rattle.omf_canon.proofs.TakingLaws.{put-one, on-both}

-- ---- fields

same-numbers : (k : ℕ) (a b : List ℕ) → length a ≡ k → length b ≡ k → AreBytes a → AreBytes b → little_from 0 k a ≡ little_from 0 k b → a ≡ b
same-numbers zero [] [] p q h g e = refl
same-numbers zero (x ∷ a) b p q h g e = absurd (omega (arith, p))
same-numbers zero [] (y ∷ b) p q h g e = absurd (omega (arith, q))
same-numbers (suc k) [] b p q h g e = absurd (omega (arith, p))
same-numbers (suc k) (x ∷ a) [] p q h g e = absurd (omega (arith, q))
same-numbers (suc k) (x ∷ a) (y ∷ b) p q h g e =
    let l : x + 256 * little_from 0 k a ≡ y + 256 * little_from 0 k b =
    sym (ap (λ (n : ℕ). x + 256 * n) (little_from-cons 0 k x a)) ∙ e ∙ ap (λ (n : ℕ). y + 256 * n) (little_from-cons 0 k y b) in
    let s = digits x y (little_from 0 k a) (little_from 0 k b) (h 0) (g 0) l in
    let first : x ≡ y = s.0 in
    let others : a ≡ b = same-numbers k a b (omega (arith, p)) (omega (arith, q)) (λ i. h (suc i)) (λ i. g (suc i)) s.1 in
    cc
  where
    digits : (x y m n : ℕ) → x < 256 → y < 256 → x + 256 * m ≡ y + 256 * n → (x ≡ y) × (m ≡ n)
    digits x y m n h g e = (omega (arith, h, g, e), omega (arith, h, g, e))

same-little : (k n : ℕ) (body : List ℕ) → IsLittle k n body → body ≡ little_bytes k n
same-little k n body h =
    let s = little_spelled k n (little_fits k n body h) in
    same-numbers k body (little_bytes k n) h.count s.count h.bytes_fit s.bytes_fit (sym h.value ∙ s.value)

low-index : (n a : ℕ) → a < 128 → n ≡ a → a ∷ [] ≡ index_bytes n
low-index n a h e =
    by_lt n 128 (λ b. a ∷ [] ≡ cond b (n ∷ []) ((n / 256 + 128) ∷ n % 256 ∷ [])) (λ low. let q : n ≡ a = e in cc) (λ high. absurd (omega (arith, h, e, high)))

high-index : (n a b : ℕ) → 128 ≤ a → a < 256 → b < 256 → n ≡ (a - 128) * 256 + b → 128 ≤ n → a ∷ b ∷ [] ≡ index_bytes n
high-index n a b h k l e m =
    let p : n / 256 + 128 ≡ a = omega (arith, h, k, l, e) in
    let q : n % 256 ≡ b = omega (arith, h, k, l, e) in
    by_lt n 128 (λ t. a ∷ b ∷ [] ≡ cond t (n ∷ []) ((n / 256 + 128) ∷ n % 256 ∷ [])) (λ low. absurd (omega (arith, low, m))) (λ high. cc)

-- what begins with 128 and a byte below 128 is none
at-least : (a b : ℕ) → 128 ≤ a → (not (a == 128) || nat_le 128 b) ≡ true → 128 ≤ (a - 128) * 256 + b
at-least a b h e =
    elim (cases_Bool (a == 128)) [
      | inl t ↦ let q : nat_le 128 b ≡ true = subst (λ (x : Bool). (not x || nat_le 128 b) ≡ true) t e in let l = leb-true 128 b q in omega (arith, l)
      | inr f ↦ above a b h (eqb-false a 128 f)
    ]
  where
    above : (a b : ℕ) → 128 ≤ a → (a ≡ 128 → ⊥) → 128 ≤ (a - 128) * 256 + b
    above a b h differ = more a b (strict a h differ)
      where
        strict : (a : ℕ) → 128 ≤ a → (a ≡ 128 → ⊥) → 129 ≤ a
        strict a h differ = omega (arith, h, differ)

        more : (a b : ℕ) → 129 ≤ a → 128 ≤ (a - 128) * 256 + b
        more a b h = omega (arith, h)

short-index : (n : ℕ) (front back : List ℕ) → IsIndex n front → begins_short (front ++ back) ≡ true → front ≡ index_bytes n
short-index n [] back h e = absurd h
short-index n (a ∷ []) back h e = low-index n a h.0 h.1
short-index n (a ∷ b ∷ []) back h e = high-index n a b h.0 h.1 h.2 h.3 (subst (λ (m : ℕ). 128 ≤ m) (sym h.3) (at-least a b h.0 e))
short-index n (a ∷ b ∷ c ∷ more) back h e = absurd h

-- ---- data

same-data : (kind at : ℕ) (body : List ℕ) (d : DataItem) → (data_item (is_wide kind)).Spells at body d → begins_short body ≡ true → body ≡ data_bytes kind d
same-data kind at body d (f1, b1, seg, p1, (w, si), (f2, b2, off, p2, (v, so), (bytes, all, is))) e =
    let i : f1 ≡ index_bytes seg.item = short-index seg.item f1 b1 si (subst (λ (x : List ℕ). begins_short x ≡ true) p1 e) in
    let l : f2 ≡ little_bytes (width kind) off.item = same-little (width kind) off.item f2 so in
    let made : DataItem = record { segment = seg; offset = off; bytes = bytes } in
    p1 ∙ ap₂ (λ (x y : List ℕ). x ++ y) i (p2 ∙ ap₂ (λ (x y : List ℕ). x ++ y) l (sym all)) ∙ sym (ap (data_bytes kind) is)

-- ---- records

-- What such contents are, and what they put.
pub record IsCopied (threads : Threads) (kind : ℕ) (body : List ℕ) (c : Contents) : Type 0 where
  pub bytes : body ≡ contents_bytes kind c
  pub pieces : contents_pieces threads kind c ≡ Kept (alone (record { kind = kind; contents = c })) ∷ []
  pub shown : contents_bytes kind (alone (record { kind = kind; contents = c })).contents ≡ contents_bytes kind c
  pub keeps : threads_after threads c ≡ threads

plain-copied : (threads : Threads) (kind at : ℕ) (body : List ℕ) (c : Contents) → (called (data_item (is_wide kind)) Plain).Spells at body c → begins_short body ≡ true → IsCopied threads kind body c
plain-copied threads kind at body c (d, sp, is) e = subst (IsCopied threads kind body) (sym is) (record { bytes = same-data kind at body d sp e; pieces = refl; shown = refl; keeps = refl })

iterated-copied : (threads : Threads) (kind at : ℕ) (body : List ℕ) (c : Contents) → (called (data_item (is_wide kind)) Iterated).Spells at body c → begins_short body ≡ true → IsCopied threads kind body c
iterated-copied threads kind at body c (d, sp, is) e = subst (IsCopied threads kind body) (sym is) (record { bytes = same-data kind at body d sp e; pieces = refl; shown = refl; keeps = refl })

one-of-four : (kind : ℕ) → is_data kind ≡ true → (kind ≡ 0xA0) ⊎ ((kind ≡ 0xA1) ⊎ ((kind ≡ 0xA2) ⊎ (kind ≡ 0xA3)))
one-of-four kind e =
    elim (or_cases (kind == 0xA0) _ e) [
      | inl q ↦ inl (eqb-true kind 0xA0 q)
      | inr r ↦ elim (or_cases (kind == 0xA1) _ r) [
        | inl q ↦ inr (inl (eqb-true kind 0xA1 q))
        | inr s ↦ elim (or_cases (kind == 0xA2) _ s) [
          | inl q ↦ inr (inr (inl (eqb-true kind 0xA2 q)))
          | inr t ↦ inr (inr (inr (eqb-true kind 0xA3 t)))
        ]
      ]
    ]

abbrev Copies : Threads → List ℕ → Contents → ℕ → Type 0
Copies threads body c kind = (contents kind).Spells 3 body c → IsCopied threads kind body c

copied-spelled : (threads : Threads) (kind : ℕ) (body : List ℕ) (c : Contents) → is_data kind ≡ true → begins_short body ≡ true → Copies threads body c kind
copied-spelled threads kind body c d b =
    elim (one-of-four kind d) [
      | inl q ↦ subst (Copies threads body c) (sym q) (λ sp. plain-copied threads 0xA0 3 body c sp b)
      | inr (inl q) ↦ subst (Copies threads body c) (sym q) (λ sp. plain-copied threads 0xA1 3 body c sp b)
      | inr (inr (inl q)) ↦ subst (Copies threads body c) (sym q) (λ sp. iterated-copied threads 0xA2 3 body c sp b)
      | inr (inr (inr q)) ↦ subst (Copies threads body c) (sym q) (λ sp. iterated-copied threads 0xA3 3 body c sp b)
    ]

pub copied : (threads : Threads) (kind : ℕ) (body : List ℕ) (c : Contents) → AreBytes body → is_data kind ≡ true → begins_short body ≡ true → read_body kind body ≡ Ok c → IsCopied threads kind body c
copied threads kind body c h d b e = copied-spelled threads kind body c d b ((contents_whole kind).ok 3 body c h e)

copied-put : (threads : Threads) (kind : ℕ) (body : List ℕ) (c : Contents) → IsCopied threads kind body c → (out new : List ℕ) (group then : Option Held) → new ≡ out ++ (closed group ++ record_bytes kind body) → then ≡ None
    → ArePut (contents_pieces threads kind c) out group new then
copied-put threads kind body c h out new group then o g =
    let p : Piece = Kept (alone (record { kind = kind; contents = c })) in
    subst (λ ps. ArePut ps out group new then) (sym h.pieces)
    (put-one p out new group then (o ∙ ap (λ (b : List ℕ). out ++ (closed group ++ record_bytes kind b)) (h.bytes ∙ sym h.shown)) g)

pub copied-writes : {E : Type 0} (threads : Threads) (kind : ℕ) (body : List ℕ) (c : Contents) → IsCopied threads kind body c → (out new : List ℕ) (group then : Option Held) (r : Result ⊤ E)
    → OnOk r (new ≡ out ++ (closed group ++ record_bytes kind body)) → OnOk r (then ≡ None) → OnOk r (ArePut (contents_pieces threads kind c) out group new then)
copied-writes threads kind body c h out new group then r o g = on-both r o g (λ p q. copied-put threads kind body c h out new group then p q)
