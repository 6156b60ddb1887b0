-- Records one after another, and the members that they make.
use Rattle.std.proofs.Common.{◌≡◌, ℕ, suc, ◌+◌, ◌*◌, ◌-◌, ◌<◌, ◌⊎◌, inl, inr, true, false, List, [], ◌∷◌, ◌++◌, length, drop, take, sym, ap, ◌∙◌, subst, append_assoc, arith}
use Rattle.std.specs.Prelude.{slice_index, IsTrue}
use Rattle.std.proofs.lemmas.List.{length-append}
use Rattle.std.proofs.Math.Seq.{take-append_seam}
use Rattle.omf_frame.specs.Framing.{is_header}
use Rattle.omf_library.specs.Library.{next_page, word_at}
use Rattle.omf_library.specs.Spans.{AreInner, AreSpans, BeginsWithModule, IsShort, IsStretch, ends_module, joined}
use Rattle.omf_library.specs.declared.spans.Span.{Span}

-- A record that is not all there.
pub short_by : (bytes : List ℕ) → (length bytes < 3) ⊎ (length bytes < 3 + word_at bytes 1) → IsShort bytes
short_by bytes h [] rest e s = absurd (omega (arith, s.0))
short_by bytes h (a ∷ []) rest e s = absurd (omega (arith, s.0))
short_by bytes h (a ∷ b ∷ []) rest e s = absurd (omega (arith, s.0))
short_by bytes h (a ∷ b ∷ c ∷ f) rest e s =
    let long : length bytes ≡ suc (suc (suc (length (f ++ rest)))) = ap length e in
    let both : length (f ++ rest) ≡ length f + length rest = length-append f rest in
    let word : word_at bytes 1 ≡ b + 256 * c = ap (λ xs. word_at xs 1) e in
    let own : suc (suc (suc (length f))) ≡ 3 + (b + 256 * c) = s.1 in
    elim h [
      | inl few ↦ absurd (omega (arith, long, both, few))
      | inr few ↦ absurd (omega (arith, long, both, word, own, few))
    ]

pub inner_more : (rs : List (List ℕ)) (r : List ℕ) → AreInner rs → IsStretch r → ends_module r ≡ false → AreInner (rs ++ r ∷ [])
inner_more [] r h s e = (s, e, tt)
inner_more (x ∷ xs) r h s e = (h.0, h.1, inner_more xs r h.2 s e)

joined_more : (rs : List (List ℕ)) (r rest : List ℕ) → joined (rs ++ r ∷ []) ++ rest ≡ joined rs ++ (r ++ rest)
joined_more [] r rest = append_assoc r [] rest
joined_more (x ∷ xs) r rest = append_assoc x (joined (xs ++ r ∷ [])) rest ∙ ap (λ t. x ++ t) (joined_more xs r rest) ∙ sym (append_assoc x (joined xs) (r ++ rest))

pub spelled_more : (bytes : List ℕ) (rs : List (List ℕ)) (r rest next : List ℕ) → bytes ≡ joined rs ++ rest → rest ≡ r ++ next → bytes ≡ joined (rs ++ r ∷ []) ++ next
spelled_more bytes rs r rest next e f = e ∙ ap (λ t. joined rs ++ t) f ∙ sym (joined_more rs r next)

-- One member more.
pub spans_more : (bytes : List ℕ) (page at : ℕ) (ms : List Span) (to : ℕ) (m : Span) → AreSpans bytes page at ms to → m.offset ≡ to → IsTrue (is_header (slice_index bytes to)) → BeginsWithModule (drop to bytes) m.bytes.now
    → AreSpans bytes page at (ms ++ m ∷ []) (next_page page (to + length m.bytes.now))
spans_more bytes page at [] to m h o k b =
    (o ∙ sym h, subst (λ n. IsTrue (is_header (slice_index bytes n))) (sym h) k, subst (λ n. BeginsWithModule (drop n bytes) m.bytes.now) (sym h) b, ap (λ n. next_page page (n + length m.bytes.now)) h)
spans_more bytes page at (n ∷ ms) to m h o k b = (h.0, h.1, h.2, spans_more bytes page (next_page page (at + length n.bytes.now)) ms to m h.3 o k b)

-- What is in front of the rest.
pub front_is : (bytes front rest seen : List ℕ) → bytes ≡ front ++ rest → seen ≡ take (length bytes - length rest) bytes → seen ≡ front
front_is bytes front rest seen e s =
    let long : length bytes ≡ length front + length rest = ap length e ∙ length-append front rest in
    let left : length bytes - length rest ≡ length front = omega (arith, long) in
    s ∙ ap (λ n. take n bytes) left ∙ ap (λ bs. take (length front) bs) e ∙ take-append_seam front rest

-- The first module, whose last record is found.
pub module_found : (bytes rest r next seen : List ℕ) (before : List (List ℕ)) → AreInner before → bytes ≡ joined before ++ rest → rest ≡ r ++ next → IsStretch r → ends_module r ≡ true
    → seen ≡ take (length bytes - length next) bytes → BeginsWithModule bytes seen
module_found bytes rest r next seen before inner e f s t is =
    let all : bytes ≡ (joined before ++ r) ++ next = e ∙ ap (λ x. joined before ++ x) f ∙ sym (append_assoc (joined before) r next) in
    let found = front_is bytes (joined before ++ r) next seen all is in
    record { before = before; last = r; rest = next; inner = inner; whole = s; ended = t; found_is = found; spelled = all ∙ ap (λ x. x ++ next) (sym found) }

pub spans_grown : (bytes : List ℕ) (page at : ℕ) (ms now : List Span) (to end : ℕ) (m : Span) → now ≡ ms ++ m ∷ [] → end ≡ next_page page (to + length m.bytes.now) → AreSpans bytes page at ms to
    → IsTrue (is_header (slice_index bytes to)) → BeginsWithModule (drop to bytes) m.bytes.now → m.offset ≡ to → AreSpans bytes page at now end
spans_grown bytes page at ms now to end m n t h k b o =
    subst (λ e. AreSpans bytes page at now e) (sym t) (subst (λ xs. AreSpans bytes page at xs (next_page page (to + length m.bytes.now))) (sym n) (spans_more bytes page at ms to m h o k b))
