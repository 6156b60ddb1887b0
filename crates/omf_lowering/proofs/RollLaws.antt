-- What a module has after one more record, or its fault.
use Rattle.std.proofs.Common.{◌≡◌, ℕ, suc, ◌+◌, ◌<◌, List, [], ◌∷◌, ◌++◌, Result, Ok, Err, refl, sym, ap, ◌∙◌, length, take, drop, drop-cons, get_or, arith}
use Rattle.std.specs.Prelude.{fold}
use Rattle.std.proofs.lemmas.List.{length-take, take_more, take-append-drop}
use Rattle.std.proofs.lemmas.List.Sums.{fold-append}
use Rattle.omf_frame.specs.Fault.{Fault}
use Rattle.omf_frame.specs.Framing.{Raw}
use Rattle.omf_records.specs.Values.{At, Subrecord}
use Rattle.omf_records.specs.Inner.Reads.{and_then}
use Rattle.omf_lowering.specs.Lowering.{HasFixupFault}
use Rattle.omf_lowering.specs.Inner.Rolling.{IsHalt, IsStep}
use Rattle.omf_lowering.specs.Unrolled.{Before, Blocks, after_part, after_record, after_records, after_subrecords, start}
use Rattle.omf_lowering.specs.declared.fault.Stop.{Stop}
use Rattle.omf_lowering.specs.declared.fault.Stop.TheVariants as stop

pub records_more : (rs : List Raw) (r : Raw) → after_records (rs ++ r ∷ []) ≡ and_then (after_records rs) (λ b. after_record b r)
records_more rs r = by (Ok start) rs
  where
    by : (b : Result Before Fault) (xs : List Raw) → fold (λ b r. and_then b (λ x. after_record x r)) b (xs ++ r ∷ []) ≡ and_then (fold (λ b r. and_then b (λ x. after_record x r)) b xs) (λ b. after_record b r)
    by b [] = refl
    by b (x ∷ xs) = by (and_then b (λ y. after_record y x)) xs

-- one more subrecord
pub subrecord_more : (kind : ℕ) (d : Blocks) (b next : Before) (s : At Subrecord) (subs : List (At Subrecord)) → after_part kind d b s.within s.item ≡ Ok next → after_subrecords kind d b (s ∷ subs) ≡ after_subrecords kind d next subs
subrecord_more kind d b next s subs e = ap (λ r. and_then r (λ x. after_subrecords kind d x subs)) e

-- ---- the first fault of some records

abbrev step : Result Before Fault → Raw → Result Before Fault
step q r = and_then q (λ x. after_record x r)

stays_at_fault : (e : Fault) (xs : List Raw) → fold step (Err e) xs ≡ Err e
stays_at_fault e [] = refl
stays_at_fault e (x ∷ xs) = stays_at_fault e xs

-- after a fault there is a fault
faulty : (q : Result Before Fault) (s : Before) (x : Raw) (e : Fault) (xs : List Raw) → q ≡ Ok s → after_record s x ≡ Err e → fold step (step q x) xs ≡ Err e
faulty q s x e xs is f = ap (λ p. fold step (step p x) xs) is ∙ ap (λ p. fold step p xs) f ∙ stays_at_fault e xs

never : (q : Result Before Fault) (s : Before) (e : Fault) → q ≡ Ok s → q ≡ Err e → ⊥
never (Ok t) s e a b = absurd cc
never (Err f) s e a b = absurd cc

head_once : (x y : Raw) (xs ys : List Raw) → x ∷ xs ≡ y ∷ ys → x ≡ y
head_once x y xs ys e = cc

tail_once : (x y : Raw) (xs ys : List Raw) → x ∷ xs ≡ y ∷ ys → xs ≡ ys
tail_once x y xs ys e = cc

same_ok : (q : Result Before Fault) (s t : Before) → q ≡ Ok s → q ≡ Ok t → s ≡ t
same_ok (Ok u) s t a b = cc
same_ok (Err g) s t a b = absurd cc

same_err : (q : Result Before Fault) (e f : Fault) → q ≡ Err e → q ≡ Err f → e ≡ f
same_err (Ok u) e f a b = absurd cc
same_err (Err g) e f a b = cc

first_once : (q : Result Before Fault) (done other : List Raw) (x y : Raw) (left more : List Raw) (s t : Before) (e f : Fault) → done ++ x ∷ left ≡ other ++ y ∷ more
    → fold step q done ≡ Ok s → after_record s x ≡ Err e → fold step q other ≡ Ok t → after_record t y ≡ Err f → (length done ≡ length other) × (e ≡ f)
first_once q [] [] x y left more s t e f same is a too b =
    (refl, same_err (after_record s x) e f a (ap (λ u. after_record u x) (same_ok q s t is too) ∙ ap (after_record t) (head_once x y left more same) ∙ b))
first_once q [] (z ∷ zs) x y left more s t e f same is a too b =
    let here : after_record s z ≡ Err e = ap (after_record s) (sym (head_once x z left (zs ++ y ∷ more) same)) ∙ a in
    absurd (never (fold step (step q z) zs) t e too (faulty q s z e zs is here))
first_once q (z ∷ zs) [] x y left more s t e f same is a too b =
    let here : after_record t z ≡ Err f = ap (after_record t) (head_once z y (zs ++ x ∷ left) more same) ∙ b in
    absurd (never (fold step (step q z) zs) s f is (faulty q t z f zs too here))
first_once q (z ∷ zs) (w ∷ ws) x y left more s t e f same is a too b =
    let heads : z ≡ w = head_once z w (zs ++ x ∷ left) (ws ++ y ∷ more) same in
    let rest = first_once (step q z) zs ws x y left more s t e f (tail_once z w (zs ++ x ∷ left) (ws ++ y ∷ more) same) is a (ap (λ v. fold step (step q v) ws) heads ∙ too) b in
    (ap suc rest.0, rest.1)

pub fault_once : (rs : List Raw) (m n : ℕ) (e f : Fault) → HasFixupFault rs m e → HasFixupFault rs n f → (m ≡ n) × (e ≡ f)
fault_once rs m n e f k l =
    let both = first_once (Ok start) k.done l.done k.next l.next k.left l.left k.after l.after e f (sym k.split ∙ l.split) k.unrolled k.fault l.unrolled l.fault in
    (k.counted ∙ both.0 ∙ sym l.counted, both.1)

pub fault_or_not : (rs : List Raw) (n : ℕ) (e : Fault) (b : Before) → HasFixupFault rs n e → after_records rs ≡ Ok b → ⊥
fault_or_not rs n e b k sound =
    never (after_records rs) b e sound (ap after_records k.split ∙ fold-append step (Ok start) k.done (k.next ∷ k.left) ∙ faulty (fold step (Ok start) k.done) k.after k.next e k.left k.unrolled k.fault)

-- ---- records by their numbers

pub roll_more : (rs : List Raw) (n : ℕ) (d : Raw) (b next : Before) → n < length rs → d ≡ get_or rs n d → after_records (take n rs) ≡ Ok b → after_record b d ≡ Ok next → after_records (take (n + 1) rs) ≡ Ok next
roll_more rs n d b next low is so_far now =
    ap after_records (take_more rs n d low ∙ ap (λ x. take n rs ++ x ∷ []) (sym is)) ∙ records_more (take n rs) d ∙ ap (λ q. step q d) so_far ∙ now

pub roll_stop : (rs : List Raw) (n : ℕ) (d x : Raw) (b new : Before) (why : Stop) → n < length rs → d ≡ get_or rs n d → x ≡ d → after_records (take n rs) ≡ Ok b → IsStep {A = ℕ} (Err why) new (after_record b x)
    → IsHalt rs n why
roll_stop rs n d x b new stop.Memory low is seen_as so_far now = tt
roll_stop rs n d x b new (stop.At e) low is seen_as so_far now = record {
  done = take n rs;
  next = d;
  left = drop (suc n) rs;
  split = sym (take-append-drop n rs) ∙ ap (λ l. take n rs ++ l) (drop-cons rs n d low ∙ ap (λ x. x ∷ drop (suc n) rs) (sym is));
  counted = omega (arith, length-take n rs, low);
  after = b;
  unrolled = so_far;
  fault = ap (after_record b) (sym seen_as) ∙ now;
}
