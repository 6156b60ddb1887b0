-- The least of the faults.
use Rattle.std.proofs.Common.{subst, ◌≡◌, ℕ, zero, suc, ◌+◌, ◌*◌, ◌-◌, ◌<◌, ◌≤◌, List, [], ◌∷◌, refl, sym, ◌∙◌, ap, length, arith, get_or, Bool, true, false}
use Rattle.std.specs.Prelude.{All, Contains, cond, IsTrue, ◌||◌, ◌&&◌, nat_lt, nat_le, ◌==◌}
use Rattle.std.proofs.lemmas.Bool.{leb-true, le-leb, eqb-true, eq-eqb}
use Rattle.std.proofs.lemmas.Bool.Decides.{leb_tells}
use Rattle.std.proofs.Common.{inl, inr}
use Rattle.std.proofs.Common.{lit<}
use Rattle.omf_frame.specs.Inner.Names.{AreKept}
use Rattle.omf_frame.specs.declared.fault.Reason.{Reason}
use Rattle.omf_frame.specs.declared.fault.Reason.TheVariants as reason
use Rattle.omf_frame.specs.Fault.{Fault, IsLeast, is_before, least_or, Rule, broken, reason_number}

-- what every element of a list satisfies, the first and the others
pub all_cons : {A : Type 0} (P : A → Type 0) (x : A) (xs : List A) → P x → All P xs → All P (x ∷ xs)
all_cons P x xs p ps zero d h = p
all_cons P x xs p ps (suc k) d h = let low : k < length xs = omega arith in ps k d low

pub untrue : IsTrue false → ⊥
untrue e = cc

step_kept : (b : Bool) (f : Fault) (fs : List Fault) → IsTrue b → fs ≡ [] → cond b fs (f ∷ fs) ≡ []
step_kept true f fs t e = e
step_kept false f fs t e = absurd (untrue t)

-- The rules that are kept break none.
pub kept_none : (rules : List Rule) → AreKept rules → broken rules ≡ []
kept_none [] h = refl
kept_none (r ∷ rules) h =
    let first : IsTrue r.holds = h 0 r (omega arith) in
    let others : AreKept rules = λ k d low. let more : suc k < length (r ∷ rules) = omega arith in h (suc k) d more in
    step_kept r.holds (record { within = r.within; reason = r.reason }) (broken rules) first (kept_none rules others)

step_none : (b : Bool) (f : Fault) (fs : List Fault) → cond b fs (f ∷ fs) ≡ [] → IsTrue b × (fs ≡ [])
step_none true f fs e = (refl, e)
step_none false f fs e = absurd (some_none f fs e)
  where
    some_none : (f : Fault) (fs : List Fault) → f ∷ fs ≡ [] → ⊥
    some_none f fs e = cc

-- Rules of which none is broken are kept.
pub none_kept : (rules : List Rule) → broken rules ≡ [] → AreKept rules
none_kept [] e = λ k d h. absurd (nowhere k h)
  where
    nowhere : (k : ℕ) → k < 0 → ⊥
    nowhere k h = omega arith
none_kept (r ∷ rules) e =
    let h = step_none r.holds (record { within = r.within; reason = r.reason }) (broken rules) e in
    all_cons (λ x. IsTrue x.holds) r rules h.0 (none_kept rules h.1)

-- The order of faults, as numbers: `a` and `b` are places, `m` and `n` numbers of reasons.
test : ℕ → ℕ → ℕ → ℕ → Bool
test a b m n = nat_lt a b || (a == b) && nat_le m n

test_from : (a b m n : ℕ) → m < 64 → n < 64 → 64 * a + m ≤ 64 * b + n → test a b m n ≡ true
unfolding test
test_from a b m n hm hn h = elim (leb_tells (suc a) b) [
  | inl t ↦ ap (λ x. x || ((a == b) && nat_le m n)) t.0
  | inr t ↦ let same : a ≡ b = omega arith in let le : m ≤ n = omega arith in
      ap (λ x. x || ((a == b) && nat_le m n)) t.0 ∙ ap (λ x. x && nat_le m n) (eq-eqb a b same) ∙ le-leb m n le
]

and_true : (x y : Bool) → x && y ≡ true → (x ≡ true) × (y ≡ true)
and_true true y h = (refl, h)
and_true false y h = absurd (untrue h)

test_gives : (a b m n : ℕ) → m < 64 → test a b m n ≡ true → 64 * a + m ≤ 64 * b + n
unfolding test
test_gives a b m n hm h = elim (leb_tells (suc a) b) [
  | inl t ↦ omega (arith, t.1)
  | inr t ↦ let p = and_true (a == b) (nat_le m n) (ap (λ x. x || ((a == b) && nat_le m n)) (sym t.0) ∙ h) in
      let same : a ≡ b = eqb-true a b p.0 in let le : m ≤ n = leb-true m n p.1 in omega arith
]

reason_small : (r : Reason) → reason_number r < 64
reason_small reason.NoEnd = lit< tt
reason_small _ = lit< tt

-- A fault's rank: by place, and at one place by the reason's number.
pub key : Fault → ℕ
key f = 64 * f.within + reason_number f.reason

pub key_before : (f g : Fault) → key f ≤ key g → IsTrue (is_before f g)
unfolding key test
key_before f g h = test_from f.within g.within (reason_number f.reason) (reason_number g.reason) (reason_small f.reason) (reason_small g.reason) h

pub before_key : (f g : Fault) → IsTrue (is_before f g) → key f ≤ key g
unfolding key test
before_key f g h = test_gives f.within g.within (reason_number f.reason) (reason_number g.reason) (reason_small f.reason) h

-- the lesser of two
chosen : (b : Bool) (f g : Fault) → is_before f g ≡ b → (key (cond b f g) ≤ key f) × (key (cond b f g) ≤ key g)
chosen true f g h = (omega arith, before_key f g h)
chosen false f g h = let le : key g ≤ key f = not_before f g h in (le, omega arith)
  where
    not_before : (f g : Fault) → is_before f g ≡ false → key g ≤ key f
    not_before f g h = elim (leb_tells (key f) (key g)) [ inl t ↦ absurd (untrue (sym h ∙ key_before f g t.1)) | inr t ↦ omega (arith, t.1) ]

least_below : (f : Fault) (fs : List Fault) → All (λ g. key (least_or f fs) ≤ key g) (f ∷ fs)
least_below f [] = all_cons (λ g. key f ≤ key g) f [] (omega arith) (λ k d h. absurd (nowhere k h))
  where
    nowhere : (k : ℕ) → k < 0 → ⊥
    nowhere k h = omega arith
least_below f (g ∷ gs) =
    let l : Fault = least_or g gs in
    let both = chosen (is_before f l) f l refl in
    let others : All (λ x. key (least_or f (g ∷ gs)) ≤ key x) (g ∷ gs) = λ k d h. let le = least_below g gs k d h in omega (arith, both.1, le) in
    all_cons (λ x. key (least_or f (g ∷ gs)) ≤ key x) f (g ∷ gs) both.0 others

pub contains_more : {A : Type 0} (y : A) (xs : List A) (x : A) → Contains xs x → Contains (y ∷ xs) x
contains_more y xs x (k, h, e) = let more : suc k < length (y ∷ xs) = omega arith in (suc k, more, e)

least_in : (f : Fault) (fs : List Fault) → Contains (f ∷ fs) (least_or f fs)
least_in f [] = (0, omega arith, refl)
least_in f (g ∷ gs) = go (is_before f (least_or g gs)) (least_in g gs)
  where
    go : (b : Bool) → Contains (g ∷ gs) (least_or g gs) → Contains (f ∷ g ∷ gs) (cond b f (least_or g gs))
    go true c = let some : 0 < length (f ∷ g ∷ gs) = omega arith in (0, some, refl)
    go false c = contains_more f (g ∷ gs) (least_or g gs) c

-- What is computed is the least.
pub least_is_least : (f : Fault) (fs : List Fault) → IsLeast (f ∷ fs) (least_or f fs)
least_is_least f fs = (least_in f fs, λ k d h. key_before (least_or f fs) (get_or (f ∷ fs) k d) (least_below f fs k d h))

-- A reason is known by its number.
abbrev reasons : List Reason
reasons = reason.NoEnd ∷ reason.Cut ∷ reason.UnknownType ∷ reason.UnsupportedType ∷ reason.EmptyRecord ∷ reason.Checksum ∷ reason.NoHeader ∷ reason.Short ∷ reason.Long ∷ reason.Alignment ∷ reason.BigLength ∷ reason.GroupComponent ∷ reason.CommunalType ∷ reason.CommunalLength ∷ reason.FrameMethod ∷ reason.TargetMethod ∷ reason.LocationType ∷ reason.SelfRelative ∷ reason.TooDeep ∷ reason.DataTooLong ∷ reason.UndefinedName ∷ reason.UndefinedSegment ∷ reason.UndefinedGroup ∷ reason.UndefinedExternal ∷ reason.UndefinedThread ∷ reason.OutsideSegment ∷ reason.OutsideRecord ∷ reason.NoDataRecord ∷ reason.FixupOnIterated ∷ reason.TooMany ∷ reason.OtherDialect ∷ reason.VendorComment ∷ reason.StartFrame ∷ []

abbrev by_number : ℕ → Reason
by_number n = get_or reasons (n - 1) reason.NoEnd

by_number-reason_number : (r : Reason) → by_number (reason_number r) ≡ r
by_number-reason_number reason.NoEnd = refl
by_number-reason_number _ = refl

same_key : (a b m n : ℕ) → m < 64 → n < 64 → 64 * a + m ≡ 64 * b + n → (a ≡ b) × (m ≡ n)
same_key a b m n hm hn h = (omega arith, omega arith)

key_same : (f g : Fault) → key f ≡ key g → f ≡ g
unfolding key
key_same f g h =
    let both = same_key f.within g.within (reason_number f.reason) (reason_number g.reason) (reason_small f.reason) (reason_small g.reason) h in
    let why : f.reason ≡ g.reason = sym (by_number-reason_number f.reason) ∙ ap by_number both.1 ∙ by_number-reason_number g.reason in
    ap (λ n. record { within = n; reason = f.reason }) both.0 ∙ ap (λ r. record { within = g.within; reason = r }) why

least_le : (fs : List Fault) (f g : Fault) → IsLeast fs f → IsLeast fs g → key g ≤ key f
least_le fs f g (c, a) (d, b) =
    let le : key g ≤ key (get_or fs c.0 f) = before_key g (get_or fs c.0 f) (b c.0 f c.1) in
    subst (λ x. key g ≤ key x) c.2 le

-- There is one least fault at most.
pub least_unique : (fs : List Fault) (f g : Fault) → IsLeast fs f → IsLeast fs g → f ≡ g
least_unique fs f g hf hg =
    let le : key g ≤ key f = least_le fs f g hf hg in
    let ge : key f ≤ key g = least_le fs g f hg hf in
    key_same f g (omega arith)
