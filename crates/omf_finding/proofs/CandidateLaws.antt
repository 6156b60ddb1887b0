-- The candidates of a module: exactly the segments that may be in the program.
use Rattle.std.proofs.Common.{◌≡◌, ◌⊎◌, inl, inr, ℕ, zero, suc, ◌+◌, ◌<◌, ◌≤◌, Bool, true, false, List, [], ◌∷◌, ◌++◌, take, length, Option, Some, None, refl, sym, ap, subst, ◌∙◌, arith}
use Rattle.std.specs.Prelude.{Contains, IfSome, IsSome, get_or, option_to_list, nat_le, not, ◌==◌, ◌&&◌}
use Rattle.std.specs.List.{AllZip}
use Rattle.std.specs.List.Sorted.{IsStrictlyIncreasing}
use Rattle.std.proofs.lemmas.Bool.{leb-true, and_parts, eq-eqb, eqb-true}
use Rattle.std.proofs.lemmas.List.{append-nil, take_all}
use Rattle.std.proofs.lemmas.List.Elements.{Contains-append_left, Contains-push, Contains-push_cases}
use Rattle.omf_image.specs.Limits.{profile_limits}
use Rattle.omf_image.proofs.RunLaws.{contains_first, contains_here, contains_more}
use Rattle.omf_check.specs.Module.{Module, recs_of}
use Rattle.omf_check.specs.Sound.{ModuleHolds}
use Rattle.omf_check.specs.Tables.{segments}
use Rattle.omf_records.specs.Values.{Rec}
use Rattle.omf_placement.specs.Placement.{Places}
use Rattle.omf_reloc.specs.Image.{image}
use Rattle.omf_finding.specs.Agrees.{Agrees, HasFour}
use Rattle.omf_finding.specs.Finding.{AreCandidates, IsAt, IsCandidate, IsCut, IsInside, IsNowhere, IsReason, IsSought}
use Rattle.omf_finding.specs.Pattern.{pattern}
use Rattle.omf_finding.specs.Inner.Shaping.{AgreeAt, AreIntervals, AreShapes, HaveShapes, IsMarked, IsOffered, IsPatternOf, IsShape, bytes_of, is_at}
use Rattle.omf_finding.specs.Inner.Walking.{Marks, byte_in}
use Rattle.omf_finding.specs.declared.patterning.Interval.{Interval}
use Rattle.omf_finding.specs.declared.patterning.PatternByte.{PatternByte}
use Rattle.omf_finding.specs.declared.findings.Candidate.{Candidate}
use Rattle.omf_finding.specs.declared.program.Program.{Program}
use Rattle.omf_finding.specs.declared.shapes.Shape.{Shape}
use Rattle.omf_finding.proofs.AgreesLaws.{agrees-as, agrees-from, closed-some, get-some}
use Rattle.omf_finding.proofs.IsFoundLaws.{segment-defined}
use Rattle.omf_finding.proofs.PatternLaws.{have-pattern}

-- ---- a segment that is searched for is one of the module

nowhere : Places
nowhere = record { segments = []; groups = []; externals = [] }

pub sought-defined : (m : List Rec) → ModuleHolds profile_limits m → (segment : ℕ) → HasFour (pattern profile_limits m segment) → (1 ≤ segment) × (segment ≤ length (segments m))
sought-defined m holds segment h =
    let x = h.x + 0 in
    let some : IsSome (pattern profile_limits m segment x) = closed-some (pattern profile_limits m segment x) (h.each 0 (omega arith)) in
    let b = get-some (image profile_limits nowhere m segment x) ((have-pattern nowhere m holds).same_places segment x ∙ some) in
    let both = and_parts (nat_le 1 segment) (nat_le segment (length (segments m))) (segment-defined nowhere m holds segment x b.0 b.1) in
    (leb-true 1 segment both.0, leb-true segment (length (segments m)) both.1)

-- ---- one segment

some-told : (xs : List ℕ) (b : Bool) → ((length xs == 0) && not b) ≡ false → b ≡ false → 0 < length xs
some-told [] b e f = absurd (let g : not b ≡ true = ap not f in let w : not b ≡ false = e in let q : true ≡ false = sym g ∙ w in cc)
some-told (x ∷ xs) b e f = omega arith

not-true : (b : Bool) → not b ≡ true → b ≡ false
not-true true h = absurd cc
not-true false h = refl

module _ (program : Program) (m : Module) (s : Shape) (most : ℕ) (h : IsShape (pattern profile_limits (recs_of m.bytes) s.segment) program.bytes.items program.base most s) where
  abbrev At : ℕ → ℕ → Type 0
  At segment address = IsAt program m segment address

  abbrev Cut : ℕ → List ℕ → Type 0
  Cut segment addresses = IsCut (pattern profile_limits (recs_of m.bytes) segment) program.bytes.items program.base most addresses

  abbrev Because : Candidate → Type 0
  Because c = IsReason program m c.addresses.items c.more c.why

  pub candidate-searched : (c : Candidate) → c.segment ≡ s.segment → s.is_searched ≡ true → c.addresses.items ≡ s.places.items → c.more ≡ s.more → (c.more ≡ false → 0 < length c.addresses.items) → Because c → IsCandidate program most m c
  candidate-searched c e searched p q some why = record {
    rising = subst IsStrictlyIncreasing (sym p) h.places.rising;
    agree = λ a k. subst (λ (n : ℕ). At n a) (sym e) (h.places.agree a (subst (λ (ps : List ℕ). Contains ps a) p k));
    some = some;
    more = λ f. inr (subst (λ (n : ℕ). Cut n c.addresses.items) (sym e) (subst (Cut s.segment) (sym p) (h.cut searched (sym q ∙ f))));
    all = λ f fits a ag. subst (λ (ps : List ℕ). Contains ps a) (sym p) (h.places.all (sym q ∙ f) fits a (subst (λ (n : ℕ). At n a) e ag));
    why = why;
  }

  -- one that is not searched for has no four closed bytes in a row
  not-sought : s.is_searched ≡ false → IsSought m s.segment → ⊥
  not-sought few sought = let w : false ≡ true = sym few ∙ h.sought sought in cc

  pub candidate-referred : (c : Candidate) → c.segment ≡ s.segment → s.is_searched ≡ false → c.more ≡ s.more → AgreeAt (bytes_of m s.segment) program c.addresses.items → 0 < length c.addresses.items → Because c → IsCandidate program most m c
  candidate-referred c e few q k some why = record {
    rising = k.rising;
    agree = λ a d. subst (λ (n : ℕ). At n a) (sym e) (k.each a d);
    some = λ f. some;
    more = λ f. inl (λ sought. not-sought few (subst (IsSought m) e sought), some);
    all = λ f. absurd (let w : true ≡ false = sym (h.others few) ∙ sym q ∙ f in cc);
    why = why;
  }

  pub candidate-none : (addresses : List ℕ) → addresses ≡ [] → (s.is_searched ≡ true → addresses ≡ s.places.items) → (s.is_searched && s.more) ≡ false → IsInside program → (a : ℕ) → IsSought m s.segment → At s.segment a → ⊥
  candidate-none addresses empty same sure fits a sought ag =
      let searched = h.sought sought in
      let all : s.more ≡ false = ap (λ (b : Bool). b && s.more) (sym searched) ∙ sure in
      let none : s.places.items ≡ [] = sym (same searched) ∙ empty in
      let c = subst (λ (ps : List ℕ). Contains ps a) none (h.places.all all fits a ag) in
      omega (arith, c.1)

  abbrev Same : List ℕ → Type 0
  Same addresses = s.is_searched ≡ true → addresses ≡ s.places.items

  -- what is not shown has no address
  abbrev untold : List ℕ → Bool
  untold addresses = (length addresses == 0) && not (s.is_searched && s.more)

  pub offered-none : (addresses : List ℕ) → Same addresses → untold addresses ≡ true → IsOffered program most m s None
  offered-none addresses same e fits a sought ag =
      let both = and_parts (length addresses == 0) (not (s.is_searched && s.more)) e in
      candidate-none addresses (none-there addresses both.0) same (not-true (s.is_searched && s.more) both.1) fits a sought ag
    where
      none-there : (xs : List ℕ) → (length xs == 0) ≡ true → xs ≡ []
      none-there [] e = refl
      none-there (x ∷ xs) e = absurd (let long = eqb-true (length (x ∷ xs)) 0 e in omega (arith, long))

  pub offered-some : (c : Candidate) → c.segment ≡ s.segment → c.more ≡ s.more → Same c.addresses.items → (s.is_searched ≡ false → AgreeAt (bytes_of m s.segment) program c.addresses.items) → untold c.addresses.items ≡ false
      → Because c → IsOffered program most m s (Some c)
  offered-some c e q same referred told why = by s.is_searched refl
    where
      some : (s.is_searched && s.more) ≡ false → 0 < length c.addresses.items
      some sure = some-told c.addresses.items (s.is_searched && s.more) told sure

      by : (b : Bool) → s.is_searched ≡ b → IsCandidate program most m c × (c.segment ≡ s.segment)
      by true f = (candidate-searched c e f (same f) q (λ g. some (ap (λ (b : Bool). b && s.more) f ∙ sym q ∙ g)) why, e)
      by false f = (candidate-referred c e f q (referred f) (some (ap (λ (b : Bool). b && s.more) f)) why, e)

-- the one address agrees
pub one-agrees : (byte : ℕ → Option PatternByte) (program : Program) (is : List Interval) → AreIntervals byte is → (address : ℕ) → is_at program.bytes.items program.base is address ≡ true → (before after : List ℕ) → before ≡ [] → after ≡ before ++ address ∷ []
    → AgreeAt byte program after
one-agrees byte program is are address h before after none e = subst (AgreeAt byte program) (sym (e ∙ ap (λ (xs : List ℕ). xs ++ address ∷ []) none)) (record {
  rising = λ k low. absurd (omega (arith, low));
  each = λ a c. elim (Contains-push_cases [] address a c) [
    | inl d ↦ absurd (omega (arith, d.1))
    | inr q ↦ subst (λ (n : ℕ). Agrees byte program.bytes.items program.base n) q (agrees-from byte program.bytes.items program.base is are address h)
  ];
})

pub none-agree : (byte : ℕ → Option PatternByte) (program : Program) (addresses : List ℕ) → addresses ≡ [] → AgreeAt byte program addresses
none-agree byte program addresses none = subst (AgreeAt byte program) (sym none) (record { rising = λ k low. absurd (omega (arith, low)); each = λ a k. absurd (omega (arith, k.1)) })

-- those of a pattern are those of its module
pub agree-as : (m : Module) (p : Marks) → IsPatternOf m p → (program : Program) (segment : ℕ) (addresses : List ℕ) → AgreeAt (byte_in p segment) program addresses → AgreeAt (bytes_of m segment) program addresses
agree-as m p is program segment addresses h = record { rising = h.rising; each = λ a k. agrees-as (byte_in p segment) (bytes_of m segment) (is.bytes segment) program.bytes.items program.base a (h.each a k) }

-- ---- all segments

-- The candidates of the first n shapes.
pub record AreFor (program : Program) (most : ℕ) (m : Module) (ss : List Shape) (cs : List Candidate) : Type 0 where
  pub each : (c : Candidate) → Contains cs c → IsCandidate program most m c
  pub every : IsInside program → (s : Shape) → Contains ss s → (address : ℕ) → IsSought m s.segment → IsAt program m s.segment address → (c : Candidate) × Contains cs c × (c.segment ≡ s.segment)

pub take-cases : {A : Type 0} (xs : List A) (n : ℕ) (x y : A) → x ≡ get_or xs n x → n < length xs → Contains (take (n + 1) xs) y → Contains (take n xs) y ⊎ (x ≡ y)
take-cases [] n x y e low c = absurd (omega (arith, low))
take-cases (a ∷ xs) zero x y e low c = elim (contains_first y a (take 0 xs) c) [ inl q ↦ inr (e ∙ sym q) | inr d ↦ absurd (omega (arith, d.1)) ]
take-cases (a ∷ xs) (suc n) x y e low c =
    let same : suc n + 1 ≡ suc (n + 1) = omega arith in
    let d : Contains (a ∷ take (n + 1) xs) y = subst (λ (k : ℕ). Contains (take k (a ∷ xs)) y) same c in
    elim (contains_first y a (take (n + 1) xs) d) [
      | inl q ↦ inl (subst (Contains (a ∷ take n xs)) (sym q) (contains_here a (take n xs)))
      | inr f ↦ elim (take-cases xs n x y e (omega (arith, low)) f) [ inl g ↦ inl (contains_more y a (take n xs) g) | inr g ↦ inr g ]
    ]

pub pattern-marked : (m : Module) (p : Option Marks) → IfSome p (IsPatternOf m) → IfSome p IsMarked
pattern-marked m None h = h
pattern-marked m (Some p) h = h.marked

module _ (program : Program) (most : ℕ) (m : Module) where
  pub for-first : (ss : List Shape) → AreFor program most m (take 0 ss) []
  for-first ss = record { each = λ c k. absurd (omega (arith, k.1)); every = λ fits s k. absurd (omega (arith, k.1)) }

  module _ (ss : List Shape) (n : ℕ) (s : Shape) (is : s ≡ get_or ss n s) (low : n < length ss) where
    pub for-none : (cs : List Candidate) → (IsInside program → (a : ℕ) → IsSought m s.segment → IsAt program m s.segment a → ⊥) → AreFor program most m (take n ss) cs → AreFor program most m (take (n + 1) ss) cs
    for-none cs none h = record {
      each = h.each;
      every = λ fits t k a sought ag. elim (take-cases ss n s t is low k) [
        | inl d ↦ h.every fits t d a sought ag
        | inr q ↦ absurd (none fits a (subst (λ (u : Shape). IsSought m u.segment) (sym q) sought) (subst (λ (u : Shape). IsAt program m u.segment a) (sym q) ag))
      ];
    }

    pub for-some : (cs new : List Candidate) (c : Candidate) → IsCandidate program most m c → c.segment ≡ s.segment → new ≡ cs ++ c ∷ [] → AreFor program most m (take n ss) cs → AreFor program most m (take (n + 1) ss) new
    for-some cs new c one e q h = subst (AreFor program most m (take (n + 1) ss)) (sym q) (record {
      each = λ d k. elim (Contains-push_cases cs c d k) [ inl l ↦ h.each d l | inr f ↦ subst (IsCandidate program most m) f one ];
      every = λ fits t k a sought ag. elim (take-cases ss n s t is low k) [
        | inl d ↦ let got = h.every fits t d a sought ag in (got.0, Contains-append_left cs (c ∷ []) got.0 got.1, got.2)
        | inr f ↦ (c, Contains-push cs c, e ∙ ap (λ (u : Shape). u.segment) f)
      ];
    })

    pub for-next : (cs new : List Candidate) (o : Option Candidate) → IsOffered program most m s o → new ≡ cs ++ option_to_list o → AreFor program most m (take n ss) cs → AreFor program most m (take (n + 1) ss) new
    for-next cs new None none e h = subst (AreFor program most m (take (n + 1) ss)) (sym (e ∙ append-nil cs)) (for-none cs none h)
    for-next cs new (Some c) one e h = for-some cs new c one.0 one.1 e h

  pub for-all : ModuleHolds profile_limits (recs_of m.bytes) → (ss : List Shape) (n : ℕ) → length ss ≤ n → AreShapes (pattern profile_limits (recs_of m.bytes)) program.bytes.items program.base most (length (segments (recs_of m.bytes))) ss
      → (cs : List Candidate) → AreFor program most m (take n ss) cs → AreCandidates program most m cs
  for-all holds ss n long shapes cs h = record {
    each = h.each;
    every = λ fits segment a sought ag.
        let all : AreFor program most m ss cs = subst (λ (ts : List Shape). AreFor program most m ts cs) (take_all n ss long) h in
        let inside = sought-defined (recs_of m.bytes) holds segment sought in
        let s = shapes.every segment inside.0 inside.1 in
        let got = all.every fits s.0 s.1 a (subst (IsSought m) (sym s.2) sought) (subst (λ (k : ℕ). IsAt program m k a) (sym s.2) ag) in
        (got.0, got.1, got.2 ∙ s.2);
  }

  -- some are there, or none
  pub some-there : (cs : List Candidate) (n : ℕ) → n ≡ length cs → (n == 0) ≡ false → 0 < length cs
  some-there [] n long e = absurd (let t = eq-eqb n 0 long in let w : true ≡ false = sym t ∙ e in cc)
  some-there (c ∷ cs) n long e = omega arith

  pub none-there : (cs : List Candidate) (n : ℕ) → n ≡ length cs → (n == 0) ≡ true → AreCandidates program most m cs → IsNowhere program m
  none-there cs n long empty h fits segment a sought ag =
      let got = h.every fits segment a sought ag in
      omega (arith, got.1.1, long, eqb-true n 0 empty)

-- ---- modules beside their shapes

pub zip-long : {A B : Type 0} (R : A → B → Type 0) (xs : List A) (ys : List B) → AllZip R xs ys → length xs ≡ length ys
zip-long R [] [] h = refl
zip-long R [] (y ∷ ys) h = absurd h
zip-long R (x ∷ xs) [] h = absurd h
zip-long R (x ∷ xs) (y ∷ ys) h = ap suc (zip-long R xs ys h.1)

pub zip-at : {A B : Type 0} (R : A → B → Type 0) (xs : List A) (ys : List B) (i : ℕ) (x : A) (y : B) → AllZip R xs ys → i < length xs → x ≡ get_or xs i x → y ≡ get_or ys i y → R x y
zip-at R [] ys i x y h low e f = absurd (omega (arith, low))
zip-at R (a ∷ xs) [] i x y h low e f = absurd h
zip-at R (a ∷ xs) (b ∷ ys) zero x y h low e f = subst (λ z. R z y) (sym e) (subst (R a) (sym f) h.0)
zip-at R (a ∷ xs) (b ∷ ys) (suc i) x y h low e f = zip-at R xs ys i x y h.1 (omega (arith, low)) e f

-- A segment that is searched for and has no place agrees nowhere.
pub nowhere-at : (program : Program) (most : ℕ) (m : Module) (ss : List Shape) (s : Shape) → HaveShapes program most m ss → Contains ss s → (s.is_searched && ((length s.places.items == 0) && not s.more)) ≡ true
    → IsInside program → (address : ℕ) → IsAt program m s.segment address → ⊥
nowhere-at program most m ss s h there e fits a ag =
    let both = and_parts s.is_searched ((length s.places.items == 0) && not s.more) e in
    let rest = and_parts (length s.places.items == 0) (not s.more) both.1 in
    let c = (h.each s there).places.all (not-true s.more rest.1) fits a ag in
    let none = eqb-true (length s.places.items) 0 rest.0 in
    omega (arith, c.1, none)
