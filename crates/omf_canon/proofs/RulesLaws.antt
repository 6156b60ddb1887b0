-- Whether the rules of a record hold depends on the tables before it, and not on places.
use Rattle.std.proofs.Common.{◌≡◌, ℕ, ◌+◌, ◌≤◌, List, [], ◌∷◌, ◌++◌, length, refl, sym, ◌∙◌, ap, ap₂, subst, Bool, true, arith}
use Rattle.std.specs.Prelude.{map, option_map, unwrap_or, nat_le, nat_lt, IsTrue}
use Rattle.std.specs.List.{AllByRecursion as Each, enumerate_from}
use Rattle.std.proofs.lemmas.Bool.{lt-ltb, ltb-true}
use Rattle.std.proofs.lemmas.List.{length-map}
use Rattle.std.proofs.lemmas.List.Elements.{All-nil, All-cons, All-head, All-tail}
use Rattle.omf_frame.specs.Inner.Names.{AreKept}
use Rattle.omf_frame.specs.Fault.{Rule, rule}
use Rattle.omf_frame.specs.declared.fault.Reason.TheVariants as reason
use Rattle.omf_image.specs.Blocks.{blocks_size}
use Rattle.omf_image.specs.Inner.Expanding.{blocks_of}
use Rattle.omf_image.specs.declared.limits.Limits.{Limits}
use Rattle.omf_records.specs.Values.{At, unplaced, nowhere, Rec, Contents, Header, Comment, Names, Segment, Group, Externs, Publics, Communals, Plain, Iterated, Fixups, ModEnd, Carried, DataItem, contents_alone, width}
use Rattle.omf_check.specs.Rules.{room, table_limit, places, item_places, names_entry, names_entry_or_none, contents_rules}
use Rattle.omf_check.specs.Tables.{names, segments, groups, externals, last_data, is_defined, entry, items_in}
use Rattle.omf_check.specs.declared.profile.Profile.{Profile}
use Rattle.omf_check.specs.declared.segment.SegInfo.{SegInfo}
use Rattle.omf_canon.proofs.AloneLaws.{IsOther, other-alone, alone-other}

abbrev pub holds : List Rule → List Bool
holds rules = map (λ r. r.holds) rules

abbrev pub AreTrue : List Bool → Type 0
AreTrue bs = Each (λ b. b ≡ true) bs

pub true-kept : (rules : List Rule) → AreTrue (holds rules) → AreKept rules
true-kept [] h = All-nil (λ (r : Rule). IsTrue r.holds)
true-kept (r ∷ rules) h = All-cons (λ (r : Rule). IsTrue r.holds) r rules h.0 (true-kept rules h.1)

pub kept-true : (rules : List Rule) → AreKept rules → AreTrue (holds rules)
kept-true [] h = tt
kept-true (r ∷ rules) h = (All-head (λ (r : Rule). IsTrue r.holds) r rules h, kept-true rules (All-tail (λ (r : Rule). IsTrue r.holds) r rules h))

pub kept-front : (rules more : List Rule) → AreTrue (holds (rules ++ more)) → AreTrue (holds rules)
kept-front [] more h = tt
kept-front (r ∷ rules) more h = (h.0, kept-front rules more h.1)

pub kept-back : (rules more : List Rule) → AreTrue (holds (rules ++ more)) → AreTrue (holds more)
kept-back [] more h = h
kept-back (r ∷ rules) more h = kept-back rules more h.1

pub kept-both : (rules more : List Rule) → AreTrue (holds rules) → AreTrue (holds more) → AreTrue (holds (rules ++ more))
kept-both [] more h k = k
kept-both (r ∷ rules) more h k = (h.0, kept-both rules more h.1 k)

-- ---- room

abbrev room_from : ℕ → ℕ → ℕ → List ℕ → List Rule
room_from limit taken k ps = map (λ p. rule (nat_lt (taken + p.0) limit) p.1 reason.TooMany) (enumerate_from k ps)

room-true : (limit taken k : ℕ) (ps : List ℕ) → taken + k + length ps ≤ limit → AreTrue (holds (room_from limit taken k ps))
room-true limit taken k [] h = tt
room-true limit taken k (p ∷ ps) h = (lt-ltb (taken + k) limit (omega (arith, h)), room-true limit taken (k + 1) ps (omega (arith, h)))

pub has-room : (limit taken : ℕ) (ps : List ℕ) → taken + length ps ≤ limit → AreTrue (holds (room limit taken ps))
has-room limit taken ps h = room-true limit taken 0 ps (omega (arith, h))

room-bound : (limit taken k : ℕ) (p : ℕ) (ps : List ℕ) → AreTrue (holds (room_from limit taken k (p ∷ ps))) → taken + k + length (p ∷ ps) ≤ limit
room-bound limit taken k p [] h = let l = ltb-true (taken + k) limit h.0 in omega (arith, l)
room-bound limit taken k p (q ∷ ps) h = let l = room-bound limit taken (k + 1) q ps h.1 in omega (arith, l)

pub bounded : (limit taken : ℕ) (p : ℕ) (ps : List ℕ) → AreTrue (holds (room limit taken (p ∷ ps))) → taken + length (p ∷ ps) ≤ limit
bounded limit taken p ps h = let l = room-bound limit taken 0 p ps h in omega (arith, l)

pub items-bounded : (limit taken : ℕ) (c : Contents) → AreTrue (holds (room limit taken (item_places c))) → taken + items_in c ≤ limit
items-bounded limit taken (Fixups []) h = bounded limit taken 0 [] h
items-bounded limit taken (Fixups (s ∷ subs)) h =
    let l = bounded limit taken s.within (places subs) h in
    let n = length-map {B = ℕ} subs (λ s. s.within) in
    omega (arith, l, n)
items-bounded limit taken _ h = bounded limit taken 0 [] h

pub items-room : (limit taken : ℕ) (c : Contents) → taken + items_in c ≤ limit → AreTrue (holds (room limit taken (item_places c)))
items-room limit taken (Fixups []) h = has-room limit taken (0 ∷ []) h
items-room limit taken (Fixups (s ∷ subs)) h =
    let n = length-map {B = ℕ} subs (λ s. s.within) in
    has-room limit taken (s.within ∷ places subs) (omega (arith, h, n))
items-room limit taken _ h = has-room limit taken (0 ∷ []) h

-- ---- tables

-- What the rules ask of the records before is the same.
pub record SameTables (b d : List Rec) : Type 0 where
  pub names : length (names b) ≡ length (names d)
  pub segments : segments b ≡ segments d
  pub groups : length (groups b) ≡ length (groups d)
  pub externals : length (externals b) ≡ length (externals d)
  pub last : option_map contents_alone (last_data b) ≡ option_map contents_alone (last_data d)

abbrev data_rules_of : List SegInfo → DataItem → ℕ → List Rule
data_rules_of segs d size = names_entry (length segs) reason.UndefinedSegment d.segment
    ∷ rule (nat_le (d.offset.item + size) (unwrap_or (option_map (λ s. s.length) (entry segs d.segment.item)) 0)) d.offset.within reason.OutsideSegment ∷ []

module _ (profile : Profile) (limits : Limits) where
  by_tables : (b d : List Rec) → SameTables b d → (kind : ℕ) (c : Contents) → IsOther c → holds (contents_rules profile limits b kind c) ≡ holds (contents_rules profile limits d kind c)
  by_tables b d t kind (Fixups subs) o = absurd o
  by_tables b d t kind (ModEnd byte start) o = absurd o
  by_tables b d t kind (Header x) o = refl
  by_tables b d t kind (Comment x y z) o = refl
  by_tables b d t kind (Names xs) o = ap (λ n. holds (room table_limit n (places xs))) t.names
  by_tables b d t kind (Segment s) o = ap₂ (λ n k. holds (room table_limit n (3 ∷ []) ++ names_entry_or_none k reason.UndefinedName s.name ∷ names_entry_or_none k reason.UndefinedName s.class ∷ [])) (ap length t.segments) t.names
  by_tables b d t kind (Group g) o =
      ap₂ (λ n k. holds (room table_limit n (3 ∷ []) ++ names_entry_or_none k reason.UndefinedName g.name ∷ map (λ m. names_entry (length (segments b)) reason.UndefinedSegment m.item) g.members)) t.groups t.names
      ∙ ap (λ z. holds (room table_limit (length (groups d)) (3 ∷ []) ++ names_entry_or_none (length (names d)) reason.UndefinedName g.name ∷ map (λ m. names_entry (length z) reason.UndefinedSegment m.item) g.members)) t.segments
  by_tables b d t kind (Externs xs) o = ap (λ n. holds (room table_limit n (places xs))) t.externals
  by_tables b d t kind (Publics p) o = ap₂ (λ n z. holds (names_entry_or_none n reason.UndefinedGroup p.group ∷ names_entry_or_none (length z) reason.UndefinedSegment p.segment ∷ [])) t.groups t.segments
  by_tables b d t kind (Communals xs) o = ap (λ n. holds (room table_limit n (places xs))) t.externals
  by_tables b d t kind (Plain x) o = ap (λ z. holds (data_rules_of z x (length x.bytes))) t.segments
  by_tables b d t kind (Iterated x) o = ap (λ z. holds (data_rules_of z x (blocks_size (blocks_of (width kind) limits x.bytes)))) t.segments
  by_tables b d t kind (Carried x) o = refl

  room_alone : {A : Type 0} (limit taken k : ℕ) (xs : List (At A)) → holds (room_from limit taken k (places xs)) ≡ holds (room_from limit taken k (places (map unplaced xs)))
  room_alone limit taken k [] = refl
  room_alone limit taken k (x ∷ xs) = ap (λ t. nat_lt (taken + k) limit ∷ t) (room_alone limit taken (k + 1) xs)

  members_alone : (n : ℕ) (xs : List (At (At ℕ))) → holds (map (λ m. names_entry n reason.UndefinedSegment m.item) xs) ≡ holds (map (λ m. names_entry n reason.UndefinedSegment m.item) (map (λ m. nowhere (unplaced m.item)) xs))
  members_alone n [] = refl
  members_alone n (x ∷ xs) = ap (λ t. is_defined n x.item.item ∷ t) (members_alone n xs)

  by_places : (b : List Rec) (kind : ℕ) (c : Contents) → IsOther c → holds (contents_rules profile limits b kind c) ≡ holds (contents_rules profile limits b kind (contents_alone c))
  by_places b kind (Fixups subs) o = absurd o
  by_places b kind (ModEnd byte start) o = absurd o
  by_places b kind (Header x) o = refl
  by_places b kind (Comment x y z) o = refl
  by_places b kind (Names xs) o = room_alone table_limit (length (names b)) 0 xs
  by_places b kind (Segment s) o = refl
  by_places b kind (Group g) o = ap (λ t. holds (room table_limit (length (groups b)) (3 ∷ []) ++ names_entry_or_none (length (names b)) reason.UndefinedName g.name ∷ []) ++ t) (members_alone (length (segments b)) g.members)
  by_places b kind (Externs xs) o = room_alone table_limit (length (externals b)) 0 xs
  by_places b kind (Publics p) o = refl
  by_places b kind (Communals xs) o = room_alone table_limit (length (externals b)) 0 xs
  by_places b kind (Plain x) o = refl
  by_places b kind (Iterated x) o = refl
  by_places b kind (Carried x) o = refl

  -- The rules of contents that are equal but for their places hold alike.
  pub same-rules : (b d : List Rec) → SameTables b d → (kind : ℕ) (x y : Contents) → IsOther x → contents_alone x ≡ contents_alone y
      → holds (contents_rules profile limits b kind x) ≡ holds (contents_rules profile limits d kind y)
  same-rules b d t kind x y o e =
      by_tables b d t kind x o
      ∙ by_places d kind x o
      ∙ ap (λ c. holds (contents_rules profile limits d kind c)) e
      ∙ sym (by_places d kind y (alone-other y (subst IsOther e (other-alone x o))))
