-- The bytes of the module of communals, part after part.
use Rattle.std.proofs.Common.{◌≡◌, ℕ, List, [], ◌∷◌, ◌++◌, Bool, sym, ap, ◌∙◌, append_assoc}
use Rattle.std.specs.Prelude.{OnOk, Result, Ok, Err, codes, map}
use Rattle.std.proofs.lemmas.Grind.{flat_map-append}
use Rattle.omf_records.specs.Values.{Rec}
use Rattle.omf_layout.specs.declared.own.homes.Home.{Home}
use Rattle.omf_layout.specs.Own.Communals.{communals_records, far_publics, far_segment, fars, first_far, front_records, group_index, home_group, is_in_group, near_class, near_group, near_name, near_publics, near_segment, nears}
use Rattle.omf_layout.specs.Own.Shared.{Shared}
use Rattle.omf_layout.specs.Own.Written.{end_record, framed, header, name_record, written}

-- The bytes of the names of the module's segments and its group.
abbrev names-by : List ℕ → List ℕ → List ℕ → List ℕ
names-by class name group = written (map name_record ([] ∷ class ∷ name ∷ codes "FAR_BSS" ∷ group ∷ []))

-- The header and these names.
pub front-put : {A E : Type 0} (r : Result A E) (home : Home) (class name group old mid new : List ℕ) → class ≡ near_class home → name ≡ near_name home → group ≡ home_group home
    → mid ≡ old ++ framed (header (codes "communals")) → OnOk r (new ≡ mid ++ written (map name_record ([] ∷ class ∷ name ∷ codes "FAR_BSS" ∷ group ∷ [])))
    → OnOk r (new ≡ old ++ written (front_records home))
front-put (Ok x) home class name group old mid new c n g m h =
    h ∙ ap (λ xs. xs ++ names-by class name group) m ∙ append_assoc old (framed (header (codes "communals"))) (names-by class name group)
    ∙ ap (λ xs. old ++ (framed (header (codes "communals")) ++ xs))
    (ap (λ x. names-by x name group) c ∙ ap (λ x. names-by (near_class home) x group) n ∙ ap (λ x. names-by (near_class home) (near_name home) x) g)
front-put (Err e) home class name group old mid new c n g m h = h

-- Records that are written after others.
both : (a b : List Rec) (x y z : List ℕ) → y ≡ x ++ written a → z ≡ y ++ written b → z ≡ x ++ written (a ++ b)
both a b x y z e f = f ∙ ap (λ xs. xs ++ written b) e ∙ append_assoc x (written a) (written b) ∙ ap (λ xs. x ++ xs) (sym (flat_map-append framed a b))

-- All parts of the module.
abbrev records-by : Bool → Home → List Shared → List Rec
records-by grouped home cs =
    front_records home ++ (near_segment cs ++ (map far_segment (fars cs) ++ (near_group grouped cs ++ (near_publics (group_index grouped) 0 (nears cs)
    ++ (far_publics (first_far cs) (fars cs) ++ end_record ∷ [])))))

module _ (home : Home) (cs : List Shared) (grouped : Bool) (none front near far group publics others all : List ℕ) where
  pub parts-put : none ≡ [] → grouped ≡ is_in_group home → front ≡ none ++ written (front_records home) → near ≡ front ++ written (near_segment cs)
      → far ≡ near ++ written (map far_segment (fars cs)) → group ≡ far ++ written (near_group grouped cs)
      → publics ≡ group ++ written (near_publics (group_index grouped) 0 (nears cs)) → others ≡ publics ++ written (far_publics (first_far cs) (fars cs))
      → all ≡ others ++ framed end_record → all ≡ written (communals_records home cs)
  parts-put n g e1 e2 e3 e4 e5 e6 e7 =
      let f = front_records home in
      let s = near_segment cs in
      let t = map far_segment (fars cs) in
      let h = near_group grouped cs in
      let p = near_publics (group_index grouped) 0 (nears cs) in
      let q = far_publics (first_far cs) (fars cs) in
      let z : List Rec = end_record ∷ [] in
      let i6 = both q z publics others all e6 e7 in
      let i5 = both p (q ++ z) group publics all e5 i6 in
      let i4 = both h (p ++ (q ++ z)) far group all e4 i5 in
      let i3 = both t (h ++ (p ++ (q ++ z))) near far all e3 i4 in
      let i2 = both s (t ++ (h ++ (p ++ (q ++ z)))) front near all e2 i3 in
      let i1 = both f (s ++ (t ++ (h ++ (p ++ (q ++ z))))) none front all e1 i2 in
      i1 ∙ ap (λ xs. xs ++ written (records-by grouped home cs)) n ∙ ap (λ b. written (records-by b home cs)) g
