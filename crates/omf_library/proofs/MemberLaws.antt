-- Members one after another.
use Rattle.std.proofs.Common.{◌≡◌, ℕ, zero, suc, ◌+◌, ◌-◌, ◌%◌, ◌<◌, ◌≤◌, Bool, true, false, List, [], ◌∷◌, ◌++◌, ◌≢◌, length, drop, get_or, refl, sym, ap, ap₂, subst, ◌∙◌, arith}
use Rattle.std.specs.Prelude.{IsTrue, slice_index, Ok}
use Rattle.std.proofs.lemmas.List.{get_or-drop, length-append, length-drop}
use Rattle.std.proofs.lemmas.Bool.{leb-true, leb-false}
use Rattle.std.proofs.Math.Dec.{leb}
use Rattle.omf_frame.specs.Framing.{is_header}
use Rattle.omf_frame.specs.declared.fault.Place.{Place}
use Rattle.omf_frame.specs.declared.fault.Reason.{Reason}
use Rattle.omf_image.specs.Limits.{profile_limits}
use Rattle.omf_check.specs.Checking.{Decides}
use Rattle.omf_check.specs.Module.{Module, records_in}
use Rattle.omf_check.specs.Refusal.{IsRefused}
use Rattle.omf_check.specs.declared.profile.Profile.{Profile}
use Rattle.omf_check.proofs.AcceptLaws.{accepted_once, never_both}
use Rattle.omf_library.specs.Laws.{LiesInside}
use Rattle.omf_library.specs.Library.{AreMembers, IsLibrary, IsLibraryFault, IsMember, IsMemberRead, IsModuleRead, library_end, next_page, page_size}
use Rattle.omf_library.specs.declared.member.Member.{Member}
use Rattle.omf_library.specs.declared.fault.LibraryFault.{LibraryFault}
use Rattle.omf_library.specs.declared.fault.LibraryFault.TheVariants as fault
use Rattle.omf_library.proofs.PageLaws.{page_filled, next_after, next_paged, self_mod}

-- a module begins as modules begin, and has a byte
headed : (bytes rest : List ℕ) → IsTrue (is_header (slice_index bytes 0)) → is_header (get_or (bytes ++ rest) 0 0) ≡ true
headed [] rest h = absurd cc
headed (b ∷ bs) rest h = h

filled : (bytes : List ℕ) → IsTrue (is_header (slice_index bytes 0)) → 0 < length bytes
filled [] h = absurd cc
filled (b ∷ bs) h = omega arith

-- there is no byte after the last
pub nothing_after : (bytes : List ℕ) (at : ℕ) → length bytes ≤ at → slice_index bytes at ≡ 0
nothing_after [] at h = refl
nothing_after (b ∷ bs) zero h = absurd (omega (arith, h))
nothing_after (b ∷ bs) (suc n) h = let low : length bs ≤ n = omega (arith, h) in nothing_after bs n low

module _ (profile : Profile) (bytes : List ℕ) where
  pub begins : (m : Member) → IsMember profile bytes m → is_header (slice_index bytes m.offset) ≡ true
  begins m h =
      let a = h.1 in
      let front : get_or (drop m.offset bytes) 0 0 ≡ get_or bytes (m.offset + 0) 0 = get_or-drop m.offset bytes 0 0 in
      let same : m.offset + 0 ≡ m.offset = omega arith in
      ap (λ n. is_header (get_or bytes n 0)) (sym same) ∙ ap is_header (sym front) ∙ ap (λ bs. is_header (get_or bs 0 0)) a.spelled ∙ headed a.bytes a.rest a.well_formed.framed.first

  pub has_bytes : (m : Member) → IsMember profile bytes m → 0 < m.length
  has_bytes m h = subst (λ n. 0 < n) h.2 (filled h.1.bytes h.1.well_formed.framed.first)

  -- the F1H is one of the bytes
  pub end_inside : (end : ℕ) → slice_index bytes end ≡ library_end → end < length bytes
  end_inside end e = by (leb (length bytes) end) refl
    where
      by : (b : Bool) → leb (length bytes) end ≡ b → end < length bytes
      by true h = let x : 241 ≡ 0 = sym e ∙ nothing_after bytes end (leb-true (length bytes) end h) in absurd (omega (arith, x))
      by false h = leb-false (length bytes) end h

  -- No member is at an offset.
  abbrev pub NoneAt : ℕ → Type 0
  NoneAt at = (m : Member) → m.offset ≡ at → IsMember profile bytes m → ⊥

  pub none_at_end : (at : ℕ) → slice_index bytes at ≡ library_end → NoneAt at
  none_at_end at e m o h =
      let x : true ≡ is_header 241 = sym (begins m h) ∙ ap (λ n. is_header (slice_index bytes n)) o ∙ ap is_header e in absurd cc

  pub none_after : (at : ℕ) → length bytes ≤ at → NoneAt at
  none_after at low m o h =
      let x : true ≡ is_header 0 = sym (begins m h) ∙ ap (λ n. is_header (slice_index bytes n)) o ∙ ap is_header (nothing_after bytes at low) in absurd cc

  pub none_refused : (at : ℕ) (why : Reason) (place : Place) → IsRefused profile profile_limits (drop at bytes) why place → NoneAt at
  none_refused at why place r m o h =
      never_both profile profile_limits (drop m.offset bytes) h.0 why place h.1 (subst (λ n. IsRefused profile profile_limits (drop n bytes) why place) (sym o) r)

  -- one member is at an offset at most
  same_member : (m n : Member) → m.offset ≡ n.offset → IsMember profile bytes m → IsMember profile bytes n → m ≡ n
  same_member m n o h i =
      let j : IsMember profile bytes (record { offset = m.offset; length = n.length }) = subst (λ x. IsMember profile bytes (record { offset = x; length = n.length })) (sym o) i in
      let same = (accepted_once profile profile_limits (drop m.offset bytes) h.0 j.0 h.1 j.1).1 in
      let long : m.length ≡ n.length = sym h.2 ∙ ap length same ∙ j.2 in
      ap₂ (λ x y. record { offset = x; length = y }) o long

  -- members up to where none is are one list
  pub both_stop : (page at : ℕ) (ms ns : List Member) (to end : ℕ) → AreMembers profile bytes page at ms to → AreMembers profile bytes page at ns end → NoneAt to → NoneAt end → (ms ≡ ns) × (to ≡ end)
  both_stop page at [] [] to end h i s t = (refl, sym h ∙ i)
  both_stop page at [] (n ∷ ns) to end h i s t = absurd (s n (i.0 ∙ h) i.1)
  both_stop page at (m ∷ ms) [] to end h i s t = absurd (t m (h.0 ∙ i) h.1)
  both_stop page at (m ∷ ms) (n ∷ ns) to end h i s t =
      let one : m ≡ n = same_member m n (h.0 ∙ sym i.0) h.1 i.1 in
      let left : AreMembers profile bytes page (next_page page (at + m.length)) ns end = subst (λ (x : Member). AreMembers profile bytes page (next_page page (at + x.length)) ns end) (sym one) i.2 in
      let more = both_stop page (next_page page (at + m.length)) ms ns to end h.2 left s t in
      (ap₂ (λ (x : Member) (xs : List Member). x ∷ xs) one more.0, more.1)

  -- the last members begin after those before them
  from_there : (page at : ℕ) (before rest : List Member) (to : ℕ) → 0 < page → at % page ≡ 0 → AreMembers profile bytes page at (before ++ rest) to
      → (there : ℕ) × AreMembers profile bytes page there rest to × (at ≤ there) × (there % page ≡ 0)
  from_there page at [] rest to low paged h = (at, h, omega arith, paged)
  from_there page at (m ∷ before) rest to low paged h =
      let next = next_page page (at + m.length) in
      let more = from_there page next before rest to low (next_paged page (at + m.length)) h.2 in
      let up : at + m.length ≤ next = next_after page (at + m.length) low in
      (more.0, more.1, omega (arith, up, more.2), more.3)

  reaches : (page at : ℕ) (ms : List Member) (to : ℕ) → 0 < page → AreMembers profile bytes page at ms to → at ≤ to
  reaches page at [] to low h = omega (arith, h)
  reaches page at (m ∷ ms) to low h =
      let up : at + m.length ≤ next_page page (at + m.length) = next_after page (at + m.length) low in
      let more : next_page page (at + m.length) ≤ to = reaches page (next_page page (at + m.length)) ms to low h.2 in
      omega (arith, up, more)

  pub unique : (ms ns : List Member) (end other : ℕ) → IsLibrary profile bytes ms end → IsLibrary profile bytes ns other → (ms ≡ ns) × (end ≡ other)
  unique ms ns end other h i = both_stop (page_size bytes) (page_size bytes) ms ns end other h.members_are i.members_are (none_at_end end h.ended) (none_at_end other i.ended)

  -- Members from one of them on.
  abbrev pub From : ℕ → List Member → ℕ → Type 0
  From end rest page = (there : ℕ) × AreMembers profile bytes page there rest end × (page ≤ there) × (there % page ≡ 0)

  pub from_one : (ms before rest : List Member) (end : ℕ) → IsLibrary profile bytes ms end → ms ≡ before ++ rest → From end rest (page_size bytes)
  from_one ms before rest end h e =
      let page = page_size bytes in
      from_there page page before rest end (page_filled page h.header.paged) (self_mod page) (subst (λ xs. AreMembers profile bytes page page xs end) e h.members_are)

  pub inside : (ms before after : List Member) (m : Member) (end : ℕ) → IsLibrary profile bytes ms end → ms ≡ before ++ m ∷ after → LiesInside profile bytes end m
  inside ms before after m end h e =
      let page = page_size bytes in
      let low = page_filled page h.header.paged in
      let f = from_one ms before (m ∷ after) end h e in
      let up : f.0 + m.length ≤ next_page page (f.0 + m.length) = next_after page (f.0 + m.length) low in
      let more : next_page page (f.0 + m.length) ≤ end = reaches page (next_page page (f.0 + m.length)) after end low f.1.2 in
      let o : m.offset ≡ f.0 = f.1.0 in
      record {
        member = f.1.1;
        after = omega (arith, f.2, o);
        paged = ap (λ n. n % page) o ∙ f.3;
        filled = has_bytes m f.1.1;
        before = omega (arith, up, more, o);
        inside = end_inside end h.ended;
      }

  pub disjoint : (ms before between after : List Member) (m n : Member) (end : ℕ) → IsLibrary profile bytes ms end → ms ≡ before ++ m ∷ (between ++ n ∷ after) → m.offset + m.length ≤ n.offset
  disjoint ms before between after m n end h e =
      let page = page_size bytes in
      let low = page_filled page h.header.paged in
      let f = from_one ms before (m ∷ (between ++ n ∷ after)) end h e in
      let up : f.0 + m.length ≤ next_page page (f.0 + m.length) = next_after page (f.0 + m.length) low in
      let g = from_there page (next_page page (f.0 + m.length)) between (n ∷ after) end low (next_paged page (f.0 + m.length)) f.1.2 in
      let o : m.offset ≡ f.0 = f.1.0 in
      let p : n.offset ≡ g.0 = g.1.0 in
      omega (arith, up, o, p, g.2)

  pub excluded : (ms : List Member) (end : ℕ) (f : LibraryFault) → f ≢ fault.Memory → IsLibraryFault profile bytes f → IsLibrary profile bytes ms end → ⊥
  excluded ms end fault.Memory k f h = k refl
  excluded ms end fault.NoHeader k f h = f h.header.begun
  excluded ms end fault.HeaderCut k f h = let low = f.1 in let high = h.header.whole in absurd (omega (arith, low, high))
  excluded ms end (fault.PageSize size) k f h = let x : true ≡ false = sym h.header.paged ∙ f.3 in absurd cc
  excluded ms end (fault.Refused member offset why at) k f h =
      let same = both_stop (page_size bytes) (page_size bytes) f.0.members ms offset end f.0.members_are h.members_are (none_refused offset why at f.3) (none_at_end end h.ended) in
      f.2 (ap (λ n. slice_index bytes n) same.1 ∙ h.ended)
  excluded ms end (fault.NoEnd member offset) k f h =
      let same = both_stop (page_size bytes) (page_size bytes) f.0.members ms offset end f.0.members_are h.members_are (none_after offset f.1) (none_at_end end h.ended) in
      let low : offset < length bytes = subst (λ n. n < length bytes) (sym same.1) (end_inside end h.ended) in
      absurd (omega (arith, low, f.1))

  -- the module that a check of the bytes from an offset on finds, and its member
  pub module_member : (at : ℕ) (m : Module) → Decides profile (drop at bytes) (Ok m) → IsMember profile bytes (record { offset = at; length = length m.bytes })
  module_member at m d = (records_in m.bytes, d.1.0, ap length d.1.1)

  pub module_read : (at count : ℕ) (rest : List ℕ) (m : Module) → rest ≡ drop at bytes → Decides profile rest (Ok m) → at ≤ length bytes → IsModuleRead profile bytes count at (Ok m)
  module_read at count rest m e h low =
      let d : Decides profile (drop at bytes) (Ok m) = subst (λ bs. Decides profile bs (Ok m)) e h in
      let a = d.1.0 in
      let is : IsMember profile bytes (record { offset = at; length = length m.bytes }) = module_member at m d in
      let long : length a.bytes ≡ length m.bytes = ap length d.1.1 in
      let whole : length (drop at bytes) ≡ length a.bytes + length a.rest = ap length a.spelled ∙ length-append a.bytes a.rest in
      let left : length (drop at bytes) ≡ length bytes - at = length-drop at bytes in
      (d, has_bytes (record { offset = at; length = length m.bytes }) is, omega (arith, long, whole, left, low))

  pub member_read : (at count : ℕ) (m : Module) (seen : List ℕ) → IsModuleRead profile bytes count at (Ok m) → seen ≡ m.bytes → IsMemberRead profile bytes count at (Ok (record { offset = at; length = length seen }))
  member_read at count m seen h e = subst (λ bs. IsMemberRead profile bytes count at (Ok (record { offset = at; length = length bs }))) (sym e) (refl, module_member at m h.0, h.1, h.2)

  -- one member more
  pub members_more : (page at : ℕ) (ms : List Member) (to : ℕ) (m : Member) → AreMembers profile bytes page at ms to → m.offset ≡ to → IsMember profile bytes m → AreMembers profile bytes page at (ms ++ m ∷ []) (next_page page (to + m.length))
  members_more page at [] to m h o i = (o ∙ sym h, i, ap (λ n. next_page page (n + m.length)) h)
  members_more page at (n ∷ ms) to m h o i = (h.0, h.1, members_more page (next_page page (at + n.length)) ms to m h.2 o i)

  pub members_grown : (page at : ℕ) (ms now : List Member) (to end : ℕ) (m : Member) → now ≡ ms ++ m ∷ [] → end ≡ next_page page (to + m.length) → AreMembers profile bytes page at ms to → m.offset ≡ to → IsMember profile bytes m
      → AreMembers profile bytes page at now end
  members_grown page at ms now to end m n t h o i =
      subst (λ k. AreMembers profile bytes page at now k) (sym t) (subst (λ xs. AreMembers profile bytes page at xs (next_page page (to + m.length))) (sym n) (members_more page at ms to m h o i))
