-- The members of a library, one after another.
use Rattle.std.proofs.Common.{◌≡◌, ◌≢◌, ℕ, ◌+◌, ◌<◌, ◌≤◌, List, [], ◌∷◌, ◌++◌, length, drop, refl, sym, ap, subst, ◌∙◌}
use Rattle.std.specs.Prelude.{slice_index, Ok, Err}
use Rattle.omf_image.specs.Limits.{profile_limits}
use Rattle.omf_check.specs.Refusal.{IsRefused}
use Rattle.omf_check.specs.declared.profile.Profile.{Profile}
use Rattle.omf_library.specs.Inner.Judging.{IsJudged}
use Rattle.omf_library.specs.Library.{HasHeader, library_end, next_page, page_size}
use Rattle.omf_library.specs.LibraryMembers.{AreMembersFrom, AreReadTo, IsLibraryOf, IsMemberAt, IsReadingFault}
use Rattle.omf_library.specs.Spans.{IsSpansEnd}
use Rattle.omf_library.specs.declared.fault.LibraryFault.{LibraryFault}
use Rattle.omf_library.specs.declared.fault.LibraryFault.TheVariants as fault
use Rattle.omf_library.specs.declared.judged.LibraryMember.{LibraryMember}
use Rattle.omf_library.specs.declared.spans.SpanFault.{SpanFault}

module _ (profile : Profile) (bytes : List ℕ) where
  -- one member more
  members_more : (page at : ℕ) (ms : List LibraryMember) (to : ℕ) (m : LibraryMember) (size : ℕ) → AreMembersFrom profile bytes page at ms to → IsMemberAt profile bytes to m size
      → AreMembersFrom profile bytes page at (ms ++ m ∷ []) (next_page page (to + size))
  members_more page at [] to m size h i = (size, subst (λ n. IsMemberAt profile bytes n m size) (sym h) i, ap (λ n. next_page page (n + size)) h)
  members_more page at (n ∷ ms) to m size h i = (h.0, h.1, members_more page (next_page page (at + h.0)) ms to m size h.2 i)

  pub none_read : (page : ℕ) → page ≡ page_size bytes → HasHeader bytes → AreReadTo profile bytes [] page
  none_read page e h = record { header = h; members_are = sym e }

  pub read_more : (page at next : ℕ) (ms now : List LibraryMember) (m : LibraryMember) (size : ℕ) → page ≡ page_size bytes → now ≡ ms ++ m ∷ [] → next ≡ next_page page (at + size) → AreReadTo profile bytes ms at
      → IsMemberAt profile bytes at m size → AreReadTo profile bytes now next
  read_more page at next ms now m size e g n r i =
      let there : next_page (page_size bytes) (at + size) ≡ next = sym (n ∙ ap (λ p. next_page p (at + size)) e) in
      record {
        header = r.header;
        members_are = subst (λ xs. AreMembersFrom profile bytes (page_size bytes) (page_size bytes) xs next) (sym g)
            (subst (λ t. AreMembersFrom profile bytes (page_size bytes) (page_size bytes) (ms ++ m ∷ []) t) there (members_more (page_size bytes) (page_size bytes) ms at m size r.members_are i));
      }

  -- no member is at the page
  pub reading_fails : (ms : List LibraryMember) (at : ℕ) (f : LibraryFault) → AreReadTo profile bytes ms at → at < length bytes → slice_index bytes at ≢ library_end → IsJudged profile bytes (length ms) at (Err f) → IsReadingFault profile bytes f
  reading_fails ms at fault.Memory a low k h = tt
  reading_fails ms at (fault.Refused member offset why place) a low k h =
      let o : at ≡ offset = sym h.1 in
      subst (λ n. (xs : List LibraryMember) × AreReadTo profile bytes xs n × (length xs ≡ member) × (n < length bytes) × (slice_index bytes n ≢ library_end) × IsRefused profile profile_limits (drop n bytes) why place
      × (f : SpanFault) × IsSpansEnd bytes member n (Err f)) o
      (ms, a, sym h.0, low, k, h.2, h.3, subst (λ n. IsSpansEnd bytes n at (Err h.3)) (sym h.0) h.4)
  reading_fails ms at fault.NoHeader a low k h = absurd h
  reading_fails ms at fault.HeaderCut a low k h = absurd h
  reading_fails ms at (fault.PageSize size) a low k h = absurd h
  reading_fails ms at (fault.NoEnd member offset) a low k h = absurd h
