-- How contents lie in the bytes that spell them: one look at the record's type for all laws that go by the kind of contents.
use Rattle.std.proofs.Common.{◌≡◌, ℕ, true, List, Option, Some, None, refl, sym, subst}
use Rattle.std.specs.Prelude.{⊤}
use Rattle.omf_frame.specs.Bytes.{is_one_of}
use Rattle.omf_frame.specs.Types.{fixupp, type_of}
use Rattle.omf_frame.specs.declared.kinds.RecordType.{RecordType}
use Rattle.omf_frame.specs.declared.kinds.RecordType.TheVariants.{Theadr, Lheadr, Coment, Lnames, Llnames, Segdef, Grpdef, Extdef, Lextdef, Pubdef, Lpubdef, Comdef, Lcomdef, Ledata, Lidata, Fixupp, Modend, Typdef, Linnum, Linsym, Alias, Vernum, Bakpat, Cextdef, Comdat, Nbkpat, Vendext, Library}
use Rattle.omf_frame.specs.Framing.{is_end}
use Rattle.omf_records.specs.Inner.Names.{communals, externs, fixups, names}
use Rattle.omf_records.specs.Values.{Contents, Names, Segment, Externs, Publics, Communals, Plain, Iterated, Fixups, ModEnd, is_wide}
use Rattle.omf_records.specs.Layout.{Layout, SpellsEach, called, name}
use Rattle.omf_records.specs.Entries.{external, communal, subrecord}
use Rattle.omf_records.specs.Records.{contents, header, comment, segment, group, publics, data_item, mod_end, carried, layout_of, layout_if}
use Rattle.omf_records.proofs.TypeBytes.{type_holds}

abbrev pub IsLaidOut : ℕ → ℕ → List ℕ → Contents → Type 0
IsLaidOut kind at bytes (Names items) = SpellsEach name at bytes items
IsLaidOut kind at bytes (Segment s) = (segment (is_wide kind)).Spells at bytes (Segment s)
IsLaidOut kind at bytes (Externs items) = SpellsEach external at bytes items
IsLaidOut kind at bytes (Publics p) = (publics (is_wide kind)).Spells at bytes (Publics p)
IsLaidOut kind at bytes (Communals items) = SpellsEach communal at bytes items
IsLaidOut kind at bytes (Plain d) = (data_item (is_wide kind)).Spells at bytes d
IsLaidOut kind at bytes (Iterated d) = (data_item (is_wide kind)).Spells at bytes d
IsLaidOut kind at bytes (Fixups subs) = (is_one_of fixupp kind ≡ true) × SpellsEach (subrecord (is_wide kind)) at bytes subs
IsLaidOut kind at bytes (ModEnd byte start) = (is_end kind ≡ true) × (mod_end (is_wide kind)).Spells at bytes (ModEnd byte start)
IsLaidOut kind at bytes _ = ⊤

module _ (kind : ℕ) where
  abbrev LaysOut : Layout Contents → Type 0
  LaysOut p = (at : ℕ) (bytes : List ℕ) (c : Contents) → p.Spells at bytes c → IsLaidOut kind at bytes c

  by : (at : ℕ) (bytes : List ℕ) (c d : Contents) → c ≡ d → IsLaidOut kind at bytes d → IsLaidOut kind at bytes c
  by at bytes c d e h = subst (IsLaidOut kind at bytes) (sym e) h

  of_header : LaysOut header
  of_header at bytes c (f, b, x, p, s, (none, e)) = by at bytes c _ e tt

  of_comment : LaysOut comment
  of_comment at bytes c (f, b, x, p, s, (g, d, y, q, t, (z, u, e))) = by at bytes c _ e tt

  of_names : LaysOut names
  of_names at bytes c (x, s, e) = by at bytes c _ e s

  of_segment : LaysOut (segment (is_wide kind))
  of_segment at bytes c (f1, b1, x1, p1, s1, (f2, b2, x2, p2, s2, (f3, b3, x3, p3, s3, (f4, b4, x4, p4, s4, (f5, b5, x5, p5, s5, (f6, b6, x6, p6, s6, (none, e))))))) =
      by at bytes c _ e (f1, b1, x1, p1, s1, (f2, b2, x2, p2, s2, (f3, b3, x3, p3, s3, (f4, b4, x4, p4, s4, (f5, b5, x5, p5, s5, (f6, b6, x6, p6, s6, (none, refl)))))))

  of_group : LaysOut group
  of_group at bytes c (f, b, x, p, s, (y, t, e)) = by at bytes c _ e tt

  of_externs : LaysOut externs
  of_externs at bytes c (x, s, e) = by at bytes c _ e s

  of_publics : LaysOut (publics (is_wide kind))
  of_publics at bytes c (f1, b1, x1, p1, s1, (f2, b2, x2, p2, s2, (f3, b3, x3, p3, s3, (y, t, e)))) =
      by at bytes c _ e (f1, b1, x1, p1, s1, (f2, b2, x2, p2, s2, (f3, b3, x3, p3, s3, (y, t, refl))))

  of_communals : LaysOut communals
  of_communals at bytes c (x, s, e) = by at bytes c _ e s

  of_plain : LaysOut (called (data_item (is_wide kind)) Plain)
  of_plain at bytes c (d, s, e) = by at bytes c _ e s

  of_iterated : LaysOut (called (data_item (is_wide kind)) Iterated)
  of_iterated at bytes c (d, s, e) = by at bytes c _ e s

  of_fixups : is_one_of fixupp kind ≡ true → LaysOut (fixups (is_wide kind))
  of_fixups is at bytes c (x, s, e) = by at bytes c _ e (is, s)

  of_end : is_end kind ≡ true → LaysOut (mod_end (is_wide kind))
  of_end is at bytes c (f1, b1, x1, p1, s1, (f2, b2, x2, p2, s2, (none, e))) = by at bytes c _ e (is, (f1, b1, x1, p1, s1, (f2, b2, x2, p2, s2, (none, refl))))

  of_carried : LaysOut carried
  of_carried at bytes c (x, s, e) = by at bytes c _ e tt

  by_type : (t : RecordType) → type_of kind ≡ Some t → LaysOut (layout_of t (is_wide kind))
  by_type Theadr e = of_header
  by_type Lheadr e = of_header
  by_type Coment e = of_comment
  by_type Lnames e = of_names
  by_type Llnames e = of_names
  by_type Segdef e = of_segment
  by_type Grpdef e = of_group
  by_type Extdef e = of_externs
  by_type Lextdef e = of_externs
  by_type Pubdef e = of_publics
  by_type Lpubdef e = of_publics
  by_type Comdef e = of_communals
  by_type Lcomdef e = of_communals
  by_type Ledata e = of_plain
  by_type Lidata e = of_iterated
  by_type Fixupp e = of_fixups (type_holds kind Fixupp e)
  by_type Modend e = of_end (type_holds kind Modend e)
  by_type Typdef e = of_carried
  by_type Linnum e = of_carried
  by_type Linsym e = of_carried
  by_type Alias e = of_carried
  by_type Vernum e = of_carried
  by_type Bakpat e = of_carried
  by_type Cextdef e = of_carried
  by_type Comdat e = of_carried
  by_type Nbkpat e = of_carried
  by_type Vendext e = of_carried
  by_type Library e = of_carried

  by_option : (o : Option RecordType) → type_of kind ≡ o → LaysOut (layout_if o (is_wide kind))
  by_option (Some t) e = by_type t e
  by_option None e = of_carried

  pub laid-out : LaysOut (contents kind)
  laid-out = by_option (type_of kind) refl
