-- The fields of each record in their order (TIS OMF 1.1, the page of each record), also of the records that this profile carries or refuses.
use Rattle.std.specs.Prelude.{ℕ, List, [], ◌∷◌, nat_lt, codes, if◌then◌else◌}
use Rattle.omf_frame.specs.declared.kinds.RecordType.{RecordType}
use Rattle.omf_frame.specs.declared.kinds.RecordType.TheVariants.{
  Theadr,
  Lheadr,
  Coment,
  Modend,
  Extdef,
  Pubdef,
  Lnames,
  Segdef,
  Grpdef,
  Fixupp,
  Ledata,
  Lidata,
  Comdef,
  Lextdef,
  Lpubdef,
  Lcomdef,
  Llnames,
  Typdef,
  Linnum,
  Linsym,
  Alias,
  Vernum,
  Bakpat,
  Cextdef,
  Comdat,
  Nbkpat,
  Vendext,
  Library,
}
use Rattle.omf_dump.specs.declared.step.Kind.{Kind}
use Rattle.omf_dump.specs.declared.step.Kind.TheVariants as kind
use Rattle.omf_dump.specs.declared.step.Step.{Step}
use Rattle.omf_dump.specs.declared.step.Step.TheVariants as step
use Rattle.omf_dump.specs.declared.step.When.{When}
use Rattle.omf_dump.specs.declared.step.When.TheVariants as when

-- A field: its name here, how it is encoded and shown, and when a record has it.
pub record Row : Type 0 where
  pub name : List ℕ
  pub kind : Kind
  pub when : When

abbrev pub called : List ℕ → Kind → When → Row
called name kind when = record { name = name; kind = kind; when = when }

abbrev pub row : Step → Row
row step.Group = called (codes "group") kind.Group when.Always
row step.Segment = called (codes "segment") kind.Segment when.Always
row step.Frame = called (codes "frame") kind.Short when.Zero
row step.ExplicitGroup = called (codes "group") kind.Group when.Explicit
row step.ExplicitSegment = called (codes "segment") kind.Segment when.Explicit
row step.AbsoluteFrame = called (codes "frame") kind.Short when.Absolute
row step.AbsoluteOffset = called (codes "offset") kind.Small when.Absolute
row step.Name = called (codes "name") kind.Counted when.Always
row step.External = called (codes "external") kind.Counted when.Always
row step.Public = called (codes "public") kind.Counted when.Always
row step.Alias = called (codes "alias") kind.Counted when.Always
row step.Substitute = called (codes "substitute") kind.Counted when.Always
row step.Version = called (codes "version") kind.Version when.Always
row step.NameIndex = called (codes "name") kind.Name when.Always
row step.Class = called (codes "class") kind.Name when.Always
row step.Overlay = called (codes "overlay") kind.Name when.Always
row step.PublicIndex = called (codes "public") kind.Name when.Always
row step.TypeIndex = called (codes "type") kind.Type when.Always
row step.HeadType = called (codes "type-index") kind.Type when.Always
row step.Line = called (codes "line") kind.Decimal when.Always
row step.Vendor = called (codes "vendor") kind.Decimal when.Always
row step.Offset = called (codes "offset") kind.Wide when.Always
row step.Value = called (codes "value") kind.Wide when.Always
row step.Length = called (codes "length") kind.Wide when.Always
row step.Dictionary = called (codes "dictionary") kind.Long when.Always
row step.DictionaryBlocks = called (codes "blocks") kind.Decimal when.Always
row step.LibraryFlags = called (codes "flags") kind.Small when.Always
row step.EightLeaf = called (codes "EN") kind.Small when.Always
row step.Leaf = called (codes "leaf") kind.Leaf when.Always
row step.Variable = called (codes "variable") kind.Variable when.Always
row step.Bits = called (codes "bits") kind.Count when.Near
row step.Elements = called (codes "elements") kind.Count when.Far
row step.ElementType = called (codes "element-type") kind.Type when.Far
row step.Communal = called (codes "communal") kind.Communal when.Always
row step.NearLength = called (codes "length") kind.Count when.Near
row step.FarCount = called (codes "count") kind.Count when.Far
row step.FarSize = called (codes "size") kind.Count when.Far
row step.Component = called (codes "component") kind.Small when.Always
row step.MemberSegment = called (codes "segment") kind.Segment (when.Component 0xFF)
row step.MemberExternal = called (codes "external") kind.External (when.Component 0xFE)
row step.MemberRest = called (codes "left") kind.Bytes when.OtherComponent
row step.ComdatFlags = called (codes "flags") kind.ComdatFlags when.Always
row step.Selection = called (codes "selection") kind.Selection when.Always
row step.ComdatAlign = called (codes "align") kind.ComdatAlign when.Always
row step.LineFlags = called (codes "flags") kind.LineFlags when.Always
row step.CommentFlags = called (codes "flags") kind.CommentFlags when.Always
row step.CommentClass = called (codes "class") kind.CommentClass when.Always
row step.Attributes = called (codes "attributes") kind.Attributes when.Always
row step.EndFlags = called (codes "flags") kind.EndFlags when.Always
row step.Patch = called (codes "location") kind.Patch when.Always
row step.Thread = called (codes "thread") kind.Thread when.Always
row step.Location = called (codes "at") kind.Location when.Always
row step.Fix = called (codes "frame") kind.Fix when.Always
row step.FrameSegment = called (codes "frame") kind.OfSegment (when.Frame 0)
row step.FrameGroup = called (codes "frame") kind.OfGroup (when.Frame 1)
row step.FrameExternal = called (codes "frame") kind.OfExternal (when.Frame 2)
row step.FrameNumber = called (codes "frame-number") kind.Short (when.Frame 3)
row step.TargetSegment = called (codes "target") kind.OfSegment (when.Target 0)
row step.TargetGroup = called (codes "target") kind.OfGroup (when.Target 1)
row step.TargetExternal = called (codes "target") kind.OfExternal (when.Target 2)
row step.TargetNumber = called (codes "target-number") kind.Short (when.Target 3)
row step.Displacement = called (codes "displacement") kind.Wide when.Displaced
row step.Rest = called (codes "left") kind.Bytes when.Always

-- The fields that a record has once, at its beginning.
abbrev pub head_steps : RecordType → List Step
head_steps Theadr = step.Name ∷ []
head_steps Lheadr = step.Name ∷ []
head_steps Coment = step.CommentFlags ∷ step.CommentClass ∷ []
head_steps Modend = step.EndFlags ∷ []
head_steps Extdef = []
head_steps Pubdef = step.Group ∷ step.Segment ∷ step.Frame ∷ []
head_steps Lnames = []
head_steps Segdef = step.Attributes ∷ step.AbsoluteFrame ∷ step.AbsoluteOffset ∷ step.Length ∷ step.NameIndex ∷ step.Class ∷ step.Overlay ∷ []
head_steps Grpdef = step.NameIndex ∷ []
head_steps Fixupp = []
head_steps Ledata = step.Segment ∷ step.Offset ∷ []
head_steps Lidata = step.Segment ∷ step.Offset ∷ []
head_steps Comdef = []
head_steps Lextdef = []
head_steps Lpubdef = step.Group ∷ step.Segment ∷ step.Frame ∷ []
head_steps Lcomdef = []
head_steps Llnames = []
head_steps Typdef = step.Name ∷ step.EightLeaf ∷ []
head_steps Linnum = step.Group ∷ step.Segment ∷ []
head_steps Linsym = step.LineFlags ∷ step.PublicIndex ∷ []
head_steps Alias = []
head_steps Vernum = step.Version ∷ []
head_steps Bakpat = step.Segment ∷ step.Patch ∷ []
head_steps Cextdef = []
head_steps Comdat = step.ComdatFlags ∷ step.Selection ∷ step.ComdatAlign ∷ step.Offset ∷ step.HeadType ∷ step.ExplicitGroup ∷ step.ExplicitSegment ∷ step.Frame ∷ step.PublicIndex ∷ []
head_steps Nbkpat = step.Patch ∷ step.PublicIndex ∷ []
head_steps Vendext = step.Vendor ∷ []
head_steps Library = step.Dictionary ∷ step.DictionaryBlocks ∷ step.LibraryFlags ∷ []

abbrev pub thread_item : List Step
thread_item = step.Thread ∷ step.FrameSegment ∷ step.FrameGroup ∷ step.FrameExternal ∷ step.FrameNumber ∷ step.TargetSegment ∷ step.TargetGroup ∷ step.TargetExternal ∷ step.TargetNumber ∷ []

abbrev pub start_item : List Step
start_item = step.Fix ∷ step.FrameSegment ∷ step.FrameGroup ∷ step.FrameExternal ∷ step.FrameNumber ∷ step.TargetSegment ∷ step.TargetGroup ∷ step.TargetExternal ∷ step.TargetNumber ∷ step.Displacement ∷ []

abbrev pub fixup_item : List Step
fixup_item = step.Location ∷ step.Fix ∷ step.FrameSegment ∷ step.FrameGroup ∷ step.FrameExternal ∷ step.FrameNumber ∷ step.TargetSegment ∷ step.TargetGroup ∷ step.TargetExternal ∷ step.TargetNumber ∷ step.Displacement ∷ []

-- The fields that it then repeats, by the first byte of them: a FIXUPP has THREADs (bit 7 is 0) and fixups. A component of a group is a segment (FFH), or that
-- of an external (FEH); what follows another component byte is left.
abbrev pub item_steps : RecordType → ℕ → List Step
item_steps Modend byte = start_item
item_steps Extdef byte = step.External ∷ step.TypeIndex ∷ []
item_steps Lextdef byte = step.External ∷ step.TypeIndex ∷ []
item_steps Pubdef byte = step.Public ∷ step.Offset ∷ step.TypeIndex ∷ []
item_steps Lpubdef byte = step.Public ∷ step.Offset ∷ step.TypeIndex ∷ []
item_steps Lnames byte = step.Name ∷ []
item_steps Llnames byte = step.Name ∷ []
item_steps Grpdef byte = step.Component ∷ step.MemberSegment ∷ step.MemberExternal ∷ step.MemberRest ∷ []
item_steps Fixupp byte = if nat_lt byte 128 then thread_item else fixup_item
item_steps Comdef byte = step.External ∷ step.TypeIndex ∷ step.Communal ∷ step.NearLength ∷ step.FarCount ∷ step.FarSize ∷ []
item_steps Lcomdef byte = step.External ∷ step.TypeIndex ∷ step.Communal ∷ step.NearLength ∷ step.FarCount ∷ step.FarSize ∷ []
item_steps Typdef byte = step.Leaf ∷ step.Variable ∷ step.Bits ∷ step.Elements ∷ step.ElementType ∷ []
item_steps Linnum byte = step.Line ∷ step.Offset ∷ []
item_steps Linsym byte = step.Line ∷ step.Offset ∷ []
item_steps Alias byte = step.Alias ∷ step.Substitute ∷ []
item_steps Bakpat byte = step.Offset ∷ step.Value ∷ []
item_steps Nbkpat byte = step.Offset ∷ step.Value ∷ []
item_steps Cextdef byte = step.NameIndex ∷ step.TypeIndex ∷ []
item_steps Theadr byte = step.Rest ∷ []
item_steps Lheadr byte = step.Rest ∷ []
item_steps Coment byte = step.Rest ∷ []
item_steps Segdef byte = step.Rest ∷ []
item_steps Ledata byte = step.Rest ∷ []
item_steps Lidata byte = step.Rest ∷ []
item_steps Vernum byte = step.Rest ∷ []
item_steps Comdat byte = step.Rest ∷ []
item_steps Vendext byte = step.Rest ∷ []
item_steps Library byte = step.Rest ∷ []
