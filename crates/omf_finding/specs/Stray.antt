-- References that go elsewhere than to their public.
use Rattle.std.specs.Prelude.{◌≢◌}
use Rattle.omf_finding.specs.declared.straying.Stray.{Stray}

-- The address to which a reference goes is not that of its public.
abbrev pub IsStray : Stray → Type 0
IsStray s = s.there ≢ s.wanted
