use Rattle.omf_linker.proofs.seen.files.lines_of.Goals as goal

pub returns : goal.returns
returns c = rw (c.in_ok-text.ensures, c.counts_twice-said.ensures, c.as_str.ensures.value, c.deref.ensures.value) at c.in_ok-add_found.ensures
