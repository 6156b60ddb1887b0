use Rattle.omf_linker.proofs.link.words.task_named.Goals as goal

pub returns-in-draft-clause-draft : goal.returns-in-draft-clause-draft
returns-in-draft-clause-draft c o image map draft named = c.draft_named.ensures.asks o named
