use Rattle.agents_file.proofs.EntryLemmas.{blank_is_none}
use Rattle.agents_file.proofs.laws.lemma_blank_is_no_entry.Goals as goal

pub returns : goal.returns
returns c e is line = blank_is_none e is line
