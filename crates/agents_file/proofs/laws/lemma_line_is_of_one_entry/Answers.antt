use Rattle.agents_file.proofs.EntryLemmas.{same_entry}
use Rattle.agents_file.proofs.laws.lemma_line_is_of_one_entry.Goals as goal

pub returns : goal.returns
returns c e f is other line = same_entry e f is other line
