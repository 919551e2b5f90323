use Rattle.ocf_env.proofs.LevelLemmas.{zero_text, ten_text, twenty_text}
use Rattle.ocf_env.proofs.variables.level_text.Goals as goal

pub returns-in-Zero : goal.returns-in-Zero
returns-in-Zero c = rw c.in-Zero.is zero_text

pub returns-in-Ten : goal.returns-in-Ten
returns-in-Ten c = rw c.in-Ten.is ten_text

pub returns-in-Twenty : goal.returns-in-Twenty
returns-in-Twenty c = rw c.in-Twenty.is twenty_text
