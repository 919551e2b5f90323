use Rattle.agents_file.proofs.LineLemmas.{cuts, cuts_none}
use Rattle.agents_file.proofs.line.cut.Goals as goal

pub returns-in-Some : goal.returns-in-Some
returns-in-Some c =
    cuts c.args.text.now c.in-Some.parts.0.now c.in-Some.parts.1.now c.in-Some.ensures.is c.in-Some.ensures.first

pub returns-in-None : goal.returns-in-None
returns-in-None c = cuts_none c.args.text.now _ _ c.in-None.ensures.none
