use Rattle.std.proofs.Common.{ap, not, ◌∙◌}
use Rattle.ocf_types.proofs.ValueLemmas.{no_nul}
use Rattle.ocf_types.proofs.values.has_no_nul.Goals as goal

-- src/values.rt
pub returns : goal.returns
returns c = ap not c.contains.ensures.value ∙ no_nul c.args.bytes.now
