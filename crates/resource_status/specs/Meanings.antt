-- Whether a result is good, notable or bad.
use Rattle.ocf_types.specs.declared.outcome.Outcome.{Outcome}
use Rattle.ocf_types.specs.declared.outcome.Outcome.TheVariants.{Run, Cancelled}
use Rattle.ocf_types.specs.declared.outcome.RunEnd.TheVariants.{Done}
use Rattle.ocf_codes.specs.ExitCodes.{code_read}
use Rattle.ocf_codes.specs.declared.exit_code.Code.{Code}
use Rattle.ocf_codes.specs.declared.exit_code.Code.TheVariants as code
use Rattle.resource_status.specs.declared.meanings.Tone.{Tone}
use Rattle.resource_status.specs.declared.meanings.Tone.TheVariants.{Good, Notable, Bad}

-- whether an exit code is good, notable or bad
abbrev pub code_tone : Code → Tone
code_tone code.Success = Good
code_tone code.RunningPromoted = Good
code_tone code.NotRunning = Notable
code_tone code.Degraded = Notable
code_tone code.DegradedPromoted = Notable
code_tone _ = Bad

-- whether a result is good, notable or bad
abbrev pub tone_of : Outcome → Tone
tone_of (Run (Done n)) = code_tone (code_read n)
tone_of Cancelled = Notable
tone_of _ = Bad
