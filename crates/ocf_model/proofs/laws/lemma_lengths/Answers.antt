use Rattle.std.proofs.Common.{arith}
use Rattle.ocf_types.specs.declared.event.Step.TheVariants as step
use Rattle.ocf_types.specs.declared.event.Change.TheVariants as change
use Rattle.ocf_types.specs.Layouts.{current}
use Rattle.ocf_model.proofs.Lengths.{length-event, length-step, length-begin, length-result, event_short}
use Rattle.ocf_model.proofs.StateLengths.{state_short}
use Rattle.ocf_model.proofs.laws.lemma_lengths.Goals as goal
use Rattle.ocf_types.specs.LengthLemmas.{id_short}

pub returns-clause-result : goal.returns-clause-result
returns-clause-result c at run id end h =
    omega (
      arith,
      length-event current at (change.Step id (step.Result run end)),
      length-step current id (step.Result run end),
      length-result run end,
      id_short id h,
    )

pub returns-clause-begin : goal.returns-clause-begin
returns-clause-begin c at call run id h =
    omega (
      arith,
      length-event current at (change.Step id (step.Begin call run)),
      length-step current id (step.Begin call run),
      length-begin call run,
      id_short id h,
    )

pub returns-clause-boot : goal.returns-clause-boot
returns-clause-boot c at = length-event current at change.Boot

pub returns-clause-small : goal.returns-clause-small
returns-clause-small c at ch l h = event_short at ch l.change h

pub returns-clause-state : goal.returns-clause-state
returns-clause-state c s h = state_short s h
