use Rattle.std.proofs.Common.{subst}
use Rattle.std.proofs.lemmas.Bool.{false≢true}
use Rattle.proc_files.specs.Signals.{HasBit}
use Rattle.proc_files.proofs.SignalLemmas.{same_mask}
use Rattle.proc_files.proofs.signal.begins_with_bit.Goals as goal

pub returns-in-Some : goal.returns-in-Some
returns-in-Some c = (
  λ yes. (c.in-Some.mask, c.in-Some.ensures.some, c.has_bit.ensures.0 yes),
  λ begins. c.has_bit.ensures.1
      (subst (λ mask. HasBit mask c.args.signal)
      (same_mask c.args.text.now begins.0 c.in-Some.mask begins.1 c.in-Some.ensures.some) begins.2),
)

pub returns-in-None : goal.returns-in-None
returns-in-None c = (λ never. absurd (false≢true never), λ begins. absurd (c.in-None.ensures.none begins.0 begins.1))
