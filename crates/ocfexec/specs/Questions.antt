-- The answer to a question for metadata.
use Rattle.std.specs.Prelude.{ℕ, ⊤, Result}
use Rattle.std.specs.Global.{Vec}
use Rattle.ocf_types.specs.declared.outcome.MetaFault.{MetaFault}
use Rattle.ocfexec.specs.declared.asked_agent.Polled.{Polled}
use Rattle.ocfexec.specs.declared.asked_agent.Polled.TheVariants.{Waits, Answered}

-- a fact about the answer to a question, if it was answered
abbrev pub IfAnswered : Polled → (Result (Vec ℕ) MetaFault → Type 0) → Type 0
IfAnswered (Waits question) F = ⊤
IfAnswered (Answered answer) F = F answer
