-- What is asked of the system for an agent's metadata.
use Rattle.std.specs.Prelude.{◌≡◌, ◌<◌, ◌⊎◌, ℕ, ⊤, List, [], Option, None, Some, IfErr, Result, Ok, Err, Vec}
use Rattle.ocf_types.specs.declared.outcome.MetaFault.{MetaFault}
use Rattle.ocf_types.specs.declared.outcome.MetaFault.TheVariants.{NotStarted, Read, Failed, TooLong, Limit, Memory}
use Rattle.ocf_env.specs.Locations.{Call}
use Rattle.agent_system.specs.SystemView.{SystemView}
use Rattle.agent_system.specs.declared.agent_process.AgentProcess.{AgentProcess}
use Rattle.process_ends.specs.Endings.{HasKilled}
use Rattle.agent_metadata.specs.Asking.{AsksFor, AsksForNone, AsksNone, IsAlone, IsIdle, OnlyPolls}
use Rattle.agent_metadata.specs.Codes.{EndedWith}
use Rattle.agent_metadata.specs.MetaChildren.{asked_process}
use Rattle.agent_metadata.specs.declared.meta_child.MetaPoll.{MetaPoll}
use Rattle.agent_metadata.specs.declared.meta_child.MetaPoll.TheVariants.{Waits, Answered}

-- the agent has ended with an exit code, once one is known; until then it lives
abbrev pub IsCodeNow : SystemView → AgentProcess → Result (Option ℕ) MetaFault → Type 0
IsCodeNow v p (Ok (Some code)) = IsIdle v.sights × EndedWith v p code
IsCodeNow v p (Ok None) = IsAlone v.sights p
IsCodeNow v p (Err fault) = IsAlone v.sights p

-- the wait for an agent is over before it has ended
abbrev pub IsStop : MetaFault → Type 0
IsStop Read = ⊤
IsStop Limit = ⊤
IsStop _ = ⊥

-- the answer by an exit code
abbrev pub IsAnswerOf : {M : Type 0} → ℕ → Result (Vec ℕ M) MetaFault → Type 0
IsAnswerOf code (Ok metadata) = code ≡ 0
IsAnswerOf code (Err (Failed told)) = (0 < code) × (told ≡ code)
IsAnswerOf code (Err TooLong) = code ≡ 0
IsAnswerOf code (Err _) = ⊥

-- an agent that was asked has ended with the exit code of its answer, or was given up and killed
abbrev pub AnswersBy : {M : Type 0} → SystemView → SystemView → AgentProcess → Result (Vec ℕ M) MetaFault → Type 0
AnswersBy v w p (Ok metadata) = EndedWith w p 0
AnswersBy v w p (Err (Failed code)) = EndedWith w p code
AnswersBy v w p (Err TooLong) = EndedWith w p 0
AnswersBy v w p (Err Read) = HasKilled v w p
AnswersBy v w p (Err Limit) = HasKilled v w p
AnswersBy v w p (Err _) = ⊥

-- a poll of an agent: it still lives, or has answered and lives no longer
abbrev pub PollsBy : {R M C O : Type 0} → (C → AgentProcess) → SystemView → SystemView → AgentProcess → MetaPoll R M C O → Type 0
PollsBy process_of v w p (Waits child) = OnlyPolls v w × (asked_process process_of child ≡ p) × IsAlone w.sights p
PollsBy process_of v w p (Answered answer) = AsksNone v w × (w.sights.live ≡ []) × AnswersBy v w p answer

-- no agent is asked: memory was refused before that, or none was spawned and let run
abbrev pub StartFails : Option (List ℕ) → (Call → Type 0) → SystemView → SystemView → MetaFault → Type 0
StartFails leader Is v w Memory = w ≡ v
StartFails leader Is v w (NotStarted fault) = AsksForNone leader Is v w
StartFails leader Is v w _ = ⊥

-- over a whole run exactly one agent was asked, by a call of this kind, and has ended; or none is asked
abbrev pub RunsBy : {M : Type 0} → Option (List ℕ) → (Call → Type 0) → SystemView → SystemView → Result (Vec ℕ M) MetaFault → Type 0
RunsBy leader Is v w answer =
    ((p : AgentProcess) × AsksFor leader Is v w p × AnswersBy v w p answer) ⊎ IfErr answer (StartFails leader Is v w)
