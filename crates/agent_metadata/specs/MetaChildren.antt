-- The view of an agent that is asked for its metadata.
use Rattle.std.specs.Prelude.{◌≡◌, ℕ, ◌++◌, ⊤, List, [], Bool, true, Option, None, Some, IfOk, IfSome, Result, Vec}
use Rattle.ocf_types.specs.declared.outcome.MetaFault.{MetaFault}
use Rattle.agent_system.specs.declared.agent_process.AgentProcess.{AgentProcess}
use Rattle.agent_metadata.specs.MetaOutputs.{AddsAll}
use Rattle.agent_metadata.specs.declared.meta_child.MetaChild.{MetaChild}
use Rattle.agent_metadata.specs.declared.meta_child.MetaPoll.{MetaPoll}
use Rattle.agent_metadata.specs.declared.meta_child.MetaPoll.TheVariants.{Waits, Answered}

-- the bytes that its output has still to deliver, where they are known; the bytes that are kept; and whether these are all that was read
pub record AskedView : Type 0 where
  pub left : Option (List ℕ)
  pub kept : List ℕ
  pub is_whole : Bool

-- the bytes that a stream has still to deliver, if there is a stream
abbrev pub left_of : {O : Type 0} → (O → Option (List ℕ)) → Option O → Option (List ℕ)
left_of remaining None = None
left_of remaining (Some stream) = remaining stream

-- the view of such an agent
abbrev pub asked_of : {R M C O : Type 0} → (O → Option (List ℕ)) → MetaChild R M C O → AskedView
asked_of remaining c = record { left = left_of remaining c.stdout; kept = c.output.bytes.items; is_whole = c.output.is_whole }

-- nothing of its answer is kept yet, and nothing was left out
abbrev pub HasNone : AskedView → Type 0
HasNone v = (v.kept ≡ []) × (v.is_whole ≡ true)

-- its process
abbrev pub asked_process : {R M C O : Type 0} → (C → AgentProcess) → MetaChild R M C O → AgentProcess
asked_process process_of c = process_of c.child

-- if all that was read is kept, it was kept before too, and what was read in between was appended
abbrev pub GoesOn : AskedView → AskedView → Type 0
GoesOn old new = new.is_whole ≡ true → (old.is_whole ≡ true) × AddsAll old.left new.left old.kept new.kept

-- the metadata are what was kept before, which was all that was read, followed by all that the output had still to deliver
abbrev pub IsWholeAnswer : AskedView → List ℕ → Type 0
IsWholeAnswer old metadata = (old.is_whole ≡ true) × IfSome old.left (λ bytes. metadata ≡ old.kept ++ bytes)

-- a fact about the answer of an agent, if it has answered
abbrev pub IfAnswered : {R M C O : Type 0} → MetaPoll R M C O → (Result (Vec ℕ M) MetaFault → Type 0) → Type 0
IfAnswered (Waits child) F = ⊤
IfAnswered (Answered answer) F = F answer

-- a poll reads more, or returns the whole answer
abbrev pub PollsTo : {R M C O : Type 0} → (O → Option (List ℕ)) → MetaChild R M C O → MetaPoll R M C O → Type 0
PollsTo remaining old (Waits new) = GoesOn (asked_of remaining old) (asked_of remaining new)
PollsTo remaining old (Answered answer) = IfOk answer (λ metadata. IsWholeAnswer (asked_of remaining old) metadata.items)
