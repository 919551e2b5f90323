-- The calls of an executor, each with its answer and with what it does.
use Rattle.std.specs.Prelude.{◌≡◌, ℕ, List, [], ◌∷◌}
use Rattle.ocf_types.specs.Kinds.{Command}
use Rattle.ocf_model.specs.Answer.{Reply}
use Rattle.ocf_model.specs.declared.reply.TidyEnd.{TidyEnd}
use Rattle.ocf_model.specs.declared.reply.TurnEnd.{TurnEnd}
use Rattle.exec_ledger.specs.Pieces.{Effects, followed_by, no_effects}
use Rattle.executor.specs.BatchCalls.{TakesBatch}
use Rattle.executor.specs.ExecutorView.{ExecutorView}
use Rattle.executor.specs.FinishCalls.{FinishedWhile}
use Rattle.executor.specs.Sessions.{Input, TakesWhile}
use Rattle.executor.specs.TidyCalls.{TidiesWhile}
use Rattle.executor.specs.TurnCalls.{Abandons, with_empty_book}
use Rattle.store_model.specs.StoreView.{StoreView}

-- a call of an executor with its answer: an input with its reply, a batch of commands at one moment with their replies, a turn that
-- begins nothing at a moment with its end, or a tidy with its end; or the call that empties the children's book, or the one that
-- gives up the children
pub data Exchange : Type 0 where
  Took : Input → Reply → Exchange
  Batch : ℕ → List Command → List Reply → Exchange
  Finished : ℕ → TurnEnd → Exchange
  Tidied : TidyEnd → Exchange
  Cleared : Exchange
  Abandoned : Exchange

-- what a call does, from one view of the executor to another
abbrev pub Does : {S : Type 0} → (S → StoreView) → Exchange → ExecutorView S → ExecutorView S → Effects → Type 0
Does view (Took i reply) old new effects = TakesWhile old.is_open view i old new reply effects
Does view (Batch now commands replies) old new effects = TakesBatch view now commands old new replies effects
Does view (Finished now end) old new effects = FinishedWhile old.is_open view now old new end effects
Does view (Tidied end) old new effects = TidiesWhile old.is_open view old new end × (effects ≡ no_effects)
Does view Cleared old new effects = (new ≡ with_empty_book old) × (effects ≡ no_effects)
Does view Abandoned old new effects = Abandons old new × (effects ≡ no_effects)

-- one call after the other; a session is the calls of its inputs
abbrev pub Calls : {S : Type 0} → (S → StoreView) → ExecutorView S → List Exchange → ExecutorView S → Effects → Type 0
Calls view old [] new effects = (new ≡ old) × (effects ≡ no_effects)
Calls {S} view old (e ∷ es) new effects =
    (mid : ExecutorView S) × (first : Effects) × (later : Effects) × Does view e old mid first × Calls view mid es new later
    × (effects ≡ followed_by first later)
