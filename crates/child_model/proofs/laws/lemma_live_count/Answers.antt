use Rattle.std.proofs.Common.{◌≢◌, ℕ, ◌+◌, ◌≤◌, List, Contains, length, arith, refl}
use Rattle.child_model.specs.Children.{live_polled}
use Rattle.child_model.specs.Lemmas.{fewer, no_more}
use Rattle.child_model.specs.declared.answer.Poll.{Poll}
use Rattle.child_model.specs.declared.answer.Poll.TheVariants as poll
use Rattle.child_model.proofs.laws.lemma_live_count.Goals as goal

polled : (answer : Poll) (run : ℕ) (live : List ℕ) → length (live_polled answer run live) ≤ length live
polled poll.Running run live = omega arith
polled (poll.Exited code) run live = no_more run live
polled (poll.Signaled signal) run live = no_more run live
polled poll.Fault run live = no_more run live

ended : (answer : Poll) (run : ℕ) (live : List ℕ) → Contains live run → answer ≢ poll.Running
    → length (live_polled answer run live) + 1 ≤ length live
ended poll.Running run live lives other = absurd (other refl)
ended (poll.Exited code) run live lives other = fewer run live lives
ended (poll.Signaled signal) run live lives other = fewer run live lives
ended poll.Fault run live lives other = fewer run live lives

pub returns-clause-poll : goal.returns-clause-poll
returns-clause-poll c = λ v run answer. polled answer run v.live

pub returns-clause-ended : goal.returns-clause-ended
returns-clause-ended c = λ v run answer. ended answer run v.live

pub returns-clause-kill : goal.returns-clause-kill
returns-clause-kill c = λ v run answer. fewer run v.live
