use Rattle.std.proofs.Common.{◌≡◌, ◌≢◌, ◌↔◌, ◌⊎◌, inl, inr, ℕ, List, Contains, refl}
use Rattle.child_model.specs.Children.{live_polled, without_run}
use Rattle.child_model.specs.Lemmas.{kept, lived}
use Rattle.child_model.specs.declared.answer.Poll.{Poll}
use Rattle.child_model.specs.declared.answer.Poll.TheVariants as poll
use Rattle.child_model.proofs.laws.lemma_live_processes.Goals as goal

-- after an answer other than that it still runs
ended : (run r : ℕ) (live : List ℕ) (answer : Poll) → (answer ≡ poll.Running → ⊥) → Contains (without_run run live) r
    ↔ (Contains live r × ((answer ≡ poll.Running) ⊎ (r ≢ run)))
ended run r live answer not_running = (
  λ lives. ((lived run r live lives).0, inr (lived run r live lives).1),
  λ lives. elim lives.1 [ inl running ↦ absurd (not_running running) | inr other ↦ kept run r live other lives.0 ],
)

polled : (run r : ℕ) (live : List ℕ) (answer : Poll) → Contains (live_polled answer run live) r
    ↔ (Contains live r × ((answer ≡ poll.Running) ⊎ (r ≢ run)))
polled run r live poll.Running = (λ lives. (lives, inl refl), λ lives. lives.0)
polled run r live (poll.Exited code) = ended run r live (poll.Exited code) (λ e. cc)
polled run r live (poll.Signaled signal) = ended run r live (poll.Signaled signal) (λ e. cc)
polled run r live poll.Fault = ended run r live poll.Fault (λ e. cc)

pub returns-clause-poll : goal.returns-clause-poll
returns-clause-poll c = λ v run r answer. polled run r v.live answer

pub returns-clause-kill : goal.returns-clause-kill
returns-clause-kill c = λ v run r answer. (λ lives. lived run r v.live lives, λ lives. kept run r v.live lives.1 lives.0)
