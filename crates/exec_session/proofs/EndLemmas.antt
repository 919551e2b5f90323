-- How a session ends.
use Rattle.std.proofs.Common.{◌≡◌, List, [], ◌++◌, Result, Ok, Err, refl, sym, ap, subst, ◌∙◌, inl, inr}
use Rattle.std.proofs.lemmas.List.{append-nil}
use Rattle.store_model.specs.StoreView.{StoreView}
use Rattle.executor.specs.ExecutorView.{ExecutorView}
use Rattle.executor.specs.TurnCalls.{Abandons}
use Rattle.exec_client.specs.MaySend.{IsBacked}
use Rattle.exec_client.specs.MessageView.{MessageView}
use Rattle.exec_client.specs.SentItem.{SentItem}
use Rattle.exec_client.proofs.Growing.{abandoned_holds, still_hold}
use Rattle.exec_faults.specs.declared.fault.Fault.{Fault}
use Rattle.exec_faults.specs.declared.fault.Fault.TheVariants as fault
use Rattle.session_machine.specs.Backed.{first_said, owed}
use Rattle.session_machine.specs.Behaviours.{HasBroken, IsBehaviour, Trace, begins}
use Rattle.session_machine.specs.First.{IsFirst, IsNew}
use Rattle.session_machine.specs.Session.{At, SessionState, Draining, Over, Reading, Resting, Sending}
use Rattle.session_machine.proofs.BackedLemmas.{calls_from, sound}
use Rattle.exec_session.specs.Ends.{IsEnd}
use Rattle.exec_session.specs.Standing.{IsOver}
use Rattle.exec_session.specs.Steps.{IsOpeningOf}

-- a session that has ended owes no message
over_owes : (at : At) → IsOver at → owed at ≡ []
over_owes (Over end) over = refl
over_owes (Sending ms next) over = absurd over
over_owes Reading over = refl
over_owes (Resting pause drain) over = refl
over_owes (Draining d) over = refl

broken_owes : {S : Type 0} (t : Trace S) → HasBroken t → owed t.state.at ≡ []
broken_owes t (inl is) = ap owed is
broken_owes t (inr (none, many)) = none

pub ends_owe : {S T : Type 0} (t : Trace S) (r : Result T Fault) → IsEnd t r → owed t.state.at ≡ []
ends_owe t (Ok done) (over, is_open) = over_owes t.state.at over
ends_owe t (Err fault.Disk) (over, closed) = over_owes t.state.at over
ends_owe t (Err fault.InputOrOutput) broke = broken_owes t broke
ends_owe t (Err fault.ReplyMemory) broke = broken_owes t broke
ends_owe t (Err fault.Usage) broke = absurd broke
ends_owe t (Err fault.Choice) broke = absurd broke
ends_owe t (Err fault.NotText) broke = absurd broke
ends_owe t (Err fault.NoResource) broke = absurd broke
ends_owe t (Err fault.Log) broke = absurd broke
ends_owe t (Err (fault.Damaged damage)) broke = absurd broke
ends_owe t (Err fault.Memory) broke = absurd broke
ends_owe t (Err fault.NotOpened) broke = absurd broke
ends_owe t (Err fault.NoJournal) broke = absurd broke
ends_owe t (Err fault.NotExisting) broke = absurd broke
ends_owe t (Err fault.NotWell) broke = absurd broke
ends_owe t (Err fault.NoExecutor) broke = absurd broke
ends_owe t (Err fault.Failed) broke = absurd broke
ends_owe t (Err fault.Full) broke = absurd broke
ends_owe t (Err fault.ChildrenIgnored) broke = absurd broke

-- what such a session was sent is backed, also once its executor is closed
module _ {S : Type 0} (view : S → StoreView) (x : ExecutorView S) (t q : Trace S) (opens : IsOpeningOf t x) (same : q.first ≡ t.first)
    (behaves : IsBehaviour view q) where
  first_is : IsFirst q.first
  first_is = subst (λ (s : SessionState S). IsFirst s) (sym (same ∙ ap (λ (u : Trace S). u.first) opens.0)) (record {
    rules = t.state.rules;
    start = t.state.start;
    executor = t.state.executor;
    client = t.state.client;
    is = refl;
    new = subst (λ (y : ExecutorView S). IsNew t.state.client y) (sym opens.1) opens.2;
  })

  still_opened : q.state.client.opened ≡ x
  still_opened =
      (calls_from view (sound view first_is begins) behaves).opened
      ∙ ap (λ (s : SessionState S). s.client.opened) (same ∙ ap (λ (u : Trace S). u.first) opens.0) ∙ opens.2.opened

  pub end_backed : owed q.state.at ≡ [] → (last : ExecutorView S) → Abandons q.state.executor last → IsBacked view x last q.state.client.reported
  end_backed none last given_up =
      let all = (sound view first_is behaves).holds in
      let sent = ap (λ (ms : List MessageView). q.state.client.reported ++ first_said ms) none ∙ append-nil q.state.client.reported in
      subst (λ (o : ExecutorView S). IsBacked view o last q.state.client.reported) still_opened
      (still_hold view q.state.client.opened q.state.executor last q.state.client.reported
      (subst (λ (ss : List SentItem). IsBacked view q.state.client.opened q.state.executor ss) sent all)
      (abandoned_holds view q.state.executor last given_up))
