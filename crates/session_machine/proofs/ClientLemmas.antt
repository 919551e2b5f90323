-- What an edge sends its client: it may, and the client receives it.
use Rattle.std.proofs.Common.{◌≡◌, Bool, Result, Ok, Err, sym, ap, subst, ◌∙◌}
use Rattle.std.specs.Prelude.{OnErr, OnOk, is_ok}
use Rattle.store_model.specs.StoreView.{StoreView}
use Rattle.executor.specs.ExecutorView.{ExecutorView}
use Rattle.exec_client.specs.ClientView.{ClientView, Receives, ReceivesPart}
use Rattle.exec_client.specs.MaySend.{MaySend}
use Rattle.exec_client.specs.MessageView.{MessageView}
use Rattle.session_machine.specs.Behaviours.{May, ReceivesAs, Trace, then}
use Rattle.session_machine.specs.EdgeView.{EdgeView, IsKept}
use Rattle.session_machine.specs.Events as event
use Rattle.session_machine.specs.May.{IsDue}
use Rattle.session_machine.specs.Starts.{Gives, SourceView}
use Rattle.session_machine.specs.declared.rules.Rules.{Rules}
use Rattle.session_machine.proofs.BackedLemmas.{due_sound, sound}

-- a message that is due may be sent
pub may_send : {S : Type 0} (view : S → StoreView) {gives : SourceView → Gives} {rules : Rules} {source : SourceView} {client : ClientView S} {t v : EdgeView S}
    {x : ExecutorView S} {what : MessageView} → IsKept view gives rules source client t → t ≡ v → x ≡ v.trace.state.executor
    → IsDue v.trace.state v.trace.state.at what → MaySend view client x what
may_send {S} view {gives} {rules} {source} {client} {t} {v} {x} {what} kept is of due =
    let now : IsKept view gives rules source client v = subst (IsKept view gives rules source client) is kept in
    subst (λ (x : ExecutorView S). MaySend view client x what) (sym of)
    (subst (λ (c : ClientView S). MaySend view c v.trace.state.executor what) now.same_client
    (due_sound view (sound view now.is.first now.is.behaves) due))

receives_as : {S A E : Type 0} (rules : Rules) (old new : ClientView S) (what : MessageView) (r : Result A E)
    → OnOk r (Receives rules.form old new what) → OnErr r (ReceivesPart rules.form old new what) → ReceivesAs (is_ok r) rules.form old new what
receives_as rules old new what (Ok x) all part = all
receives_as rules old new what (Err e) all part = part

receives_now : {S A E : Type 0} (view : S → StoreView) {gives : SourceView → Gives} {rules : Rules} {source : SourceView} {client : ClientView S} {v : EdgeView S}
    (new : ClientView S) (what : MessageView) (r : Result A E) → IsKept view gives rules source client v
    → OnOk r (Receives rules.form client new what) → OnErr r (ReceivesPart rules.form client new what)
    → ReceivesAs (is_ok r) v.trace.state.rules.form v.trace.state.client new what
receives_now {S} {A} {E} view {gives} {rules} {source} {client} {v} new what r now all part =
    subst (λ (c : ClientView S). ReceivesAs (is_ok r) v.trace.state.rules.form c new what) (sym now.same_client)
    (subst (λ (rules : Rules). ReceivesAs (is_ok r) rules.form client new what) (sym now.same_rules) (receives_as rules client new what r all part))

-- the event of a message that was sent
pub may_sent : {S A E : Type 0} (view : S → StoreView) {gives : SourceView → Gives} {rules : Rules} {source : SourceView} {client : ClientView S} {t v : EdgeView S}
    (new : ClientView S) (what : MessageView) (r : Result A E) → IsKept view gives rules source client t → t ≡ v → IsDue v.trace.state v.trace.state.at what
    → OnOk r (Receives rules.form client new what) → OnErr r (ReceivesPart rules.form client new what)
    → May view v.trace.state (event.Sent what (is_ok r) new)
may_sent {S} {A} {E} view {gives} {rules} {source} {client} {t} {v} new what r kept is due all part =
    (due, receives_now view new what r (subst (IsKept view gives rules source client) is kept) all part)

-- what the client has then, and the trace
pub sent_so : {S A E : Type 0} (view : S → StoreView) {gives : SourceView → Gives} {rules : Rules} {source : SourceView} {client : ClientView S} {t v : EdgeView S} {u : Trace S}
    (new : ClientView S) (what : MessageView) (r : Result A E) (all_of_it : Bool) → is_ok r ≡ all_of_it → IsKept view gives rules source client t → t ≡ v
    → u ≡ then t.trace (event.Sent what (is_ok r) new)
    → OnOk r (Receives rules.form client new what) → OnErr r (ReceivesPart rules.form client new what)
    → ReceivesAs all_of_it v.trace.state.rules.form v.trace.state.client new what × (u ≡ then v.trace (event.Sent what all_of_it new))
sent_so {S} {A} {E} view {gives} {rules} {source} {client} {t} {v} {u} new what r all_of_it so kept is noted all part = (
  subst (λ (all_of_it : Bool). ReceivesAs all_of_it v.trace.state.rules.form v.trace.state.client new what) so
      (receives_now view new what r (subst (IsKept view gives rules source client) is kept) all part),
  noted ∙ ap (λ (v : EdgeView S). then v.trace (event.Sent what (is_ok r) new)) is
      ∙ ap (λ (all_of_it : Bool). then v.trace (event.Sent what all_of_it new)) so,
)
