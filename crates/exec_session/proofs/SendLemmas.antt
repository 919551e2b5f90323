-- Messages that were sent.
use Rattle.std.proofs.Common.{◌≡◌, true, Result, Ok, Err, OnOk, ap, subst, ◌∙◌}
use Rattle.std.specs.Prelude.{is_ok}
use Rattle.exec_client.specs.ClientView.{ClientView}
use Rattle.exec_client.specs.MessageView.{MessageView}
use Rattle.exec_replies.specs.declared.notice.NoticeForm.{NoticeForm}
use Rattle.session_machine.specs.Behaviours.{ReceivesAs, Trace, then}
use Rattle.session_machine.specs.Events.{Sent}
use Rattle.exec_session.specs.Standing.{Sends}

module _ {S : Type 0} where
  -- the message was sent, or not
  pub sends : {T E : Type 0} (old at new : Trace S) (what : MessageView) (form : NoticeForm) (result : Result T E) → at ≡ old
      → (client : ClientView S) × ReceivesAs (is_ok result) form at.state.client client what × (new ≡ then at (Sent what (is_ok result) client))
      → OnOk result (Sends old new what)
  sends old at new what form (Ok done) same (client, receives, is) = (client, is ∙ ap (λ (t : Trace S). then t (Sent what true client)) same)
  sends old at new what form (Err why) same sent = tt

  pub sends_as : {T E : Type 0} (old at new : Trace S) (what said : MessageView) (form : NoticeForm) (result : Result T E) → at ≡ old
      → said ≡ what
      → (client : ClientView S) × ReceivesAs (is_ok result) form at.state.client client said × (new ≡ then at (Sent said (is_ok result) client))
      → OnOk result (Sends old new what)
  sends_as old at new what said form result same is sent =
      subst (λ (m : MessageView). OnOk result (Sends old new m)) is (sends old at new said form result same sent)
