use contract.BorrowLft.{⊑_meet, ⊑_static}
use Rattle.std.proofs.Common.{rules, true, false, ap, refl}
use Rattle.std.specs.Prelude.{is_ok}
use Rattle.exec_client.specs.MessageView.{message_view}
use Rattle.session_machine.proofs.ClientLemmas.{may_send, may_sent, sent_so}
use Rattle.session_machine.proofs.EdgeLemmas.{asks_nothing, followed, ticks_none}
use Rattle.session_machine.proofs.system_edge.SystemEdgeEdge.send.Goals as goal

pub send-sent-requires : goal.send-sent-requires
send-sent-requires g c =
    record { may_send = may_send g.S.Store.view c.self.invariant.0 c.self.view_is c.requires.of c.requires.due }

pub follow-requires : goal.follow-requires
follow-requires g c κs within = Prim.search (⊑_meet, ⊑_static) depth 40 fits 20000

pub invariant_of-self : goal.invariant_of-self
invariant_of-self g c = (
  followed _ c.self.invariant.0 c.self.view_is c.follow.ensures
      (may_sent _ _ (message_view c.args.what.now) _ c.self.invariant.0 c.self.view_is c.requires.due c.send-sent.ensures.receives c.send-sent.ensures.breaks)
      (asks_nothing _ _ refl refl) (ticks_none refl) tt refl,
  c.self.invariant.1,
)

pub invariant_of-self-in-Err : goal.invariant_of-self-in-Err
invariant_of-self-in-Err g c = (
  followed _ c.self.invariant.0 c.self.view_is c.follow.ensures
      (may_sent _ _ (message_view c.args.what.now) _ c.self.invariant.0 c.self.view_is c.requires.due c.send-sent.ensures.receives c.send-sent.ensures.breaks)
      (asks_nothing _ _ refl refl) (ticks_none refl) tt refl,
  search rules,
)

pub returns-in-Ok : goal.returns-in-Ok
returns-in-Ok g c =
    let client = g.T.Client.client_view c.send-sent.new.self in
    let sent = sent_so g.S.Store.view client (message_view c.args.what.now) c.send-sent.result true (ap is_ok c.in-Ok.is) c.self.invariant.0 c.self.view_is
    c.follow.ensures c.send-sent.ensures.receives c.send-sent.ensures.breaks in
    record { sent = (client, sent.0, sent.1) }

pub returns-in-Err : goal.returns-in-Err
returns-in-Err g c =
    let client = g.T.Client.client_view c.send-sent.new.self in
    let sent = sent_so g.S.Store.view client (message_view c.args.what.now) c.send-sent.result false (ap is_ok c.in-Err.is) c.self.invariant.0 c.self.view_is
    c.follow.ensures c.send-sent.ensures.receives c.send-sent.ensures.breaks in
    record { sent = (client, sent.0, sent.1) }
