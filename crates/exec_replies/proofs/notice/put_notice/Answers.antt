use Rattle.std.proofs.lemmas.Result.{on_ok_weaker}
use Rattle.exec_replies.proofs.AddLemmas.{added}
use Rattle.exec_replies.proofs.NoticeLemmas.{report_tokens, turn_tokens}
use Rattle.exec_replies.proofs.notice.put_notice.Goals as goal

pub returns-in-Timed-Opening : goal.returns-in-Timed-Opening
returns-in-Timed-Opening c = record {
  ok =
      let it = c.in-Timed-Opening in
      on_ok_weaker c.put_report.result (added _ _ _ _ (report_tokens c.args.tagged it.service c.args.origin c.args.notice.now it.is-0 it.is-1))
      c.put_report.ensures.ok;
}

pub returns-in-Timed-Turn : goal.returns-in-Timed-Turn
returns-in-Timed-Turn c = record {
  ok =
      let it = c.in-Timed-Turn in
      on_ok_weaker c.put_turn.result (added _ _ _ _ (turn_tokens c.args.tagged it.field-0-0 c.args.origin it.signal c.args.notice.now it.is-0 it.is-1))
      c.put_turn.ensures.ok;
}
