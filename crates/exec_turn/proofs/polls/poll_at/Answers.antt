use Rattle.std.proofs.Common.{◌≡◌, ◌∙◌, ℕ, List, [], ◌∷◌, ◌++◌, sym, ap, subst, append-nil, Some, None}
use Rattle.ocf_model.specs.Notices.{run_notice}
use Rattle.ocf_model.specs.Indexes.{entry_at}
use Rattle.ocf_types.specs.declared.outcome.Outcome.TheVariants.{Run}
use Rattle.ocf_types.specs.declared.notice.Notice.{Notice}
use Rattle.exec_ledger.specs.Actives.{Active}
use Rattle.exec_turn.specs.Actives.{notice_of, result_of}
use Rattle.exec_turn.proofs.Polling.{polled_none, polled_one}
use Rattle.exec_turn.proofs.polls.poll_at.Goals as goal

pub returns-in_default-clause-polled : goal.returns-in_default-clause-polled
returns-in_default-clause-polled g c =
    let e = entry_at c.args.state.now.state c.args.index in
    let none = polled_none c.args.at e.0 e.1.history.running (g.C.Children.view c.args.children.now)
    (sym c.running_at.ensures ∙ c.in_default.is) in
    ([], [], none, sym (append-nil _), sym (append-nil _))

pub returns-in_default-poll_one-clause-polled : goal.returns-in_default-poll_one-clause-polled
returns-in_default-poll_one-clause-polled g c =
    let e = entry_at c.args.state.now.state c.args.index in
    let h = c.in_default-poll_one.ensures.polled in
    let one = polled_one c.args.at e.0 c.in-Some.running e.1.history.running h.0 h.1 (g.C.Children.view c.args.children.now)
    (g.C.Children.view c.poll_one.new.children) None
    (sym c.running_at.ensures ∙ c.in-Some.is) h.2 h.3 h.4 in
    ([], [], one, sym (append-nil _), sym (append-nil _))

pub returns-clause-polled : goal.returns-clause-polled
returns-clause-polled g c =
    let e = entry_at c.args.state.now.state c.args.index in
    let h = c.in-Some-poll_one.ensures.polled in
    let end = c.in-Some-poll_one.end in
    let who : Active = record { id = e.0; running = c.in-Some.running } in
    let batch_id : c.copied-id.result ≡ e.0 = ◌∙◌ {c = e.0} c.copied-id.ensures c.id_at.ensures in
    let reported_id : c.copied-id-2.result ≡ e.0 = ◌∙◌ {c = e.0} c.copied-id-2.ensures c.id_at-2.ensures in
    let one = polled_one c.args.at e.0 c.in-Some.running e.1.history.running h.0 h.1 (g.C.Children.view c.args.children.now)
    (g.C.Children.view c.poll_one.new.children) (Some end)
    (sym c.running_at.ensures ∙ c.in-Some.is) h.2 h.3 h.4 in (
      result_of c.args.at who end ∷ [],
      notice_of c.args.at who end ∷ [],
      one,
      subst (λ (id : List ℕ). c.push_reserved.new.self.items
          ≡ c.args.batch.now.items ++ result_of c.args.at (record { id = id; running = c.in-Some.running }) end ∷ [])
          batch_id c.push_reserved.ensures.items,
      subst (λ (n : Notice). c.push_reserved-2.new.self.items ≡ c.args.notices.now.items ++ n ∷ [])
          (c.run_notice-notice.ensures ∙ ap (λ (id : List ℕ). run_notice id (Run end) c.args.at c.in-Some.running) reported_id)
          c.push_reserved-2.ensures.items,
    )
