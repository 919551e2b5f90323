use Rattle.std.proofs.Common.{◌≡◌, [], true, ap, subst, sym, refl, ◌∙◌}
use Rattle.ocf_model.specs.Due.{due_at}
use Rattle.ocf_model.specs.State.{State}
use Rattle.exec_ledger.specs.LedgerView.{LedgerView, ledger_view}
use Rattle.exec_turn.specs.Turns.{turn_notices}
use Rattle.executor.specs.OnStores.{IsOver, NotOpenedOn}
use Rattle.executor.specs.Interruptions.{dropped, interrupted}
use Rattle.executor.specs.Reports.{ReportView, remembered_report}
use Rattle.executor.specs.ExecutorView.{executor_view}
use Rattle.executor.specs.declared.opening.OnFault.{OnFault}
use Rattle.executor.specs.declared.opening.OpenError.{OpenError}
use Rattle.executor.proofs.Openings.Over.{boot_refused, never_memory, opened, unready}
use Rattle.executor.proofs.executor.On.on.Goals as goal

-- the remembered report before there is one
abbrev unreported : ReportView
unreported = record { interrupted = []; dropped = [] }

pub returns-in-Err-clause-failed : goal.returns-in-Err-clause-failed
returns-in-Err-clause-failed g c =
    let view = g.S.Store.view in
    let from = g.C.Children.view c.args.children in
    let to = g.C.Children.view c.make_ready.new.children in
    let store = c.args.held.0 in
    let s = c.args.held.1.state in
    subst (λ (f : OnFault _ _). NotOpenedOn view s store f.store from (g.C.Children.view f.children) c.args.now f.why) (sym c.new.ensures.made)
    (unready view c.lemma_lawful.ensures.lawful store s c.requires.settled from to c.args.now c.in-Err.why c.in-Err.ensures.refused)

pub invariant_of-executor : goal.invariant_of-executor
invariant_of-executor g c is_open =
    let view = g.S.Store.view in
    let from = g.C.Children.view c.args.children in
    let kids = g.C.Children.view c.make_ready.new.children in
    let reported = turn_notices c.in-Ok.ready.buffers in
    let mid = executor_view (ledger_view true c.args.held.0 c.args.held.1) kids c.args.site reported unreported in
    let ready = c.in-Ok.ensures.ready in
    let over : IsOver from mid = record { is_open = refl; children = ready.1; reported = ready.0; rising = ready.2 } in
    let ledger = c.in-Ok-open.ledger in
    let final = executor_view c.restart.new.self kids c.args.site reported (remembered_report c.remembered-opening_report.result) in
    let same = c.restart.ensures.same in
    let state = ap (λ (h : LedgerView _). h.state) same in
    let at = c.moment-at.ensures in
    let kept = c.remembered-opening_report.ensures in
    let report = c.in-Ok.ready.report in
    let remembers : final.opening_report ≡ record { interrupted = report.interrupted.items; dropped = report.dropped.items } =
    λ i. record { interrupted = kept.interrupted i; dropped = kept.dropped i } in
    let due = c.restart.ensures.due ∙ ap (λ (s : State). due_at s c.moment-at.result) (sym state) ∙ ap (λ m. due_at final.state m) at in
    let keeps = (opened view from c.args.now mid over ledger (tt {0}) final report.interrupted.items report.dropped.items c.in-Ok-open.ensures.opened
    (ap (λ (h : LedgerView _). h.is_open) same ∙ c.in-Ok-open.ensures.opened.still_open) state (ap (λ (h : LedgerView _). h.store) same) due refl refl
    remembers (c.in-Ok.ensures.interrupted ∙ ap (interrupted mid.state) at) (c.in-Ok.ensures.dropped ∙ ap (dropped mid.state) at) c.requires.site).sound is_open in
    record { matched = keeps.matched; admits = keeps.admits }

pub returns-in-Ok-open-clause-opened : goal.returns-in-Ok-open-clause-opened
returns-in-Ok-open-clause-opened g c =
    let view = g.S.Store.view in
    let from = g.C.Children.view c.args.children in
    let kids = g.C.Children.view c.make_ready.new.children in
    let reported = turn_notices c.in-Ok.ready.buffers in
    let mid = executor_view (ledger_view true c.args.held.0 c.args.held.1) kids c.args.site reported unreported in
    let ready = c.in-Ok.ensures.ready in
    let over : IsOver from mid = record { is_open = refl; children = ready.1; reported = ready.0; rising = ready.2 } in
    let ledger = c.in-Ok-open.ledger in
    let final = executor_view c.restart.new.self kids c.args.site reported (remembered_report c.remembered-opening_report.result) in
    let same = c.restart.ensures.same in
    let state = ap (λ (h : LedgerView _). h.state) same in
    let at = c.moment-at.ensures in
    let kept = c.remembered-opening_report.ensures in
    let report = c.in-Ok.ready.report in
    let remembers : final.opening_report ≡ record { interrupted = report.interrupted.items; dropped = report.dropped.items } =
    λ i. record { interrupted = kept.interrupted i; dropped = kept.dropped i } in
    let due = c.restart.ensures.due ∙ ap (λ (s : State). due_at s c.moment-at.result) (sym state) ∙ ap (λ m. due_at final.state m) at in
    opened view from c.args.now mid over ledger (tt {0}) final report.interrupted.items report.dropped.items c.in-Ok-open.ensures.opened
    (ap (λ (h : LedgerView _). h.is_open) same ∙ c.in-Ok-open.ensures.opened.still_open) state (ap (λ (h : LedgerView _). h.store) same) due refl refl
    remembers (c.in-Ok.ensures.interrupted ∙ ap (interrupted mid.state) at) (c.in-Ok.ensures.dropped ∙ ap (dropped mid.state) at) c.requires.site

pub returns-in-Err-open-clause-failed : goal.returns-in-Err-open-clause-failed
returns-in-Err-open-clause-failed g c =
    let view = g.S.Store.view in
    let from = g.C.Children.view c.args.children in
    let kids = g.C.Children.view c.make_ready.new.children in
    let reported = turn_notices c.in-Ok.ready.buffers in
    let mid = executor_view (ledger_view true c.args.held.0 c.args.held.1) kids c.args.site reported unreported in
    let ready = c.in-Ok.ensures.ready in
    let over : IsOver from mid = record { is_open = refl; children = ready.1; reported = ready.0; rising = ready.2 } in
    let failed = c.in-Err-open.ensures.failed in
    subst (λ (f : OnFault _ _). NotOpenedOn view mid.state mid.store f.store from (g.C.Children.view f.children) c.args.now f.why)
    (sym c.new-in-Err-open.ensures.made)
    (subst (λ (w : OpenError). NotOpenedOn view mid.state mid.store c.in-Err-open.store from kids c.args.now w) (sym c.from.ensures)
    (boot_refused view from c.args.now mid over failed.0 c.in-Err-open.fault c.in-Err-open.store failed.1 failed.2))

pub returns-in-Err-open-clause-memory : goal.returns-in-Err-open-clause-memory
returns-in-Err-open-clause-memory g c =
    λ lacks. absurd (never_memory c.in-Err-open.fault
    (sym c.from.ensures ∙ sym (ap (λ (f : OnFault _ _). f.why) c.new-in-Err-open.ensures.made) ∙ lacks))
