-- The view of a report, and the events that results are.
use Rattle.std.specs.Prelude.{◌≡◌, List}
use Rattle.ocf_types.specs.Kinds.{Event}
use Rattle.ocf_types.specs.declared.event.Change.TheVariants as change
use Rattle.ocf_types.specs.declared.event.Step.TheVariants as step
use Rattle.ocf_types.specs.declared.notice.Notice.{Notice}
use Rattle.ocf_types.specs.declared.outcome.Outcome.TheVariants.{Run}
use Rattle.ocf_types.specs.declared.outcome.RunEnd.{RunEnd}
use Rattle.executor.specs.declared.report.Report.{Report}
use Rattle.executor.specs.declared.report.Reported.{Reported}

-- the notices of the interrupted and of the dropped actions
pub record ReportView : Type 0 where
  pub interrupted : List Notice
  pub dropped : List Notice

-- the view of a report, and of a report that an executor remembers
abbrev pub report_of : {M : Type 0} → Report M → ReportView
report_of r = record { interrupted = r.interrupted.items; dropped = r.dropped.items }

abbrev pub remembered_report : Reported → ReportView
remembered_report r = record { interrupted = r.interrupted.items; dropped = r.dropped.items }

-- the notice is of the result that this event is: of that resource's run, which ended so at that moment
pub record IsOfResult (n : Notice) (e : Event) : Type 0 where
  pub end : RunEnd
  pub is : e ≡ record { at = n.result.at; change = change.Step n.id (step.Result n.result.run end) }
  pub ended : n.result.outcome ≡ Run end
