-- The families of metrics: their names and types in the text format of Prometheus (exposition formats, version 0.0.4).
use Rattle.std.specs.Prelude.{ℕ, List, ◌++◌, codes}
use Rattle.exec_metrics.specs.declared.family.Family.{Family}
use Rattle.exec_metrics.specs.declared.family.Family.TheVariants as family

abbrev pub name : Family → List ℕ
name family.Epoch = codes "ocfexec_journal_epoch"
name family.Bytes = codes "ocfexec_journal_bytes"
name family.Calls = codes "ocfexec_calls_total"
name family.Runs = codes "ocfexec_runs_total"
name family.Resources = codes "ocfexec_resources"
name family.State = codes "ocfexec_resource_state"
name family.Queued = codes "ocfexec_resource_queued_actions"
name family.Running = codes "ocfexec_resource_running_actions"
name family.ResourceRuns = codes "ocfexec_resource_runs_total"
name family.ResourceFailures = codes "ocfexec_resource_failures_total"
name family.LastCode = codes "ocfexec_resource_last_code"
name family.LastAge = codes "ocfexec_resource_last_age_seconds"
name family.FailureCode = codes "ocfexec_resource_failure_code"
name family.FailureAge = codes "ocfexec_resource_failure_age_seconds"
name family.MonitorCode = codes "ocfexec_monitor_last_code"
name family.MonitorAge = codes "ocfexec_monitor_last_age_seconds"
name family.Up = codes "ocfexec_up"
name family.Opened = codes "ocfexec_start_time_seconds"
name family.RecordAge = codes "ocfexec_last_record_age_seconds"
name family.Held = codes "ocfexec_resource_held"

-- the type of a family: a value that only increases is a counter
abbrev pub kind : Family → List ℕ
kind family.Calls = codes "counter"
kind family.Runs = codes "counter"
kind family.ResourceRuns = codes "counter"
kind family.ResourceFailures = codes "counter"
kind _ = codes "gauge"

-- the two lines before the samples of a family, with this help
abbrev pub header : Family → List ℕ → List ℕ
header f help = codes "# HELP " ++ name f ++ codes " " ++ help ++ codes "\n# TYPE " ++ name f ++ codes " " ++ kind f ++ codes "\n"
