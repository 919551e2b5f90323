-- The lines of a status, for a program.
use Rattle.std.proofs.Common.{◌≡◌, Bool, false, Option, Some, None, refl}
use Rattle.std.specs.Prelude.{option_map}
use Rattle.serde_json.specs.Written.{has_float}
use Rattle.ocf_types.specs.declared.operation.Running.{Running}
use Rattle.resource_status.specs.declared.condition.Since.{Since}
use Rattle.resource_status.proofs.StatusLemmas.{failure_no_float, reason_no_float}
use Rattle.status_table.specs.Remarks.{reason_of, wait_of}
use Rattle.status_report.specs.StatusLines.{executor_data, running_data, since_data, status_data}
use Rattle.status_table.specs.declared.options.StatusOptions.{StatusOptions}
use Rattle.status_table.specs.declared.rows.Row.{Row}

running_no_float : (r : Option Running) → has_float (running_data r) ≡ false
running_no_float None = refl
running_no_float (Some x) = refl

since_no_float : (since : Option Since) → has_float (since_data since) ≡ false
since_no_float None = refl
since_no_float (Some since) = refl

executor_no_float : (there : Option Bool) → has_float (executor_data there) ≡ false
executor_no_float None = refl
executor_no_float (Some there) = refl

pub status_has_no_float : (options : StatusOptions) (r : Row) → has_float (status_data options r) ≡ false
status_has_no_float options r =
    rw (
      executor_no_float options.executor,
      failure_no_float (reason_of options r.id) r.failed,
      reason_no_float (wait_of options r.id),
      reason_no_float (option_map (λ t. t.now) options.identity),
      running_no_float r.running,
      since_no_float r.since,
    ) refl
