-- The metrics of a journal, computed on examples.
use Rattle.std.proofs.Common.{◌≡◌, ℕ, List, [], ◌∷◌, ◌++◌, Some, refl}
use Rattle.std.specs.Prelude.{codes}
use Rattle.std.specs.Fmt.{digits}
use Rattle.ocf_model.specs.Resource.{Resource, no_history}
use Rattle.ocf_types.specs.declared.action.Action.TheVariants as action
use Rattle.ocf_types.specs.declared.operation.Ended.{Ended}
use Rattle.ocf_types.specs.declared.outcome.Outcome.TheVariants.{Run}
use Rattle.ocf_types.specs.declared.outcome.RunEnd.TheVariants.{Done, TimedOut}
use Rattle.resource_status.specs.Conditions.{held_in}
use Rattle.exec_metrics.specs.Labels.{label}
use Rattle.exec_metrics.specs.Families.{header}
use Rattle.exec_metrics.specs.Metrics.{samples}
use Rattle.exec_metrics.specs.Samples.{bare}
use Rattle.resource_status.specs.Counts.{no_runs}
use Rattle.exec_metrics.specs.declared.family.Family.{Family}
use Rattle.exec_metrics.specs.declared.family.Family.TheVariants as family

-- a counter of one sample
runs : header family.Runs (codes "Begun.") ++ bare family.Runs 17
    ≡ codes "# HELP ocfexec_runs_total Begun.\n# TYPE ocfexec_runs_total counter\nocfexec_runs_total 17\n"
unfolding digits
runs = refl

-- the bytes that are escaped, and an id, which never has one
escapes : label (codes "a") (codes "x\"y\\z\n") ≡ codes "a=\"x\\\"y\\\\z\\n\""
escapes = refl

-- the results of a resource that was started at 1 s, whose monitor of call 2 ran past its timeout at 9.5 s
abbrev start : Ended
start = record { call = 1; run = 1; action = action.Start; interval = 0; since = 0; at = 1000; outcome = Run (Done 0) }

abbrev late : Ended
late = record { call = 2; run = 2; action = action.Monitor; interval = 5000; since = 9000; at = 9500; outcome = Run TimedOut }

abbrev web : List ℕ × Resource
web = (
  codes "web",
  record {
    provider = codes "heartbeat";
    agent = codes "nginx";
    params = [];
    history = record no_history { ended = start ∷ late ∷ []; failed = Some late };
    recurring = [];
  },
)

-- its samples in a family, 3.2 s after that
abbrev of_web : Family → List ℕ
of_web f =
    samples (record { now = 12700; size = record { epoch = 1; bytes = 0 }; counts = λ id. no_runs; recorded = λ id. held_in web.1.history }) f web

states : of_web family.State
    ≡ codes "ocfexec_resource_state{resource=\"web\",state=\"never run\"} 0\nocfexec_resource_state{resource=\"web\",state=\"started\"} 0\n"
    ++ codes "ocfexec_resource_state{resource=\"web\",state=\"promoted\"} 0\nocfexec_resource_state{resource=\"web\",state=\"stopped\"} 0\n"
    ++ codes "ocfexec_resource_state{resource=\"web\",state=\"failed\"} 0\nocfexec_resource_state{resource=\"web\",state=\"unknown\"} 1\n"
unfolding digits
states = refl

last : of_web family.LastCode ≡ codes "ocfexec_resource_last_code{resource=\"web\",action=\"monitor\",outcome=\"timed-out\"} 1\n"
unfolding digits
last = refl

age : of_web family.LastAge ≡ codes "ocfexec_resource_last_age_seconds{resource=\"web\"} 3\n"
unfolding digits
age = refl

idle : of_web family.Running ≡ codes "ocfexec_resource_running_actions{resource=\"web\"} 0\n"
unfolding digits
idle = refl

none : (of_web family.MonitorCode ≡ []) × (of_web family.Epoch ≡ [])
none = (refl, refl)
