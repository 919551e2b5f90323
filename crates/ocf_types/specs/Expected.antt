-- The exit codes that are expected of an action, and the outcomes that are failures.
use Rattle.std.specs.Prelude.{ℕ, ◌==◌, ◌||◌, not, Bool, false, [], ◌∷◌, Option, unwrap_or}
use Rattle.std.specs.List.{find}
use Rattle.ocf_types.specs.declared.action.Action.{Action}
use Rattle.ocf_types.specs.declared.action.Action.TheVariants.{Monitor}
use Rattle.ocf_types.specs.declared.expect.Expect.{Expect}
use Rattle.ocf_types.specs.declared.expect.Expect.TheVariants.{Success, NotRunning, RunningPromoted}
use Rattle.ocf_types.specs.Outcomes.{outcome_row}
use Rattle.ocf_types.specs.declared.outcome.Outcome.{Outcome}
use Rattle.ocf_types.specs.declared.notice.Notice.{Notice}

-- OCF Resource Agent API 1.1, exit codes: OCF_SUCCESS, OCF_NOT_RUNNING, OCF_RUNNING_PROMOTED
abbrev pub expect_code : Expect → ℕ
expect_code Success = 0
expect_code NotRunning = 7
expect_code RunningPromoted = 8

-- the expectation of an exit code
abbrev pub expect_of_code : ℕ → Option Expect
expect_of_code n = find (λ x. n == expect_code x) (Success ∷ NotRunning ∷ RunningPromoted ∷ [])

-- the resource was found as expected, but degraded: Pacemaker Administration, exit codes: OCF_DEGRADED, OCF_DEGRADED_PROMOTED
abbrev pub is_degraded : Expect → ℕ → Bool
is_degraded Success code = code == 190
is_degraded NotRunning code = false
is_degraded RunningPromoted code = code == 191

-- the exit code is the expected one: a monitor may also find the resource degraded; every other action is to succeed
abbrev pub is_expected : Action → Expect → ℕ → Bool
is_expected Monitor x code = (code == expect_code x) || is_degraded x code
is_expected _ x code = code == 0

-- the outcome is a failure: as its row says, or by an exit code that is not expected
abbrev pub has_failed : Action → Expect → Outcome → Bool
has_failed action x o = unwrap_or (outcome_row o).failed (not (is_expected action x (outcome_row o).code))

-- the result is a failure, by what was expected of its action
abbrev pub is_failure : Notice → Bool
is_failure n = has_failed n.result.action n.expect n.result.outcome
