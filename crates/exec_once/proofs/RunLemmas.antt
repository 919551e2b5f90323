-- An action that is run once, from its start to its end.
use Rattle.std.proofs.Common.{◌≡◌, ◌∙◌, subst, ℕ, List, Option}
use Rattle.std.specs.Prelude.{Result, Ok, Err, Some, None}
use Rattle.std.specs.declared.io.Error.{Error}
use Rattle.std.specs.declared.process.ExitStatus.{ExitStatus}
use Rattle.ocf_env.specs.Locations.{SiteView}
use Rattle.agent_system.specs.SystemView.{SystemView}
use Rattle.agent_system.specs.declared.agent_process.AgentProcess.{AgentProcess}
use Rattle.agent_metadata.specs.Asking.{AsksFor, AsksNone, OnlyPolls, SendsNone}
use Rattle.agent_metadata.proofs.RunLemmas.{asked_on, killed_before}
use Rattle.exec_once.specs.Calls.{IsCallFor}
use Rattle.exec_once.specs.Ends.{EndsAs, IsEndBy}
use Rattle.exec_once.specs.Runs.{IsKilledAt, IsRunBy, RunsOnce}
use Rattle.exec_once.specs.declared.call.OnceCall.{OnceCall}
use Rattle.exec_once.specs.declared.ending.OnceEnd.{OnceEnd}
use Rattle.exec_once.specs.declared.ending.OnceEnd.TheVariants.{Exited, Signaled, TimedOut, Lost, NotStarted}

-- an agent of which no status came was killed since each earlier view without signals
killed_at : (v x w : SystemView) (p : AgentProcess) (end : OnceEnd) → SendsNone v x → IsKilledAt x w p end → IsKilledAt v w p end
killed_at v x w p TimedOut quiet killed = killed_before v x w p quiet killed
killed_at v x w p Lost quiet killed = killed_before v x w p quiet killed
killed_at v x w p (Exited code) quiet killed = tt
killed_at v x w p (Signaled signal) quiet killed = tt
killed_at v x w p NotStarted quiet killed = tt

-- no poll reports that nothing was started
not_unstarted : (answer : Result (Option ExitStatus) Error) → IsEndBy answer NotStarted → ⊥
not_unstarted (Ok (Some status)) is = is
not_unstarted (Ok None) is = is
not_unstarted (Err error) is = is

module _ (leader : Option (List ℕ)) (site : SiteView) (c : OnceCall) (v x y w : SystemView) (p q : AgentProcess) where
  -- an agent that was asked, polled to its end, and ended if no status came, was run once
  once : (end : OnceEnd) → AsksFor leader (IsCallFor site c) v x p → SendsNone v x → OnlyPolls x y → q ≡ p → EndsAs y q end
      → AsksNone y w → w.polled ≡ y.polled → IsKilledAt y w q end → RunsOnce leader site c v w end
  once end asks quiet polls same ends none polled killed = record {
    process = p;
    asks = asked_on leader (IsCallFor site c) v y w p (asked_on leader (IsCallFor site c) v x y p asks polls.0) none;
    ends = subst (λ r. EndsAs w r end) same (record {
      before = ends.before;
      answer = ends.answer;
      polled = polled ∙ ends.polled;
      is = ends.is;
    });
    killed = subst (λ r. IsKilledAt v w r end) same (killed_at v y w q end silent killed);
  }
    where
      silent : SendsNone v y
      silent = record { sent = polls.1.sent ∙ quiet.sent; looked = polls.1.looked ∙ quiet.looked }

  pub run_by : (end : OnceEnd) → AsksFor leader (IsCallFor site c) v x p → SendsNone v x → OnlyPolls x y → q ≡ p → EndsAs y q end
      → AsksNone y w → w.polled ≡ y.polled → IsKilledAt y w q end → IsRunBy leader site c v w end
  run_by (Exited code) = once (Exited code)
  run_by (Signaled signal) = once (Signaled signal)
  run_by TimedOut = once TimedOut
  run_by Lost = once Lost
  run_by NotStarted = λ asks quiet polls same ends none polled killed. absurd (not_unstarted ends.answer ends.is)
