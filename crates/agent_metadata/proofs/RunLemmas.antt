-- Views of the system between the start of an agent and its end.
use Rattle.std.proofs.Common.{◌≡◌, ◌∙◌, ap, inr, inl, subst, List, Option, ℕ}
use Rattle.std.specs.Prelude.{◌⊎◌, [], All, Err, Ok, Result, Some, Vec}
use Rattle.ocf_types.specs.declared.outcome.MetaFault.{MetaFault}
use Rattle.ocf_types.specs.declared.outcome.MetaFault.TheVariants.{NotStarted, Read, Failed, TooLong, Limit, Memory}
use Rattle.agent_system.specs.SystemView.{SystemView, after_ask}
use Rattle.agent_system.specs.declared.agent_process.AgentProcess.{AgentProcess}
use Rattle.agent_system.specs.declared.signal.Target.TheVariants as target
use Rattle.ocf_env.specs.Locations.{Call}
use Rattle.process_ends.specs.Endings.{HasKill, HasKilled, IsNoGroup, IsOneKilled}
use Rattle.agent_metadata.specs.Asking.{AsksFor, AsksNone, EndsOne, IsRefused, OnlyPolls, SendsNone}
use Rattle.agent_metadata.specs.MetaRuns.{AnswersBy, IsStop, RunsBy}

-- what holds of a view holds of one with the signals and the looks of an equal one
moved : (P : SystemView → Type 0) (v x : SystemView) → SendsNone v x → P x → P (record x { sent = v.sent; looked = v.looked })
moved P v x none holds =
    subst (λ l. P (record x { sent = v.sent; looked = l })) none.looked (subst (λ s. P (record x { sent = s })) none.sent holds)

-- what was killed since a view was killed since each earlier one
pub killed_before : (v x w : SystemView) (p : AgentProcess) → SendsNone v x → HasKilled x w p → HasKilled v w p
killed_before v x w p none killed = let u = killed.0 in let k = killed.2 in (
  u,
  killed.1,
  record {
    group = moved (λ z. HasKill z w (target.Group u.process.pid) ⊎ IsNoGroup z w u) v x none k.group;
    agent = λ is. moved (λ z. HasKill z w (target.Process u.process.pid)) v x none (k.agent is);
    known = moved (λ z. All (IsOneKilled z w u.process.pid) u.known) v x none k.known;
  },
)

-- an agent that was asked stays the only one while none is asked
pub asked_on : (leader : Option (List ℕ)) (Is : Call → Type 0) (v x w : SystemView) (p : AgentProcess) → AsksFor leader Is v x p
    → AsksNone x w → AsksFor leader Is v w p
asked_on leader Is v x w p asks none = let run = asks.2 in (
  asks.0,
  asks.1,
  record {
    asks = record { asked = none.asked ∙ run.asks.asked; spawned = none.spawned ∙ run.asks.spawned };
    let_run = none.let_run ∙ run.let_run;
  },
)

none_after : (v x w : SystemView) → AsksNone v x → AsksNone x w → AsksNone v w
none_after v x w first then = record {
  spawned = then.spawned ∙ first.spawned;
  asked = then.asked ∙ first.asked;
  let_run = then.let_run ∙ first.let_run;
}

-- an agent that is ended after polls was killed since before these
pub stopped : (M : Type 0) (v x w : SystemView) (p q : AgentProcess) (fault : MetaFault) → OnlyPolls v x → q ≡ p → IsStop fault
    → EndsOne x w q → AsksNone v w × (w.sights.live ≡ []) × AnswersBy {M = M} v w p (Err fault)
stopped M v x w p q fault polls same stop ends =
    (none_after v x w polls.0 ends.none, ends.live, answers fault stop)
  where
    killed : HasKilled v w p
    killed = subst (HasKilled v w) same (killed_before v x w q polls.1 ends.killed)

    answers : (fault : MetaFault) → IsStop fault → AnswersBy {M = M} v w p (Err fault)
    answers Read stop = killed
    answers Limit stop = killed
    answers (NotStarted f) stop = absurd stop
    answers (Failed c) stop = absurd stop
    answers TooLong stop = absurd stop
    answers Memory stop = absurd stop

-- an agent that could not be let run and is ended was not run
pub refused_by : (leader : Option (List ℕ)) (call : Call) (v x w : SystemView) (p q : AgentProcess) → x ≡ after_ask v call leader (Some p)
    → q ≡ p → EndsOne x w q → IsRefused leader call v w
refused_by leader call v x w p q asked same ends = inr (record {
  process = p;
  asks = record { asked = ends.none.asked ∙ ap (λ z. z.asked) asked; spawned = ends.none.spawned ∙ ap (λ z. z.spawned) asked };
  let_run = ends.none.let_run ∙ ap (λ z. z.let_run) asked;
  live = ends.live;
  killed = subst (HasKilled v w) same
      (killed_before v x w q (record { sent = ap (λ z. z.sent) asked; looked = ap (λ z. z.looked) asked }) ends.killed);
})

-- an agent that was asked and has answered after polls
pub answered : (M : Type 0) (leader : Option (List ℕ)) (Is : Call → Type 0) (v x w : SystemView) (p : AgentProcess) (answer : Result (Vec ℕ M) MetaFault)
    → AsksFor leader Is v x p → SendsNone v x → AsksNone x w → AnswersBy x w p answer → RunsBy leader Is v w answer
answered M leader Is v x w p answer asks quiet none answers = inl (p, asked_on leader Is v x w p asks none, by answer answers)
  where
    by : (answer : Result (Vec ℕ M) MetaFault) → AnswersBy x w p answer → AnswersBy v w p answer
    by (Ok metadata) ended = ended
    by (Err (Failed code)) ended = ended
    by (Err TooLong) ended = ended
    by (Err Read) killed = killed_before v x w p quiet killed
    by (Err Limit) killed = killed_before v x w p quiet killed
    by (Err (NotStarted f)) none = none
    by (Err Memory) none = none
