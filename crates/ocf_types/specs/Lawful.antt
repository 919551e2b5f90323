-- Lawful events and commands: clauses range over all numbers and lists, and so have to ask for lawful ones. What a layout can't
-- encode is not lawful in it; a name without a layout is that of the second.
use Rattle.std.specs.Prelude.{◌≡◌, ℕ, ◌≤◌, ◌<◌, IsTrue, List, ◌++◌, length, ⊤}
use Rattle.ocf_types.specs.Limits.{event_limit}
use Rattle.ocf_types.specs.Names.{is_rsc_id, is_provider, is_agent_type}
use Rattle.ocf_types.specs.Numbers.{IsMoment, IsDrawn, IsMillis}
use Rattle.ocf_types.specs.Params.{AreParams}
use Rattle.ocf_types.specs.Kinds.{Registration, Step, Change, Event, Command}
use Rattle.ocf_types.specs.Actions.{IsTask}
use Rattle.ocf_types.specs.Layouts.{EncodesExpect, KnowsWithdrawal, current}
use Rattle.ocf_types.specs.Encoding.{encoded_event_in}
use Rattle.ocf_types.specs.declared.layout.Layout.{Layout}
use Rattle.ocf_types.specs.declared.operation.Op.{Op}
use Rattle.ocf_types.specs.declared.operation.Recur.{Recur}
use Rattle.ocf_types.specs.declared.outcome.Outcome.{Outcome}
use Rattle.ocf_types.specs.declared.outcome.Outcome.TheVariants.{Run}
use Rattle.ocf_types.specs.declared.outcome.RunEnd.{RunEnd}
use Rattle.ocf_types.specs.declared.outcome.RunEnd.TheVariants.{Done}
use Rattle.ocf_types.specs.declared.event.Step.TheVariants as step
use Rattle.ocf_types.specs.declared.event.Change.TheVariants as change
use Rattle.ocf_types.specs.declared.command.CommandOf.TheVariants as command

-- a lawful resource id
abbrev pub IsId : List ℕ → Type 0
IsId id = IsTrue (is_rsc_id id)

-- a registration has lawful names and parameters
pub record IsLawfulRegistration (r : Registration) : Type 0 where
  pub id : IsId r.id
  pub provider : IsTrue (is_provider r.provider)
  pub agent : IsTrue (is_agent_type r.agent)
  pub params : AreParams r.params

-- an accepted action has a call id, a timeout, and a task whose expectation the layout can encode
abbrev pub IsLawfulOpIn : Layout → Op → Type 0
IsLawfulOpIn layout o = IsDrawn o.call × IsMillis o.timeout × EncodesExpect layout o.task.check.expect × IsTask o.task

abbrev pub IsLawfulOp : Op → Type 0
IsLawfulOp o = IsLawfulOpIn current o

-- a recurring monitor has a call id, an interval, a timeout, and an expectation that the layout can encode
abbrev pub IsLawfulRecurIn : Layout → Recur → Type 0
IsLawfulRecurIn layout m = IsDrawn m.call × IsMillis m.interval × IsMillis m.timeout × EncodesExpect layout m.check.expect

abbrev pub IsLawfulRecur : Recur → Type 0
IsLawfulRecur m = IsLawfulRecurIn current m

-- an exit code is a byte
abbrev pub IsRunEnd : RunEnd → Type 0
IsRunEnd (Done code) = code < 256
IsRunEnd _ = ⊤

-- an outcome whose exit code, if it has one, is a byte
abbrev pub IsOutcome : Outcome → Type 0
IsOutcome (Run end) = IsRunEnd end
IsOutcome _ = ⊤

-- a step has lawful numbers and parameters, and the layout can encode it
abbrev pub IsLawfulStepIn : Layout → Step → Type 0
IsLawfulStepIn layout (step.SetParams ps) = AreParams ps
IsLawfulStepIn layout (step.Exec o) = IsLawfulOpIn layout o
IsLawfulStepIn layout (step.Recur m) = IsLawfulRecurIn layout m
IsLawfulStepIn layout (step.Cancel interval) = IsMillis interval
IsLawfulStepIn layout step.Forget = ⊤
IsLawfulStepIn layout (step.Begin call run) = IsDrawn call × IsDrawn run
IsLawfulStepIn layout (step.Result run end) = IsDrawn run × IsRunEnd end
IsLawfulStepIn layout (step.Withdraw call) = IsDrawn call × KnowsWithdrawal layout

abbrev pub IsLawfulStep : Step → Type 0
IsLawfulStep s = IsLawfulStepIn current s

-- a change has lawful names, numbers and parameters, and the layout can encode it
abbrev pub IsLawfulChangeIn : Layout → Change → Type 0
IsLawfulChangeIn layout (change.Register r) = IsLawfulRegistration r
IsLawfulChangeIn layout (change.Unregister id) = IsId id
IsLawfulChangeIn layout (change.Step id s) = IsId id × IsLawfulStepIn layout s
IsLawfulChangeIn layout change.Boot = ⊤

abbrev pub IsLawfulChange : Change → Type 0
IsLawfulChange c = IsLawfulChangeIn current c

-- an event has a lawful moment and a lawful change
pub record IsLawfulEventIn (layout : Layout) (e : Event) : Type 0 where
  pub at : IsMoment e.at
  pub change : IsLawfulChangeIn layout e.change

abbrev pub IsLawfulEvent : Event → Type 0
IsLawfulEvent e = IsLawfulEventIn current e

-- an event has an encoding in a layout if it is lawful in it and has at most 16,384 bytes
pub record HasEncodingIn (layout : Layout) (e : Event) : Type 0 where
  pub lawful : IsLawfulEventIn layout e
  pub short : length (encoded_event_in layout e) ≤ event_limit

abbrev pub HasEncoding : Event → Type 0
HasEncoding e = HasEncodingIn current e

-- the bytes begin with the encoding of this event in a layout
pub record BeginsIn (layout : Layout) (bytes : List ℕ) (e : Event) : Type 0 where
  pub encoded : HasEncodingIn layout e
  pub rest : List ℕ
  pub whole : bytes ≡ encoded_event_in layout e ++ rest

abbrev pub Begins : List ℕ → Event → Type 0
Begins bytes e = BeginsIn current bytes e

-- a command has lawful names, tasks, numbers and parameters
abbrev pub IsLawfulCommand : Command → Type 0
IsLawfulCommand (command.Register r) = IsLawfulRegistration r
IsLawfulCommand (command.Unregister id) = IsId id
IsLawfulCommand (command.SetParams id ps) = IsId id × AreParams ps
IsLawfulCommand (command.Exec id t timeout) = IsId id × IsMillis timeout × IsTask t
IsLawfulCommand (command.Recur id interval timeout check) = IsId id × IsMillis interval × IsMillis timeout
IsLawfulCommand (command.Cancel id interval) = IsId id × IsMillis interval
IsLawfulCommand (command.Forget id) = IsId id
IsLawfulCommand (command.Withdraw id call) = IsId id × IsDrawn call
