-- Events, commands and requests, with their parameters as plain lists.
use Rattle.ocf_types.specs.Params.{ParamList}
use Rattle.ocf_types.specs.declared.event.Registration.{Registration as RegistrationOf}
use Rattle.ocf_types.specs.declared.event.Step.{Step as StepOf}
use Rattle.ocf_types.specs.declared.event.Change.{Change as ChangeOf}
use Rattle.ocf_types.specs.declared.event.EventOf.{EventOf}
use Rattle.ocf_types.specs.declared.command.CommandOf.{CommandOf}
use Rattle.ocf_types.specs.declared.command.RequestOf.{RequestOf}

abbrev pub Registration : Type 0
Registration = RegistrationOf ParamList

abbrev pub Step : Type 0
Step = StepOf ParamList

abbrev pub Change : Type 0
Change = ChangeOf ParamList

abbrev pub Event : Type 0
Event = EventOf ParamList

abbrev pub Command : Type 0
Command = CommandOf ParamList

abbrev pub Request : Type 0
Request = RequestOf ParamList
