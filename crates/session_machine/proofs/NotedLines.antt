-- The event of a line that was noted.
use Rattle.std.proofs.Common.{◌≡◌, ℕ, Bool, true, false, List, [], None, Result, Ok, Err, IsTrue, refl, if◌then◌else◌}
use Rattle.std.specs.Prelude.{is_ok}
use Rattle.growth.specs.Refused.{refuses_here}
use Rattle.ocf_model.specs.declared.refusal.Refusal.{Refusal}
use Rattle.ocf_model.specs.declared.refusal.Refusal.TheVariants.{Memory}
use Rattle.store_model.specs.StoreView.{StoreView}
use Rattle.exec_commands.specs.declared.line.Line.{Line}
use Rattle.exec_client.specs.ClientView.{ClientView, noting_tag}
use Rattle.exec_client.specs.Tags.{LineTag}
use Rattle.exec_lines.specs.Inputs.{InputView}
use Rattle.session_machine.specs.Behaviours.{May}
use Rattle.session_machine.specs.EdgeView.{IsGivenIn, tick_of}
use Rattle.session_machine.specs.Events.{Event, Noted}
use Rattle.session_machine.specs.May.{MayNote}
use Rattle.session_machine.specs.Replies.{HasTagOf, IsReadAs}
use Rattle.session_machine.specs.Session.{SessionState}
use Rattle.session_machine.specs.Starts.{Gives}
use Rattle.session_machine.specs.declared.rules.Mode.{Mode}
use Rattle.session_machine.specs.declared.rules.Mode.TheVariants.{Run, Serve}
use Rattle.session_machine.proofs.EdgeLemmas.{AsksInput, asks_nothing, client_after}

-- where no memory is there for its tag, a line is refused for that
abbrev pub noted_as : {S : Type 0} → Bool → Result Line Refusal → LineTag → Event S
noted_as true found tag = Noted found tag
noted_as false found tag = Noted (Err Memory) None

read_short : (mode : Mode) (bytes : List ℕ) → IsReadAs mode bytes (Err Memory)
read_short Run bytes = λ other. absurd (other refl)
read_short Serve bytes = λ other. absurd (other refl)

tag_short : (mode : Mode) (bytes : List ℕ) → HasTagOf mode bytes (Err Memory) None
tag_short Run bytes = refl
tag_short Serve bytes = refl

pub noted_may : {S T E : Type 0} (view : S → StoreView) (s : SessionState S) (given : Result T E) (found : Result Line Refusal) (tag : LineTag)
    → MayNote s found tag → (E → IsTrue refuses_here) → May view s (noted_as (is_ok given) found tag)
noted_may view s (Ok done) found tag may refuses = may
noted_may view s (Err why) found tag (bytes, was, read, tagged, cause) refuses =
    (bytes, was, read_short s.rules.mode bytes, tag_short s.rules.mode bytes, λ short. refuses why)

pub noted_asks : (S : Type 0) (input : InputView) (noted : Bool) (found : Result Line Refusal) (tag : LineTag)
    → AsksInput {S = S} input input (noted_as noted found tag)
noted_asks S input true found tag = asks_nothing _ _ refl refl
noted_asks S input false found tag = asks_nothing _ _ refl refl

pub noted_ticks : (S : Type 0) (noted : Bool) (found : Result Line Refusal) (tag : LineTag) → tick_of {S = S} (noted_as noted found tag) ≡ []
noted_ticks S true found tag = refl
noted_ticks S false found tag = refl

pub noted_given : (S : Type 0) (gives : Gives) (noted : Bool) (found : Result Line Refusal) (tag : LineTag)
    → IsGivenIn {S = S} gives (noted_as noted found tag)
noted_given S gives true found tag = tt
noted_given S gives false found tag = tt

pub noted_client : {S : Type 0} (client : ClientView S) (noted : Bool) (found : Result Line Refusal) (tag : LineTag)
    → noting_tag client (if noted then tag else None) ≡ client_after client (noted_as noted found tag)
noted_client client true found tag = refl
noted_client client false found tag = refl
