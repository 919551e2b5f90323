-- The tags of the lines of a session.
use Rattle.std.specs.Prelude.{◌+◌, ℕ, Bool, true, List, [], ◌∷◌, length, map}
use Rattle.std.specs.List.{list_all}
use Rattle.exec_client.specs.MessageView.{MessageView, Replies, Reply}
use Rattle.exec_client.specs.Tags.{LineTag}
use Rattle.session_machine.specs.Events.{Event}
use Rattle.session_machine.specs.Events as event
use Rattle.session_machine.specs.Replies.{HasTagOf, IsReadAs}
use Rattle.session_machine.specs.Session.{ReadLine, SessionState}
use Rattle.session_machine.specs.declared.rules.Mode.{Mode}

-- an event is no send that failed
abbrev pub is_sent : {S : Type 0} → Event S → Bool
is_sent (event.Sent what all client) = all
is_sent _ = true

-- no send has failed
abbrev pub all_sent : {S : Type 0} → List (Event S) → Bool
all_sent events = list_all is_sent events

-- the tags of the lines that are not answered
abbrev pub tags_in : {S : Type 0} → SessionState S → List LineTag
tags_in s = map (λ l. l.tag) s.lines

-- a line was read like this from some bytes, and has the tag that these give
abbrev pub IsLineRead : Mode → ReadLine → Type 0
IsLineRead mode l = (bytes : List ℕ) × IsReadAs mode bytes l.line × HasTagOf mode bytes l.line l.tag

-- the number of lines that a message answers, and that messages answer
abbrev pub answered_in : MessageView → ℕ
answered_in (Reply reply) = 1
answered_in (Replies replies) = length replies
answered_in _ = 0

abbrev pub all_answered_in : List MessageView → ℕ
all_answered_in [] = 0
all_answered_in (m ∷ ms) = answered_in m + all_answered_in ms
