-- All that a session has sent and owes is backed by what its executor recorded.
use Rattle.std.specs.Prelude.{◌≡◌, List, [], ◌∷◌, ◌++◌, drop}
use Rattle.std.specs.List.{AllByRecursion}
use Rattle.store_model.specs.StoreView.{StoreView}
use Rattle.exec_client.specs.MaySend.{IsBacked, IsOfView}
use Rattle.exec_client.specs.MessageView.{MessageView}
use Rattle.exec_client.specs.SentItem.{SentItem, sent_in}
use Rattle.exec_client.specs.Sends.{ClaimsNothing}
use Rattle.session_machine.specs.Session.{At, SessionState, Sending}

-- the messages that a session sends before it does anything else
abbrev pub owed : At → List MessageView
owed (Sending ms next) = ms
owed _ = []

-- what the first of some messages says
abbrev pub first_said : List MessageView → List SentItem
first_said [] = []
first_said (m ∷ ms) = sent_in m

-- what a session has said: all that was sent, and the message that is sent next
abbrev pub said : {S : Type 0} → SessionState S → List SentItem
said s = s.client.reported ++ first_said (owed s.at)

-- these messages acknowledge no command and report no result
abbrev pub AreAside : List MessageView → Type 0
AreAside ms = AllByRecursion (λ m. ClaimsNothing (sent_in m)) ms

-- The executor has come from its opening to where it is by calls, whose answers, with nothing left out, are all that was said, and what
-- they recorded backs it. Messages that are sent after the next one claim nothing. Each message that is sent next may be said.
pub record IsSound {S : Type 0} (view : S → StoreView) (s : SessionState S) : Type 0 where
  pub holds : IsBacked view s.client.opened s.executor (said s)
  pub aside : AreAside (drop 1 (owed s.at))
  pub says : AllByRecursion (IsOfView s.executor) (owed s.at)

-- From one state to another the executor goes on by calls alone; what is said between is exactly what these answered, and what they recorded
-- backs it.
pub record GoesByCalls {S : Type 0} (view : S → StoreView) (p q : SessionState S) : Type 0 where
  pub items : List SentItem
  pub opened : q.client.opened ≡ p.client.opened
  pub more : said q ≡ said p ++ items
  pub holds : IsBacked view p.executor q.executor items
