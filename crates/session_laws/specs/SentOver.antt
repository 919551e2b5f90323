-- What clients were sent over a history of incarnations.
use Rattle.std.specs.Prelude.{◌≡◌, List, [], ◌∷◌, ◌++◌}
use Rattle.executor_laws.specs.Incarnations.{InOpening, Up, Incarnation}
use Rattle.exec_client.specs.BackedBy.{BackedBy}
use Rattle.exec_client.specs.SentItem.{SentItem}

-- these messages were sent over these incarnations, the last one first: in each incarnation the messages are backed by what its calls had
-- recorded when they returned
abbrev pub SentOver : {S : Type 0} → List (Incarnation S) → List SentItem → Type 0
SentOver [] reported = reported ≡ []
SentOver (InOpening old new now end ∷ older) reported = SentOver older reported
SentOver (Up x ∷ older) reported =
    (before : List SentItem) × (later : List SentItem) × SentOver older before × BackedBy later x.done.events × (reported ≡ before ++ later)
