-- The answer of each call was sent.
use Rattle.std.specs.Prelude.{◌≡◌, false, List, [], ◌∷◌, ◌++◌, map}
use Rattle.std.specs.List.{AllByRecursion}
use Rattle.store_model.specs.StoreView.{StoreView}
use Rattle.executor.specs.Exchanges.{Does, Exchange, Finished, Batch, Took}
use Rattle.executor.specs.Sessions.{Effects, followed_by, no_effects}
use Rattle.executor.specs.ExecutorView.{ExecutorView}
use Rattle.executor.specs.declared.session.InputOf.TheVariants as input
use Rattle.exec_client.specs.BackedBy.{claims}
use Rattle.exec_client.specs.SentItem.{SentItem, answered, noticed_by}

-- the notices of an executor's last turn, each with the signal that ended its run according to the book of answers of that turn
abbrev pub noticed : {S : Type 0} → ExecutorView S → List SentItem
noticed x = map (noticed_by x.children.book) x.reported

-- what is sent of a call that left the executor in this view: the reply to a request, the replies to a batch of commands, or the notices
-- of a turn, also of one that begins nothing; of a tidy or an emptied book nothing is sent
abbrev pub States : {S : Type 0} → Exchange → ExecutorView S → List SentItem → Type 0
States (Took (input.Request now request) reply) new items = items ≡ answered reply ∷ []
States (Took (input.Turn now) reply) new items = items ≡ noticed new
States (Batch now commands replies) new items = items ≡ map answered replies
States (Finished now end) new items = items ≡ noticed new
States _ new items = items ≡ []

-- none of these messages claims that anything is recorded
abbrev pub ClaimsNothing : List SentItem → Type 0
ClaimsNothing items = AllByRecursion (λ s. claims s ≡ false) items

-- Calls one after the other, of each of which exactly its answer was sent, with nothing left out. Between them are messages that belong to
-- no call: a report, a refused line, metadata, the end of a drain or a tidy.
abbrev pub SendsCalls : {S : Type 0} → (S → StoreView) → ExecutorView S → List Exchange → ExecutorView S → Effects → List SentItem → Type 0
SendsCalls view old [] new effects items = (new ≡ old) × (effects ≡ no_effects) × ClaimsNothing items
SendsCalls {S} view old (e ∷ es) new effects items =
    (aside : List SentItem) × (mine : List SentItem) × (later : List SentItem) × (mid : ExecutorView S) × (first : Effects) × (rest : Effects)
    × ClaimsNothing aside × Does view e old mid first × States e mid mine × SendsCalls view mid es new rest later
    × (effects ≡ followed_by first rest) × (items ≡ aside ++ (mine ++ later))
