-- Turns of an executor, turns that begin nothing, and the calls on its children.
use Rattle.std.specs.Prelude.{◌≡◌, ◌↔◌, ◌*◌, ◌<◌, ℕ, Bool, false, [], length}
use Rattle.ocf_model.specs.Answer.{moment}
use Rattle.ocf_model.specs.declared.reply.TurnEnd.{TurnEnd}
use Rattle.ocf_model.specs.declared.reply.TurnEnd.TheVariants.{BookFull, Closed, Disk}
use Rattle.child_model.specs.Children.{AllEnded, ChildrenView, emptied}
use Rattle.exec_ledger.specs.LedgerView.{While}
use Rattle.exec_ledger.specs.BatchStarts.{batch_start}
use Rattle.exec_turn.specs.Turn.{IsFinish, IsTurn, TurnKind}
use Rattle.exec_turn.specs.Turns.{TurnsAs}
use Rattle.executor.specs.ExecutorView.{ExecutorView, due_in}
use Rattle.store_model.specs.StoreView.{StoreView}

-- An open executor makes a turn of a kind at this moment, for which the book needs room for this many entries for each
-- resource: from one view of it to another.
pub record MakesTurn {S : Type 0} (kind : TurnKind) (entries : ℕ) (view : S → StoreView) (now : ℕ) (old new : ExecutorView S) (end : TurnEnd) : Type 0 where
  pub turns : TurnsAs kind view old.store new.store
      (batch_start old.state (due_in old) (view old.store).tail (moment old.state now) old.refuses) new.state (due_in new) old.children new.children new.reported end
  -- its site, its allocator and the report of its opening stay
  pub site : new.site ≡ old.site
  pub allocator : new.refuses ≡ old.refuses
  pub opening_report : new.opening_report ≡ old.opening_report
  -- nothing is done exactly when the book has room for fewer
  pub full : (end ≡ BookFull) ↔ (old.children.room < entries * length old.state.resources)
  pub unchanged : end ≡ BookFull → new ≡ record old { reported = [] }
  -- a disk fault alone closes it
  pub closes : (new.is_open ≡ false) ↔ (end ≡ Disk)

-- a turn that begins what has to begin: a poll, a kill and a start are three entries
abbrev pub TakesTurn : {S : Type 0} → (S → StoreView) → ℕ → ExecutorView S → ExecutorView S → TurnEnd → Type 0
TakesTurn view now old new end = MakesTurn IsTurn 3 view now old new end

-- one that begins nothing: a poll and a kill are two
abbrev pub FinishesTurn : {S : Type 0} → (S → StoreView) → ℕ → ExecutorView S → ExecutorView S → TurnEnd → Type 0
FinishesTurn view now old new end = MakesTurn IsFinish 2 view now old new end

-- both, of an executor that is open or closed: a closed one does nothing
abbrev pub TurnsWhile : Bool → {S : Type 0} → (S → StoreView) → ℕ → ExecutorView S → ExecutorView S → TurnEnd → Type 0
TurnsWhile is_open view now old new end = While is_open (TakesTurn view now old new end) ((end ≡ Closed) × (new ≡ old))

abbrev pub FinishesWhile : Bool → {S : Type 0} → (S → StoreView) → ℕ → ExecutorView S → ExecutorView S → TurnEnd → Type 0
FinishesWhile is_open view now old new end = While is_open (FinishesTurn view now old new end) ((end ≡ Closed) × (new ≡ old))

-- the executor after its children's book was emptied
abbrev pub with_empty_book : {S : Type 0} → ExecutorView S → ExecutorView S
with_empty_book x = record x { children = emptied x.children }

-- it gave up all its children, which were ended and hold any resources after it, and is closed
abbrev pub Abandons : {S : Type 0} → ExecutorView S → ExecutorView S → Type 0
Abandons old new = (children : ChildrenView) × AllEnded old.children children × (new ≡ record old { is_open = false; children = children })
