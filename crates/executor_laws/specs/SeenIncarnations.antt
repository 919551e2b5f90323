-- The observations of a history of incarnations.
use Rattle.std.specs.Prelude.{Bool, true, List, [], ◌∷◌, ◌++◌, length}
use Rattle.ocf_types.specs.declared.notice.Notice.{Notice}
use Rattle.executor.specs.Exchanges.{Calls, Exchange, Finished, Took}
use Rattle.executor_laws.specs.Incarnations.{InOpening, Up, AreIncarnations, Incarnation}
use Rattle.executor_laws.specs.Machine.{Label}
use Rattle.executor_laws.specs.Behaves.{Opening, Seen, Serving}
use Rattle.exec_ledger.specs.Pieces.{Effects}
use Rattle.executor.specs.ExecutorView.{ExecutorView}
use Rattle.executor.specs.declared.session.InputOf.TheVariants as input
use Rattle.store_model.specs.StoreView.{StoreView}

-- the notices of a call, given those that the executor holds after it: only a turn of an open executor has any
abbrev pub notices_of : Bool → Exchange → List Notice → List Notice
notices_of true (Took (input.Turn now) reply) reported = reported
notices_of true (Finished now end) reported = reported
notices_of _ _ reported = []

-- the label of a call of an executor that was open or not
abbrev pub label_in : {S : Type 0} → (S → StoreView) → Bool → Exchange → ExecutorView S → ExecutorView S → Effects → Label
label_in view was_open e old new effects = record {
  exchange = e;
  answers = effects.entries;
  notices = notices_of was_open e new.reported;
  held = new.children.held;
  tail = (view old.store).tail;
  epoch = (view old.store).epoch;
  faults = ((view old.store).failures, (view new.store).failures);
}

-- the labels of calls, one after the other
abbrev pub labels : {S : Type 0} → (view : S → StoreView) → (old : ExecutorView S) → (es : List Exchange) → (new : ExecutorView S) → (effects : Effects)
    → Calls view old es new effects → List Label
labels view old [] new effects calls = []
labels view old (e ∷ es) new effects (mid, first, later, does, rest, is) = label_in view old.is_open e old mid first ∷ labels view mid es new later rest

-- of each incarnation its labels and its report, the last incarnation first
abbrev pub seen : {S : Type 0} → (view : S → StoreView) → (goes_on : List (Incarnation S) → S → Type 0) → (incarnations : List (Incarnation S))
    → AreIncarnations view goes_on incarnations → List Seen
seen view goes_on [] is = []
seen view goes_on (InOpening old new now end ∷ older) is = Opening now end ∷ seen view goes_on older is.0
seen view goes_on (Up x ∷ older) is = Serving (record {
  now = x.now;
  ran = is.2.was_running;
  queued = is.2.was_queued;
  calls = labels view x.opened is.2.calls x.returned x.done is.2.returns;
  begun = labels view x.returned is.2.begun x.last x.under_way is.2.goes_on;
  stop = x.stop;
  refuses = x.opened.refuses;
  room = x.opened.children.room;
  booked = length x.opened.children.book;
}) ∷ seen view goes_on older is.0

-- the interruptions that the openings of these incarnations reported, the first one's first
abbrev pub reports : List Seen → List Notice
reports [] = []
reports (Opening now end ∷ older) = reports older
reports (Serving x ∷ older) = reports older ++ x.ran
