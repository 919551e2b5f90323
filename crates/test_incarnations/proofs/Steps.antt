-- Lemmas: a history grows by one incarnation.
use Rattle.std.proofs.Common.{◌≡◌, ◌≢◌, ℕ, suc, Bool, List, [], ◌∷◌, ◌++◌, length, map, Option, Some, None, refl, sym, ap, ap₂, subst, ◌∙◌, arith}
use Rattle.std.proofs.lemmas.List.{append-nil}
use Rattle.ocf_types.specs.Kinds.{Event}
use Rattle.ocf_model.specs.Answer.{Reply}
use Rattle.ocf_model.specs.State.{State, after_all, empty}
use Rattle.ocf_types.specs.declared.notice.Notice.{Notice}
use Rattle.disk_model.specs.Image.{Image}
use Rattle.disk_model.specs.MemDisk.{IsFresh, IsSame, view_of}
use Rattle.disk_model.specs.Disk.{Lawful, DiskView}
use Rattle.disk_model.specs.declared.memory.MemDisk.{MemDisk}
use Rattle.child_model.specs.Children.{ChildrenView}
use Rattle.exec_journal.specs.Found.{FoundAs, IsFreshPair}
use Rattle.exec_journal.specs.Journal.{JournalView}
use Rattle.exec_journal.specs.StoreViews.{store_view}
use Rattle.executor_laws.specs.Joins.{as_calls}
use Rattle.executor.specs.Exchanges.{Calls, Exchange}
use Rattle.executor_laws.specs.Incarnations.{InOpening, Up, AreIncarnations, SurvivingEvents, Lasted, Incarnation}
use Rattle.executor_laws.specs.OnFiles.{BeginsAs, FilesGoOn, FilesLeave}
use Rattle.executor.specs.OnStores.{OpensOn}
use Rattle.executor.specs.Openings.{NotOpened, closed_pair}
use Rattle.executor_laws.specs.Promise.{IsKept}
use Rattle.executor_laws.specs.Behaves.{Behaves}
use Rattle.executor_laws.specs.Machine.{Label}
use Rattle.executor_laws.specs.SeenIncarnations.{labels, seen}
use Rattle.executor.specs.Sessions.{Effects, Input, Session, no_effects}
use Rattle.executor.specs.ExecutorView.{ExecutorView}
use Rattle.executor.specs.declared.opening.OpenError.{OpenError}
use Rattle.executor.specs.declared.opening.OpenError.TheVariants as why
use Rattle.two_parts.specs.declared.damage.Damage.{Damage}
use Rattle.store_model.specs.StoreView.{StoreView}
use Rattle.test_incarnations.specs.History.{AreAnswered, IsHistory, IsPromised, IsIncarnation, IsRefused, MayRefuse, calls_in, seen_calls}

-- without replies there are no calls
pub unanswered : (is : List Input) → as_calls is [] ≡ []
unanswered [] = refl
unanswered (i ∷ is) = refl

module _ {D : Type 0} (view : D → DiskView) where
  -- an incarnation of an executor that was opened and made calls
  pub served : (old new : D) (from : ChildrenView) (now : ℕ) (opened last : ExecutorView (JournalView D)) (ran queued : List Notice)
      (calls : List Exchange) (d : Effects) → OpensOn (store_view view) (closed_pair old) from now opened ran queued
      → Calls (store_view view) opened calls last d → new ≡ last.store.disk
      → IsIncarnation view calls old new
  served old new from now opened last ran queued calls d opens made same = record {
    incarnation = Up (record {
      store = closed_pair old;
      now = now;
      opened = opened;
      returned = last;
      last = last;
      done = d;
      under_way = no_effects;
      stop = (view last.store.disk).clock;
    });
    sat = record {
      children = from;
      was_running = ran;
      was_queued = queued;
      opens = opens;
      calls = calls;
      returns = made;
      begun = [];
      goes_on = (refl, refl);
      following = omega arith;
    };
    made = append-nil calls;
    first = refl;
    last = sym same;
    leaves = λ honest c left. subst (λ (z : D). (view z).since (view z).clock c) same left;
  }

  -- an incarnation in which no executor was opened
  pub not_opened : (law : (d : D) → (view d).honest → Lawful (view d)) (old new : D) (from to : ChildrenView) (now : ℕ) (why : OpenError)
      → NotOpened view old new from to now why
      → Lasted (store_view view) (InOpening (closed_pair old) (closed_pair new) now (Some why)) → IsIncarnation view [] old new
  not_opened law old new from to now why refused sat = record {
    incarnation = InOpening (closed_pair old) (closed_pair new) now (Some why);
    sat = sat;
    made = refl;
    first = refl;
    last = refl;
    leaves = λ honest c left. (law new honest).earlier (view new).clock (view old).clock c refused.did.crash.passed.clock left;
  }

-- each input of a session has a reply
pub all_answered : {S : Type 0} (view : S → StoreView) (old new : ExecutorView S) (is : List Input) (rs : List Reply) (d : Effects)
    → Session view old is rs new d → length rs ≡ length is
all_answered view old new [] [] d s = refl
all_answered view old new (i ∷ is) (r ∷ rs) d (mid, first, later, takes, rest, did) =
    ap (λ (n : ℕ). suc n) (all_answered view mid new is rs later rest)
all_answered view old new [] (r ∷ rs) d s = absurd s
all_answered view old new (i ∷ is) [] d s = absurd s

-- the labels of calls have these calls, and what was seen of a history is the calls of its incarnations
abbrev exchanges : List Label → List Exchange
exchanges ls = map (λ (l : Label). l.exchange) ls

both : (ks ls : List Label) → exchanges (ks ++ ls) ≡ exchanges ks ++ exchanges ls
both [] ls = refl
both (k ∷ ks) ls = ap (λ (es : List Exchange). k.exchange ∷ es) (both ks ls)

module _ {S : Type 0} (view : S → StoreView) where
  labelled : (old : ExecutorView S) (es : List Exchange) (new : ExecutorView S) (d : Effects) (calls : Calls view old es new d)
      → exchanges (labels view old es new d calls) ≡ es
  labelled old [] new d calls = refl
  labelled old (e ∷ es) new d (mid, first, later, does, rest, is) = ap (λ (xs : List Exchange). e ∷ xs) (labelled mid es new later rest)

  pub all_seen : (goes_on : List (Incarnation S) → S → Type 0) (xs : List (Incarnation S)) (is : AreIncarnations view goes_on xs)
      → map seen_calls (seen view goes_on xs is) ≡ calls_in view goes_on xs is
  all_seen goes_on [] is = refl
  all_seen goes_on (InOpening old new now end ∷ older) is = ap (λ (cs : List (List Exchange)). [] ∷ cs) (all_seen goes_on older is.0)
  all_seen goes_on (Up x ∷ older) is =
      let returned = labels view x.opened is.2.calls x.returned x.done is.2.returns in
      let begun = labels view x.returned is.2.begun x.last x.under_way is.2.goes_on in
      let same : exchanges (returned ++ begun) ≡ is.2.calls ++ is.2.begun =
      both returned begun
      ∙ ap₂ (λ (a b : List Exchange). a ++ b) (labelled x.opened is.2.calls x.returned x.done is.2.returns)
      (labelled x.returned is.2.begun x.last x.under_way is.2.goes_on) in
      ap₂ (λ (c : List Exchange) (cs : List (List Exchange)). c ∷ cs) same (all_seen goes_on older is.0)

module _ {M : Type 0} where
  -- an opening after a history is refused for a cause
  pub may_refuse : ((start : State) (xs : List (Incarnation (JournalView (MemDisk M)))) (old new : MemDisk M) (from to : ChildrenView) (now : ℕ)
      (fault : OpenError) → AreIncarnations (store_view (λ (d : MemDisk M). view_of d)) (FilesGoOn (λ (d : MemDisk M). view_of d) start) xs
      → FilesGoOn (λ (d : MemDisk M). view_of d) start xs (closed_pair old) → NotOpened (λ (d : MemDisk M). view_of d) old new from to now fault
      → (view_of new).honest → (fault ≢ why.Full) × ((d : Damage) → fault ≢ why.Damaged d))
      → (older : List (List Exchange)) (old planned new : MemDisk M) (from : ChildrenView) (now : ℕ) (refuses : Bool) (refused : Option OpenError)
      (inputs : List Input) (replies : List Reply) → IsSame old planned → IsHistory (λ (d : MemDisk M). view_of d) older old
      → AreAnswered (IsRefused (λ (d : MemDisk M). view_of d) refuses planned new from now) refused inputs replies
      → AreAnswered (MayRefuse refuses) refused inputs replies
  may_refuse law older old planned new from now refuses None inputs replies same h answered = answered
  may_refuse law older old planned new from now refuses (Some fault) inputs replies same h (none, cause) = (none, by fault cause)
    where
      never : (f : OpenError) → IsRefused (λ (d : MemDisk M). view_of d) refuses planned new from now f → (f ≢ why.Full) × ((d : Damage) → f ≢ why.Damaged d)
      never f is = law empty h.incarnations planned new from is.to now f h.is (λ c left. h.goes_on c (same.now c left)) is.refused tt

      by : (f : OpenError) → IsRefused (λ (d : MemDisk M). view_of d) refuses planned new from now f → MayRefuse refuses f
      by why.Disk is = tt
      by (why.Damaged d) is = absurd ((never (why.Damaged d) is).1 d refl)
      by why.Memory is = is.memory refl
      by why.Foreign is = tt
      by why.Full is = absurd ((never why.Full is).0 refl)

  -- a history begins on an empty disk
  pub begins : (d : MemDisk M) → ((c : Image) → IsFreshPair c → BeginsAs empty c) → IsFresh (record { a = []; b = [] }) d
      → IsHistory (λ (x : MemDisk M). view_of x) [] d
  begins d law fresh = record {
    incarnations = [];
    is = tt;
    made = refl;
    goes_on = λ c now. law c (subst IsFreshPair (sym (fresh.now c now)) refl);
  }

  -- a history goes on by an incarnation on its disk, and a disk that its crash may leave
  pub goes_on : (calls : List Exchange) (older : List (List Exchange)) (old planned new left : MemDisk M) → IsSame old planned
      → IsIncarnation (λ (x : MemDisk M). view_of x) calls planned new
      → ((c : Image) → (view_of left).now c → (view_of new).since (view_of new).clock c)
      → IsHistory (λ (x : MemDisk M). view_of x) older old → IsHistory (λ (x : MemDisk M). view_of x) (calls ∷ older) left
  goes_on calls older old planned new left same sat leaves h = record {
    incarnations = sat.incarnation ∷ h.incarnations;
    is = (
      h.is,
      λ c now. h.goes_on c (same.now c (subst (λ (j : JournalView (MemDisk M)). (view_of j.disk).now c) sat.first now)),
      sat.sat,
      tt,
    );
    made = ap₂ (λ (x : List Exchange) (xs : List (List Exchange)). x ∷ xs) sat.made h.made;
    goes_on = λ c now. sat.leaves tt c (leaves c now);
  }

  abbrev view : MemDisk M → DiskView
  view d = view_of d

  -- the promise holds for such a history
  pub promised : ((start : State) (incarnations : List (Incarnation (JournalView (MemDisk M))))
      (is : AreIncarnations (store_view view) (FilesGoOn view start) incarnations) (c : Image)
      → FilesLeave view start incarnations c
      → (zs : List Event) × FoundAs (after_all start zs) c × Behaves start (seen (store_view view) (FilesGoOn view start) incarnations is) zs
      × SurvivingEvents start incarnations zs × IsKept start (seen (store_view view) (FilesGoOn view start) incarnations is) zs)
      → (calls : List (List Exchange)) (d : MemDisk M) → Lawful (view_of d) → IsHistory view calls d → IsPromised view calls d
  promised law calls d lawful h =
      let (zs, found, runs, surviving, kept) = law empty h.incarnations h.is (view_of d).reads (h.goes_on (view_of d).reads lawful.reads_now) in
      record {
        history = h;
        events = zs;
        found = found;
        calls_seen = all_seen (store_view view) (FilesGoOn view empty) h.incarnations h.is ∙ h.made;
        runs = runs;
        kept = kept;
      }
