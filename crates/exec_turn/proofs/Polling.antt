-- Polls: the entries in the book, the live runs, and the state after the results.
use Rattle.std.proofs.Common.{◌≡◌, ℕ, ◌+◌, ◌*◌, ◌<◌, ◌≤◌, nat_eq, Bool, true, false, if◌then◌else◌, List, [], ◌∷◌, ◌++◌, map, length, Option, Some, None, option_to_list, Result, Contains, refl, sym, ◌∙◌, ap, subst, arith, append-nil, take, drop, append_assoc, length-append, ◌-◌}
use Rattle.std.specs.List.{AllByRecursion, IsDistinct, flat_map}
use Rattle.std.proofs.lemmas.Grind.{flat_map-append}
use Rattle.std.proofs.lemmas.List.{drop_more, length-map, map-append, take_more}
use Rattle.std.proofs.lemmas.Map.Keys.{IsDistinct-head, IsDistinct-tail}
use Rattle.ocf_types.specs.Lemmas.{each_append}
use Rattle.ocf_types.specs.Kinds.{Event}
use Rattle.ocf_model.specs.Indexes.{entry_at, no_entry}
use Rattle.ocf_model.specs.State.{State, after, after_all}
use Rattle.ocf_types.specs.declared.operation.Running.{Running}
use Rattle.ocf_types.specs.declared.outcome.RunEnd.{RunEnd}
use Rattle.ocf_types.specs.declared.outcome.RunEnd.TheVariants as run_end
use Rattle.ocf_types.specs.declared.notice.Notice.{Notice}
use Rattle.child_model.specs.Children.{ChildrenView, after_kill, after_poll, without_run, Asked, IsOfStart, kill_answer, poll_answer}
use Rattle.child_model.specs.declared.answer.KillFault.{KillFault}
use Rattle.child_model.specs.declared.answer.Poll.{Poll}
use Rattle.child_model.specs.declared.answer.Poll.TheVariants as poll
use Rattle.exec_ledger.specs.Actives.{Active, active_in, active_of, runs_of, active}
use Rattle.exec_turn.specs.Actives.{notice_of, result_of}
use Rattle.exec_turn.specs.Polls.{IsPoll, Polled, Polls, after_polls, ending, is_late, ends_of, polled_on, result_notices, results, entries_of, polls, book_entry}
use Rattle.std.specs.Map.{keys_of}
use Rattle.std.specs.Str.{bytes_eq}
use Rattle.std.proofs.lemmas.List.Elements.{All-from_recursion}
use Rattle.ocf_types.specs.Lawful.{IsRunEnd}
use Rattle.ocf_model.specs.LawfulState.{IsLawfulState}
use Rattle.ocf_types.specs.Numbers.{IsMoment}
use Rattle.child_model.specs.Lemmas.{asked_polls, fewer, kept}
use Rattle.child_model.specs.declared.answer.Entry.{Entry}
use Rattle.exec_turn.specs.AgentsLive.{AgentsLive}
use Rattle.exec_turn.specs.Starts.{AllRun}
use Rattle.exec_ledger.specs.Batches.{MayRecord}
use Rattle.exec_turn.proofs.Results.{AtMostOne, ResultsFit, agents_result, all_run, each_ended, each_second, ended_may_record, few_active, never_itself, run_on, same_keys, distinct_second}

abbrev pub whos : List Polled → List Active
whos ps = map (λ p. p.who) ps

-- the live runs after a poll, by how the run ended, if it did
abbrev pub live_after : Option RunEnd → ℕ → List ℕ → List ℕ
live_after None run live = live
live_after (Some end) run live = without_run run live

-- no poll and no kill is a start
abbrev IsUnasked : Entry → Type 0
IsUnasked e = IsOfStart e.answer → ⊥

-- The children after one poll, by its entries and by how the run ended, if it did.
record PolledAs (x : Running) (answer : Poll) (entries : List Entry) (end : Option RunEnd) (v w : ChildrenView) : Type 0 where
  book : w.book ≡ v.book ++ entries
  log : w.log ≡ v.log ++ entries
  last : w.last_run ≡ v.last_run
  site : w.site ≡ v.site
  live : w.live ≡ live_after end x.run v.live
  room : v.room ≤ w.room + 2
  used : w.room ≡ v.room - length entries
  unasked : AllByRecursion IsUnasked entries
  ends : IsPoll answer → AllByRecursion IsRunEnd (option_to_list end)

polled_once : (x : Running) (answer : Poll) (end : Option RunEnd) (v : ChildrenView)
    → (after_poll v x.run answer).live ≡ live_after end x.run v.live → (IsPoll answer → AllByRecursion IsRunEnd (option_to_list end))
    → PolledAs x answer (book_entry x.run (poll_answer answer) ∷ []) end v (after_poll v x.run answer)
polled_once x answer end v live ends = record {
  book = refl;
  log = refl;
  last = refl;
  site = refl;
  live = live;
  room = omega arith;
  used = omega arith;
  unasked = ((λ h. h), tt);
  ends = ends;
}

polled_as : (at : ℕ) (x : Running) (answer : Poll) (kill : Result Unit KillFault) (v : ChildrenView)
    → PolledAs x answer (entries_of at x answer kill) (ending at x answer) v (polled_on at x answer kill v)
polled_as at x poll.Running kill v = by (is_late at x)
  where
    first : Entry
    first = book_entry x.run (poll_answer poll.Running)

    last : Entry
    last = book_entry x.run (kill_answer kill)

    by : (b : Bool) → PolledAs x poll.Running (first ∷ (if b then last ∷ [] else [])) (if b then Some run_end.TimedOut else None) v
        (if b then after_kill (after_poll v x.run poll.Running) x.run kill else after_poll v x.run poll.Running)
    by true = record {
      book = append_assoc v.book (first ∷ []) (last ∷ []);
      log = append_assoc v.log (first ∷ []) (last ∷ []);
      last = refl;
      site = refl;
      live = refl;
      room = omega arith;
      used = omega arith;
      unasked = ((λ h. h), ((λ h. h), tt));
      ends = λ byte. (tt, tt);
    }
    by false = polled_once x poll.Running None v refl (λ byte. tt)
polled_as at x (poll.Exited code) kill v = polled_once x (poll.Exited code) (Some (run_end.Done code)) v refl (λ byte. (byte, tt))
polled_as at x (poll.Signaled signal) kill v = polled_once x (poll.Signaled signal) (Some run_end.Signaled) v refl (λ byte. (tt, tt))
polled_as at x poll.Fault kill v = polled_once x poll.Fault (Some run_end.Lost) v refl (λ byte. (tt, tt))

-- book and log get the entries of polls, nothing is spawned, and each poll makes two entries at most
pub polls_as : (at : ℕ) (v : ChildrenView) (ps : List Polled)
    → ((after_polls at v ps).book ≡ v.book ++ polls at ps) × ((after_polls at v ps).log ≡ v.log ++ polls at ps)
    × ((after_polls at v ps).last_run ≡ v.last_run) × ((after_polls at v ps).site ≡ v.site)
    × (v.room ≤ (after_polls at v ps).room + 2 * length ps)
polls_as at v [] = (sym (append-nil v.book), sym (append-nil v.log), refl, refl, omega arith)
polls_as at v (p ∷ ps) =
    let x = p.who.running in
    let entries = entries_of at x p.poll p.kill in
    let one = polled_as at x p.poll p.kill v in
    let rest = polls_as at (polled_on at x p.poll p.kill v) ps in (
      rest.0 ∙ ap (λ (l : List Entry). l ++ polls at ps) one.book ∙ append_assoc v.book entries (polls at ps),
      rest.1 ∙ ap (λ (l : List Entry). l ++ polls at ps) one.log ∙ append_assoc v.log entries (polls at ps),
      rest.2 ∙ one.last,
      rest.3 ∙ one.site,
      omega (arith, one.room, rest.4),
    )

-- the book has room for fewer entries by those of polls
pub polls_room : (at : ℕ) (v : ChildrenView) (ps : List Polled) → (after_polls at v ps).room ≡ v.room - length (polls at ps)
polls_room at v [] = omega arith
polls_room at v (p ∷ ps) =
    let x = p.who.running in
    let entries = entries_of at x p.poll p.kill in
    omega (
      arith,
      (polled_as at x p.poll p.kill v).used,
      polls_room at (polled_on at x p.poll p.kill v) ps,
      length-append entries (polls at ps),
    )

-- no poll is a start
nobody : ChildrenView
nobody = record { book = []; log = []; room = 0; last_run = 0; live = []; given_up = []; held = []; site = None }

polls_unasked : (at : ℕ) (ps : List Polled) → AllByRecursion IsUnasked (polls at ps)
polls_unasked at [] = tt
polls_unasked at (p ∷ ps) =
    each_append IsUnasked (entries_of at p.who.running p.poll p.kill) (polls at ps)
    (polled_as at p.who.running p.poll p.kill nobody).unasked (polls_unasked at ps)

pub polls_ask_nothing : (at : ℕ) (ps : List Polled) (run clock : ℕ) → Asked (polls at ps) run clock → ⊥
polls_ask_nothing at ps run clock h =
    asked_polls (polls at ps) run clock (All-from_recursion IsUnasked (polls at ps) (polls_unasked at ps)) h

-- the children where an action that runs is late, and was killed
pub polled_late : (at : ℕ) (x : Running) (kill : Result Unit KillFault) (v v1 v2 : ChildrenView) → is_late at x ≡ true
    → v1 ≡ after_poll v x.run poll.Running → v2 ≡ after_kill v1 x.run kill
    → (v2 ≡ polled_on at x poll.Running kill v) × (Some run_end.TimedOut ≡ ending at x poll.Running)
polled_late at x kill v v1 v2 late one two = (rw late (two ∙ ap (λ w. after_kill w x.run kill) one), rw late refl)

-- one poll, and none
pub polled_one : (at : ℕ) (id : List ℕ) (x : Running) (o : Option Running) (answer : Poll) (kill : Result Unit KillFault)
    (old new : ChildrenView) (end : Option RunEnd)
    → o ≡ Some x → IsPoll answer → new ≡ polled_on at x answer kill old → end ≡ ending at x answer
    → Polls at (active_of id o) old new (map (result_of at (record { id = id; running = x })) (option_to_list end))
    (map (notice_of at (record { id = id; running = x })) (option_to_list end))
polled_one at id x o answer kill old new end is byte children ended =
    let who : Active = record { id = id; running = x } in record {
      answers = record { who = who; poll = answer; kill = kill } ∷ [];
      each = ap (active_of id) (sym is);
      bytes = (byte, tt);
      children = children;
      batch_is = ap (λ e. map (result_of at who) (option_to_list e)) ended ∙ sym (append-nil _);
      reported_is = ap (λ e. map (notice_of at who) (option_to_list e)) ended ∙ sym (append-nil _);
    }

pub polled_none : (at : ℕ) (id : List ℕ) (o : Option Running) (v : ChildrenView) → o ≡ None → Polls at (active_of id o) v v [] []
polled_none at id o v is = record {
  answers = [];
  each = ap (active_of id) (sym is);
  bytes = tt;
  children = refl;
  batch_is = refl;
  reported_is = refl;
}

after_polls-append : (at : ℕ) (v : ChildrenView) (ps qs : List Polled)
    → after_polls at v (ps ++ qs) ≡ after_polls at (after_polls at v ps) qs
after_polls-append at v [] qs = refl
after_polls-append at v (p ∷ ps) qs = after_polls-append at (polled_on at p.who.running p.poll p.kill v) ps qs

-- polls of some actions, and then of others
pub polls_more : (at : ℕ) (xs ys : List Active) (v v1 v2 : ChildrenView) (batch more : List Event) (reported later : List Notice)
    → Polls at xs v v1 batch reported → Polls at ys v1 v2 more later → Polls at (xs ++ ys) v v2 (batch ++ more) (reported ++ later)
polls_more at xs ys v v1 v2 batch more reported later f g = record {
  answers = f.answers ++ g.answers;
  each = map-append _ f.answers g.answers ∙ ap (λ (l : List Active). l ++ whos g.answers) f.each ∙ ap (λ (l : List Active). xs ++ l) g.each;
  bytes = each_append _ f.answers g.answers f.bytes g.bytes;
  children =
      g.children ∙ ap (λ (w : ChildrenView). after_polls at w g.answers) f.children ∙ sym (after_polls-append at v f.answers g.answers);
  batch_is =
      ap (λ (l : List Event). l ++ more) f.batch_is ∙ ap (λ (l : List Event). results at f.answers ++ l) g.batch_is
      ∙ sym (flat_map-append _ f.answers g.answers);
  reported_is =
      ap (λ (l : List Notice). l ++ later) f.reported_is ∙ ap (λ (l : List Notice). result_notices at f.answers ++ l) g.reported_is
      ∙ sym (flat_map-append _ f.answers g.answers);
}

-- another run lives on after a poll
lives_after : (end : Option RunEnd) (run r : ℕ) (live : List ℕ) → nat_eq run r ≡ false → Contains live r
    → Contains (live_after end run live) r
lives_after None run r live apart has = has
lives_after (Some end) run r live apart has = kept run r live (λ same. never_itself run r apart (sym same)) has

-- these live
abbrev pub Live : List ℕ → List ℕ → Type 0
Live live runs = AllByRecursion (λ run. Contains live run) runs

all_live_after : (end : Option RunEnd) (run : ℕ) (live runs : List ℕ) → AllByRecursion (λ r. nat_eq run r ≡ false) runs → Live live runs
    → Live (live_after end run live) runs
all_live_after end run live [] apart has = tt
all_live_after end run live (r ∷ rs) apart has = (lives_after end run r live apart.0 has.0, all_live_after end run live rs apart.1 has.1)

-- after polls the other runs live on
live_on : (at : ℕ) (ps : List Polled) (v : ChildrenView) (runs : List ℕ) → IsDistinct nat_eq (runs_of (whos ps) ++ runs) → Live v.live runs
    → Live (after_polls at v ps).live runs
live_on at [] v runs distinct has = has
live_on at (p ∷ ps) v runs distinct has =
    let apart = each_second _ (runs_of (whos ps)) runs (IsDistinct-head nat_eq p.who.running.run (runs_of (whos ps) ++ runs) distinct) in
    let end = ending at p.who.running p.poll in
    live_on at ps (polled_on at p.who.running p.poll p.kill v) runs
    (IsDistinct-tail nat_eq p.who.running.run (runs_of (whos ps) ++ runs) distinct)
    (subst (λ (live : List ℕ). Live live runs) (sym (polled_as at p.who.running p.poll p.kill v).live)
    (all_live_after end p.who.running.run v.live runs apart has))

pub others_live : (at : ℕ) (all rest : List Active) (old new : ChildrenView) (batch : List Event) (reported : List Notice)
    → Polls at all old new batch reported
    → IsDistinct nat_eq (runs_of (all ++ rest)) → Live old.live (runs_of (all ++ rest)) → Live new.live (runs_of rest)
others_live at all rest old new batch reported h distinct has =
    let both : runs_of (all ++ rest) ≡ runs_of all ++ runs_of rest = map-append _ all rest in
    let distinct_polled : IsDistinct nat_eq (runs_of (whos h.answers) ++ runs_of rest) =
    subst (λ (l : List Active). IsDistinct nat_eq (runs_of l ++ runs_of rest)) (sym h.each) (subst (IsDistinct nat_eq) both distinct) in
    let live = each_second _ (runs_of all) (runs_of rest) (subst (Live old.live) both has) in
    subst (λ (w : ChildrenView). Live w.live (runs_of rest)) (sym h.children) (live_on at h.answers old (runs_of rest) distinct_polled live)

-- the other runs differ
pub others_distinct : (all rest : List Active) → IsDistinct nat_eq (runs_of (all ++ rest)) → IsDistinct nat_eq (runs_of rest)
others_distinct all rest distinct =
    let both : runs_of (all ++ rest) ≡ runs_of all ++ runs_of rest = map-append _ all rest in
    distinct_second nat_eq (runs_of all) (runs_of rest) (subst (IsDistinct nat_eq) both distinct)

-- the running actions of the resources up to an index, and from an index on
pub active_more : (s : State) (index : ℕ) → index < length s.resources
    → flat_map active_in (take (index + 1) s.resources) ≡ flat_map active_in (take index s.resources) ++ active_in (entry_at s index)
active_more s index within =
    ap (flat_map active_in) (take_more s.resources index no_entry within)
    ∙ flat_map-append active_in (take index s.resources) (entry_at s index ∷ [])
    ∙ ap (λ (l : List Active). flat_map active_in (take index s.resources) ++ l) (append-nil (active_in (entry_at s index)))

pub active_rest : (s : State) (index : ℕ) → index < length s.resources
    → flat_map active_in (drop index s.resources) ≡ active_in (entry_at s index) ++ flat_map active_in (drop (index + 1) s.resources)
active_rest s index within = ap (flat_map active_in) (drop_more s.resources index no_entry within)

-- the book's capacity after polls
pub room_kept : (at : ℕ) (all : List Active) (old new : ChildrenView) (batch : List Event) (reported : List Notice)
    → Polls at all old new batch reported → old.room ≤ new.room + 2 * length all
room_kept at all old new batch reported h =
    let many : length h.answers ≡ length all = sym (length-map h.answers _) ∙ ap (λ (l : List Active). length l) h.each in
    let room : new.room ≡ (after_polls at old h.answers).room = ap (λ (w : ChildrenView). w.room) h.children in
    omega (arith, many, room, (polls_as at old h.answers).4)

-- a poll makes at most one result, which has an encoding
one_ending : (at : ℕ) (p : Polled) → AtMostOne (ends_of at p)
one_ending at p = by (ending at p.who.running p.poll)
  where
    by : (o : Option RunEnd) → AtMostOne (option_to_list o)
    by None = tt
    by (Some end) = tt

endings : (at : ℕ) (ps : List Polled) → AllByRecursion (λ p. IsPoll p.poll) ps → AllByRecursion (λ p. AllByRecursion IsRunEnd (ends_of at p)) ps
endings at [] bytes = tt
endings at (p ∷ ps) bytes = ((polled_as at p.who.running p.poll p.kill nobody).ends bytes.0, endings at ps bytes.1)

pub each_result : (P : Event → Type 0) (at : ℕ) → ((a : Active) (e : RunEnd) → P (result_of at a e)) → (ps : List Polled)
    → AllByRecursion P (results at ps)
each_result P at h ps = each_ended (λ p. p.who) (ends_of at) (one_ending at) P at (λ p e. h p.who e) ps

-- the batch of results of all running actions of a lawful state may be recorded, wherever the tail is
pub results_may_record : ResultsFit → (at : ℕ) (s : State) (ps : List Polled) (tail : ℕ) → IsLawfulState s → s.clock ≤ at → IsMoment at
    → whos ps ≡ active s → IsDistinct nat_eq (runs_of (active s)) → AllByRecursion (λ p. IsPoll p.poll) ps → MayRecord s tail (results at ps)
results_may_record fit at s ps tail lawful later moment each apart bytes =
    let many : length ps ≡ length (active s) = sym (length-map ps _) ∙ ap (λ (l : List Active). length l) each in
    ended_may_record (λ p. p.who) (ends_of at) (one_ending at) fit s tail at ps lawful later moment
    (omega (arith, many, lawful.at_most_256, few_active s.resources)) (subst (AllRun s) (sym each) (all_run s lawful))
    (subst (λ (l : List Active). IsDistinct nat_eq (runs_of l)) (sym each) apart) (endings at ps bytes)

agents_after : (at : ℕ) (s : State) (ps : List Polled) (v : ChildrenView) → IsDistinct bytes_eq (keys_of s.resources) → AllRun s (whos ps)
    → IsDistinct nat_eq (runs_of (whos ps)) → AgentsLive s v.live → AgentsLive (after_all s (results at ps)) (after_polls at v ps).live
agents_after at s [] v distinct run apart agents = agents
agents_after at s (p ∷ ps) v distinct run apart agents =
    let rest = IsDistinct-tail nat_eq n (runs_of (whos ps)) apart in
    by (ending at p.who.running p.poll) (polled_as at p.who.running p.poll p.kill v).live
    (agents_after at s ps w distinct run.1 rest)
    (λ e. agents_after at (after s (result_of at p.who e)) ps w (same_keys s at p.who e distinct)
    (run_on s at p.who e (whos ps) run.0 (IsDistinct-head nat_eq n (runs_of (whos ps)) apart) run.1) rest)
  where
    n : ℕ
    n = p.who.running.run

    w : ChildrenView
    w = polled_on at p.who.running p.poll p.kill v

    by : (end : Option RunEnd) → w.live ≡ live_after end n v.live
        → (AgentsLive s w.live → AgentsLive (after_all s (results at ps)) (after_polls at w ps).live)
        → ((e : RunEnd) → AgentsLive (after s (result_of at p.who e)) w.live
        → AgentsLive (after_all (after s (result_of at p.who e)) (results at ps)) (after_polls at w ps).live)
        → AgentsLive (after_all s (map (result_of at p.who) (option_to_list end) ++ results at ps)) (after_polls at w ps).live
    by None live same more = same (subst (AgentsLive s) (sym live) agents)
    by (Some e) live same more =
        more e (subst (AgentsLive (after s (result_of at p.who e))) (sym live)
        (agents_result s at p.who e v.live (without_run n v.live) distinct run.0
        (λ m apart has. kept n m v.live (λ same. never_itself n m apart (sym same)) has) (λ has. fewer n v.live has) agents))

-- after the batch of results each running action has its agent process alive
pub agents_live_after_polls : (at : ℕ) (s : State) (v : ChildrenView) (ps : List Polled) → IsLawfulState s → whos ps ≡ active s → AgentsLive s v.live
    → AgentsLive (after_all s (results at ps)) (after_polls at v ps).live
agents_live_after_polls at s v ps lawful each agents =
    agents_after at s ps v lawful.ids (subst (AllRun s) (sym each) (all_run s lawful))
    (subst (λ (l : List Active). IsDistinct nat_eq (runs_of l)) (sym each) agents.distinct) agents
