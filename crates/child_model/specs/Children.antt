-- The view of agent processes, and how each call changes it.
use Rattle.std.specs.Prelude.{◌≡◌, ℕ, Bool, ◌+◌, ◌-◌, ◌==◌, ⊤, List, [], ◌∷◌, ◌++◌, filter, length, not, Option, Some, None, Result, Ok, Err, All}
use Rattle.std.specs.Prelude.{Contains}
use Rattle.std.specs.List.{list_any}
use Rattle.std.specs.Str.{bytes_eq}
use Rattle.ocf_env.specs.Locations.{SiteView}
use Rattle.ocf_types.specs.Limits.{resources_limit}
use Rattle.ocf_types.specs.declared.outcome.StartFault.{StartFault}
use Rattle.child_model.specs.declared.answer.Answer.{Answer}
use Rattle.child_model.specs.declared.answer.Answer.TheVariants as asked
use Rattle.child_model.specs.declared.answer.Entry.{Entry}
use Rattle.child_model.specs.declared.answer.KillFault.{KillFault}
use Rattle.child_model.specs.declared.answer.Poll.{Poll}
use Rattle.child_model.specs.declared.answer.Poll.TheVariants as poll

-- how many agent processes may live at once: one for each resource
abbrev pub live_limit : ℕ
live_limit = resources_limit

-- the children as the executor sees them: the book of answers and how many more entries fit, the log of all answers, which exists
-- only in contracts, the greatest run for which a start was called (0 if none was), the live runs in the order of their starts,
-- the runs that were given up and not ended yet, the ids of the resources that are held because processes of an action of theirs
-- that has ended are known to live, and the only site at which they start agents, if they name one
pub record ChildrenView : Type 0 where
  pub book : List Entry
  pub log : List Entry
  pub room : ℕ
  pub last_run : ℕ
  pub live : List ℕ
  pub given_up : List ℕ
  pub held : List (List ℕ)
  pub site : Option SiteView

-- these children start agents at this site: at any, if they name none, or at the one that they name
abbrev pub Admits : Option SiteView → SiteView → Type 0
Admits None site = ⊤
Admits (Some named) site = site ≡ named

-- the live runs except this one
abbrev pub without_run : ℕ → List ℕ → List ℕ
without_run run live = filter (λ r. not (r == run)) live

-- the answer in the book to a start, a poll and a kill
abbrev pub start_answer : Result Unit StartFault → Answer
start_answer answer = asked.Start answer

abbrev pub poll_answer : Poll → Answer
poll_answer answer = asked.Poll answer

abbrev pub kill_answer : Result Unit KillFault → Answer
kill_answer answer = asked.Kill answer

-- these entries and one more: of this run, at this count of device calls
abbrev pub noted : List Entry → ℕ → ℕ → Answer → List Entry
noted entries run at answer = entries ++ record { run = run; at = at; answer = answer } ∷ []

-- the view with one more entry, in the book, which has capacity for one fewer then, and in the log
abbrev pub with_entry : ChildrenView → ℕ → ℕ → Answer → ChildrenView
with_entry v run at answer = record v { book = noted v.book run at answer; log = noted v.log run at answer; room = v.room - 1 }

-- the live runs after a start: this run too, if it succeeded
abbrev pub live_started : Result Unit StartFault → ℕ → List ℕ → List ℕ
live_started (Ok x) run live = live ++ run ∷ []
live_started (Err fault) run live = live

-- the live runs after a poll: without this run, unless it still runs
abbrev pub live_polled : Poll → ℕ → List ℕ → List ℕ
live_polled poll.Running run live = live
live_polled _ run live = without_run run live

-- the runs that were given up after a poll: this run too, if the system failed to answer
abbrev pub given_up_polled : Poll → ℕ → List ℕ → List ℕ
given_up_polled poll.Fault run given_up = given_up ++ run ∷ []
given_up_polled _ run given_up = given_up

-- the view after a start of a run, called when the store had made this many device calls
abbrev pub after_start : ChildrenView → ℕ → ℕ → Result Unit StartFault → ChildrenView
after_start v run at answer = record (with_entry v run at (start_answer answer)) { last_run = run; live = live_started answer run v.live }

-- the view after a poll of a run
abbrev pub after_poll : ChildrenView → ℕ → Poll → ChildrenView
after_poll v run answer =
    record (with_entry v run 0 (poll_answer answer)) { live = live_polled answer run v.live; given_up = given_up_polled answer run v.given_up }

-- the view after a kill of a run: it no longer lives and is given up, whatever the kill answered
abbrev pub after_kill : ChildrenView → ℕ → Result Unit KillFault → ChildrenView
after_kill v run answer = record (with_entry v run 0 (kill_answer answer)) { live = without_run run v.live; given_up = v.given_up ++ run ∷ [] }

-- the view after the end of all that were given up was asked for, with these resources held
abbrev pub after_ends : ChildrenView → List (List ℕ) → ChildrenView
after_ends v held = record v { given_up = []; held = held }

-- the view after all agent processes were given up and their end was asked for, with these resources held
abbrev pub all_ended : ChildrenView → List (List ℕ) → ChildrenView
all_ended v held = record (after_ends v held) { live = [] }

-- the end of all that were given up was asked for, and any resources are held after it
abbrev pub Ended : ChildrenView → ChildrenView → Type 0
Ended old new = (held : List (List ℕ)) × (new ≡ after_ends old held)

-- all agent processes were given up and their end was asked for, and any resources are held after it
abbrev pub AllEnded : ChildrenView → ChildrenView → Type 0
AllEnded old new = (held : List (List ℕ)) × (new ≡ all_ended old held)

-- whether a resource is one of those held
abbrev pub is_held : List (List ℕ) → List ℕ → Bool
is_held held id = list_any (bytes_eq id) held

-- the view after the book was cleared: the capacity of its entries is free again, and the log has not changed
abbrev pub emptied : ChildrenView → ChildrenView
emptied v = record v { book = []; room = v.room + length v.book }

-- this entry was appended to the book and to the log
abbrev pub Adds : ChildrenView → ChildrenView → Entry → Type 0
Adds old new entry = (new.book ≡ old.book ++ entry ∷ []) × (new.log ≡ old.log ++ entry ∷ [])

-- an answer is one to a start, which may have succeeded or not
abbrev pub IsOfStart : Answer → Type 0
IsOfStart (asked.Start answer) = ⊤
IsOfStart _ = ⊥

-- the book has the entry of a start of this run, requested when the store had made this many device calls
abbrev pub Asked : List Entry → ℕ → ℕ → Type 0
Asked book run at = (answer : Answer) × IsOfStart answer × Contains book (record { run = run; at = at; answer = answer })

-- none of these entries is that of a start
abbrev pub AsksNothing : List Entry → Type 0
AsksNothing entries = All (λ e. IsOfStart e.answer → ⊥) entries
