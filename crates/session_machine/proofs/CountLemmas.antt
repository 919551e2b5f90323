-- How often a session reads, polls and waits between its own turns, and what comes before such a turn.
use Rattle.std.proofs.Common.{◌≡◌, ◌≤◌, ◌<◌, ◌⊎◌, ℕ, ◌+◌, ◌*◌, ◌==◌, ◌||◌, Bool, true, false, not, cond, List, [], ◌∷◌, ◌++◌, Option, Some, None, Ok, inl, inr, refl, sym, ap, subst, ◌∙◌, arith}
use Rattle.std.specs.Prelude.{nat_lt, is_none}
use Rattle.std.proofs.lemmas.Bool.{lt-ltb}
use Rattle.ocf_model.specs.declared.reply.TurnEnd.{TurnEnd}
use Rattle.store_model.specs.StoreView.{StoreView}
use Rattle.executor.specs.ExecutorView.{ExecutorView}
use Rattle.exec_commands.specs.declared.line.Line.TheVariants as line
use Rattle.exec_lines.specs.declared.line.Piece.{Piece}
use Rattle.exec_lines.specs.declared.line.Piece.TheVariants.{Last, Nothing, Part}
use Rattle.exec_client.specs.MessageView as message
use Rattle.exec_client.specs.MessageView.{MessageView}
use Rattle.session_machine.specs.After.{after, after_read, drain_now, drain_of, faulted, is_held, polled, rested_own, time_of, took, turned, with_end_read, with_line_read, with_read, woken_by}
use Rattle.session_machine.specs.Behaviours.{Behaves, May, begins, goes_on}
use Rattle.session_machine.specs.Events as event
use Rattle.session_machine.specs.Events.{Event}
use Rattle.session_machine.specs.First.{IsFirst}
use Rattle.session_machine.specs.Limits.{longest_wait, polls_a_turn, reads_a_turn}
use Rattle.session_machine.specs.Liveness.{EventTest, any_since, count, count_since, has_cause, is_answer, is_own, is_poll, is_read, is_reading, is_wait, looks, micros_of, one_if, stirs, wakes}
use Rattle.session_machine.specs.May.{AsksDrain, IsOwnTurn, IsTurnDue, MayPoll, MayReadIn, MayRest, MayWait}
use Rattle.session_machine.specs.Pausing.{IsShort, IsUntilDue, is_quiet}
use Rattle.session_machine.specs.Session.{At, Drain, Lines, OwnTurn, SessionState, Draining, Over, Reading, Resting, Sending, lines_in, no_turn}
use Rattle.session_machine.specs.declared.rules.Mode.{Mode}
use Rattle.session_machine.specs.declared.rules.Mode.TheVariants.{Run, Serve}
use Rattle.session_machine.specs.declared.rules.Rules.{Rules}
use Rattle.session_machine.proofs.AfterLemmas.{rules_stay, same_rules}

-- what the machine keeps of its last own turn is what was done since
pub record Counted (own : OwnTurn) (r p w : ℕ) (l c : Bool) : Type 0 where
  pub reads : own.reads ≡ r
  pub polls : own.polls ≡ p
  pub waits : own.waits ≡ w
  pub looked : own.looked ≡ l
  pub woken : own.woken ≡ c

-- no such event
more_none : (n m : ℕ) → n ≡ m → n ≡ m + 0
more_none n m is = omega (arith, is)

same_counts : (own : OwnTurn) (r p w : ℕ) (l c : Bool) → Counted own r p w l c → Counted own (r + 0) (p + 0) (w + 0) l c
same_counts own r p w l c k = record {
  reads = more_none own.reads r k.reads;
  polls = more_none own.polls p k.polls;
  waits = more_none own.waits w k.waits;
  looked = k.looked;
  woken = k.woken;
}

polled_counts : (own : OwnTurn) (millis : ℕ) (ready waits_now : Bool) (r p w : ℕ) (l c : Bool) → nat_lt 0 millis ≡ waits_now → Counted own r p w l c
    → Counted (polled own millis ready) (r + 0) (p + one_if (not waits_now)) (w + one_if waits_now) (not ready || l) (waits_now || c)
polled_counts own millis ready true r p w l c is k = record {
  reads = more_none own.reads r k.reads;
  polls = ap (λ (b : Bool). cond b own.polls (own.polls + 1)) is ∙ more_none own.polls p k.polls;
  waits = ap (λ (b : Bool). cond b (own.waits + 1) own.waits) is ∙ ap (λ n. n + 1) k.waits;
  looked = ap (λ b. not ready || b) k.looked;
  woken = ap (λ (b : Bool). b || own.woken) is;
}
polled_counts own millis ready false r p w l c is k = record {
  reads = more_none own.reads r k.reads;
  polls = ap (λ (b : Bool). cond b own.polls (own.polls + 1)) is ∙ ap (λ n. n + 1) k.polls;
  waits = ap (λ (b : Bool). cond b (own.waits + 1) own.waits) is ∙ more_none own.waits w k.waits;
  looked = ap (λ b. not ready || b) k.looked;
  woken = ap (λ (b : Bool). b || own.woken) is ∙ k.woken;
}

rested_counts : (own : OwnTurn) (at : At) (r p w : ℕ) (l c : Bool) → Counted own r p w l c
    → Counted (rested_own at own) (r + 0) (p + 0) (w + one_if (is_reading at)) l (is_reading at || c)
rested_counts own Reading r p w l c k = record {
  reads = more_none own.reads r k.reads;
  polls = more_none own.polls p k.polls;
  waits = ap (λ n. n + 1) k.waits;
  looked = k.looked;
  woken = refl;
}
rested_counts own (Sending ms next) r p w l c k = same_counts own r p w l c k
rested_counts own (Resting pause drain) r p w l c k = same_counts own r p w l c k
rested_counts own (Draining d) r p w l c k = same_counts own r p w l c k
rested_counts own (Over end) r p w l c k = same_counts own r p w l c k

read_counts : (own : OwnTurn) (r p w : ℕ) (l c : Bool) → Counted own r p w l c
    → Counted (with_read own) (r + 1) (p + 0) (w + 0) ((own.reads + 1 == reads_a_turn) || l) true
read_counts own r p w l c k = record {
  reads = ap (λ n. n + 1) k.reads;
  polls = more_none own.polls p k.polls;
  waits = more_none own.waits w k.waits;
  looked = ap (λ b. (own.reads + 1 == reads_a_turn) || b) k.looked;
  woken = refl;
}

sent_counts : (own : OwnTurn) (what : MessageView) (r p w : ℕ) (l c : Bool) → Counted own r p w l c
    → Counted (woken_by what own) (r + 0) (p + 0) (w + 0) l (is_answer what || c)
sent_counts own (message.Reply reply) r p w l c k = record {
  reads = more_none own.reads r k.reads;
  polls = more_none own.polls p k.polls;
  waits = more_none own.waits w k.waits;
  looked = k.looked;
  woken = refl;
}
sent_counts own (message.Replies replies) r p w l c k = record {
  reads = more_none own.reads r k.reads;
  polls = more_none own.polls p k.polls;
  waits = more_none own.waits w k.waits;
  looked = k.looked;
  woken = refl;
}
sent_counts own (message.Turn book notices) r p w l c k = same_counts own r p w l c k
sent_counts own (message.News reply) r p w l c k = same_counts own r p w l c k
sent_counts own (message.Report notices) r p w l c k = same_counts own r p w l c k

module _ {S : Type 0} where
  -- after a read, a turn and a fault
  line_own : (s : SessionState S) (bytes : List ℕ) → (with_line_read s bytes).own ≡ s.own
  line_own s [] = refl
  line_own s (byte ∷ bytes) = refl

  end_own : (s : SessionState S) (bytes : List ℕ) → (with_end_read s bytes).own ≡ s.own
  end_own s [] = refl
  end_own s (byte ∷ bytes) = refl

  took_own : (s : SessionState S) (bytes : List ℕ) (piece : Piece) → (took s bytes piece).own ≡ s.own
  took_own s bytes Part = refl
  took_own s bytes Last = line_own s (s.part ++ bytes)
  took_own s bytes Nothing = end_own s (s.part ++ bytes)

  faulted_own : (s : SessionState S) (drain : Option Drain) (now : ℕ) (x : ExecutorView S) → (faulted s drain now x).own ≡ s.own
  faulted_own s (Some d) now x = refl
  faulted_own s None now x = refl

  turned_counts : (s : SessionState S) (drain : Option Drain) (now : ℕ) (end : TurnEnd) (x : ExecutorView S) (r p w : ℕ) (l c : Bool)
      → Counted s.own r p w l c
      → Counted (turned s drain now end x).own (cond (is_none drain) 0 (r + 0)) (cond (is_none drain) 0 (p + 0)) (cond (is_none drain) 0 (w + 0))
      (cond (is_none drain) false l) (cond (is_none drain) (not (is_quiet x.children.book)) c)
  turned_counts s (Some d) now end x r p w l c k = same_counts s.own r p w l c k
  turned_counts s None now end x r p w l c k = record { reads = refl; polls = refl; waits = refl; looked = refl; woken = refl }

  -- one more event
  abbrev After : SessionState S → Event S → ℕ → ℕ → ℕ → Bool → Bool → Type 0
  After s e r p w l c =
      Counted (after s e).own (cond (is_own s e) 0 (r + one_if (is_read s e))) (cond (is_own s e) 0 (p + one_if (is_poll s e)))
      (cond (is_own s e) 0 (w + one_if (is_wait s e))) (cond (is_own s e) false (looks s e || l)) (cond (is_own s e) (stirs e) (wakes s e || c))

  counted_on : (s : SessionState S) (e : Event S) (r p w : ℕ) (l c : Bool) → Counted s.own r p w l c → After s e r p w l c
  counted_on s (event.Polled millis ready) r p w l c k = polled_counts s.own millis ready (nat_lt 0 millis) r p w l c refl k
  counted_on s (event.Peeked has_line) r p w l c k = same_counts s.own r p w l c k
  counted_on s (event.Took bytes piece) r p w l c k =
      subst (λ (own : OwnTurn). Counted own (r + 1) (p + 0) (w + 0) ((s.own.reads + 1 == reads_a_turn) || l) true)
      (sym (took_own (after_read s) bytes piece)) (read_counts s.own r p w l c k)
  counted_on s event.ReadFailed r p w l c k = same_counts s.own r p w l c k
  counted_on s (event.Noted found tag) r p w l c k = record {
    reads = more_none s.own.reads r k.reads;
    polls = more_none s.own.polls p k.polls;
    waits = more_none s.own.waits w k.waits;
    looked = ap (λ b. is_held s.rules.mode found || b) k.looked;
    woken = k.woken;
  }
  counted_on s (event.GaveMetadata provider agent limit None) r p w l c k = record {
    reads = more_none s.own.reads r k.reads;
    polls = more_none s.own.polls p k.polls;
    waits = more_none s.own.waits w k.waits;
    looked = refl;
    woken = k.woken;
  }
  counted_on s (event.GaveMetadata provider agent limit (Some given)) r p w l c k = record {
    reads = more_none s.own.reads r k.reads;
    polls = more_none s.own.polls p k.polls;
    waits = more_none s.own.waits w k.waits;
    looked = refl;
    woken = k.woken;
  }
  counted_on s (event.Shown now) r p w l c k = same_counts s.own r p w l c k
  counted_on s (event.Rested micros) r p w l c k = rested_counts s.own s.at r p w l c k
  counted_on s (event.Sent what true client) r p w l c k = sent_counts s.own what r p w l c k
  counted_on s (event.Sent what false client) r p w l c k = same_counts s.own r p w l c k
  counted_on s (event.HasReader still_reads) r p w l c k = same_counts s.own r p w l c k
  counted_on s (event.Served reply x) r p w l c k = same_counts s.own r p w l c k
  counted_on s (event.Together replies x) r p w l c k = same_counts s.own r p w l c k
  counted_on s (event.Tidied end x) r p w l c k = same_counts s.own r p w l c k
  counted_on s (event.Turned end x) r p w l c k = turned_counts s (drain_now s) (time_of s.shown) end x r p w l c k
  counted_on s (event.Faulted x) r p w l c k =
      subst (λ (own : OwnTurn). Counted own (r + 0) (p + 0) (w + 0) l c) (sym (faulted_own s (drain_now s) (time_of s.shown) x))
      (same_counts s.own r p w l c k)
  counted_on s (event.Finishes end x) r p w l c k = same_counts s.own r p w l c k

-- one wait at most after an own turn, 65 polls that do not wait, and in `serve` 64 reads
pub record Few (mode : Mode) (own : OwnTurn) : Type 0 where
  pub waits : own.waits ≤ 1
  pub polls : own.polls ≤ polls_a_turn
  pub reads : mode ≡ Serve → own.reads ≤ reads_a_turn

few_polled : (mode : Mode) (own : OwnTurn) (millis : ℕ) (ready waits_now : Bool) → nat_lt 0 millis ≡ waits_now → Few mode own
    → (waits_now ≡ false → own.polls < polls_a_turn) → (waits_now ≡ true → own.waits ≡ 0) → Few mode (polled own millis ready)
few_polled mode own millis ready true is few polls waits =
    let none = waits refl in record {
      waits = subst (λ (b : Bool). cond b (own.waits + 1) own.waits ≤ 1) (sym is) (omega (arith, none));
      polls = subst (λ (b : Bool). cond b own.polls (own.polls + 1) ≤ polls_a_turn) (sym is) few.polls;
      reads = few.reads;
    }
few_polled mode own millis ready false is few polls waits =
    let less = polls refl in record {
      waits = subst (λ (b : Bool). cond b (own.waits + 1) own.waits ≤ 1) (sym is) few.waits;
      polls = subst (λ (b : Bool). cond b own.polls (own.polls + 1) ≤ polls_a_turn) (sym is) (omega (arith, less));
      reads = few.reads;
    }

few_sent : (mode : Mode) (own : OwnTurn) (what : MessageView) → Few mode own → Few mode (woken_by what own)
few_sent mode own (message.Reply reply) few = record { waits = few.waits; polls = few.polls; reads = few.reads }
few_sent mode own (message.Replies replies) few = record { waits = few.waits; polls = few.polls; reads = few.reads }
few_sent mode own (message.Turn book notices) few = few
few_sent mode own (message.News reply) few = few
few_sent mode own (message.Report notices) few = few

module _ {S : Type 0} where
  may_polled : (s : SessionState S) (millis : ℕ) (ready : Bool) → MayPoll s millis → Few s.rules.mode s.own → Few s.rules.mode (polled s.own millis ready)
  may_polled s millis ready may few = by may.brief
    where
      by : ((millis ≡ 0) × (s.own.polls < polls_a_turn)) ⊎ ((0 < millis) × MayWait s (1000 * millis)) → Few s.rules.mode (polled s.own millis ready)
      by (inl (none, less)) =
          few_polled s.rules.mode s.own millis ready false (ap (λ n. nat_lt 0 n) none) few (λ _. less) (λ e. absurd cc)
      by (inr (some, waits)) =
          few_polled s.rules.mode s.own millis ready true (lt-ltb 0 millis some) few (λ e. absurd cc) (λ _. waits.once)

  may_rested : (s : SessionState S) (at : At) (micros : ℕ) → MayRest s at micros → Few s.rules.mode s.own → Few s.rules.mode (rested_own at s.own)
  may_rested s Reading micros may few =
      let none = may.once in record { waits = omega (arith, none); polls = few.polls; reads = few.reads }
  may_rested s (Sending ms next) micros may few = few
  may_rested s (Resting pause drain) micros may few = few
  may_rested s (Draining d) micros may few = few
  may_rested s (Over end) micros may few = few

  serve_reads : (s : SessionState S) (mode : Mode) → MayReadIn mode s → mode ≡ Serve → s.own.reads < reads_a_turn
  serve_reads s Serve (there, less) is = less
  serve_reads s Run may is = absurd cc

  few_turned : (s : SessionState S) (drain : Option Drain) (now : ℕ) (end : TurnEnd) (x : ExecutorView S) → Few s.rules.mode s.own
      → Few s.rules.mode (turned s drain now end x).own
  few_turned s (Some d) now end x few = few
  few_turned s None now end x few = record { waits = omega arith; polls = omega arith; reads = λ _. omega arith }

  few_on : (view : S → StoreView) (s : SessionState S) (e : Event S) → May view s e → Few s.rules.mode s.own → Few s.rules.mode (after s e).own
  few_on view s (event.Polled millis ready) may few = may_polled s millis ready may few
  few_on view s (event.Peeked has_line) may few = few
  few_on view s (event.Took bytes piece) (listens, may) few =
      let less = serve_reads s s.rules.mode may in
      subst (λ (own : OwnTurn). Few s.rules.mode own) (sym (took_own (after_read s) bytes piece)) (record {
        waits = few.waits;
        polls = few.polls;
        reads = λ serves. let one = less serves in omega (arith, one);
      })
  few_on view s event.ReadFailed may few = few
  few_on view s (event.Noted found tag) may few = record { waits = few.waits; polls = few.polls; reads = few.reads }
  few_on view s (event.GaveMetadata provider agent limit None) may few = record { waits = few.waits; polls = few.polls; reads = few.reads }
  few_on view s (event.GaveMetadata provider agent limit (Some given)) may few = record { waits = few.waits; polls = few.polls; reads = few.reads }
  few_on view s (event.Shown now) may few = few
  few_on view s (event.Rested micros) may few = may_rested s s.at micros may few
  few_on view s (event.Sent what true client) may few = few_sent s.rules.mode s.own what few
  few_on view s (event.Sent what false client) may few = few
  few_on view s (event.HasReader still_reads) may few = few
  few_on view s (event.Served reply x) may few = few
  few_on view s (event.Together replies x) may few = few
  few_on view s (event.Tidied end x) may few = few
  few_on view s (event.Turned end x) may few = few_turned s (drain_now s) (time_of s.shown) end x few
  few_on view s (event.Faulted x) may few =
      subst (λ (own : OwnTurn). Few s.rules.mode own) (sym (faulted_own s (drain_now s) (time_of s.shown) x)) few
  few_on view s (event.Finishes end x) may few = few

few_on_turn : (own : Bool) (n total turns since one : ℕ) → total ≤ n * turns + since → since ≤ n → (own ≡ true → one ≡ 0)
    → total + one ≤ n * (turns + one_if own) + cond own 0 (since + one)
few_on_turn true n total turns since one so_far most none = let nil = none refl in omega (arith, so_far, most, nil)
few_on_turn false n total turns since one so_far most none = omega (arith, so_far)

-- an own turn is no poll, no read and no wait
own_alone : {S : Type 0} (test : EventTest S) (s : SessionState S) (e : Event S) → ((t : SessionState S) (end : TurnEnd) (x : ExecutorView S)
    → test t (event.Turned end x) ≡ false) → is_own s e ≡ true → test s e ≡ false
own_alone test s (event.Turned end x) none own = none s end x
own_alone test s (event.Polled millis ready) none own = absurd cc
own_alone test s (event.Peeked has_line) none own = absurd cc
own_alone test s (event.Took bytes piece) none own = absurd cc
own_alone test s event.ReadFailed none own = absurd cc
own_alone test s (event.Noted found tag) none own = absurd cc
own_alone test s (event.GaveMetadata provider agent limit given) none own = absurd cc
own_alone test s (event.Shown now) none own = absurd cc
own_alone test s (event.Rested micros) none own = absurd cc
own_alone test s (event.Sent what all client) none own = absurd cc
own_alone test s (event.HasReader still_reads) none own = absurd cc
own_alone test s (event.Served reply x) none own = absurd cc
own_alone test s (event.Together replies x) none own = absurd cc
own_alone test s (event.Tidied end x) none own = absurd cc
own_alone test s (event.Faulted x) none own = absurd cc
own_alone test s (event.Finishes end x) none own = absurd cc

module _ {S : Type 0} {view : S → StoreView} {first : SessionState S} (fresh : first.own ≡ no_turn) where
  -- what was done since the last own turn, in terms of what the machine keeps
  pub counted : {events : List (Event S)} {s : SessionState S} (way : Behaves view first events s)
      → Counted s.own (count_since is_read way) (count_since is_poll way) (count_since is_wait way) (any_since looks way) (has_cause way)
  counted begins =
      subst (λ (own : OwnTurn). Counted own 0 0 0 false true) (sym fresh) (record { reads = refl; polls = refl; waits = refl; looked = refl; woken = refl })
  counted (goes_on events s e way may) = counted_on s e _ _ _ _ _ (counted way)

  pub few : {events : List (Event S)} {s : SessionState S} → Behaves view first events s → Few s.rules.mode s.own
  few begins =
      subst (λ (own : OwnTurn). Few first.rules.mode own) (sym fresh) (record { waits = omega arith; polls = omega arith; reads = λ _. omega arith })
  few (goes_on events s e way may) =
      subst (λ (rules : Rules). Few rules.mode (after s e).own) (sym (rules_stay s e)) (few_on view s e may (few way))

  -- with so many at most after each own turn, so many in all
  all_few : (test : EventTest S) (n : ℕ) → ((t : SessionState S) (end : TurnEnd) (x : ExecutorView S) → test t (event.Turned end x) ≡ false)
      → ((events : List (Event S)) (s : SessionState S) (way : Behaves view first events s) → count_since test way ≤ n)
      → (events : List (Event S)) (s : SessionState S) (way : Behaves view first events s)
      → count test way ≤ n * count is_own way + count_since test way
  all_few test n alone each _ _ begins = omega arith
  all_few test n alone each _ _ (goes_on events s e way may) =
      few_on_turn (is_own s e) n (count test way) (count is_own way) (count_since test way) (one_if (test s e)) (all_few test n alone each events s way)
      (each events s way) (λ own. ap one_if (own_alone test s e alone own))

  -- since the last own turn
  pub waits_since : (events : List (Event S)) (s : SessionState S) (way : Behaves view first events s) → count_since is_wait way ≤ 1
  waits_since events s way = subst (λ n. n ≤ 1) (counted way).waits (few way).waits

  pub polls_since : (events : List (Event S)) (s : SessionState S) (way : Behaves view first events s) → count_since is_poll way ≤ polls_a_turn
  polls_since events s way = subst (λ n. n ≤ polls_a_turn) (counted way).polls (few way).polls

  pub reads_since : first.rules.mode ≡ Serve → (events : List (Event S)) (s : SessionState S) (way : Behaves view first events s)
      → count_since is_read way ≤ reads_a_turn
  reads_since serves events s way =
      subst (λ n. n ≤ reads_a_turn) (counted way).reads ((few way).reads (ap (λ (rules : Rules). rules.mode) (same_rules way) ∙ serves))

  -- in all
  pub waits_few : (events : List (Event S)) (s : SessionState S) (way : Behaves view first events s) → count is_wait way ≤ count is_own way + 1
  waits_few events s way =
      let all = all_few is_wait 1 (λ t end x. refl) waits_since events s way in
      let since = waits_since events s way in
      omega (arith, all, since)

  pub polls_few : (events : List (Event S)) (s : SessionState S) (way : Behaves view first events s)
      → count is_poll way ≤ polls_a_turn * (count is_own way + 1)
  polls_few events s way =
      let all = all_few is_poll polls_a_turn (λ t end x. refl) polls_since events s way in
      let since = polls_since events s way in
      omega (arith, all, since)

  pub reads_few : first.rules.mode ≡ Serve → (events : List (Event S)) (s : SessionState S) (way : Behaves view first events s)
      → count is_read way ≤ reads_a_turn * (count is_own way + 1)
  reads_few serves events s way =
      let all = all_few is_read reads_a_turn (λ t end x. refl) (reads_since serves) events s way in
      let since = reads_since serves events s way in
      omega (arith, all, since)

-- a session begins with no own turn
pub first_fresh : {S : Type 0} {first : SessionState S} → IsFirst first → first.own ≡ no_turn
first_fresh is = ap (λ (s : SessionState _). s.own) is.is

-- a turn that is none of a drain is an own turn
drain_asked : (lines : Lines) (now most : ℕ) → AsksDrain lines → drain_of Reading lines now most ≡ None → ⊥
drain_asked [] now most asks none = asks
drain_asked (Ok (line.Drain limit) ∷ []) now most asks none = absurd cc
drain_asked (Ok (line.Watch limit) ∷ []) now most asks none = absurd cc
drain_asked (other ∷ lines) now most asks none = absurd asks

own_turn_at : {S : Type 0} (s : SessionState S) (at : At) (now shown most : ℕ) → drain_of at (lines_in s) shown most ≡ None → IsTurnDue s at now → IsOwnTurn s
own_turn_at s Reading now shown most none (inl own) = own
own_turn_at s Reading now shown most none (inr asks) = absurd (drain_asked (lines_in s) shown most asks none)
own_turn_at s (Draining d) now shown most none due = absurd cc
own_turn_at s (Resting pause drain) now shown most none due = absurd due
own_turn_at s (Sending ms next) now shown most none due = absurd due
own_turn_at s (Over end) now shown most none due = absurd due

pub own_turn_due : {S : Type 0} (s : SessionState S) (now : ℕ) → drain_now s ≡ None → IsTurnDue s s.at now → IsOwnTurn s
own_turn_due s now none due = own_turn_at s s.at now (time_of s.shown) s.rules.most_turns none due

-- a wait is one that may be made
poll_waits : {S : Type 0} (s : SessionState S) (millis : ℕ) → MayPoll s millis → nat_lt 0 millis ≡ true → MayWait s (1000 * millis)
poll_waits s millis may waits = by may.brief
  where
    by : ((millis ≡ 0) × (s.own.polls < polls_a_turn)) ⊎ ((0 < millis) × MayWait s (1000 * millis)) → MayWait s (1000 * millis)
    by (inl (none, less)) = let no = sym (ap (λ n. nat_lt 0 n) none) ∙ waits in absurd cc
    by (inr (some, may_wait)) = may_wait

rest_waits : {S : Type 0} (s : SessionState S) (at : At) (micros : ℕ) → MayRest s at micros → is_reading at ≡ true → MayWait s micros
rest_waits s Reading micros may reads = may
rest_waits s (Resting pause drain) micros may reads = absurd cc
rest_waits s (Draining d) micros may reads = absurd cc
rest_waits s (Sending ms next) micros may reads = absurd cc
rest_waits s (Over end) micros may reads = absurd cc

pub wait_may : {S : Type 0} (view : S → StoreView) (s : SessionState S) (e : Event S) → May view s e → is_wait s e ≡ true → MayWait s (micros_of e)
wait_may view s (event.Polled millis ready) may waits = poll_waits s millis may waits
wait_may view s (event.Rested micros) may waits = rest_waits s s.at micros may waits
wait_may view s (event.Peeked has_line) may waits = absurd cc
wait_may view s (event.Took bytes piece) may waits = absurd cc
wait_may view s event.ReadFailed may waits = absurd cc
wait_may view s (event.Noted found tag) may waits = absurd cc
wait_may view s (event.GaveMetadata provider agent limit given) may waits = absurd cc
wait_may view s (event.Shown now) may waits = absurd cc
wait_may view s (event.Sent what all client) may waits = absurd cc
wait_may view s (event.HasReader still_reads) may waits = absurd cc
wait_may view s (event.Served reply x) may waits = absurd cc
wait_may view s (event.Together replies x) may waits = absurd cc
wait_may view s (event.Tidied end x) may waits = absurd cc
wait_may view s (event.Turned end x) may waits = absurd cc
wait_may view s (event.Faulted x) may waits = absurd cc
wait_may view s (event.Finishes end x) may waits = absurd cc

pub wait_brief : {S : Type 0} (s : SessionState S) (micros : ℕ) → MayWait s micros → micros ≤ 1000 * longest_wait
wait_brief s micros may = by may.brief
  where
    by : IsShort s.own.since s.own.now micros ⊎ IsUntilDue s.executor s.shown micros → micros ≤ 1000 * longest_wait
    by (inl (inl short)) = omega (arith, short)
    by (inl (inr (long, part))) = omega (arith, long)
    by (inr until) = until.brief
