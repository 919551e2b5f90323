-- Calls of an executor that is tidied in time find the journal with space.
use Rattle.std.proofs.Common.{◌≡◌, ◌↔◌, ⊎_elim, inl, inr, ℕ, zero, suc, ◌+◌, ◌*◌, ◌≤◌, ◌<◌, Bool, true, false, cond, ◌||◌, List, [], ◌∷◌, ◌++◌, map, length, Option, Some, None, Result, Ok, Err, refl, sym, ap, subst, ◌∙◌, arith, length-append}
use Rattle.std.specs.Prelude.{min, replicate}
use Rattle.std.specs.List.{AllByRecursion, flat_map, list_any}
use Rattle.std.specs.Option.{option_map_or}
use Rattle.std.proofs.lemmas.Bool.{cases_lt, false≢true, le-leb, lt-ltb, or_left}
use Rattle.std.proofs.lemmas.List.{length-map}
use Rattle.ocf_model.specs.Answer.{event_of, first_of, asked_event, moment, reply_to, tests}
use Rattle.ocf_types.specs.Encoding.{encoded_event}
use Rattle.ocf_types.specs.Kinds.{Change, Command, Event, Request}
use Rattle.ocf_model.specs.Answer.{Reply}
use Rattle.ocf_types.specs.Lawful.{IsId}
use Rattle.ocf_types.specs.Lemmas.{and_true, each_append}
use Rattle.ocf_types.specs.Limits.{event_limit, part_limit, reserve}
use Rattle.ocf_model.specs.Resource.{Resource}
use Rattle.ocf_model.specs.State.{State, after_all, resource_at}
use Rattle.ocf_types.specs.declared.command.CommandOf.TheVariants as command
use Rattle.ocf_types.specs.declared.command.Question.{Question}
use Rattle.ocf_types.specs.declared.command.Question.TheVariants as question
use Rattle.ocf_types.specs.declared.command.RequestOf.TheVariants as asked
use Rattle.ocf_types.specs.declared.event.Change.TheVariants as change
use Rattle.ocf_types.specs.declared.event.Step.TheVariants as step
use Rattle.ocf_model.specs.declared.refusal.Refusal.{Refusal}
use Rattle.ocf_model.specs.declared.refusal.Refusal.TheVariants.{Closed, Disk, Memory, UnknownResource}
use Rattle.ocf_model.specs.declared.reply.ReplyOf.TheVariants as reply
use Rattle.ocf_model.specs.declared.reply.TidyEnd.{TidyEnd}
use Rattle.ocf_model.specs.declared.reply.TidyEnd.TheVariants as tidy_end
use Rattle.ocf_model.specs.declared.reply.TurnEnd.TheVariants as turn_end
use Rattle.ocf_model.proofs.StateLengths.{pieces}
use Rattle.store_model.specs.Batches.{IsTooLong, are_results, encoded_batch, is_boot_alone, kept_free}
use Rattle.store_model.specs.Calls.{tail_after}
use Rattle.store_model.specs.Lemmas.{batch_of_one}
use Rattle.store_model.specs.StoreView.{StoreView}
use Rattle.exec_ledger.specs.Actives.{Active, active}
use Rattle.exec_ledger.specs.BatchStarts.{tail_after_all}
use Rattle.exec_ledger.specs.CommitGroups.{CommitGroup, TakesGroup, TakesGroups, commands_of, replies_of}
use Rattle.exec_ledger.specs.CommitGroups as group
use Rattle.exec_ledger.specs.Commands.{Obeys}
use Rattle.exec_ledger.specs.LedgerView.{LedgerView, While}
use Rattle.exec_ledger.specs.Pieces.{batch_effects}
use Rattle.exec_ledger.specs.Replies.{acknowledged, recorded}
use Rattle.exec_ledger.specs.Together.{Adds, Answered, TakesBatch, batch_replies, disk_each, failed}
use Rattle.exec_state.specs.Answers.{IsReplyOrMemory}
use Rattle.exec_turn.specs.Picks.{begins}
use Rattle.exec_turn.specs.Polls.{Polled, results}
use Rattle.exec_turn.proofs.Results.{few_active}
use Rattle.executor.specs.Commands.{ServesOpen}
use Rattle.executor.specs.ExecutorView.{ExecutorView, ledger_of}
use Rattle.executor.specs.TidyCalls.{Tidies}
use Rattle.executor.specs.TurnCalls.{TakesTurn}
use Rattle.session_machine.specs.Room.{MakesRoom, ServesNow, ServesTogether, is_tidy_due, second_mark, worthwhile}
use Rattle.session_machine.specs.declared.rules.Rules.{Rules}
use Rattle.session_laws.specs.Named.{IsNamed}
use Rattle.session_laws.specs.Numbers.{is_full_reply, last_epoch}
use Rattle.session_laws.specs.Small.{IsSmallState}
use Rattle.session_laws.proofs.CallStates.{results_small}
use Rattle.session_laws.proofs.Executors.{IsNamedRequest, opened}
use Rattle.session_laws.proofs.Lengths.{active_named, begins_short, command_short, picked_more, picks_few, results_short}
use Rattle.session_laws.proofs.SmallStates.{small_short}

-- a reply is not that the journal has no space
abbrev pub NotFull : Reply → Type 0
NotFull r = is_full_reply r ≡ false

same_not_full : (r s : Reply) → r ≡ s → NotFull s → NotFull r
same_not_full r s is none = subst NotFull (sym is) none

pub none_full : (rs : List Reply) → AllByRecursion NotFull rs → list_any is_full_reply rs ≡ false
none_full [] none = refl
none_full (r ∷ rs) none = ap (λ (b : Bool). b || list_any is_full_reply rs) none.0 ∙ none_full rs none.1

-- a small state ends far below the second mark
tidied_low : (s : State) → IsSmallState s → tail_after s + worthwhile ≤ second_mark
tidied_low s h = omega (arith, small_short s h)

-- a record that ends with the reserve free is not too long
kept_most : (es : List Event) → kept_free es ≤ reserve
kept_most es = by (are_results es || is_boot_alone es)
  where
    by : (b : Bool) → cond b 0 reserve ≤ reserve
    by true = omega arith
    by false = omega arith

not_long : (tail : ℕ) (es : List Event) → tail + length (encoded_batch es) + 32774 ≤ part_limit → IsTooLong tail es → ⊥
not_long tail es fits long = omega (arith, kept_most es, fits, long)

-- the length of one event's batch, and of those of events that are not too long
one_long : (e : Event) → length (encoded_batch (e ∷ [])) ≡ length (encoded_event e)
one_long e = ap (λ (t : List ℕ). length t) (batch_of_one e)

-- the offset after a batch
tail_most : (tail : ℕ) (es : List Event) → tail_after_all tail es ≤ tail + 5 + length (encoded_batch es)
tail_most tail [] = omega arith
tail_most tail (e ∷ es) = omega arith

batch_most : (tail : ℕ) (es : List Event) → AllByRecursion (λ e. length (encoded_event e) ≤ event_limit) es
    → tail_after_all tail es ≤ tail + 16389 * length es
batch_most tail [] short = omega arith
batch_most tail (e ∷ es) short = let most = pieces encoded_event event_limit (e ∷ es) short in omega (arith, most)

-- no refusal of a command is for the journal's space
refused_else : (ts : List (Refusal × Bool)) (e : Event) (w : Refusal) → AllByRecursion (λ t. NotFull (reply.Refused t.0)) ts → first_of ts e ≡ Err w
    → NotFull (reply.Refused w)
refused_else [] e w all is = absurd cc
refused_else ((r, true) ∷ ts) e w all is = let same : r ≡ w = cc in subst (λ (x : Refusal). NotFull (reply.Refused x)) same all.0
refused_else ((r, false) ∷ ts) e w all is = refused_else ts e w all.1 is

tests_else : (s : State) (c : Command) (n : ℕ) → AllByRecursion (λ (t : Refusal × Bool). NotFull (reply.Refused t.0)) (tests s c n)
tests_else s (command.Register r) n = (refl, (refl, (refl, tt {0})))
tests_else s (command.Unregister id) n = (refl, (refl, tt {0}))
tests_else s (command.SetParams id ps) n = (refl, (refl, tt {0}))
tests_else s (command.Exec id t timeout) n = (refl, (refl, (refl, tt {0})))
tests_else s (command.Recur id interval timeout check) n = (refl, (refl, (refl, (refl, tt {0}))))
tests_else s (command.Cancel id interval) n = (refl, (refl, tt {0}))
tests_else s (command.Forget id) n = (refl, tt {0})
tests_else s (command.Withdraw id call) n = (refl, (refl, tt {0}))

command_else : (s : State) (now : ℕ) (c : Command) (w : Refusal) → event_of s now c ≡ Err w → NotFull (reply.Refused w)
command_else s now c w is =
    refused_else (tests s c (length (encoded_event (asked_event s now c)))) (asked_event s now c) w
    (tests_else s c (length (encoded_event (asked_event s now c)))) is

acknowledged_else : (c : Change) → NotFull (acknowledged c)
acknowledged_else (change.Register r) = refl
acknowledged_else (change.Unregister id) = refl
acknowledged_else (change.Step id (step.SetParams ps)) = refl
acknowledged_else (change.Step id (step.Exec o)) = refl
acknowledged_else (change.Step id (step.Recur m)) = refl
acknowledged_else (change.Step id (step.Cancel interval)) = refl
acknowledged_else (change.Step id step.Forget) = refl
acknowledged_else (change.Step id (step.Begin call run)) = refl
acknowledged_else (change.Step id (step.Result run end)) = refl
acknowledged_else (change.Step id (step.Withdraw call)) = refl
acknowledged_else change.Boot = refl

-- the offset after the event of a command, by its reply
recorded_tail : (tail : ℕ) (e : Event) (r : Reply) → length (encoded_event e) ≤ event_limit → tail_after_all tail (recorded e r) ≤ tail + 16389
recorded_tail tail e (reply.Refused why) short = omega arith
recorded_tail tail e (reply.Accepted call key) short = omega (arith, short, one_long e)
recorded_tail tail e reply.Done short = omega (arith, short, one_long e)
recorded_tail tail e (reply.List ids) short = omega (arith, short, one_long e)
recorded_tail tail e (reply.Info info) short = omega (arith, short, one_long e)
recorded_tail tail e (reply.History ended) short = omega (arith, short, one_long e)
recorded_tail tail e (reply.Turn end) short = omega (arith, short, one_long e)

-- commands of a batch: none is refused for the journal's space, and there are no more events than commands, none of them too long
record Fits (n : ℕ) (rs : List Reply) (es : List Event) : Type 0 where
  replies : AllByRecursion NotFull rs
  short : AllByRecursion (λ e. length (encoded_event e) ≤ event_limit) es
  few : length es ≤ n

added_fits : (s : State) (now : ℕ) (c : Command) (found : Result Event Refusal) (r : Reply) (es : List Event) → event_of s now c ≡ found → IsNamed c
    → Adds found r es → Fits 1 (r ∷ []) es
added_fits s now c (Err why) r es is named (refused, none) =
    subst (λ (l : List Event). Fits 1 (r ∷ []) l) (sym none)
    (record { replies = (same_not_full r (reply.Refused why) refused (command_else s now c why is), tt); short = tt; few = omega arith })
added_fits s now c (Ok e) r es is named (inl (done, one)) =
    subst (λ (l : List Event). Fits 1 (r ∷ []) l) (sym one) (record {
      replies = (same_not_full r (acknowledged e.change) done (acknowledged_else e.change), tt);
      short = (command_short s now c e named is, tt);
      few = omega arith;
    })
added_fits s now c (Ok e) r es is named (inr (refused, registers, none)) =
    subst (λ (l : List Event). Fits 1 (r ∷ []) l) (sym none)
    (record { replies = (same_not_full r (reply.Refused Memory) refused refl, tt); short = tt; few = omega arith })

answered_fits : (now : ℕ) (s : State) (cs : List Command) (rs : List Reply) (es : List Event) → AllByRecursion IsNamed cs → Answered now s cs rs es
    → Fits (length cs) rs es
answered_fits now s [] [] es named none =
    subst (λ (l : List Event). Fits 0 [] l) (sym none) (record { replies = tt; short = tt; few = omega arith })
answered_fits now s [] (r ∷ rs) es named bad = absurd bad
answered_fits now s (c ∷ cs) [] es named bad = absurd bad
answered_fits now s (c ∷ cs) (r ∷ rs) es named (first, later, adds, answered, both) =
    let one = added_fits s now c (event_of s now c) r first refl named.0 adds in
    let rest = answered_fits now (after_all s first) cs rs later named.1 answered in
    subst (λ (l : List Event). Fits (suc (length cs)) (r ∷ rs) l) (sym both) (record {
      replies = (one.replies.0, rest.replies);
      short = each_append (λ (e : Event). length (encoded_event e) ≤ event_limit) first later one.short rest.short;
      few = omega (arith, one.few, rest.few, length-append first later);
    })

disk_not_full : (rs : List Reply) → AllByRecursion NotFull (disk_each rs)
disk_not_full [] = tt
disk_not_full (r ∷ rs) = (refl, disk_not_full rs)

failed_not_full : (rs : List Reply) → AllByRecursion NotFull rs → AllByRecursion NotFull (failed rs)
failed_not_full [] none = tt
failed_not_full (reply.Refused why ∷ rs) none = (none.0, failed_not_full rs none.1)
failed_not_full (reply.Accepted call key ∷ rs) none = (refl, disk_not_full rs)
failed_not_full (reply.Done ∷ rs) none = (refl, disk_not_full rs)
failed_not_full (reply.List ids ∷ rs) none = (refl, disk_not_full rs)
failed_not_full (reply.Info info ∷ rs) none = (refl, disk_not_full rs)
failed_not_full (reply.History ended ∷ rs) none = (refl, disk_not_full rs)
failed_not_full (reply.Turn end ∷ rs) none = (refl, disk_not_full rs)

-- a question is not refused for it either
said_else : (o : Option Resource) (say : Resource → Reply) → ((r : Resource) → NotFull (say r)) → NotFull (option_map_or say o (reply.Refused UnknownResource))
said_else None say holds = refl
said_else (Some r) say holds = holds r

question_else : (s : State) (q : Question) → NotFull (reply_to s q)
question_else s question.List = refl
question_else s (question.Info id) = said_else (resource_at s id) _ (λ r. refl)
question_else s (question.History id) = said_else (resource_at s id) _ (λ r. refl)

answer_else : (meant given : Reply) → NotFull meant → IsReplyOrMemory meant given → NotFull given
answer_else (reply.Refused why) given none is = same_not_full given (reply.Refused why) is none
answer_else (reply.Accepted call key) given none is = ⊎_elim (λ a. same_not_full given _ a none) (λ b. same_not_full given _ b refl) is
answer_else reply.Done given none is = ⊎_elim (λ a. same_not_full given _ a none) (λ b. same_not_full given _ b refl) is
answer_else (reply.List ids) given none is = ⊎_elim (λ a. same_not_full given _ a none) (λ b. same_not_full given _ b refl) is
answer_else (reply.Info info) given none is = ⊎_elim (λ a. same_not_full given _ a none) (λ b. same_not_full given _ b refl) is
answer_else (reply.History ended) given none is = ⊎_elim (λ a. same_not_full given _ a none) (λ b. same_not_full given _ b refl) is
answer_else (reply.Turn end) given none is = ⊎_elim (λ a. same_not_full given _ a none) (λ b. same_not_full given _ b refl) is

replicated_else : (n : ℕ) → AllByRecursion NotFull (replicate n (reply.Refused Disk))
replicated_else zero = tt
replicated_else (suc n) = (refl, replicated_else n)

-- polls of actions that have valid ids
polls_named : (ps : List Polled) → AllByRecursion (λ (a : Active). IsId a.id) (map (λ p. p.who) ps) → AllByRecursion (λ (p : Polled). IsId p.who.id) ps
polls_named [] named = tt
polls_named (p ∷ ps) named = (named.0, polls_named ps named.1)

module _ {S : Type 0} (view : S → StoreView) where
  -- a command by itself, where there is space
  obeyed_fits : (s : State) (now : ℕ) (c : Command) (found : Result Event Refusal) (x y : LedgerView S) (r : Reply) → event_of s now c ≡ found → IsNamed c
      → (view x.store).tail + 49163 ≤ part_limit → Obeys view found x y r → NotFull r × ((view y.store).tail ≤ (view x.store).tail + 16389)
  obeyed_fits s now c (Err why) x y r is named fits (refused, stays) = (
    same_not_full r (reply.Refused why) refused (command_else s now c why is),
    omega (arith, ap (λ (l : LedgerView S). (view l.store).tail) stays),
  )
  obeyed_fits s now c (Ok e) x y r is named fits records =
      let short = command_short s now c e named is in (
        ⊎_elim (λ done. same_not_full r (acknowledged e.change) done (acknowledged_else e.change))
            (⊎_elim (λ full. absurd (not_long (view x.store).tail (e ∷ []) (omega (arith, fits, short, one_long e)) (records.full full)))
            (⊎_elim (λ lacks. same_not_full r (reply.Refused Memory) lacks refl) (λ disk. same_not_full r (reply.Refused Disk) disk refl)))
            records.reported,
        omega (arith, records.tail, recorded_tail (view x.store).tail e r short),
      )

  -- a batch
  batch_fits : (now : ℕ) (cs : List Command) (x y : LedgerView S) (rs : List Reply) → AllByRecursion IsNamed cs → TakesBatch view now cs x y rs
      → AllByRecursion NotFull rs × ((view y.store).tail ≤ (view x.store).tail + 16389 * length cs)
  batch_fits now cs x y rs named takes =
      let fits = answered_fits now x.state cs takes.meant takes.events named takes.answered in (
        subst (λ (l : List Reply). AllByRecursion NotFull l) (sym takes.reported) (replies y.is_open fits.replies),
        omega (arith, takes.records.tail, further y.is_open fits.short, fits.few),
      )
    where
      replies : (o : Bool) → AllByRecursion NotFull takes.meant → AllByRecursion NotFull (batch_replies o takes.meant)
      replies true none = none
      replies false none = failed_not_full takes.meant none

      further : (o : Bool) → AllByRecursion (λ e. length (encoded_event e) ≤ event_limit) takes.events
          → tail_after_all (view x.store).tail (batch_effects o takes.events).events ≤ (view x.store).tail + 16389 * length takes.events
      further true short = batch_most (view x.store).tail takes.events short
      further false short = omega arith

  -- one after the other
  group_fits : (now : ℕ) (g : CommitGroup) (x y : LedgerView S) → AllByRecursion IsNamed (commands_of g)
      → (view x.store).tail + 16389 * length (commands_of g) + 32774 ≤ part_limit → TakesGroup view now g x y
      → AllByRecursion NotFull (replies_of g) × ((view y.store).tail ≤ (view x.store).tail + 16389 * length (commands_of g))
  group_fits now (group.Single c r) x y named fits takes = by x.is_open takes
    where
      by : (o : Bool) → While o (Obeys view (event_of x.state now c) x y r × ((y.is_open ≡ false) ↔ (r ≡ reply.Refused Disk)))
          ((r ≡ reply.Refused Closed) × (y ≡ x))
          → AllByRecursion NotFull (r ∷ []) × ((view y.store).tail ≤ (view x.store).tail + 16389 * 1)
      by true (obeys, closes) =
          let one = obeyed_fits x.state now c (event_of x.state now c) x y r refl named.0 (omega (arith, fits)) obeys in
          ((one.0, tt), omega (arith, one.1))
      by false (refused, same) =
          ((same_not_full r (reply.Refused Closed) refused refl, tt), omega (arith, ap (λ (l : LedgerView S). (view l.store).tail) same))
  group_fits now (group.Batch cs rs) x y named fits takes = batch_fits now cs x y rs named takes

  each_left : (xs ys : List Command) → AllByRecursion IsNamed (xs ++ ys) → AllByRecursion IsNamed xs
  each_left [] ys all = tt
  each_left (c ∷ xs) ys all = (all.0, each_left xs ys all.1)

  each_right : (xs ys : List Command) → AllByRecursion IsNamed (xs ++ ys) → AllByRecursion IsNamed ys
  each_right [] ys all = all
  each_right (c ∷ xs) ys all = each_right xs ys all.1

  groups_fit : (now : ℕ) (gs : List CommitGroup) (x y : LedgerView S) → AllByRecursion IsNamed (flat_map commands_of gs)
      → (view x.store).tail + 16389 * length (flat_map commands_of gs) + 32774 ≤ part_limit → TakesGroups view now gs x y
      → AllByRecursion NotFull (flat_map replies_of gs)
  groups_fit now [] x y named fits same = tt
  groups_fit now (g ∷ gs) x y named fits (mid, takes, rest) =
      let both = length-append (commands_of g) (flat_map commands_of gs) in
      let one = group_fits now g x mid (each_left (commands_of g) (flat_map commands_of gs) named) (omega (arith, fits, both)) takes in
      each_append NotFull (replies_of g) (flat_map replies_of gs) one.0
      (groups_fit now gs mid y (each_right (commands_of g) (flat_map commands_of gs) named) (omega (arith, fits, both, one.1)) rest)

  -- where a tidy is not due the tail is at most at the second mark
  undue_low : (rules : Rules) (now pace : ℕ) (x : ExecutorView S) → 0 < rules.tidy_at → IsSmallState x.state
      → is_tidy_due view rules x now pace ≡ false → (view x.store).tail ≤ second_mark
  undue_low rules now pace x on small undue =
      ⊎_elim
      (λ past. absurd (false≢true (sym undue ∙ and_true _ _
      (and_true _ _ (and_true _ _ (lt-ltb 0 rules.tidy_at on) (lt-ltb (min rules.tidy_at second_mark) (view x.store).tail (omega (arith, past))))
      (le-leb (tail_after x.state + worthwhile) (view x.store).tail (omega (arith, past, tidied_low x.state small))))
      (or_left _ _ (lt-ltb second_mark (view x.store).tail past)))))
      (λ low. low)
      (cases_lt second_mark (view x.store).tail)

  -- after a tidy, too
  tidied_tail : (x y : ExecutorView S) (end : TidyEnd) → IsSmallState x.state → ((view x.store).epoch ≡ last_epoch → ⊥) → y.is_open ≡ true
      → Tidies view x y end → (view y.store).tail ≤ second_mark
  tidied_tail x y tidy_end.Done small unspent still tidies = omega (arith, tidies.0.tail, tidied_low x.state small)
  tidied_tail x y tidy_end.EpochSpent small unspent still tidies = absurd (unspent (tidies.0.spent.0 refl))
  tidied_tail x y tidy_end.Disk small unspent still tidies = absurd (false≢true (sym (tidies.0.closes.1 refl) ∙ still))
  tidied_tail x y tidy_end.Closed small unspent still tidies = absurd (tidies.0.not_closed refl)

  pub room_low : (rules : Rules) (now : ℕ) (x y : ExecutorView S) → 0 < rules.tidy_at → IsSmallState x.state → ((view x.store).epoch ≡ last_epoch → ⊥)
      → y.is_open ≡ true → MakesRoom view rules now x y → (view y.store).tail ≤ second_mark
  room_low rules now x y on small unspent still room = by (is_tidy_due view rules x now room.pace) refl
    where
      by : (b : Bool) → is_tidy_due view rules x now room.pace ≡ b → (view y.store).tail ≤ second_mark
      by true due = tidied_tail x y (room.made due).0 small unspent still (room.made due).1
      by false none =
          subst (λ (z : ExecutorView S). (view z.store).tail ≤ second_mark) (sym (room.none none)) (undue_low rules now room.pace x on small none)

  -- a request
  open_fits : (now : ℕ) (request : Request) (x y : ExecutorView S) (r : Reply) → IsNamedRequest request → (view x.store).tail ≤ second_mark
      → ServesOpen view now request x y r → NotFull r
  open_fits now (asked.Question q) x y r named low (answers, same, memory) = answer_else (reply_to x.state q) r (question_else x.state q) answers
  open_fits now (asked.Command c) x y r named low (obeys, beside) =
      (obeyed_fits x.state now c (event_of x.state now c) (ledger_of x) (ledger_of y) r refl named (omega (arith, low)) obeys).0

  pub served_fits : (rules : Rules) (now : ℕ) (request : Request) (x y : ExecutorView S) (r : Reply) → 0 < rules.tidy_at → IsSmallState x.state
      → ((view x.store).epoch ≡ last_epoch → ⊥) → IsNamedRequest request → ServesNow view rules now request x y r → NotFull r
  served_fits rules now request x y r on small unspent named serves = by serves.middle.is_open refl
    where
      by : (b : Bool) → serves.middle.is_open ≡ b → NotFull r
      by true still =
          open_fits now request serves.middle y r named (room_low rules now x serves.middle on small unspent still serves.room)
          (opened view now request serves.middle y r still (serves.serves still))
      by false closed = same_not_full r (reply.Refused Disk) (serves.fails closed).0 refl

  -- a group commit
  pub together_fits : (rules : Rules) (now : ℕ) (cs : List Command) (x y : ExecutorView S) (rs : List Reply) → 0 < rules.tidy_at → IsSmallState x.state
      → ((view x.store).epoch ≡ last_epoch → ⊥) → AllByRecursion IsNamed cs → length cs ≤ 64 → ServesTogether view rules now cs x y rs
      → AllByRecursion NotFull rs
  together_fits rules now cs x y rs on small unspent named few serves = by serves.middle.is_open refl
    where
      by : (b : Bool) → serves.middle.is_open ≡ b → AllByRecursion NotFull rs
      by true still =
          let low = room_low rules now x serves.middle on small unspent still serves.room in
          let (takes, beside) = serves.takes still in
          let many : length (flat_map commands_of takes.groups) ≡ length cs = ap (λ (l : List Command). length l) takes.asked in
          subst (λ (l : List Reply). AllByRecursion NotFull l) takes.answered
          (groups_fit now takes.groups (ledger_of serves.middle) (ledger_of y) (subst (λ (l : List Command). AllByRecursion IsNamed l) (sym takes.asked) named)
          (omega (arith, low, many, few)) takes.takes)
      by false closed =
          subst (λ (l : List Reply). AllByRecursion NotFull l) (sym (serves.fails closed).0) (replicated_else (length cs))

  -- a turn
  pub turn_fits : (now : ℕ) (x y : ExecutorView S) → IsSmallState x.state → (view x.store).tail ≤ second_mark → TakesTurn view now x y turn_end.Full → ⊥
  turn_fits now x y small low takes =
      let t = takes.turns.does.0 in
      let at = moment x.state now in
      let cut = t.picked.0.0 in
      let s = after_all x.state (results at t.polled) in
      let after_results = results_small x.state at t.polled small in
      let polled = polls_named t.polled (subst (λ (l : List Active). AllByRecursion (λ (a : Active). IsId a.id) l) (sym t.each_polled.each)
      (active_named x.state.resources small.named)) in
      let many : length t.polled ≡ length (active x.state) = sym (length-map t.polled (λ p. p.who)) ∙ ap (λ (l : List Active). length l) t.each_polled.each in
      let few = picked_more t.begun cut.next cut.later (length s.resources)
      (picks_few y.children.held _ at s.next_run s.resources (t.begun ++ cut.next ∷ cut.later) after_results.named cut.picks) in
      not_long (tail_after_all (view x.store).tail (results at t.polled)) (begins at (t.begun ++ cut.next ∷ []))
      (omega (
        arith,
        low,
        many,
        few_active x.state.resources,
        small.few,
        after_results.few,
        few.few,
        results_short at t.polled polled,
        tail_most (view x.store).tail (results at t.polled),
        begins_short at (t.begun ++ cut.next ∷ []) few.named,
      )) cut.why.1
