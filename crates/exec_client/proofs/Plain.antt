-- Replies to commands report nothing of the state.
use Rattle.std.proofs.Common.{◌≡◌, inl, inr, ℕ, zero, suc, Bool, true, false, List, [], ◌∷◌, ◌++◌, Result, Ok, Err, sym, subst}
use Rattle.std.specs.Prelude.{replicate}
use Rattle.std.specs.List.{AllByRecursion, flat_map}
use Rattle.ocf_model.specs.Answer.{event_of}
use Rattle.ocf_types.specs.Kinds.{Change, Command, Event}
use Rattle.ocf_model.specs.Answer.{Reply}
use Rattle.ocf_model.specs.State.{State, after_all}
use Rattle.ocf_types.specs.declared.command.RequestOf.TheVariants as asked
use Rattle.ocf_types.specs.declared.event.Change.TheVariants as change
use Rattle.ocf_types.specs.declared.event.Step.TheVariants as step
use Rattle.ocf_model.specs.declared.refusal.Refusal.{Refusal}
use Rattle.ocf_model.specs.declared.refusal.Refusal.TheVariants.{Disk}
use Rattle.ocf_model.specs.declared.reply.ReplyOf.TheVariants as reply
use Rattle.store_model.specs.StoreView.{StoreView}
use Rattle.exec_ledger.specs.Commands.{Obeys}
use Rattle.executor.specs.Exchanges.{Abandoned, Calls, Cleared, Does, Exchange, Finished, Batch, Tidied, Took}
use Rattle.exec_ledger.specs.Replies.{IsReplyTo, acknowledged}
use Rattle.exec_ledger.specs.Together.{Adds, Answered, disk_each, failed, batch_replies}
use Rattle.executor.specs.CommandExchangeLemmas.{commands_called}
use Rattle.executor.specs.CommandBatches.{TakesCommands}
use Rattle.executor.specs.CommandExchanges.{IsAt, replies_of}
use Rattle.executor.specs.Sessions.{Effects, TakesWhile}
use Rattle.executor.specs.ExecutorView.{ExecutorView, ledger_of}
use Rattle.executor.specs.declared.session.InputOf.TheVariants as input
use Rattle.exec_client.specs.MaySend.{MayAnswer}

all_both : {X : Type 0} (P : X → Type 0) (xs ys : List X) → AllByRecursion P xs → AllByRecursion P ys → AllByRecursion P (xs ++ ys)
all_both P [] ys one two = two
all_both P (x ∷ xs) ys one two = (one.0, all_both P xs ys one.1 two)

module _ {S : Type 0} (z : ExecutorView S) where
  abbrev Plain : Reply → Type 0
  Plain r = MayAnswer z r

  is_plain : (r s : Reply) → r ≡ s → Plain s → Plain r
  is_plain r s same plain = subst Plain (sym same) plain

  ack_plain : (c : Change) → Plain (acknowledged c)
  ack_plain (change.Register r) = tt
  ack_plain (change.Unregister id) = tt
  ack_plain change.Boot = tt
  ack_plain (change.Step id (step.SetParams ps)) = tt
  ack_plain (change.Step id (step.Exec o)) = tt
  ack_plain (change.Step id (step.Recur m)) = tt
  ack_plain (change.Step id (step.Cancel interval)) = tt
  ack_plain (change.Step id step.Forget) = tt
  ack_plain (change.Step id (step.Begin call run)) = tt
  ack_plain (change.Step id (step.Result run end)) = tt
  ack_plain (change.Step id (step.Withdraw call)) = tt

  -- the reply to a command
  pub reply_plain : (e : Event) (r : Reply) → IsReplyTo e r → Plain r
  reply_plain e r (inl is) = is_plain r (acknowledged e.change) is (ack_plain e.change)
  reply_plain e r (inr (inl is)) = is_plain r _ is tt
  reply_plain e r (inr (inr (inl is))) = is_plain r _ is tt
  reply_plain e r (inr (inr (inr is))) = is_plain r _ is tt

  pub obeys_plain : (view : S → StoreView) (x y : ExecutorView S) (r : Reply) (found : Result Event Refusal) → Obeys view found (ledger_of x) (ledger_of y) r → Plain r
  obeys_plain view x y r (Err why) (refused, same) = is_plain r _ refused tt
  obeys_plain view x y r (Ok e) records = reply_plain e r records.reported

  -- the replies to a batch
  adds_plain : (found : Result Event Refusal) (r : Reply) (es : List Event) → Adds found r es → Plain r
  adds_plain (Err why) r es (refused, none) = is_plain r _ refused tt
  adds_plain (Ok e) r es (inl (reported, one)) = is_plain r _ reported (ack_plain e.change)
  adds_plain (Ok e) r es (inr (refused, registers, none)) = is_plain r _ refused tt

  answered_plain : (now : ℕ) (s : State) (cs : List Command) (rs : List Reply) (es : List Event) → Answered now s cs rs es
      → AllByRecursion Plain rs
  answered_plain now s [] [] es none = tt
  answered_plain now s (c ∷ cs) (r ∷ rs) es (first, later, adds, rest, is) =
      (adds_plain (event_of s now c) r first adds, answered_plain now (after_all s first) cs rs later rest)
  answered_plain now s [] (r ∷ rs) es none = absurd none
  answered_plain now s (c ∷ cs) [] es none = absurd none

  disk_plain : (rs : List Reply) → AllByRecursion Plain (disk_each rs)
  disk_plain [] = tt
  disk_plain (r ∷ rs) = (tt, disk_plain rs)

  failed_plain : (rs : List Reply) → AllByRecursion Plain (failed rs)
  failed_plain [] = tt
  failed_plain (reply.Refused why ∷ rs) = (tt, failed_plain rs)
  failed_plain (reply.Done ∷ rs) = (tt, disk_plain rs)
  failed_plain (reply.Accepted call key ∷ rs) = (tt, disk_plain rs)
  failed_plain (reply.List ids ∷ rs) = (tt, disk_plain rs)
  failed_plain (reply.Info info ∷ rs) = (tt, disk_plain rs)
  failed_plain (reply.History results ∷ rs) = (tt, disk_plain rs)
  failed_plain (reply.Turn end ∷ rs) = (tt, disk_plain rs)

  pub refused_plain : (n : ℕ) → AllByRecursion Plain (replicate n (reply.Refused Disk))
  refused_plain zero = tt
  refused_plain (suc n) = (tt, refused_plain n)

  batch_plain : (b : Bool) (now : ℕ) (s : State) (cs : List Command) (meant : List Reply) (es : List Event) → Answered now s cs meant es
      → AllByRecursion Plain (batch_replies b meant)
  batch_plain true now s cs meant es given = answered_plain now s cs meant es given
  batch_plain false now s cs meant es given = failed_plain meant

  module _ (view : S → StoreView) where
    taken_plain : (b : Bool) (at : ℕ) (c : Command) (x y : ExecutorView S) (r : Reply) (d : Effects)
        → TakesWhile b view (input.Request at (asked.Command c)) x y r d → Plain r
    taken_plain true at c x y r d takes = obeys_plain view x y r (event_of x.state at c) takes.serves.0
    taken_plain false at c x y r d (refused, same, none) = is_plain r _ refused tt

    one_plain : (now : ℕ) (e : Exchange) (x y : ExecutorView S) (d : Effects) → IsAt now e → Does view e x y d → AllByRecursion Plain (replies_of e)
    one_plain now (Took (input.Request at (asked.Command c)) r) x y d is does = (taken_plain x.is_open at c x y r d does, tt)
    one_plain now (Took (input.Request at (asked.Question q)) r) x y d is does = absurd is
    one_plain now (Took (input.Turn at) r) x y d is does = absurd is
    one_plain now (Batch at cs rs) x y d is does =
        subst (λ (ts : List Reply). AllByRecursion Plain ts) (sym does.takes.reported)
        (batch_plain y.is_open at x.state cs does.takes.meant does.takes.events does.takes.answered)
    one_plain now (Finished at end) x y d is does = absurd is
    one_plain now (Tidied end) x y d is does = absurd is
    one_plain now Cleared x y d is does = absurd is
    one_plain now Abandoned x y d is does = absurd is

    calls_plain : (now : ℕ) (es : List Exchange) (x y : ExecutorView S) (d : Effects) → AllByRecursion (IsAt now) es → Calls view x es y d
        → AllByRecursion Plain (flat_map replies_of es)
    calls_plain now [] x y d at calls = tt
    calls_plain now (e ∷ es) x y d at (mid, first, later, does, calls, is) =
        all_both Plain (replies_of e) (flat_map replies_of es) (one_plain now e x mid first at.0 does)
        (calls_plain now es mid y later at.1 calls)

    pub commands_plain : (now : ℕ) (cs : List Command) (x y : ExecutorView S) (rs : List Reply) → TakesCommands view now cs x y rs
        → AllByRecursion Plain rs
    commands_plain now cs x y rs takes =
        let called = commands_called view now cs rs x y takes in
        subst (λ (ts : List Reply). AllByRecursion Plain ts) called.answered
        (calls_plain now called.exchanges x y called.effects called.at_once called.calls)
