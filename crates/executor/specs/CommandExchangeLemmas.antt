-- Lemmas: commands that arrived together are calls, for proofs here and in the crates above.
use Rattle.std.specs.Prelude.{◌≡◌, ℕ, Bool, true, false, List, [], ◌∷◌, ◌++◌, map}
use Rattle.std.specs.List.{AllByRecursion, flat_map}
use Rattle.std.proofs.Common.{true≢false, refl, sym, ap, subst, ◌∙◌}
use Rattle.ocf_types.specs.Kinds.{Command}
use Rattle.ocf_model.specs.Answer.{Reply}
use Rattle.ocf_types.specs.declared.command.RequestOf.TheVariants as asked
use Rattle.exec_ledger.specs.Commands.{TakesCommand}
use Rattle.exec_ledger.specs.LedgerView.{LedgerView}
use Rattle.exec_ledger.specs.Lemmas.{of_closed, of_open}
use Rattle.exec_ledger.specs.Pieces.{Effects, followed_by, no_effects, batch_effects}
use Rattle.exec_ledger.specs.CommitGroups.{CommitGroup, Single, TakesGroup, TakesGroups, commands_of as grouped_commands, replies_of as grouped_replies}
use Rattle.exec_ledger.specs.CommitGroups.{Batch as GroupedBatch}
use Rattle.executor.specs.BatchLemmas.{still_beside, with_ledger}
use Rattle.executor.specs.CallLemmas.{request_taken, same_view}
use Rattle.executor.specs.CommandBatches.{TakesCommands}
use Rattle.executor.specs.ExecutorView.{ExecutorView, ledger_of}
use Rattle.executor.specs.Sessions.{TakesWhile}
use Rattle.executor.specs.declared.session.InputOf.TheVariants as input
use Rattle.executor.specs.CommandExchanges.{CallsCommands, IsAt, commands_of, replies_of}
use Rattle.executor.specs.Exchanges.{Calls, Does, Exchange, Batch, Took}
use Rattle.store_model.specs.StoreView.{StoreView}

-- a single command or a batch as a call
abbrev exchange_of : ℕ → CommitGroup → Exchange
exchange_of now (Single c r) = Took (input.Request now (asked.Command c)) r
exchange_of now (GroupedBatch cs rs) = Batch now cs rs

same_commands : (now : ℕ) (ss : List CommitGroup) → flat_map commands_of (map (exchange_of now) ss) ≡ flat_map grouped_commands ss
same_commands now [] = refl
same_commands now (Single c r ∷ ss) = ap (λ (l : List Command). c ∷ l) (same_commands now ss)
same_commands now (GroupedBatch cs rs ∷ ss) = ap (λ (l : List Command). cs ++ l) (same_commands now ss)

same_replies : (now : ℕ) (ss : List CommitGroup) → flat_map replies_of (map (exchange_of now) ss) ≡ flat_map grouped_replies ss
same_replies now [] = refl
same_replies now (Single c r ∷ ss) = ap (λ (l : List Reply). r ∷ l) (same_replies now ss)
same_replies now (GroupedBatch cs rs ∷ ss) = ap (λ (l : List Reply). rs ++ l) (same_replies now ss)

at_once : (now : ℕ) (ss : List CommitGroup) → AllByRecursion (IsAt now) (map (exchange_of now) ss)
at_once now [] = tt
at_once now (Single c r ∷ ss) = (refl, at_once now ss)
at_once now (GroupedBatch cs rs ∷ ss) = (refl, at_once now ss)

module _ {S : Type 0} (view : S → StoreView) (now : ℕ) where
  command_taken : (b : Bool) (c : Command) (r : Reply) (x : ExecutorView S) (h : LedgerView S) → x.is_open ≡ b
      → TakesCommand view now c (ledger_of x) h r
      → (d : Effects) × TakesWhile b view (input.Request now (asked.Command c)) x (with_ledger x h) r d
  command_taken true c r x h was does =
      let takes = of_open _ _ was does in
      request_taken true view now (asked.Command c) x (with_ledger x h) r (takes.0, still_beside x h) (λ _. takes.1)
  command_taken false c r x h was does =
      let takes = of_closed _ _ was does in
      request_taken false view now (asked.Command c) x (with_ledger x h) r
      (takes.0, same_view x (with_ledger x h) takes.1 (still_beside x h)) (λ bad. absurd (true≢false (sym bad)))

  group_taken : (s : CommitGroup) (x : ExecutorView S) (h : LedgerView S) → TakesGroup view now s (ledger_of x) h
      → (d : Effects) × Does view (exchange_of now s) x (with_ledger x h) d
  group_taken (Single c r) x h takes = command_taken x.is_open c r x h refl takes
  group_taken (GroupedBatch cs rs) x h takes =
      (batch_effects h.is_open takes.events, record { takes = takes; beside = still_beside x h; does = refl })

  groups_taken : (ss : List CommitGroup) (x : ExecutorView S) (h : LedgerView S) → TakesGroups view now ss (ledger_of x) h
      → (d : Effects) × Calls view x (map (exchange_of now) ss) (with_ledger x h) d
  groups_taken [] x h same = (no_effects, (λ i. with_ledger x (same i), refl))
  groups_taken (s ∷ ss) x h (mid, one, rest) =
      let first = group_taken s x mid one in
      let later = groups_taken ss (with_ledger x mid) h rest in
      (followed_by first.0 later.0, (with_ledger x mid, first.0, later.0, first.1, later.1, refl))

  -- commands that were taken are calls
  pub commands_called : (cs : List Command) (rs : List Reply) (x y : ExecutorView S) → TakesCommands view now cs x y rs
      → CallsCommands view now cs x y rs
  commands_called cs rs x y (takes, beside) =
      let h = ledger_of y in
      let all = groups_taken takes.groups x h takes.takes in
      let same : y ≡ with_ledger x h = same_view (with_ledger x h) y refl
      (record { children = beside.children; site = beside.site; reported = beside.reported; opening_report = beside.opening_report }) in
      subst (λ (z : ExecutorView S). CallsCommands view now cs x z rs) (sym same) (record {
        exchanges = map (exchange_of now) takes.groups;
        effects = all.0;
        calls = all.1;
        asked = same_commands now takes.groups ∙ takes.asked;
        answered = same_replies now takes.groups ∙ takes.answered;
        at_once = at_once now takes.groups;
      })
