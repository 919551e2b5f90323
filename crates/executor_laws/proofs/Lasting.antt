-- The report of an opening, and whether growths are refused, stay whatever is called.
use Rattle.std.proofs.Common.{◌≡◌, ℕ, Bool, true, false, List, [], ◌∷◌, Result, Ok, Err, ap, ◌∙◌}
use Rattle.ocf_model.specs.Answer.{event_of}
use Rattle.ocf_types.specs.Kinds.{Event, Request}
use Rattle.ocf_model.specs.Answer.{Reply}
use Rattle.ocf_types.specs.declared.command.RequestOf.TheVariants as asked
use Rattle.ocf_model.specs.declared.refusal.Refusal.{Refusal}
use Rattle.ocf_model.specs.declared.reply.TidyEnd.{TidyEnd}
use Rattle.ocf_model.specs.declared.reply.TurnEnd.{TurnEnd}
use Rattle.exec_ledger.specs.Commands.{Obeys}
use Rattle.exec_ledger.specs.LedgerView.{LedgerView}
use Rattle.exec_ledger.specs.Pieces.{Effects}
use Rattle.executor.specs.Commands.{ServesOpen}
use Rattle.executor.specs.FinishCalls.{FinishedWhile}
use Rattle.executor.specs.Exchanges.{Abandoned, Calls, Cleared, Does, Exchange, Finished, Batch, Tidied, Took}
use Rattle.executor.specs.Sessions.{Input, TakesWhile}
use Rattle.executor.specs.ExecutorView.{ExecutorView, ledger_of}
use Rattle.executor.specs.TidyCalls.{TidiesWhile}
use Rattle.executor.specs.declared.session.InputOf.TheVariants as input
use Rattle.store_model.specs.StoreView.{StoreView}

-- both are as they were
pub record Lasts {S : Type 0} (x y : ExecutorView S) : Type 0 where
  pub opening_report : y.opening_report ≡ x.opening_report
  pub refuses : y.refuses ≡ x.refuses

same_lasts : {S : Type 0} (x y : ExecutorView S) → y ≡ x → Lasts x y
same_lasts x y same = record { opening_report = ap (λ (z : ExecutorView _). z.opening_report) same; refuses = ap (λ (z : ExecutorView _). z.refuses) same }

module _ {S : Type 0} (view : S → StoreView) where
  obeyed : (v : Result Event Refusal) (x y : ExecutorView S) (r : Reply) → Obeys view v (ledger_of x) (ledger_of y) r → y.refuses ≡ x.refuses
  obeyed (Err refusal) x y r obeys = ap (λ (h : LedgerView S). h.refuses) obeys.1
  obeyed (Ok e) x y r obeys = obeys.allocator

  served : (now : ℕ) (request : Request) (x y : ExecutorView S) (r : Reply) → ServesOpen view now request x y r → Lasts x y
  served now (asked.Question q) x y r serves = same_lasts x y serves.1
  served now (asked.Command c) x y r serves =
      record { opening_report = serves.1.opening_report; refuses = obeyed (event_of x.state now c) x y r serves.0 }

  taken : (b : Bool) (i : Input) (x y : ExecutorView S) (r : Reply) (d : Effects) → TakesWhile b view i x y r d → Lasts x y
  taken true (input.Request now request) x y r d takes = served now request x y r takes.serves
  taken true (input.Turn now) x y r d takes = record { opening_report = takes.takes.opening_report; refuses = takes.takes.allocator }
  taken false i x y r d takes = same_lasts x y takes.1

  finished : (b : Bool) (now : ℕ) (x y : ExecutorView S) (end : TurnEnd) (d : Effects) → FinishedWhile b view now x y end d → Lasts x y
  finished true now x y end d (takes, does) = record { opening_report = takes.opening_report; refuses = takes.allocator }
  finished false now x y end d takes = same_lasts x y takes.1

  tidied : (b : Bool) (x y : ExecutorView S) (end : TidyEnd) → TidiesWhile b view x y end → Lasts x y
  tidied true x y end tidies = record { opening_report = tidies.1.opening_report; refuses = ap (λ (h : LedgerView S). h.refuses) tidies.0.same }
  tidied false x y end tidies = same_lasts x y tidies.1

  pub call_lasts : (e : Exchange) (x y : ExecutorView S) (d : Effects) → Does view e x y d → Lasts x y
  call_lasts (Took i r) x y d does = taken x.is_open i x y r d does
  call_lasts (Batch now cs rs) x y d does =
      record { opening_report = does.beside.opening_report; refuses = ap (λ (h : LedgerView S). h.refuses) does.takes.records.went.same }
  call_lasts (Finished now end) x y d does = finished x.is_open now x y end d does
  call_lasts (Tidied end) x y d does = tidied x.is_open x y end does.0
  call_lasts Cleared x y d does =
      record { opening_report = ap (λ (z : ExecutorView S). z.opening_report) does.0; refuses = ap (λ (z : ExecutorView S). z.refuses) does.0 }
  call_lasts Abandoned x y d does =
      record { opening_report = ap (λ (z : ExecutorView S). z.opening_report) does.0.2; refuses = ap (λ (z : ExecutorView S). z.refuses) does.0.2 }

  pub lemma_report_stays : (x y : ExecutorView S) (es : List Exchange) (d : Effects) → Calls view x es y d → y.opening_report ≡ x.opening_report
  lemma_report_stays x y [] d calls = (same_lasts x y calls.0).opening_report
  lemma_report_stays x y (e ∷ es) d (mid, first, later, does, calls, is) =
      lemma_report_stays mid y es later calls ∙ (call_lasts e x mid first does).opening_report
