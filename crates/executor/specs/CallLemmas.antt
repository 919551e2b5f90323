-- Lemmas on calls of an executor, for proofs here and in the crates above.
use Rattle.std.specs.Prelude.{◌≡◌, ◌↔◌, ℕ, Bool, true, false, List, [], ◌++◌}
use Rattle.std.proofs.Common.{append_assoc, refl, sym, ap, ◌∙◌}
use Rattle.std.proofs.lemmas.List.{append-nil}
use Rattle.ocf_types.specs.Kinds.{Event, Request}
use Rattle.ocf_model.specs.Answer.{Reply}
use Rattle.ocf_model.specs.declared.refusal.Refusal.TheVariants.{Disk}
use Rattle.ocf_model.specs.declared.reply.ReplyOf.TheVariants.{Refused, Turn}
use Rattle.ocf_model.specs.declared.reply.TurnEnd.{TurnEnd}
use Rattle.child_model.specs.declared.answer.Entry.{Entry}
use Rattle.executor.specs.Commands.{ServesWhile}
use Rattle.exec_ledger.specs.Pieces.{Effects, followed_by, no_effects}
use Rattle.executor.specs.Sessions.{TakesWhile, request_effects}
use Rattle.executor.specs.ExecutorView.{OnlyLedgerChanges, ExecutorView, ledger_of, executor_view}
use Rattle.executor.specs.TurnCalls.{TurnsWhile}
use Rattle.executor.specs.declared.session.InputOf.TheVariants as input
use Rattle.store_model.specs.StoreView.{StoreView}

-- executors are the same whose ledgers are, and all that is beside them
pub same_view : {S : Type 0} (x y : ExecutorView S) → ledger_of y ≡ ledger_of x → OnlyLedgerChanges x y → y ≡ x
same_view x y same beside =
    λ i. executor_view (same i) (beside.children i) (beside.site i) (beside.reported i) (beside.opening_report i)

-- a request that was served was taken
pub request_taken : {S : Type 0} (b : Bool) (view : S → StoreView) (now : ℕ) (request : Request) (x y : ExecutorView S) (reply : Reply)
    → ServesWhile b view now request x y reply → (b ≡ true → ((y.is_open ≡ false) ↔ (reply ≡ Refused Disk)))
    → (d : Effects) × TakesWhile b view (input.Request now request) x y reply d
request_taken true view now request x y reply serves closes =
    (request_effects x.state now request reply, record { serves = serves; closes = closes refl; does = refl })
request_taken false view now request x y reply serves closes = (no_effects, (serves.0, serves.1, refl))

-- a turn that was made was taken
pub turn_taken : {S : Type 0} (b : Bool) (view : S → StoreView) (now : ℕ) (x y : ExecutorView S) (end : TurnEnd)
    → TurnsWhile b view now x y end → (d : Effects) × TakesWhile b view (input.Turn now) x y (Turn end) d
turn_taken true view now x y end turns = (turns.turns.effects, record { end = end; takes = turns; replies = refl; does = refl })
turn_taken false view now x y end turns = (no_effects, (ap (λ (e : TurnEnd). Turn e) turns.0, turns.1, refl))

-- effects after others
pub followed_by_assoc : (a b c : Effects) → followed_by a (followed_by b c) ≡ followed_by (followed_by a b) c
followed_by_assoc a b c =
    let f : List Entry → List Event → List Event → Effects = λ x y z. record { entries = x; events = y; pending = z } in
    ap (λ (x : List Entry). f x (a.events ++ (b.events ++ c.events)) (a.pending ++ (b.pending ++ c.pending)))
    (sym (append_assoc a.entries b.entries c.entries))
    ∙ ap (λ (y : List Event). f ((a.entries ++ b.entries) ++ c.entries) y (a.pending ++ (b.pending ++ c.pending)))
    (sym (append_assoc a.events b.events c.events))
    ∙ ap (λ (z : List Event). f ((a.entries ++ b.entries) ++ c.entries) ((a.events ++ b.events) ++ c.events) z)
    (sym (append_assoc a.pending b.pending c.pending))

pub followed_by_none : (a : Effects) → followed_by a no_effects ≡ a
followed_by_none a =
    ap (λ (es : List Entry). record { entries = es; events = a.events ++ []; pending = a.pending ++ [] }) (append-nil a.entries)
    ∙ ap (λ (es : List Event). record { entries = a.entries; events = es; pending = a.pending ++ [] }) (append-nil a.events)
    ∙ ap (λ (es : List Event). record { entries = a.entries; events = a.events; pending = es }) (append-nil a.pending)
