-- How a session begins and ends.
use Rattle.std.proofs.Common.{◌≡◌, ap, ℕ, List, Option, Some, None, option_map, refl, Result, subst, sym, Bor, Ok, Err}
use Rattle.std.specs.Option.{option_copied}
use Rattle.store_model.specs.StoreView.{StoreView}
use Rattle.child_model.specs.Children.{ChildrenView}
use Rattle.executor.specs.ExecutorView.{ExecutorView}
use Rattle.exec_replies.specs.JournalIds.{id_digits}
use Rattle.exec_replies.specs.declared.journal_id.JournalId.{JournalId}
use Rattle.ocf_types.specs.declared.orphan.Orphan.{Orphan}
use Rattle.exec_client.specs.ClientView.{ClientView}
use Rattle.exec_faults.specs.declared.fault.Fault.{Fault}
use Rattle.exec_options.specs.declared.options.Options.{Options}
use Rattle.session_machine.specs.Behaviours.{Trace, opening}
use Rattle.session_machine.specs.First.{IsNew}
use Rattle.session_machine.specs.Starts.{Start}
use Rattle.session_machine.specs.declared.rules.Rules.{Rules}
use Rattle.exec_session.specs.Ends.{Ended, IsEnd}
use Rattle.exec_session.specs.Steps.{IsOpeningOf}
use Rattle.exec_host.specs.Services.{IsHeldTo}
use Rattle.exec_faults.specs.Faults.{IsRunEnd}
use Rattle.exec_faults.specs.declared.fault.Fault.TheVariants as fault

-- a session does not end because of its arguments
ends : {S T : Type 0} (t : Trace S) (r : Result T Fault) → IsEnd t r → IsRunEnd r
ends t (Ok done) how = tt
ends t (Err fault.Usage) how = absurd how
ends t (Err fault.Choice) how = absurd how
ends t (Err fault.NotText) how = absurd how
ends t (Err fault.Log) how = absurd how
ends t (Err fault.NoResource) how = absurd how
ends t (Err fault.NotOpened) how = absurd how
ends t (Err fault.NoJournal) how = absurd how
ends t (Err fault.NotExisting) how = absurd how
ends t (Err fault.NotWell) how = absurd how
ends t (Err (fault.Damaged damage)) how = absurd how
ends t (Err fault.Memory) how = absurd how
ends t (Err fault.Disk) how = tt
ends t (Err fault.Full) how = absurd how
ends t (Err fault.InputOrOutput) how = tt
ends t (Err fault.ReplyMemory) how = tt
ends t (Err fault.ChildrenIgnored) how = absurd how
ends t (Err fault.NoExecutor) how = absurd how
ends t (Err fault.Failed) how = absurd how

pub run_ends : {S C : Type 0} (view : S → StoreView) (tend : C → ChildrenView) (old new : Trace S) (ended : Result Unit Fault) (store : S) (children : C)
    → Ended view tend old new ended store children → IsRunEnd ended
run_ends view tend old new ended store children ends_so = ends new ended ends_so.is_end

-- the digits of an identity that is lent
pub lent_digits : (lent : Option (Bor JournalId)) (id : Option JournalId) → option_copied lent ≡ id
    → option_map (λ x. id_digits x.now) lent ≡ option_map id_digits id
lent_digits None id is = ap (option_map id_digits) is
lent_digits (Some x) id is = ap (option_map id_digits) is

-- a session that begins so is one of the executor
pub opens_so : {S : Type 0} {t : Trace S} {rules : Rules} {start : Start} {x : ExecutorView S} {client : ClientView S} → t ≡ opening rules start x client
    → IsNew client x → IsOpeningOf t x
opens_so {S} {t} {rules} {start} {x} {client} is new = subst (λ (u : Trace S). IsOpeningOf u x) (sym is) (refl, refl, new)

-- a session that began so has ended
pub ended_from : {S C : Type 0} {view : S → StoreView} {tend : C → ChildrenView} {t begins new : Trace S} {ended : Result Unit Fault} {store : S}
    {children : C} → t ≡ begins → Ended view tend t new ended store children → Ended view tend begins new ended store children
ended_from {S} {C} {view} {tend} {t} {begins} {new} {ended} {store} {children} is ends =
    subst (λ (u : Trace S). Ended view tend u new ended store children) is ends

-- a session keeps to the same options, by the identity and the processes that were found
pub held_of : {o : Options} {identity found : Option (List ℕ)} {lives left : List Orphan} {rules : Rules} → found ≡ identity → left ≡ lives
    → IsHeldTo o found left rules → IsHeldTo o identity lives rules
held_of {o} {identity} {found} {lives} {left} {rules} of_journal living held =
    subst (λ (i : Option (List ℕ)). IsHeldTo o i lives rules) of_journal (subst (λ (l : List Orphan). IsHeldTo o found l rules) living held)
