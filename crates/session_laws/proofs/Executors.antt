-- What a session's calls of its executor do to its state, and to its book.
use Rattle.std.proofs.Common.{◌≡◌, ℕ, ◌+◌, ◌≤◌, Bool, true, false, List, ◌++◌, ◌-◌, length, refl, sym, ap, subst, arith, length-append}
use Rattle.std.specs.Prelude.{⊤}
use Rattle.std.specs.List.{AllByRecursion}
use Rattle.ocf_types.specs.Kinds.{Command, Request}
use Rattle.ocf_model.specs.Answer.{Reply}
use Rattle.ocf_types.specs.declared.command.RequestOf.TheVariants as asked
use Rattle.ocf_model.specs.declared.reply.TidyEnd.{TidyEnd}
use Rattle.ocf_model.specs.declared.reply.TurnEnd.{TurnEnd}
use Rattle.child_model.specs.Children.{ChildrenView}
use Rattle.child_model.specs.declared.answer.Entry.{Entry}
use Rattle.store_model.specs.StoreView.{StoreView}
use Rattle.exec_ledger.specs.LedgerView.{LedgerView}
use Rattle.executor.specs.Commands.{ServesOpen, ServesWhile}
use Rattle.executor.specs.ExecutorView.{ExecutorView, ledger_of}
use Rattle.executor.specs.TidyCalls.{Tidies}
use Rattle.executor.specs.TurnCalls.{FinishesTurn, TakesTurn, with_empty_book}
use Rattle.session_machine.specs.Room.{FailsNow, MakesRoom, ServesNow, ServesTogether, TurnsNow, is_tidy_due}
use Rattle.session_machine.specs.declared.rules.Rules.{Rules}
use Rattle.session_laws.specs.Named.{IsNamed}
use Rattle.session_laws.specs.Small.{IsSmallState}
use Rattle.session_laws.proofs.CallStates.{finish_small, groups_small, obeys_small, turn_small}

-- a request asks for a command with valid names, or is a question
abbrev pub IsNamedRequest : Request → Type 0
IsNamedRequest (asked.Command c) = IsNamed c
IsNamedRequest (asked.Question q) = ⊤

-- neither the state nor the children changed
pub record Same {S : Type 0} (x y : ExecutorView S) : Type 0 where
  pub state : y.state ≡ x.state
  pub children : y.children ≡ x.children

-- the book's capacity did not fall
abbrev pub Holds : ChildrenView → ChildrenView → Type 0
Holds v w = v.room + length v.book ≤ w.room + length w.book

same_holds : (v w : ChildrenView) → w ≡ v → Holds v w
same_holds v w same = subst (λ (u : ChildrenView). Holds v u) (sym same) (omega arith)

grown_holds : (v w : ChildrenView) (entries : List Entry) → w.book ≡ v.book ++ entries → w.room ≡ v.room - length entries → Holds v w
grown_holds v w entries book room = omega (arith, room, ap (λ (l : List Entry). length l) book, length-append v.book entries)

module _ {S : Type 0} (view : S → StoreView) where
  -- a tidy
  pub tidied : (x y : ExecutorView S) (end : TidyEnd) → Tidies view x y end → Same x y
  tidied x y end (tidies, beside) = record { state = ap (λ (l : LedgerView S). l.state) tidies.same; children = beside.children }

  -- a tidy, or none
  pub room_made : (rules : Rules) (now : ℕ) (x y : ExecutorView S) → MakesRoom view rules now x y → Same x y
  room_made rules now x y room = by (is_tidy_due view rules x now room.pace) refl
    where
      by : (b : Bool) → is_tidy_due view rules x now room.pace ≡ b → Same x y
      by true due = tidied x y (room.made due).0 (room.made due).1
      by false none = record {
        state = ap (λ (z : ExecutorView S). z.state) (room.none none);
        children = ap (λ (z : ExecutorView S). z.children) (room.none none);
      }

  -- a request
  open_small : (now : ℕ) (request : Request) (x y : ExecutorView S) (r : Reply) → IsSmallState x.state → IsNamedRequest request
      → ServesOpen view now request x y r → IsSmallState y.state
  open_small now (asked.Question question) x y r h named (answers, same, memory) =
      subst (λ (z : ExecutorView S). IsSmallState z.state) (sym same) h
  open_small now (asked.Command c) x y r h named (obeys, beside) = obeys_small view now c (ledger_of x) (ledger_of y) r h named obeys

  open_children : (now : ℕ) (request : Request) (x y : ExecutorView S) (r : Reply) → ServesOpen view now request x y r → y.children ≡ x.children
  open_children now (asked.Question question) x y r (answers, same, memory) = ap (λ (z : ExecutorView S). z.children) same
  open_children now (asked.Command c) x y r (obeys, beside) = beside.children

  -- what an open executor served
  pub opened : (now : ℕ) (request : Request) (x y : ExecutorView S) (r : Reply) → x.is_open ≡ true → ServesWhile x.is_open view now request x y r
      → ServesOpen view now request x y r
  opened now request x y r is_open serves = subst (λ (b : Bool). ServesWhile b view now request x y r) is_open serves

  -- from one executor to another: a small state leads to a small one, and the book's capacity does not fall
  pub record Keeps (x y : ExecutorView S) : Type 0 where
    pub small : IsSmallState x.state → IsSmallState y.state
    pub holds : Holds x.children y.children

  pub same_keeps : (x y : ExecutorView S) → Same x y → Keeps x y
  same_keeps x y same = record {
    small = λ h. subst IsSmallState (sym same.state) h;
    holds = same_holds x.children y.children same.children;
  }

  pub then_keeps : (x y z : ExecutorView S) → Keeps x y → Keeps y z → Keeps x z
  then_keeps x y z one two = record { small = λ h. two.small (one.small h); holds = omega (arith, one.holds, two.holds) }

  pub tidied_keeps : (x y : ExecutorView S) (end : TidyEnd) → Tidies view x y end → Keeps x y
  tidied_keeps x y end tidies = same_keeps x y (tidied x y end tidies)

  pub room_keeps : (rules : Rules) (now : ℕ) (x y : ExecutorView S) → MakesRoom view rules now x y → Keeps x y
  room_keeps rules now x y room = same_keeps x y (room_made rules now x y room)

  pub served_keeps : (rules : Rules) (now : ℕ) (request : Request) (x y : ExecutorView S) (r : Reply) → IsNamedRequest request
      → ServesNow view rules now request x y r → Keeps x y
  served_keeps rules now request x y r named serves =
      then_keeps x serves.middle y (room_keeps rules now x serves.middle serves.room) (by serves.middle.is_open refl)
    where
      by : (b : Bool) → serves.middle.is_open ≡ b → Keeps serves.middle y
      by true still =
          let served = opened now request serves.middle y r still (serves.serves still) in record {
            small = λ h. open_small now request serves.middle y r h named served;
            holds = same_holds serves.middle.children y.children (open_children now request serves.middle y r served);
          }
      by false closed =
          same_keeps serves.middle y (record {
            state = ap (λ (z : ExecutorView S). z.state) (serves.fails closed).1;
            children = ap (λ (z : ExecutorView S). z.children) (serves.fails closed).1;
          })

  -- a group commit
  pub together_keeps : (rules : Rules) (now : ℕ) (cs : List Command) (x y : ExecutorView S) (rs : List Reply) → AllByRecursion IsNamed cs
      → ServesTogether view rules now cs x y rs → Keeps x y
  together_keeps rules now cs x y rs named serves =
      then_keeps x serves.middle y (room_keeps rules now x serves.middle serves.room) (by serves.middle.is_open refl)
    where
      by : (b : Bool) → serves.middle.is_open ≡ b → Keeps serves.middle y
      by true still =
          let (takes, beside) = serves.takes still in record {
            small = λ h. groups_small view now takes.groups (ledger_of serves.middle) (ledger_of y) h
                (subst (λ (l : List Command). AllByRecursion IsNamed l) (sym takes.asked) named) takes.takes;
            holds = same_holds serves.middle.children y.children beside.children;
          }
      by false closed =
          same_keeps serves.middle y (record {
            state = ap (λ (z : ExecutorView S). z.state) (serves.fails closed).1;
            children = ap (λ (z : ExecutorView S). z.children) (serves.fails closed).1;
          })

  -- the book is emptied
  emptied_keeps : (x : ExecutorView S) → Keeps x (with_empty_book x)
  emptied_keeps x = record { small = λ h. h; holds = omega arith }

  -- a turn
  took_keeps : (now : ℕ) (x y : ExecutorView S) (end : TurnEnd) → TakesTurn view now x y end → Keeps x y
  took_keeps now x y end takes = record {
    small = λ h. subst IsSmallState (sym takes.turns.crash.state) (turn_small y.children.held end _ takes.turns.effects y.reported takes.turns.does h);
    holds = grown_holds x.children y.children takes.turns.effects.entries takes.turns.book takes.turns.room;
  }

  pub turned_keeps : (rules : Rules) (now : ℕ) (x y : ExecutorView S) (end : TurnEnd) → TurnsNow view rules now x y end → Keeps x y
  turned_keeps rules now x y end turns =
      then_keeps x (with_empty_book x) y (emptied_keeps x)
      (then_keeps (with_empty_book x) turns.middle y (room_keeps rules now (with_empty_book x) turns.middle turns.room)
      (took_keeps now turns.middle y end turns.takes))

  pub faulted_keeps : (rules : Rules) (now : ℕ) (x y : ExecutorView S) → FailsNow view rules now x y → Keeps x y
  faulted_keeps rules now x y fails =
      then_keeps x (with_empty_book x) y (emptied_keeps x) (room_keeps rules now (with_empty_book x) y fails.room)

  -- one that begins nothing
  pub finished_keeps : (now : ℕ) (x y : ExecutorView S) (end : TurnEnd) → FinishesTurn view now (with_empty_book x) y end → Keeps x y
  finished_keeps now x y end takes = then_keeps x (with_empty_book x) y (emptied_keeps x) (record {
    small = λ h. subst IsSmallState (sym takes.turns.crash.state) (finish_small y.children.held end _ takes.turns.effects y.reported takes.turns.does h);
    holds = grown_holds (with_empty_book x).children y.children takes.turns.effects.entries takes.turns.book takes.turns.room;
  })
