-- Lack of memory is reported only where the allocator refuses memory.
use Rattle.std.proofs.Common.{◌≡◌, ℕ, Bool, true, false, List, [], ◌∷◌, Result, Ok, Err, Contains, IsTrue, refl, sym, ap, subst, ◌∙◌}
use Rattle.std.specs.List.{AllByRecursion}
use Rattle.std.proofs.lemmas.List.Elements.{All-from_recursion}
use Rattle.ocf_model.specs.Answer.{event_of, moment}
use Rattle.ocf_types.specs.Kinds.{Command, Event, Request}
use Rattle.ocf_model.specs.Answer.{Reply}
use Rattle.ocf_types.specs.declared.command.RequestOf.TheVariants as asked
use Rattle.ocf_model.specs.declared.refusal.Refusal.{Refusal}
use Rattle.ocf_model.specs.declared.refusal.Refusal.TheVariants.{Closed, Memory}
use Rattle.ocf_model.specs.declared.reply.ReplyOf.TheVariants as reply
use Rattle.ocf_model.specs.declared.reply.TurnEnd.{TurnEnd}
use Rattle.ocf_model.specs.declared.reply.TurnEnd.TheVariants as turn_end
use Rattle.exec_ledger.specs.Commands.{Obeys}
use Rattle.exec_ledger.specs.Replies.{MemoryOnlyIf}
use Rattle.exec_ledger.specs.BatchStarts.{batch_start}
use Rattle.exec_ledger.specs.Together.{disk_each, failed, batch_replies}
use Rattle.exec_ledger.proofs.Recording.{no_memory}
use Rattle.exec_turn.specs.Turn.{IsTurn}
use Rattle.executor.specs.Commands.{ServesOpen}
use Rattle.executor.specs.Exchanges.{Abandoned, Calls, Cleared, Does, Exchange, Finished, Batch, Tidied, Took}
use Rattle.executor_laws.specs.Machine.{LacksMemory}
use Rattle.exec_ledger.specs.Pieces.{Effects}
use Rattle.executor.specs.Sessions.{Input, TakesATurn, TakesWhile}
use Rattle.executor.specs.ExecutorView.{ExecutorView, due_in, ledger_of}
use Rattle.executor.specs.declared.session.InputOf.TheVariants as input
use Rattle.executor_laws.proofs.Lasting.{call_lasts}
use Rattle.store_model.specs.StoreView.{StoreView}

-- replies to a batch that failed
disk_keeps : (b : Bool) (rs : List Reply) → AllByRecursion (MemoryOnlyIf b) (disk_each rs)
disk_keeps b [] = tt
disk_keeps b (r ∷ rs) = ((λ bad. let no : ⊥ = cc in absurd no), disk_keeps b rs)

failed_keeps : (b : Bool) (rs : List Reply) → AllByRecursion (MemoryOnlyIf b) rs → AllByRecursion (MemoryOnlyIf b) (failed rs)
failed_keeps b [] all = tt
failed_keeps b (reply.Refused refusal ∷ rs) all = (all.0, failed_keeps b rs all.1)
failed_keeps b (r ∷ rs) all = ((λ bad. let no : ⊥ = cc in absurd no), disk_keeps b rs)

batch_keeps : (b o : Bool) (rs : List Reply) → AllByRecursion (MemoryOnlyIf b) rs → AllByRecursion (MemoryOnlyIf b) (batch_replies o rs)
batch_keeps b true rs all = all
batch_keeps b false rs all = failed_keeps b rs all

among : (b : Bool) (rs : List Reply) → AllByRecursion (MemoryOnlyIf b) rs → Contains rs (reply.Refused Memory) → IsTrue b
among b rs all (k, lt, is) =
    subst (MemoryOnlyIf b) is (All-from_recursion (MemoryOnlyIf b) rs all k (reply.Refused Memory) lt) refl

module _ {S : Type 0} (view : S → StoreView) where
  -- requests
  asked_refused : (v : Result Event Refusal) (now : ℕ) (c : Command) (x y : ExecutorView S) (r : Reply) → event_of x.state now c ≡ v
      → Obeys view v (ledger_of x) (ledger_of y) r → r ≡ reply.Refused Memory → IsTrue x.refuses
  asked_refused (Err refusal) now c x y r is obeys lacks =
      let reported : reply.Refused refusal ≡ reply.Refused Memory = sym obeys.0 ∙ lacks in
      let same : refusal ≡ Memory = cc in
      absurd (no_memory x.state now c (is ∙ ap (λ (w : Refusal). Err w) same))
  asked_refused (Ok e) now c x y r is obeys lacks = (obeys.memory lacks).1

  served : (now : ℕ) (request : Request) (x y : ExecutorView S) (r : Reply) → ServesOpen view now request x y r → r ≡ reply.Refused Memory
      → IsTrue x.refuses
  served now (asked.Question q) x y r serves lacks = serves.2 lacks
  served now (asked.Command c) x y r serves lacks = asked_refused (event_of x.state now c) now c x y r refl serves.0 lacks

  -- turns
  ended : (now : ℕ) (x y : ExecutorView S) (r : Reply) (d : Effects) → TakesATurn view now x y r d → r ≡ reply.Turn turn_end.Memory → IsTrue x.refuses
  ended now x y r d takes lacks =
      let reported : reply.Turn takes.end ≡ reply.Turn turn_end.Memory = sym takes.replies ∙ lacks in
      let same : takes.end ≡ turn_end.Memory = cc in
      let t = takes.takes.turns in
      (subst (λ (e : TurnEnd). IsTurn y.children.held e (batch_start x.state (due_in x) (view x.store).tail (moment x.state now) x.refuses) t.effects y.reported) same
      t.does).0.picked.1 refl

  taken : (b : Bool) (i : Input) (x y : ExecutorView S) (r : Reply) (d : Effects) → TakesWhile b view i x y r d → LacksMemory (Took i r)
      → IsTrue x.refuses
  taken true (input.Request now request) x y r d takes lacks = served now request x y r takes.serves lacks
  taken true (input.Turn now) x y r d takes lacks = ended now x y r d takes lacks
  taken false (input.Request now request) x y r d takes lacks =
      let reported : reply.Refused Closed ≡ reply.Refused Memory = sym takes.0 ∙ lacks in
      let no : ⊥ = cc in absurd no
  taken false (input.Turn now) x y r d takes lacks =
      let reported : reply.Turn turn_end.Closed ≡ reply.Turn turn_end.Memory = sym takes.0 ∙ lacks in
      let no : ⊥ = cc in absurd no

  pub memory_reported : (e : Exchange) (x y : ExecutorView S) (d : Effects) → Does view e x y d → LacksMemory e → IsTrue x.refuses
  memory_reported (Took i r) x y d does lacks = taken x.is_open i x y r d does lacks
  memory_reported (Batch now cs rs) x y d does lacks =
      let reported = does.takes.reported in
      among x.refuses rs
      (subst (AllByRecursion (MemoryOnlyIf x.refuses)) (sym reported) (batch_keeps x.refuses y.is_open does.takes.meant does.takes.memory)) lacks
  memory_reported (Finished now end) x y d does lacks = absurd lacks
  memory_reported (Tidied end) x y d does lacks = absurd lacks
  memory_reported Cleared x y d does lacks = absurd lacks
  memory_reported Abandoned x y d does lacks = absurd lacks

  -- so where no growth is refused no call reports lack of memory
  pub memory_there : (x y : ExecutorView S) (es : List Exchange) (d : Effects) → Calls view x es y d → x.refuses ≡ false
      → AllByRecursion (λ e. LacksMemory e → ⊥) es
  memory_there x y [] d calls none = tt
  memory_there x y (e ∷ es) d (mid, first, later, does, calls, is) none = (
    (λ lacks. let bad : true ≡ false = sym (memory_reported e x mid first does lacks) ∙ none in let no : ⊥ = cc in absurd no),
    memory_there mid y es later calls ((call_lasts view e x mid first does).refuses ∙ none),
  )
