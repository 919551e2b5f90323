-- No command of a session and no turn finds the journal full.
use Rattle.std.proofs.Common.{◌≡◌, ◌<◌, false, List, ◌∷◌, refl, sym, subst}
use Rattle.std.specs.List.{AllByRecursion}
use Rattle.ocf_model.specs.LawfulState.{IsLawfulState}
use Rattle.ocf_model.specs.declared.reply.TurnEnd.TheVariants as turn_end
use Rattle.store_model.specs.StoreView.{StoreView}
use Rattle.executor.specs.ExecutorView.{ExecutorView}
use Rattle.executor.specs.TurnCalls.{with_empty_book}
use Rattle.session_machine.specs.Behaviours.{Behaves, May}
use Rattle.session_machine.specs.Events as event
use Rattle.session_machine.specs.Events.{Event}
use Rattle.session_machine.specs.First.{IsFirst}
use Rattle.session_machine.specs.Session.{Lines, SessionState, lines_in}
use Rattle.session_machine.specs.declared.rules.Rules.{Rules}
use Rattle.session_machine.proofs.AfterLemmas.{same_rules}
use Rattle.session_machine.proofs.LineLemmas.{lines_read}
use Rattle.session_laws.specs.Named.{IsNamedRead}
use Rattle.session_laws.specs.Numbers.{is_journal_full, last_epoch}
use Rattle.session_laws.specs.Small.{IsSmallState}
use Rattle.session_laws.proofs.Executors.{room_made}
use Rattle.session_laws.proofs.Sessions.{commands_named, lines_named, request_named, small_on}
use Rattle.session_laws.proofs.Tails.{none_full, room_low, served_fits, together_fits, turn_fits}

module _ {S : Type 0} (view : S → StoreView) where
  turn_else : (s : SessionState S) (x : ExecutorView S) → 0 < s.rules.tidy_at → IsSmallState s.executor.state
      → ((view s.executor.store).epoch ≡ last_epoch → ⊥) → May view s (event.Turned turn_end.Full x) → ⊥
  turn_else s x on small unspent may =
      let turns = may.turns in
      let same = room_made view s.rules may.now (with_empty_book s.executor) turns.middle turns.room in
      let low = room_low view s.rules may.now (with_empty_book s.executor) turns.middle on small unspent turns.is_open turns.room in
      turn_fits view may.now turns.middle x (subst IsSmallState (sym same.state) small) low turns.takes

  not_full : (s : SessionState S) (e : Event S) → 0 < s.rules.tidy_at → IsSmallState s.executor.state → AllByRecursion IsNamedRead (lines_in s)
      → ((view s.executor.store).epoch ≡ last_epoch → ⊥) → May view s e → is_journal_full e ≡ false
  not_full s (event.Served reply x) on small named unspent may =
      served_fits view s.rules may.now may.request s.executor x reply on small unspent
      (request_named may.request (subst (λ (ls : Lines). AllByRecursion IsNamedRead ls) may.is named).0) may.serves
  not_full s (event.Together replies x) on small named unspent may =
      none_full replies
      (together_fits view s.rules may.now (may.first ∷ may.others) s.executor x replies on small unspent
      (commands_named (may.first ∷ may.others) may.rest (subst (λ (ls : Lines). AllByRecursion IsNamedRead ls) may.are named)) may.few may.serves)
  not_full s (event.Turned turn_end.Full x) on small named unspent may = absurd (turn_else s x on small unspent may)
  not_full s (event.Turned turn_end.BookFull x) on small named unspent may = refl
  not_full s (event.Turned turn_end.Done x) on small named unspent may = refl
  not_full s (event.Turned turn_end.RunsSpent x) on small named unspent may = refl
  not_full s (event.Turned turn_end.Memory x) on small named unspent may = refl
  not_full s (event.Turned turn_end.Closed x) on small named unspent may = refl
  not_full s (event.Turned turn_end.Disk x) on small named unspent may = refl
  not_full s (event.Finishes turn_end.Full x) on small named unspent may = absurd may.takes.turns.does
  not_full s (event.Finishes turn_end.BookFull x) on small named unspent may = refl
  not_full s (event.Finishes turn_end.Done x) on small named unspent may = refl
  not_full s (event.Finishes turn_end.RunsSpent x) on small named unspent may = refl
  not_full s (event.Finishes turn_end.Memory x) on small named unspent may = refl
  not_full s (event.Finishes turn_end.Closed x) on small named unspent may = refl
  not_full s (event.Finishes turn_end.Disk x) on small named unspent may = refl
  not_full s (event.Polled millis ready) on small named unspent may = refl
  not_full s (event.Peeked has_line) on small named unspent may = refl
  not_full s (event.Took bytes piece) on small named unspent may = refl
  not_full s event.ReadFailed on small named unspent may = refl
  not_full s (event.Noted found tag) on small named unspent may = refl
  not_full s (event.GaveMetadata provider agent limit given) on small named unspent may = refl
  not_full s (event.Shown now) on small named unspent may = refl
  not_full s (event.Rested micros) on small named unspent may = refl
  not_full s (event.Sent what all client) on small named unspent may = refl
  not_full s (event.HasReader still_reads) on small named unspent may = refl
  not_full s (event.Tidied end x) on small named unspent may = refl
  not_full s (event.Faulted x) on small named unspent may = refl

  pub journal_never_full : {first : SessionState S} {events : List (Event S)} {s : SessionState S} (e : Event S) → IsFirst first
      → IsLawfulState first.executor.state → 0 < first.rules.tidy_at → Behaves view first events s → May view s e
      → ((view s.executor.store).epoch ≡ last_epoch → ⊥) → is_journal_full e ≡ false
  journal_never_full {s = s} e is lawful on way may unspent =
      not_full s e (subst (λ (r : Rules). 0 < r.tidy_at) (sym (same_rules way)) on) (small_on view is lawful way)
      (lines_named s.rules.mode s.lines (lines_read is way)) unspent may
