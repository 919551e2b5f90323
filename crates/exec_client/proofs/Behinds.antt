-- The events that back what is sent, piece by piece.
use Rattle.std.proofs.Common.{◌≡◌, inl, inr, ℕ, false, List, [], ◌∷◌, ◌++◌, map, Result, Ok, Err, refl, sym, subst}
use Rattle.std.proofs.lemmas.List.{append-nil, map-append}
use Rattle.std.specs.List.{flat_map}
use Rattle.ocf_model.specs.Answer.{event_of}
use Rattle.ocf_types.specs.Kinds.{Command, Event}
use Rattle.ocf_model.specs.Answer.{Reply}
use Rattle.ocf_model.specs.State.{State, after_all}
use Rattle.ocf_types.specs.declared.outcome.RunEnd.{RunEnd}
use Rattle.ocf_model.specs.declared.refusal.Refusal.{Refusal}
use Rattle.ocf_model.specs.declared.refusal.Refusal.TheVariants.{Disk, Memory}
use Rattle.ocf_types.specs.declared.notice.Notice.{Notice}
use Rattle.ocf_model.specs.declared.reply.ReplyOf.TheVariants as reply
use Rattle.ocf_model.specs.declared.reply.TurnEnd.{TurnEnd}
use Rattle.ocf_model.specs.declared.reply.TurnEnd.TheVariants as turn_end
use Rattle.child_model.specs.declared.answer.Entry.{Entry}
use Rattle.exec_ledger.specs.Actives.{Active}
use Rattle.exec_turn.specs.Actives.{notice_of, result_of}
use Rattle.exec_turn.specs.Picks.{begins}
use Rattle.exec_turn.specs.Polls.{Polled, ends_of, result_notices, results}
use Rattle.exec_turn.specs.Starts.{Started, refusal_notices, refusals, refused_end}
use Rattle.exec_turn.specs.Turn.{IsFinish, IsTurn, Whole}
use Rattle.exec_ledger.specs.Lemmas.{same_events}
use Rattle.exec_ledger.specs.Pieces.{Effects}
use Rattle.exec_ledger.specs.BatchStarts.{BatchStart}
use Rattle.exec_ledger.specs.Replies.{IsReplyTo, KeepsRunning, recorded}
use Rattle.exec_ledger.specs.Together.{Adds, Answered as BatchAnswered, disk_each, failed}
use Rattle.exec_ledger.proofs.Keeping.{command_keeps}
use Rattle.exec_client.specs.BackedBy.{BackedBy, IsMessageOf, claims, nothing, states_else, sends, unsent}
use Rattle.exec_client.specs.SentItem.{SentItem, answered, noticed_by}

-- no message is backed by any events
pub none_sent : (es : List Event) → BackedBy [] es
none_sent [] = nothing
none_sent (e ∷ es) = unsent e [] es (none_sent es)

-- one after the other
pub both_after : (ss : List SentItem) (es : List Event) (ts : List SentItem) (fs : List Event) → BackedBy ss es → BackedBy ts fs
    → BackedBy (ss ++ ts) (es ++ fs)
both_after _ _ ts fs nothing later = later
both_after _ _ ts fs (unsent e ss es b) later = unsent e (ss ++ ts) (es ++ fs) (both_after ss es ts fs b later)
both_after _ _ ts fs (sends s e ss es t b) later = sends s e (ss ++ ts) (es ++ fs) t (both_after ss es ts fs b later)
both_after _ _ ts fs (states_else s ss es none b) later = states_else s (ss ++ ts) (es ++ fs) none (both_after ss es ts fs b later)

-- after more events
pub after_more : (ss : List SentItem) (es fs : List Event) → BackedBy ss es → BackedBy ss (es ++ fs)
after_more ss es fs b =
    subst (λ (ts : List SentItem). BackedBy ts (es ++ fs)) (append-nil ss) (both_after ss es [] fs b (none_sent fs))

pub after_after : (ss : List SentItem) (fs es : List Event) → BackedBy ss es → BackedBy ss (fs ++ es)
after_after ss fs es b = both_after [] fs ss es (none_sent fs) b

-- a message that claims one event, or none
one_sent : (s : SentItem) (e : Event) → IsMessageOf s e → BackedBy (s ∷ []) (e ∷ [])
one_sent s e t = sends s e [] [] t nothing

pub states_nothing : (s : SentItem) → claims s ≡ false → BackedBy (s ∷ []) []
states_nothing s none = states_else s [] [] none nothing

-- a command that is this event
pub reply_after : (e : Event) (r : Reply) → KeepsRunning e.change → IsReplyTo e r → BackedBy (answered r ∷ []) (recorded e r)
reply_after e (reply.Refused why) keeps is = states_nothing (answered (reply.Refused why)) refl
reply_after e reply.Done keeps (inl is) = one_sent (answered reply.Done) e (keeps, is)
reply_after e reply.Done keeps (inr (inl is)) = absurd cc
reply_after e reply.Done keeps (inr (inr (inl is))) = absurd cc
reply_after e reply.Done keeps (inr (inr (inr is))) = absurd cc
reply_after e (reply.Accepted call key) keeps (inl is) = one_sent (answered (reply.Accepted call key)) e (keeps, is)
reply_after e (reply.Accepted call key) keeps (inr (inl is)) = absurd cc
reply_after e (reply.Accepted call key) keeps (inr (inr (inl is))) = absurd cc
reply_after e (reply.Accepted call key) keeps (inr (inr (inr is))) = absurd cc
reply_after e (reply.List ids) keeps is = unsent e (answered (reply.List ids) ∷ []) [] (states_nothing (answered (reply.List ids)) refl)
reply_after e (reply.Info info) keeps is = unsent e (answered (reply.Info info) ∷ []) [] (states_nothing (answered (reply.Info info)) refl)
reply_after e (reply.History rs) keeps is = unsent e (answered (reply.History rs) ∷ []) [] (states_nothing (answered (reply.History rs)) refl)
reply_after e (reply.Turn end) keeps is = unsent e (answered (reply.Turn end) ∷ []) [] (states_nothing (answered (reply.Turn end)) refl)

-- a command of a batch
add_after : (s : State) (now : ℕ) (c : Command) (x : Result Event Refusal) (r : Reply) (es : List Event) → event_of s now c ≡ x
    → Adds x r es → BackedBy (answered r ∷ []) es
add_after s now c (Err why) r es is (refused, none) =
    subst (λ (t : Reply). BackedBy (answered t ∷ []) es) (sym refused)
    (subst (λ (fs : List Event). BackedBy (answered (reply.Refused why) ∷ []) fs) (sym none) (states_nothing (answered (reply.Refused why)) refl))
add_after s now c (Ok e) r es is (inl (reported, one)) =
    subst (λ (fs : List Event). BackedBy (answered r ∷ []) fs) (sym one) (one_sent (answered r) e (command_keeps s now c e is, reported))
add_after s now c (Ok e) r es is (inr (refused, registers, none)) =
    subst (λ (t : Reply). BackedBy (answered t ∷ []) es) (sym refused)
    (subst (λ (fs : List Event). BackedBy (answered (reply.Refused Memory) ∷ []) fs) (sym none) (states_nothing (answered (reply.Refused Memory)) refl))

-- commands in a batch
pub batch_after : (now : ℕ) (s : State) (cs : List Command) (rs : List Reply) (es : List Event) → BatchAnswered now s cs rs es
    → BackedBy (map answered rs) es
batch_after now s [] [] es none = subst (λ (fs : List Event). BackedBy [] fs) (sym none) nothing
batch_after now s (c ∷ cs) (r ∷ rs) es (first, later, adds, rest, is) =
    subst (λ (fs : List Event). BackedBy (map answered (r ∷ rs)) fs) (sym is)
    (both_after (answered r ∷ []) first (map answered rs) later (add_after s now c (event_of s now c) r first refl adds)
    (batch_after now (after_all s first) cs rs later rest))
batch_after now s [] (r ∷ rs) es none = absurd none
batch_after now s (c ∷ cs) [] es none = absurd none

-- refusals
disk_after : (rs : List Reply) → BackedBy (map answered (disk_each rs)) []
disk_after [] = nothing
disk_after (r ∷ rs) = states_else (answered (reply.Refused Disk)) (map answered (disk_each rs)) [] refl (disk_after rs)

pub failed_after : (rs : List Reply) → BackedBy (map answered (failed rs)) []
failed_after [] = nothing
failed_after (reply.Refused why ∷ rs) =
    states_else (answered (reply.Refused why)) (map answered (failed rs)) [] refl (failed_after rs)
failed_after (reply.Done ∷ rs) = disk_after (reply.Done ∷ rs)
failed_after (reply.Accepted call key ∷ rs) = disk_after (reply.Accepted call key ∷ rs)
failed_after (reply.List ids ∷ rs) = disk_after (reply.List ids ∷ rs)
failed_after (reply.Info info ∷ rs) = disk_after (reply.Info info ∷ rs)
failed_after (reply.History results ∷ rs) = disk_after (reply.History results ∷ rs)
failed_after (reply.Turn end ∷ rs) = disk_after (reply.Turn end ∷ rs)

-- with the signals of this book
module _ (book : List Entry) where
  -- the ends of an action
  ends_after : (at : ℕ) (a : Active) (ends : List RunEnd) → BackedBy (map (noticed_by book) (map (notice_of at a) ends)) (map (result_of at a) ends)
  ends_after at a [] = nothing
  ends_after at a (end ∷ ends) =
      sends (noticed_by book (notice_of at a end)) (result_of at a end) _ _ (record { end = end; is = refl; ended = refl }) (ends_after at a ends)

  -- the ends of several
  all_after : {X : Type 0} (at : ℕ) (who : X → Active) (ends : X → List RunEnd) (xs : List X)
      → BackedBy (map (noticed_by book) (flat_map (λ x. map (notice_of at (who x)) (ends x)) xs)) (flat_map (λ x. map (result_of at (who x)) (ends x)) xs)
  all_after at who ends [] = nothing
  all_after at who ends (x ∷ xs) =
      subst (λ (ss : List SentItem). BackedBy ss (flat_map (λ x. map (result_of at (who x)) (ends x)) (x ∷ xs)))
      (sym (map-append (noticed_by book) (map (notice_of at (who x)) (ends x)) (flat_map (λ x. map (notice_of at (who x)) (ends x)) xs)))
      (both_after _ _ _ _ (ends_after at (who x) (ends x)) (all_after at who ends xs))

  results_after : (at : ℕ) (ps : List Polled) → BackedBy (map (noticed_by book) (result_notices at ps)) (results at ps)
  results_after at ps = all_after at (λ p. p.who) (λ p. ends_of at p) ps

  refusals_after : (at : ℕ) (xs : List Started) → BackedBy (map (noticed_by book) (refusal_notices at xs)) (refusals at xs)
  refusals_after at xs = all_after at (λ x. x.what) (λ x. refused_end x.answer) xs

  -- results, then what was begun
  begun_after : (at : ℕ) (ps : List Polled) (bs : List Active) → BackedBy (map (noticed_by book) (result_notices at ps)) (results at ps ++ begins at bs)
  begun_after at ps bs =
      after_more (map (noticed_by book) (result_notices at ps)) (results at ps) (begins at bs) (results_after at ps)

  -- these notices and events, by what they are
  moved : (reported sent2 : List Notice) (es es2 : List Event) → reported ≡ sent2 → es ≡ es2 → BackedBy (map (noticed_by book) sent2) es2 → BackedBy (map (noticed_by book) reported) es
  moved reported sent2 es es2 same same2 b =
      subst (λ (ns : List Notice). BackedBy (map (noticed_by book) ns) es) (sym same) (subst (λ (fs : List Event). BackedBy (map (noticed_by book) sent2) fs) (sym same2) b)

  whole_after : (held : List (List ℕ)) (end : TurnEnd) (x : BatchStart) (did : Effects) (reported : List Notice) → Whole held end x did reported
      → BackedBy (map (noticed_by book) reported) did.events
  whole_after held end x did reported (t, is, ns) =
      moved reported _ did.events _ ns (same_events is)
      (subst (λ (ss : List SentItem). BackedBy ss (results x.at t.polled ++ begins x.at t.begun ++ refusals x.at t.started))
      (sym (map-append (noticed_by book) (result_notices x.at t.polled) (refusal_notices x.at t.started)))
      (both_after _ _ _ _ (begun_after x.at t.polled t.begun) (refusals_after x.at t.started)))

  -- a turn
  pub turn_after : (held : List (List ℕ)) (end : TurnEnd) (x : BatchStart) (did : Effects) (reported : List Notice) → IsTurn held end x did reported
      → BackedBy (map (noticed_by book) reported) did.events
  turn_after held turn_end.Closed x did reported none = absurd none
  turn_after held turn_end.BookFull x did reported (is, ns) = moved reported [] did.events [] ns (same_events is) nothing
  turn_after held turn_end.Done x did reported whole = whole_after held turn_end.Done x did reported whole
  turn_after held turn_end.RunsSpent x did reported whole = whole_after held turn_end.RunsSpent x did reported whole
  turn_after held turn_end.Full x did reported whole = whole_after held turn_end.Full x did reported whole
  turn_after held turn_end.Memory x did reported whole = whole_after held turn_end.Memory x did reported whole
  turn_after held turn_end.Disk x did reported (inl (ps, _, is, ns)) = moved reported [] did.events [] ns (same_events is) nothing
  turn_after held turn_end.Disk x did reported (inr (inl (ps, end, bs, _, _, is, ns))) =
      moved reported _ did.events _ ns (same_events is) (results_after x.at ps)
  turn_after held turn_end.Disk x did reported (inr (inr (end, t, is, ns))) =
      moved reported _ did.events _ ns (same_events is) (begun_after x.at t.polled t.begun)

  -- a turn that begins nothing
  pub finish_after : (held : List (List ℕ)) (end : TurnEnd) (x : BatchStart) (did : Effects) (reported : List Notice) → IsFinish held end x did reported
      → BackedBy (map (noticed_by book) reported) did.events
  finish_after held turn_end.Done x did reported (ps, _, is, ns) = moved reported _ did.events _ ns (same_events is) (results_after x.at ps)
  finish_after held turn_end.BookFull x did reported (is, ns) = moved reported [] did.events [] ns (same_events is) nothing
  finish_after held turn_end.Disk x did reported (ps, _, is, ns) = moved reported [] did.events [] ns (same_events is) nothing
  finish_after held turn_end.Closed x did reported none = absurd none
  finish_after held turn_end.RunsSpent x did reported none = absurd none
  finish_after held turn_end.Full x did reported none = absurd none
  finish_after held turn_end.Memory x did reported none = absurd none
