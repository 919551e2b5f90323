-- The numbers, computed.
use Rattle.std.proofs.Common.{◌≡◌, ◌≤◌, ◌<◌, ◌+◌, ◌*◌, true, false, [], ◌∷◌, refl, arith}
use Rattle.ocf_types.specs.Limits.{event_limit, head_len, longest_begin, longest_result, longest_state, part_limit, reserve, resources_limit, slot_frame}
use Rattle.ocf_model.specs.declared.refusal.Refusal.TheVariants.{Disk, JournalFull}
use Rattle.ocf_model.specs.declared.reply.ReplyOf.TheVariants.{Done, Refused}
use Rattle.ocf_model.specs.declared.reply.TurnEnd.TheVariants.{BookFull, Full}
use Rattle.executor.specs.ExecutorView.{ExecutorView}
use Rattle.session_machine.specs.Events as event
use Rattle.session_machine.specs.Room.{second_mark, worthwhile}
use Rattle.session_laws.specs.Numbers.{HasBook, is_book_full, is_journal_full}

-- past the second mark a tidy is worthwhile, however long the state is
longest_gains : head_len + longest_state + worthwhile ≤ second_mark
longest_gains = omega arith

-- at the second mark 69 of the longest commands, in a record each, leave the reserve free, and 70 do not
fit : second_mark + 69 * (slot_frame + event_limit) + 1 + reserve ≤ part_limit
fit = omega arith

do_not_fit : part_limit < second_mark + 70 * (slot_frame + event_limit) + 1 + reserve
do_not_fit = omega arith

-- and so do the begins of a turn that polls and begins an action of each of 256 resources
turn_fits : second_mark + (slot_frame + resources_limit * longest_result) + (slot_frame + resources_limit * longest_begin) + 1 + reserve ≤ part_limit
turn_fits = omega arith

module _ {S : Type 0} (x : ExecutorView S) where
  -- a book of 768 answers has the room; one of 767 has not
  book_fits : HasBook (record x.children { book = []; room = 768 })
  book_fits = omega arith

  book_small : HasBook (record x.children { book = []; room = 767 }) → ⊥
  book_small has = omega (arith, has)

  -- what the laws exclude, and what they do not
  full_book : is_book_full (event.Turned BookFull x) ≡ true
  full_book = refl

  full_turn : is_journal_full (event.Turned Full x) ≡ true
  full_turn = refl

  full_reply : is_journal_full (event.Together (Done ∷ Refused JournalFull ∷ []) x) ≡ true
  full_reply = refl

  other_reply : is_journal_full (event.Together (Done ∷ Refused Disk ∷ []) x) ≡ false
  other_reply = refl
