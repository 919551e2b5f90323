-- What the laws of numbers speak of: a book with room for each turn, and commands and turns that found the journal full.
use Rattle.std.specs.Prelude.{◌≤◌, ℕ, ◌+◌, ◌*◌, Bool, true, false, length}
use Rattle.std.specs.List.{list_any}
use Rattle.ocf_model.specs.Answer.{Reply}
use Rattle.ocf_types.specs.Limits.{resources_limit}
use Rattle.ocf_model.specs.declared.refusal.Refusal.TheVariants.{JournalFull}
use Rattle.ocf_model.specs.declared.reply.ReplyOf.TheVariants.{Refused}
use Rattle.ocf_model.specs.declared.reply.TurnEnd.TheVariants.{BookFull, Full}
use Rattle.child_model.specs.Children.{ChildrenView}
use Rattle.session_machine.specs.Events.{Event}
use Rattle.session_machine.specs.Events as event

-- the book of answers, once it is emptied, has room for three for each resource that there may be
abbrev pub HasBook : ChildrenView → Type 0
HasBook v = 3 * resources_limit ≤ v.room + length v.book

-- a turn ended because the book had no room
abbrev pub is_book_full : {S : Type 0} → Event S → Bool
is_book_full (event.Turned BookFull x) = true
is_book_full (event.Finishes BookFull x) = true
is_book_full _ = false

-- a command was refused because the journal had no space
abbrev pub is_full_reply : Reply → Bool
is_full_reply (Refused JournalFull) = true
is_full_reply _ = false

-- a command was refused, or a turn ended, because the journal had no space
abbrev pub is_journal_full : {S : Type 0} → Event S → Bool
is_journal_full (event.Served reply x) = is_full_reply reply
is_journal_full (event.Together replies x) = list_any is_full_reply replies
is_journal_full (event.Turned Full x) = true
is_journal_full (event.Finishes Full x) = true
is_journal_full _ = false

-- the greatest epoch: a journal that has it is tidied no more
abbrev pub last_epoch : ℕ
last_epoch = 18446744073709551615
