-- Refusals, with their numbers and words.
use Rattle.std.specs.Prelude.{ℕ, List, codes}
use Rattle.ocf_model.specs.declared.refusal.Refusal.{Refusal}
use Rattle.ocf_model.specs.declared.refusal.Refusal.TheVariants.{Syntax, UnknownOp, BadName, BadValue, UnknownResource, Exists, Recurs, Busy}
use Rattle.ocf_model.specs.declared.refusal.Refusal.TheVariants.{QueueFull, RecurringFull, NoSuchRecurring, TooManyResources, TooLarge}
use Rattle.ocf_model.specs.declared.refusal.Refusal.TheVariants.{CallsSpent, JournalFull, Memory, Disk, Closed, NotQueued}

-- the number and the word of a refusal; a second registration and a second monitor of an interval have the same
abbrev pub refusal_row : Refusal → ℕ × List ℕ
refusal_row Syntax = (1, codes "syntax")
refusal_row UnknownOp = (2, codes "unknown-op")
refusal_row BadName = (3, codes "bad-name")
refusal_row BadValue = (4, codes "bad-value")
refusal_row UnknownResource = (5, codes "unknown-resource")
refusal_row Exists = (6, codes "exists")
refusal_row Recurs = (6, codes "exists")
refusal_row Busy = (7, codes "busy")
refusal_row QueueFull = (8, codes "queue-full")
refusal_row RecurringFull = (9, codes "recurring-full")
refusal_row NoSuchRecurring = (10, codes "no-such-recurring")
refusal_row TooManyResources = (11, codes "too-many-resources")
refusal_row TooLarge = (12, codes "too-large")
refusal_row CallsSpent = (13, codes "calls-spent")
refusal_row JournalFull = (14, codes "journal-full")
refusal_row Memory = (15, codes "memory")
refusal_row Disk = (16, codes "disk")
refusal_row Closed = (17, codes "closed")
refusal_row NotQueued = (18, codes "not-queued")
