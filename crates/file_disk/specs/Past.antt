-- The bytes that a disk of files, or one in memory, reads, and the images that a crash may leave: by the first pair and the
-- calls since, the newest first.
use Rattle.std.specs.Prelude.{◌≡◌, ◌⊎◌, ℕ, ◌+◌, ◌<◌, min, List, [], ◌∷◌, ◌++◌, length, take, drop}
use Rattle.disk_model.specs.Image.{Image, Torn, bytes_of}
use Rattle.disk_model.specs.Parts.{put}
use Rattle.disk_model.specs.Disk.{LAST, DiskView}
use Rattle.file_disk.specs.declared.call.Call.{Call}
use Rattle.file_disk.specs.declared.call.Call.TheVariants.{Measured, Read, Wrote, Tried, Synced, Failed, Refused}

-- a call as it ended, and the bytes that were read or written
pub record Event : Type 0 where
  pub call : Call
  pub bytes : List ℕ

-- the answer is the one that this pair determines
abbrev pub agrees : Call → List ℕ → Image → Type 0
agrees (Measured part n) bytes d = n ≡ length (bytes_of part d)
agrees (Read part at) bytes d = bytes ≡ take (length bytes) (drop at (bytes_of part d))
agrees _ bytes d = Unit {0}

-- the bytes that a read returns after the call
abbrev pub read_after : Call → List ℕ → Image → Image
read_after (Wrote part at) bytes d = put part (take at (bytes_of part d) ++ bytes ++ drop (at + length bytes) (bytes_of part d)) d
read_after _ bytes d = d

-- the images that a crash after the call may leave, by those of before and by the bytes that a read returns
abbrev pub left_after : Call → List ℕ → (Image → Type 0) → Image → Image → Type 0
left_after (Wrote part at) bytes old reads c = (d : Image) × old d × Torn part at (length bytes) d c
left_after (Tried part at) bytes old reads c = (d : Image) × old d × Torn part at (length bytes) d c
left_after (Synced part) bytes old reads c = old c × (bytes_of part c ≡ bytes_of part reads)
left_after _ bytes old reads c = old c

-- the number of failed calls after the call; one that was not made counts as failed
abbrev pub failures_after : Call → ℕ → ℕ
failures_after (Tried part at) n = min (n + 1) LAST
failures_after Failed n = min (n + 1) LAST
failures_after Refused n = min (n + 1) LAST
failures_after _ n = n

-- the bytes that a read returns: the first pair, with all writes
abbrev pub reads_of : Image → List Event → Image
reads_of first [] = first
reads_of first (e ∷ older) = read_after e.call e.bytes (reads_of first older)

-- each answer was the one that the pair before it determines
abbrev pub honest_of : Image → List Event → Type 0
honest_of first [] = Unit {0}
honest_of first (e ∷ older) = honest_of first older × agrees e.call e.bytes (reads_of first older)

-- the images that a crash may leave
abbrev pub now_of : Image → List Event → Image → Type 0
now_of first [] c = c ≡ first
now_of first (e ∷ older) c = left_after e.call e.bytes (now_of first older) (reads_of first older) c

-- the number of calls
abbrev pub clock_of : List Event → ℕ
clock_of [] = 0
clock_of (e ∷ older) = min (clock_of older + 1) LAST

-- the number of failed calls
abbrev pub failures_of : List Event → ℕ
failures_of [] = 0
failures_of (e ∷ older) = failures_after e.call (failures_of older)

-- the images that a crash at some moment from t on may have left
abbrev pub since_of : Image → List Event → ℕ → Image → Type 0
since_of first [] t c = c ≡ first
since_of first (e ∷ older) t c = now_of first (e ∷ older) c ⊎ ((t < clock_of (e ∷ older)) × since_of first older t c)

-- the view of a disk on which this pair was found, and these calls were made
abbrev pub past_view : Image → List Event → DiskView
past_view first past = record {
  honest = honest_of first past;
  reads = reads_of first past;
  now = now_of first past;
  since = since_of first past;
  clock = clock_of past;
  failures = failures_of past;
}
