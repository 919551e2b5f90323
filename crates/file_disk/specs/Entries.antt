-- The entries of a directory under the names of both parts.
use Rattle.std.specs.Prelude.{ℕ, ◌&&◌, Bool, true, false, not, List, Result, Ok, Err, if◌then◌else◌}
use Rattle.std.specs.Str.{bytes_eq}
use Rattle.ocf_types.specs.declared.part.Part.TheVariants.{A, B}
use Rattle.disk_model.specs.Image.{other}
use Rattle.two_parts.specs.Head.{bytes_at, magic}
use Rattle.file_disk.specs.declared.entry.Entry.{Entry}
use Rattle.file_disk.specs.declared.entry.Entry.TheVariants.{Missing, Filled}
use Rattle.file_disk.specs.declared.identity.Marks.{Marks}
use Rattle.file_disk.specs.declared.fault.OpenFault.{OpenFault}
use Rattle.file_disk.specs.declared.fault.OpenFault.TheVariants.{Cleared, Gone, NoJournal}

-- an entry is a file with bytes
abbrev pub is_filled : Entry → Bool
is_filled Filled = true
is_filled _ = false

-- the part that is gone: missing while the other one is not empty
abbrev pub loss_of : Entry → Entry → Result (Unit {0}) OpenFault
loss_of Missing Filled = Err (Gone A)
loss_of Filled Missing = Err (Gone B)
loss_of _ _ = Ok tt

-- the part that was written by these marks, and is empty or gone while not both are gone: part A, if it is both
abbrev pub cleared_of : Marks → Entry → Entry → Result (Unit {0}) OpenFault
cleared_of m Missing Missing = Ok tt
cleared_of m a b =
    if m.a && not (is_filled a) then Err (Cleared A) else if m.b && not (is_filled b) then Err (Cleared B) else Ok tt

-- the file begins as each part of a journal does: after its first gate, open or not, come the magic bytes
abbrev pub holds_journal : List ℕ → Bool
holds_journal text = bytes_eq (bytes_at 1 4 text) magic

-- the fault to report, by the bytes of the remaining file: `NoJournal` for a `Gone` if that file holds no journal
abbrev pub reported_loss : List ℕ → OpenFault → OpenFault
reported_loss text (Gone part) = if holds_journal text then Gone part else NoJournal (other part)
reported_loss text fault = fault
