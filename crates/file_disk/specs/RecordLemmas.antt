-- Lemmas: the effect of one more call on the disk that a record describes.
use Rattle.std.specs.Prelude.{◌≡◌, ℕ, ◌+◌, ◌<◌, ◌≤◌, max, min, List, [], ◌∷◌, length, take, drop, Ok, Err}
use Rattle.std.proofs.Common.{arith, refl, sym, subst, ap, ◌∙◌}
use Rattle.ocf_types.specs.declared.part.Part.{Part}
use Rattle.ocf_types.specs.declared.part.Part.TheVariants.{A, B}
use Rattle.disk_model.specs.Image.{Image, Written, bytes_of}
use Rattle.disk_model.specs.Disk.{LAST, DiskView, Called, Elapses, Unwritten, Spent, Synced, Tears}
use Rattle.disk_model.specs.declared.disk.DiskFault.{DiskFault}
use Rattle.disk_model.specs.Lemmas.{rested, torn_same}
use Rattle.disk_model.specs.PastLemmas.{torn_put}
use Rattle.file_disk.specs.declared.call.Call.{Call}
use Rattle.file_disk.specs.declared.call.Call.TheVariants as call
use Rattle.file_disk.specs.declared.record.Record.{Record}
use Rattle.file_disk.specs.Past.{Event, agrees, reads_of, now_of, clock_of, failures_of, past_view, failures_after}
use Rattle.file_disk.specs.PastLemmas.{past_lawful, elapses, elapses_refused, passes}
use Rattle.file_disk.specs.Record.{Noted, IsDone, IsFault, view_by}

-- a call with its bytes
abbrev event : Call → List ℕ → Event
event w bytes = record { call = w; bytes = bytes }

-- a fact about the first pair of a record and its calls with one more holds of the record that noted that call
moved : (P : Image → List Event → Type 0) (w : Call) (bytes : List ℕ) (r r2 : Record) → Noted w bytes r r2
    → P r.first (event w bytes ∷ r.events) → P r2.first r2.events
moved P w bytes r r2 noted p =
    subst (λ (past : List Event). P r2.first past) (sym noted.1)
    (subst (λ (first : Image). P first (event w bytes ∷ r.events)) (sym noted.0) p)

-- the count of failed calls after one call
done_failures : (w : Call) (n : ℕ) → IsDone w → failures_after w n ≡ n
done_failures (call.Measured part k) n done = refl
done_failures (call.Read part at) n done = refl
done_failures (call.Wrote part at) n done = refl
done_failures (call.Tried part at) n done = absurd done
done_failures (call.Synced part) n done = refl
done_failures call.Failed n done = absurd done
done_failures call.Refused n done = absurd done

fault_failures : (w : Call) (n : ℕ) → IsFault w → failures_after w n ≡ min (n + 1) LAST
fault_failures (call.Measured part k) n fault = absurd fault
fault_failures (call.Read part at) n fault = absurd fault
fault_failures (call.Wrote part at) n fault = absurd fault
fault_failures (call.Tried part at) n fault = refl
fault_failures (call.Synced part) n fault = absurd fault
fault_failures call.Failed n fault = refl
fault_failures call.Refused n fault = refl

-- the count of calls after one more
pub clock_noted : (w : Call) (bytes : List ℕ) (r r2 : Record) → Noted w bytes r r2 → clock_of r2.events ≡ min (clock_of r.events + 1) LAST
clock_noted w bytes r r2 noted = ap clock_of noted.1

-- the count of failed calls after one that succeeded
pub failures_done : (w : Call) (bytes : List ℕ) (r r2 : Record) → Noted w bytes r r2 → IsDone w
    → failures_of r2.events ≡ failures_of r.events
failures_done w bytes r r2 noted done = ap failures_of noted.1 ∙ done_failures w (failures_of r.events) done

-- and after one that failed
pub failures_fault : (w : Call) (bytes : List ℕ) (r r2 : Record) → Noted w bytes r r2 → IsFault w
    → failures_of r2.events ≡ min (failures_of r.events + 1) LAST
failures_fault w bytes r r2 noted fault = ap failures_of noted.1 ∙ fault_failures w (failures_of r.events) fault

-- a disk whose counts are not at their last value
unspent_spent : (v : DiskView) {P : Type 0} → v.clock < LAST → v.failures ≡ 0 → Spent v → P
unspent_spent v clock failures spent =
    let at_end : LAST ≤ max v.clock v.failures = spent in
    absurd (omega (arith, clock, failures, at_end))

-- a call that succeeded
pub called_done : {T : Type 0} (x : T) (w : Call) (bytes : List ℕ) (r r2 : Record) → Noted w bytes r r2 → IsDone w
    → clock_of r.events < LAST → failures_of r.events ≡ 0 → Called {T = T} (view_by r) (view_by r2) (Ok x)
called_done {T} x w bytes r r2 noted done clock failures =
    moved (λ first past. Called {T = T} (view_by r) (past_view first past) (Ok x)) w bytes r r2 noted (record {
      passed = passes r.first r.events (event w bytes);
      clock = refl;
      failures_end = omega (arith, done_failures w (failures_of r.events) done);
      cause = tt;
      unspent = (clock, omega (arith, failures));
      spent = λ h spent. unspent_spent (view_by r) clock failures spent;
      time = λ h. elapses r.first r.events (event w bytes) clock;
    })

-- a call that failed
pub called_fault : {T : Type 0} (x : DiskFault) (w : Call) (bytes : List ℕ) (r r2 : Record) → Noted w bytes r r2 → IsFault w
    → clock_of r.events < LAST → failures_of r.events ≡ 0 → Called {T = T} (view_by r) (view_by r2) (Err x)
called_fault {T} x w bytes r r2 noted fault clock failures =
    let failures_is : failures_after w (failures_of r.events) ≡ min (failures_of r.events + 1) LAST =
    fault_failures w (failures_of r.events) fault in
    moved (λ first past. Called {T = T} (view_by r) (past_view first past) (Err x)) w bytes r r2 noted (record {
      passed = passes r.first r.events (event w bytes);
      clock = refl;
      failures_end = omega (arith, failures_is);
      cause = omega (arith, failures_is);
      unspent = tt;
      spent = λ h spent. unspent_spent (view_by r) clock failures spent;
      time = λ h. elapses r.first r.events (event w bytes) clock;
    })

-- a call that was not made
pub called_refused : {T : Type 0} (x : DiskFault) (bytes : List ℕ) (r r2 : Record) → Noted call.Refused bytes r r2
    → Called {T = T} (view_by r) (view_by r2) (Err x)
called_refused {T} x bytes r r2 noted =
    moved (λ first past. Called {T = T} (view_by r) (past_view first past) (Err x)) call.Refused bytes r r2 noted (record {
      passed = passes r.first r.events (event call.Refused bytes);
      clock = refl;
      failures_end = omega arith;
      cause = omega arith;
      unspent = tt;
      spent = λ h spent. record { reads = refl; still = λ c now. now };
      time = λ h. elapses_refused r.first r.events bytes;
    })

-- a call that writes nothing
unwritten_by : (w : Call) (bytes : List ℕ) (r r2 : Record) → Noted w bytes r r2
    → (reads_of r.first (event w bytes ∷ r.events) ≡ reads_of r.first r.events)
    → ((c : Image) → now_of r.first (event w bytes ∷ r.events) c → now_of r.first r.events c)
    → Elapses (view_by r) (past_view r.first (event w bytes ∷ r.events)) → Unwritten (view_by r) (view_by r2)
unwritten_by w bytes r r2 noted same still time = moved (λ first past. Unwritten (view_by r) (past_view first past)) w bytes r r2 noted
    (rested (view_by r) (past_view r.first (event w bytes ∷ r.events)) (λ h. past_lawful r.first r.events)
    (passes r.first r.events (event w bytes)) (λ h. same) (λ h c now. still c now) (λ h. time))

-- a call that was not made writes nothing
pub unwritten_refused : (bytes : List ℕ) (r r2 : Record) → Noted call.Refused bytes r r2 → Unwritten (view_by r) (view_by r2)
unwritten_refused bytes r r2 noted = unwritten_by call.Refused bytes r r2 noted refl (λ c now. now) (elapses_refused r.first r.events bytes)

-- nor does one that failed, other than a write
pub unwritten_failed : (bytes : List ℕ) (r r2 : Record) → Noted call.Failed bytes r r2 → clock_of r.events < LAST
    → Unwritten (view_by r) (view_by r2)
unwritten_failed bytes r r2 noted clock =
    unwritten_by call.Failed bytes r r2 noted refl (λ c now. now) (elapses r.first r.events (event call.Failed bytes) clock)

-- nor a length
pub unwritten_measured : (part : Part) (n : ℕ) (bytes : List ℕ) (r r2 : Record) → Noted (call.Measured part n) bytes r r2
    → clock_of r.events < LAST → Unwritten (view_by r) (view_by r2)
unwritten_measured part n bytes r r2 noted clock =
    unwritten_by (call.Measured part n) bytes r r2 noted refl (λ c now. now)
    (elapses r.first r.events (event (call.Measured part n) bytes) clock)

-- nor a read
pub unwritten_read : (part : Part) (at : ℕ) (bytes : List ℕ) (r r2 : Record) → Noted (call.Read part at) bytes r r2
    → clock_of r.events < LAST → Unwritten (view_by r) (view_by r2)
unwritten_read part at bytes r r2 noted clock =
    unwritten_by (call.Read part at) bytes r r2 noted refl (λ c now. now) (elapses r.first r.events (event (call.Read part at) bytes) clock)

-- nor a sync
pub unwritten_synced : (part : Part) (bytes : List ℕ) (r r2 : Record) → Noted (call.Synced part) bytes r r2 → clock_of r.events < LAST
    → Unwritten (view_by r) (view_by r2)
unwritten_synced part bytes r r2 noted clock =
    unwritten_by (call.Synced part) bytes r r2 noted refl (λ c now. now.0) (elapses r.first r.events (event (call.Synced part) bytes) clock)

-- if the disk is honest after it, a length is right
pub measured : (part : Part) (n : ℕ) (bytes : List ℕ) (r r2 : Record) → Noted (call.Measured part n) bytes r r2 → (view_by r2).honest
    → n ≡ length (bytes_of part (view_by r).reads)
measured part n bytes r r2 noted =
    moved (λ first past. (past_view first past).honest → n ≡ length (bytes_of part (view_by r).reads)) (call.Measured part n) bytes r r2
    noted (λ h. h.1)

-- and so are the bytes of a read
pub was_read : (part : Part) (at : ℕ) (bytes : List ℕ) (r r2 : Record) → Noted (call.Read part at) bytes r r2 → (view_by r2).honest
    → bytes ≡ take (length bytes) (drop at (bytes_of part (view_by r).reads))
was_read part at bytes r r2 noted =
    moved (λ first past. (past_view first past).honest → bytes ≡ take (length bytes) (drop at (bytes_of part (view_by r).reads)))
    (call.Read part at) bytes r r2 noted (λ h. h.1)

-- an honest disk stays honest if the answer is right
pub stays : (w : Call) (bytes : List ℕ) (r r2 : Record) → Noted w bytes r r2 → (view_by r).honest → agrees w bytes (view_by r).reads
    → (view_by r2).honest
stays w bytes r r2 noted h agree = moved (λ first past. (past_view first past).honest) w bytes r r2 noted (h, agree)

-- a write of a pair
written_put : (part : Part) (at : ℕ) (bytes : List ℕ) (d : Image)
    → Written part at bytes d (reads_of d (event (call.Wrote part at) bytes ∷ []))
written_put A at bytes d = record { here = refl; there = refl }
written_put B at bytes d = record { here = refl; there = refl }

-- a write that succeeded, in the bytes that a read returns
pub was_written : (part : Part) (at : ℕ) (bytes : List ℕ) (r r2 : Record) → Noted (call.Wrote part at) bytes r r2
    → Written part at bytes (view_by r).reads (view_by r2).reads
was_written part at bytes r r2 noted =
    moved (λ first past. Written part at bytes (view_by r).reads (past_view first past).reads) (call.Wrote part at) bytes r r2 noted
    (written_put part at bytes (view_by r).reads)

-- a write that succeeded may be torn by a crash
pub tears_wrote : (part : Part) (at : ℕ) (bytes : List ℕ) (r r2 : Record) → Noted (call.Wrote part at) bytes r r2
    → Tears part at (length bytes) (view_by r) (view_by r2)
tears_wrote part at bytes r r2 noted =
    moved (λ first past. Tears part at (length bytes) (view_by r) (past_view first past)) (call.Wrote part at) bytes r r2 noted
    (record { reads = λ h. torn_put part at bytes (view_by r).reads; now = λ h c now. now })

-- and so may one that failed
pub tears_tried : (part : Part) (at : ℕ) (bytes : List ℕ) (r r2 : Record) → Noted (call.Tried part at) bytes r r2
    → Tears part at (length bytes) (view_by r) (view_by r2)
tears_tried part at bytes r r2 noted =
    moved (λ first past. Tears part at (length bytes) (view_by r) (past_view first past)) (call.Tried part at) bytes r r2 noted
    (record { reads = λ h. torn_same part at (length bytes) (view_by r).reads; now = λ h c now. now })

-- one that was not made changes nothing
pub tears_refused : (part : Part) (at n : ℕ) (bytes : List ℕ) (r r2 : Record) → Noted call.Refused bytes r r2
    → Tears part at n (view_by r) (view_by r2)
tears_refused part at n bytes r r2 noted =
    moved (λ first past. Tears part at n (view_by r) (past_view first past)) call.Refused bytes r r2 noted
    (record { reads = λ h. torn_same part at n (view_by r).reads; now = λ h c now. (c, now, torn_same part at n c) })

-- a part is synced after its sync
pub was_synced : (part : Part) (bytes : List ℕ) (r r2 : Record) → Noted (call.Synced part) bytes r r2 → Synced part (view_by r2)
was_synced part bytes r r2 noted =
    moved (λ first past. Synced part (past_view first past)) (call.Synced part) bytes r r2 noted (λ c now. now.1)
