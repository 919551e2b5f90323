-- Lemmas about a disk of files, after any calls.
use Rattle.std.specs.Coded.{Coded-set, coded_list, coded_ℕ, ×_prop, Unit-prop}
use Rattle.std.specs.Prelude.{ℕ, ◌<◌, ◌≤◌, List, [], ◌∷◌, length, take, drop}
use Rattle.std.proofs.Common.{inl, inr, arith, refl}
use Rattle.std.proofs.lemmas.Bool.{cases_lt}
use Rattle.disk_model.specs.Image.{Image, bytes_of}
use Rattle.disk_model.specs.Disk.{LAST, Elapses, Lawful, Passed}
use Rattle.disk_model.specs.PastLemmas.{torn_put}
use Rattle.disk_model.specs.Lemmas.{torn_same}
use Rattle.file_disk.specs.declared.call.Call.{Call}
use Rattle.file_disk.specs.declared.call.Call.TheVariants.{Measured, Read, Wrote, Tried, Synced, Failed, Refused}
use Rattle.file_disk.specs.Past.{Event, agrees, honest_of, read_after, left_after, failures_after, reads_of, now_of, clock_of, failures_of}
use Rattle.file_disk.specs.Past.{since_of, past_view}

left_step : (w : Call) (bytes : List ℕ) (old : Image → Type 0) (d : Image) → old d → left_after w bytes old d (read_after w bytes d)
left_step (Measured part n) bytes old d h = h
left_step (Read part at) bytes old d h = h
left_step (Wrote part at) bytes old d h = (d, h, torn_put part at bytes d)
left_step (Tried part at) bytes old d h = (d, h, torn_same part at (length bytes) d)
left_step (Synced part) bytes old d h = (h, refl)
left_step Failed bytes old d h = h
left_step Refused bytes old d h = h

-- the bytes that a read returns are an image that a crash may leave
reads_left : (first : Image) (past : List Event) → now_of first past (reads_of first past)
reads_left first [] = refl
reads_left first (e ∷ older) = left_step e.call e.bytes (now_of first older) (reads_of first older) (reads_left first older)

-- a crash now counts for every earlier moment
counts : (first : Image) (past : List Event) (t : ℕ) (c : Image) → now_of first past c → since_of first past t c
counts first [] t c now = now
counts first (e ∷ older) t c now = inl now

-- since the moment after all calls there is only now
only : (first : Image) (past : List Event) (t : ℕ) (c : Image) → clock_of past ≤ t → since_of first past t c → now_of first past c
only first [] t c le left = left
only first (e ∷ older) t c le (inl now) = now
only first (e ∷ older) t c le (inr was) = let before : t < clock_of (e ∷ older) = was.0 in absurd (omega (arith, le, before))

-- an image of a crash from some moment on is one of a crash from an earlier moment on
since_earlier : (first : Image) (past : List Event) (t u : ℕ) (c : Image) → u ≤ t → since_of first past t c → since_of first past u c
since_earlier first [] t u c le left = left
since_earlier first (e ∷ older) t u c le (inl now) = inl now
since_earlier first (e ∷ older) t u c le (inr was) =
    inr (let before : t < clock_of (e ∷ older) = was.0 in omega (arith, le, before), since_earlier first older t u c le was.1)

-- the disk is lawful
pub past_lawful : (first : Image) (past : List Event) → Lawful (past_view first past)
past_lawful first past = record {
  reads_now = reads_left first past;
  counts_now = λ t c _ now. counts first past t c now;
  only_now = λ c left. only first past (clock_of past) c (omega arith) left;
  earlier = λ t u c le left. since_earlier first past t u c le left;
}

-- the counts stay within their range
pub clock_bound : (past : List Event) → clock_of past ≤ LAST
clock_bound [] = omega arith
clock_bound (e ∷ older) = omega arith

failures_step : (w : Call) (n : ℕ) → n ≤ LAST → (n ≤ failures_after w n) × (failures_after w n ≤ LAST)
failures_step (Measured part k) n le = (omega arith, le)
failures_step (Read part at) n le = (omega arith, le)
failures_step (Wrote part at) n le = (omega arith, le)
failures_step (Tried part at) n le = (omega (arith, le), omega arith)
failures_step (Synced part) n le = (omega arith, le)
failures_step Failed n le = (omega (arith, le), omega arith)
failures_step Refused n le = (omega (arith, le), omega arith)

-- the same of the failed calls
pub failures_bound : (past : List Event) → failures_of past ≤ LAST
failures_bound [] = omega arith
failures_bound (e ∷ older) = (failures_step e.call (failures_of older) (failures_bound older)).1

-- the counts and honesty after one more call
pub passes : (first : Image) (past : List Event) (e : Event) → Passed (past_view first past) (past_view first (e ∷ past))
passes first past e = record {
  clock = omega (arith, clock_bound past);
  failures = (failures_step e.call (failures_of past) (failures_bound past)).0;
  honest = λ h. h.0;
}

elapses_by : (first : Image) (past : List Event) (e : Event)
    → ((t : ℕ) (c : Image) → t ≤ clock_of past → clock_of (e ∷ past) ≤ t → since_of first past t c → now_of first (e ∷ past) c)
    → Elapses (past_view first past) (past_view first (e ∷ past))
elapses_by first past e at_end = record {
  later = omega (arith, clock_bound past);
  nothing_else = λ t c _ left. elim left [ inl now ↦ inr now | inr was ↦ inl was.1 ];
  keeps = λ t c le left. elim (cases_lt t (clock_of (e ∷ past))) [
    | inl lt ↦ inr (lt, left)
    | inr ge ↦ inl (at_end t c le ge left)
  ];
}

-- the clock goes on at a call below the last count
pub elapses : (first : Image) (past : List Event) (e : Event) → clock_of past < LAST
    → Elapses (past_view first past) (past_view first (e ∷ past))
elapses first past e unspent =
    elapses_by first past e (λ t c le ge left. let after : clock_of (e ∷ past) ≤ t = ge in absurd (omega (arith, le, after, unspent)))

-- and at a call that was not made
pub elapses_refused : (first : Image) (past : List Event) (bytes : List ℕ)
    → Elapses (past_view first past) (past_view first (record { call = Refused; bytes = bytes } ∷ past))
elapses_refused first past bytes =
    elapses_by first past (record { call = Refused; bytes = bytes }) (λ t c le ge left.
    let after : clock_of (record { call = Refused; bytes = bytes } ∷ past) ≤ t = ge in
    only first past t c (omega (arith, after, clock_bound past)) left)

-- there is at most one proof that an answer is right
agrees_prop : (w : Call) (bytes : List ℕ) (d : Image) → IsProp (agrees w bytes d)
agrees_prop (Measured part n) bytes d = Coded-set coded_ℕ n (length (bytes_of part d))
agrees_prop (Read part at) bytes d = Coded-set (coded_list coded_ℕ) bytes (take (length bytes) (drop at (bytes_of part d)))
agrees_prop (Wrote part at) bytes d = Unit-prop
agrees_prop (Tried part at) bytes d = Unit-prop
agrees_prop (Synced part) bytes d = Unit-prop
agrees_prop Failed bytes d = Unit-prop
agrees_prop Refused bytes d = Unit-prop

-- and at most one that a disk is honest
pub honest_prop : (first : Image) (past : List Event) → IsProp (honest_of first past)
honest_prop first [] = Unit-prop
honest_prop first (e ∷ older) = ×_prop (honest_prop first older) (agrees_prop e.call e.bytes (reads_of first older))
