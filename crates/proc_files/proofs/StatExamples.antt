-- An example: a text of /proc/PID/stat, and the process that it describes.
use Rattle.std.proofs.Common.{arith, ◌≡◌, ℕ, ◌+◌, ◌==◌, Bool, true, false, not, List, [], ◌∷◌, ◌++◌, length, refl, sym, lit<, lit≤, take, drop}
use Rattle.std.specs.Prelude.{All, codes}
use Rattle.std.specs.List.{list_all}
use Rattle.std.proofs.lemmas.Bool.{eqb-false, false≢true}
use Rattle.std.proofs.lemmas.List.Elements.{All-weaker}
use Rattle.std.proofs.lemmas.List.Sums.{AllPass-from_list_all}
use Rattle.proc_files.specs.declared.process.Process.{Process}
use Rattle.proc_files.specs.Pieces.{joined}
use Rattle.proc_files.specs.Stats.{HasName, HasState, IsField, IsStat, IsState, Lacks, close, space}
use Rattle.proc_files.proofs.StatLemmas.{same_process}

-- a zombie, whose name has spaces, parentheses, and what looks like the state and the parent of another
abbrev text : List ℕ
text = codes "31 (a) S 1 (b) 2) Z 7 30 29 0 -1 4194560 95 0 0 0 1 0 0 0 20 0 1 0 8723 2928640 227\n"

abbrev zombie : Process
zombie = record { pid = 31; parent = 7; group = 30; start = 8723; has_ended = true }

-- whether a text lacks a byte, computed
abbrev lacks : ℕ → List ℕ → Bool
lacks byte = list_all (λ b. not (b == byte))

not_true : (b : Bool) → not b ≡ true → b ≡ false
not_true false e = refl
not_true true e = sym e

other : (byte b : ℕ) → not (b == byte) ≡ true → b ≡ byte → ⊥
other byte b e = eqb-false b byte (not_true (b == byte) e)

lacks_is : (byte : ℕ) (bytes : List ℕ) → lacks byte bytes ≡ true → Lacks byte bytes
lacks_is byte bytes e = All-weaker _ (λ b. b ≡ byte → ⊥) (other byte) bytes (AllPass-from_list_all (λ b. not (b == byte)) bytes e)

whole_is : (fields : List (List ℕ)) → list_all (lacks space) fields ≡ true → All (Lacks space) fields
whole_is fields e = All-weaker _ (Lacks space) (lacks_is space) fields (AllPass-from_list_all (lacks space) fields e)

-- its fields from the third to the start time, and what comes after it
abbrev fields : List (List ℕ)
fields =
    codes "Z" ∷ codes "7" ∷ codes "30" ∷ codes "29" ∷ codes "0" ∷ codes "-1" ∷ codes "4194560" ∷ codes "95" ∷ codes "0" ∷ codes "0"
    ∷ codes "0" ∷ codes "1" ∷ codes "0" ∷ codes "0" ∷ codes "0" ∷ codes "20" ∷ codes "0" ∷ codes "1" ∷ codes "0" ∷ codes "8723" ∷ []

abbrev rest : List ℕ
rest = codes "2928640 227\n"

abbrev after_name : List ℕ
after_name = joined space fields ++ rest

named : HasName text (codes "31") after_name
named = record {
  name = codes "a) S 1 (b) 2";
  is = refl;
  first = lacks_is space (codes "31") refl;
  last = lacks_is close after_name refl;
}

-- a field by those before it, computed
found : (k : ℕ) (field : List ℕ) → 3 + length (take k fields) ≡ 3 + k → list_all (lacks space) (take k fields ++ field ∷ []) ≡ true
    → after_name ≡ joined space (take k fields ++ field ∷ []) ++ (joined space (drop (k + 1) fields) ++ rest)
    → IsField after_name (3 + k) field
found k field count whole is = record {
  before = take k fields;
  rest = joined space (drop (k + 1) fields) ++ rest;
  is = is;
  whole = whole_is (take k fields ++ field ∷ []) whole;
  count = count;
}

state : HasState after_name true
state = record {
  state = codes "Z";
  threads = 1;
  third = found 0 (codes "Z") refl refl refl;
  count = (
    codes "1",
    found 17 (codes "1") refl refl refl,
    record { numeral = (lit< tt, (lit< tt, tt)); value = refl; fits = lit< tt },
  );
  is = record { letter = 90; is = refl; ended = (λ _. ((0, lit< tt, refl), lit≤ tt), λ _. refl) };
}

described : IsStat text zombie
described = (
  codes "31",
  after_name,
  named,
  record {
    pid = record { numeral = (lit< tt, (lit< tt, (lit< tt, tt))); value = refl; fits = lit< tt };
    state = state;
    parent = (
      codes "7",
      found 1 (codes "7") refl refl refl,
      record { numeral = (lit< tt, (lit< tt, tt)); value = refl; fits = lit< tt },
    );
    group = (
      codes "30",
      found 2 (codes "30") refl refl refl,
      record { numeral = (lit< tt, (lit< tt, (lit< tt, tt))); value = refl; fits = lit< tt },
    );
    start = (
      codes "8723",
      found 19 (codes "8723") refl refl refl,
      record { numeral = (lit< tt, (lit< tt, (lit< tt, (lit< tt, (lit< tt, tt))))); value = refl; fits = lit< tt },
    );
  },
)

-- and no other process
only : (p : Process) → IsStat text p → p ≡ zombie
only p is = same_process text p zombie is described

-- a process whose first thread has ended and which has another has not ended
first_thread : IsState (codes "Z") 2 false
first_thread = record {
  letter = 90;
  is = refl;
  ended = (λ ended. absurd (false≢true ended), λ both. absurd (omega (arith, both.1)));
}
