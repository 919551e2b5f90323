-- The text of /proc/PID/stat: proc(5). Fields are numbered as there: field 1 is the number of the process, field 2 its name in
-- parentheses, and field 3 its state.
use Rattle.std.specs.Prelude.{◌≡◌, ◌≢◌, ◌↔◌, ℕ, ◌+◌, ◌^◌, ◌<◌, ◌≤◌, List, [], ◌∷◌, ◌++◌, Bool, codes, length, All, Contains, IsTrue}
use Rattle.std.specs.Str.Parse.{IsNumeral, digits_value}
use Rattle.proc_files.specs.declared.process.Process.{Process}
use Rattle.proc_files.specs.Pieces.{joined}

-- the byte after a field, and the one after a name
abbrev pub space : ℕ
space = 32

abbrev pub close : ℕ
close = 41

-- a text does not have this byte
abbrev pub Lacks : ℕ → List ℕ → Type 0
Lacks byte text = All (λ b. b ≢ byte) text

-- a text is the number of a process, its name, which may have any bytes, and its fields from the third on: these have no
-- parenthesis, so the last in the text ends the name
pub record HasName (text number fields : List ℕ) : Type 0 where
  pub name : List ℕ
  pub is : text ≡ number ++ codes " (" ++ name ++ codes ") " ++ fields
  pub first : Lacks space number
  pub last : Lacks close fields

-- field n of a text that begins with field 3, where each field is followed by a space
pub record IsField (text : List ℕ) (n : ℕ) (field : List ℕ) : Type 0 where
  pub before : List (List ℕ)
  pub rest : List ℕ
  pub is : text ≡ joined space (before ++ field ∷ []) ++ rest
  pub whole : All (Lacks space) (before ++ field ∷ [])
  pub count : 3 + length before ≡ n

-- these are the decimal digits of a number that fits in this many bits
pub record Writes (bits : ℕ) (digits : List ℕ) (number : ℕ) : Type 0 where
  pub numeral : IsNumeral 10 digits
  pub value : digits_value 10 digits ≡ number
  pub fits : number < 2 ^ bits

-- field n of such a text is a number
abbrev pub HasNumber : ℕ → List ℕ → ℕ → ℕ → Type 0
HasNumber bits text n number = (field : List ℕ) × IsField text n field × Writes bits field number

-- a state is one letter, that of the first thread, which has ended if it is Z (a zombie), X or x (dead). The process has ended if its
-- first thread has and there is no other thread
pub record IsState (state : List ℕ) (threads : ℕ) (has_ended : Bool) : Type 0 where
  pub letter : ℕ
  pub is : state ≡ letter ∷ []
  pub ended : IsTrue has_ended ↔ (Contains (codes "ZXx") letter × (threads ≤ 1))

-- field 3 of such a text is the state, and field 20 the number of threads
pub record HasState (text : List ℕ) (has_ended : Bool) : Type 0 where
  pub state : List ℕ
  pub threads : ℕ
  pub third : IsField text 3 state
  pub count : HasNumber 32 text 20 threads
  pub is : IsState state threads has_ended

-- a process has this number and these fields: 4 is the number of its parent, 5 that of its process group, and 22 the time at which
-- it started
pub record IsProcess (number fields : List ℕ) (p : Process) : Type 0 where
  pub pid : Writes 32 number p.pid
  pub state : HasState fields p.has_ended
  pub parent : HasNumber 32 fields 4 p.parent
  pub group : HasNumber 32 fields 5 p.group
  pub start : HasNumber 64 fields 22 p.start

-- a text describes this process
abbrev pub IsStat : List ℕ → Process → Type 0
IsStat text p = (number : List ℕ) × (fields : List ℕ) × HasName text number fields × IsProcess number fields p
