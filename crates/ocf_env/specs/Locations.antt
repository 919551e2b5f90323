-- Sites, variables and invocations, as contracts see them.
use Rattle.std.specs.Prelude.{ℕ, Bool, List, Option}

-- a site: OCF_ROOT, PATH, the program to run agents through, if any, and whether they get Pacemaker's own variables
pub record SiteView : Type 0 where
  pub root : List ℕ
  pub path : List ℕ
  pub via : Option (List ℕ)
  pub meta : Bool

-- a variable: its name and its value
abbrev pub Pair : Type 0
Pair = List ℕ × List ℕ

-- an invocation: a program, its arguments and its whole environment
pub record Call : Type 0 where
  pub program : List ℕ
  pub arguments : List (List ℕ)
  pub environment : List Pair
