-- Programs and their arguments.
use Rattle.std.specs.Prelude.{ℕ, List, [], ◌∷◌, ◌++◌, codes, Option, Some, None}

-- the agent's file: OCF Resource Agent API 1.1, OCF_ROOT and resource.d
abbrev pub agent_path : List ℕ → List ℕ → List ℕ → List ℕ
agent_path root provider agent = root ++ codes "/resource.d/" ++ provider ++ codes "/" ++ agent

-- the program: the agent itself, or the program that it is run through
abbrev pub program_at : Option (List ℕ) → List ℕ → List ℕ
program_at None file = file
program_at (Some via) file = via

-- the arguments: the action, after the agent's file if it is run through a program: OCF Resource Agent API 1.1, actions
abbrev pub arguments_at : Option (List ℕ) → List ℕ → List ℕ → List (List ℕ)
arguments_at None file action = action ∷ []
arguments_at (Some via) file action = file ∷ action ∷ []
