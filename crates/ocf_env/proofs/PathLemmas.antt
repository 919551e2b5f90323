-- The path of an agent's file, piece by piece.
use Rattle.std.proofs.Common.{◌≡◌, ℕ, List, ◌++◌, refl, codes}
use Rattle.ocf_env.specs.Programs.{agent_path}

pub path_made : (r p t file one two three four out root provider agent : List ℕ) → r ≡ root → p ≡ provider → t ≡ agent → file ≡ r
    → one ≡ file ++ codes "/resource.d/" → two ≡ one ++ p
    → three ≡ two ++ codes "/" → four ≡ three ++ t → out ≡ four → out ≡ agent_path root provider agent
path_made r p t file one two three four out root provider agent a b c d e f g h i = rw (i, h, g, f, e, d, a, b, c) refl
