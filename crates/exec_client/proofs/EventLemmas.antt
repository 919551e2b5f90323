-- Lines of results, one after the other.
use Rattle.std.proofs.Common.{◌≡◌, ℕ, ◌+◌, ◌<◌, List, [], ◌∷◌, ◌++◌, Bool, Option, get_or, length, take, append_assoc, refl, sym, ap, subst, ◌∙◌}
use Rattle.std.proofs.lemmas.List.{append-nil, take_more}
use Rattle.std.proofs.KnownBytes.{Appends-nil, Appends-trans}
use Rattle.std.specs.Io.KnownBytes.{Appends}
use Rattle.ocf_types.specs.declared.notice.Notice.{Notice}
use Rattle.exec_client.specs.Events.{AreEventLines, IsEventLine, WritesEvents}

-- one more line
lines_more : (marks : Bool) (ns : List Notice) (lines line : List ℕ) (n : Notice) → AreEventLines marks ns lines → IsEventLine marks n line
    → AreEventLines marks (ns ++ n ∷ []) (lines ++ line)
lines_more marks [] lines line n none is =
    (line, [], is, ap (λ (l : List ℕ). l ++ line) none ∙ sym (append-nil line), refl)
lines_more marks (m ∷ ns) lines line n (first, rest, one, parts, later) is = (
  first,
  rest ++ line,
  one,
  ap (λ (l : List ℕ). l ++ line) parts ∙ append_assoc first rest line,
  lines_more marks ns rest line n later is,
)

pub writes_none : (marks : Bool) (ns : List Notice) (a : Option (List ℕ)) → WritesEvents marks (take 0 ns) a a
writes_none marks ns a = record { lines = []; are = refl; written = Appends-nil a }

pub writes_more : (marks : Bool) (ns : List Notice) (i : ℕ) (n : Notice) (line : List ℕ) (a b c : Option (List ℕ)) → i < length ns
    → n ≡ get_or ns i n → WritesEvents marks (take i ns) a b → IsEventLine marks n line → Appends b c line → WritesEvents marks (take (i + 1) ns) a c
writes_more marks ns i n line a b c lt at so_far is sent =
    let more : take (i + 1) ns ≡ take i ns ++ n ∷ [] = take_more ns i n lt ∙ ap (λ y. take i ns ++ y ∷ []) (sym at) in
    record {
      lines = so_far.lines ++ line;
      are = subst (λ (ms : List Notice). AreEventLines marks ms (so_far.lines ++ line)) (sym more)
          (lines_more marks (take i ns) so_far.lines line n so_far.are is);
      written = Appends-trans a b c _ _ so_far.written sent;
    }
