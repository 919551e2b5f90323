-- What a read gives, and what a line is read as.
use Rattle.std.proofs.Common.{◌≡◌, ◌≢◌, ℕ, ◌+◌, ◌<◌, Bool, true, false, ◌||◌, ◌⊎◌, zero, suc, eqb, cond, List, [], ◌∷◌, ◌++◌, length, take, Option, Some, None, Result, Ok, Err, OnErr, OnOk, refl, sym, ap, subst, ◌∙◌, inl, inr, arith, eq-eqb, take_all}
use Rattle.std.proofs.lemmas.Bool.Decides.{nat_tests}
use Rattle.std.proofs.lemmas.List.{map-append}
use Rattle.ocf_model.specs.declared.refusal.Refusal.{Refusal}
use Rattle.ocf_model.specs.declared.refusal.Refusal.TheVariants.{Memory, Syntax}
use Rattle.exec_commands.specs.Keys.{given, typed}
use Rattle.exec_commands.specs.Lines.{line_of}
use Rattle.exec_commands.specs.declared.line.Line.{Line}
use Rattle.exec_commands.proofs.ValueLemmas.{too_long}
use Rattle.exec_client.specs.Tags.{LineTag}
use Rattle.std.specs.Prelude.{nat_le}
use Rattle.ocf_types.specs.Limits.{line_limit}
use Rattle.exec_lines.specs.Lines.{line_answer, line_room}
use Rattle.exec_lines.specs.declared.line.Next.{Next}
use Rattle.exec_lines.specs.declared.line.Next.TheVariants as next
use Rattle.exec_lines.specs.declared.line.Piece.{Piece}
use Rattle.exec_lines.specs.declared.line.Piece.TheVariants.{Last, Nothing, Part}
use Rattle.session_machine.specs.After.{after_read, is_held, took, with_end_read, with_line_read, with_read}
use Rattle.session_machine.specs.Behaviours.{Trace, then}
use Rattle.session_machine.specs.Edges.{IsReadOf, next_after}
use Rattle.session_machine.specs.Events.{Noted, Took}
use Rattle.session_machine.specs.Limits.{reads_a_turn}
use Rattle.session_machine.specs.May.{Listens}
use Rattle.session_machine.specs.Replies.{HasTagOf, IsReadAs}
use Rattle.session_machine.specs.Session.{OwnTurn, ReadLine, SessionState, lines_in}
use Rattle.session_machine.specs.declared.failed.Failed.{Failed}
use Rattle.session_machine.specs.declared.rules.Mode.{Mode}
use Rattle.session_machine.specs.declared.rules.Mode.TheVariants.{Run, Serve}
use Rattle.session_machine.proofs.AfterLemmas.{then_longer}
use Rattle.exec_session.specs.Reading.{HasReadOnce, IsGot, IsNoted, ReadsOn, got_of}
use Rattle.exec_session.specs.declared.reading.Got.TheVariants as got
use Rattle.exec_session.proofs.RoundLemmas.{lasts_then}

-- a second test that holds
or_true : (b : Bool) → (b || true) ≡ true
or_true true = refl
or_true false = refl

-- one more read
read_once : (own : OwnTurn) → HasReadOnce own (with_read own)
read_once own = record {
  now = refl;
  since = refl;
  end = refl;
  reads = refl;
  polls = refl;
  looked = λ is. ap (λ (b : Bool). eqb (own.reads + 1) reads_a_turn || b) is ∙ or_true (eqb (own.reads + 1) reads_a_turn);
  all = λ is. ap (λ (b : Bool). b || own.looked) (eq-eqb (own.reads + 1) reads_a_turn is);
  woken = refl;
}

-- a read changes only the input that was read
module _ {S : Type 0} where
  record SameBut (s q : SessionState S) : Type 0 where
    lines : lines_in q ≡ lines_in s
    executor : q.executor ≡ s.executor
    own : q.own ≡ s.own

  line_same : (s : SessionState S) (bytes : List ℕ) → SameBut s (with_line_read s bytes)
  line_same s [] = record { lines = refl; executor = refl; own = refl }
  line_same s (byte ∷ bytes) = record { lines = refl; executor = refl; own = refl }

  end_same : (s : SessionState S) (bytes : List ℕ) → SameBut s (with_end_read s bytes)
  end_same s [] = record { lines = refl; executor = refl; own = refl }
  end_same s (byte ∷ bytes) = record { lines = refl; executor = refl; own = refl }

  took_same : (s : SessionState S) (bytes : List ℕ) (piece : Piece) → SameBut s (took s bytes piece)
  took_same s bytes Part = record { lines = refl; executor = refl; own = refl }
  took_same s bytes Last = line_same s (s.part ++ bytes)
  took_same s bytes Nothing = end_same s (s.part ++ bytes)

  pub reads_on : (old new : Trace S) (bytes : List ℕ) (piece : Piece) → new ≡ then old (Took bytes piece) → ReadsOn old new
  reads_on old new bytes piece same =
      let kept = took_same (after_read old.state) bytes piece in record {
        lasts = lasts_then old new (Took bytes piece) same;
        longer = omega (arith, ap (λ (t : Trace S). length t.events) same, then_longer old (Took bytes piece));
        lines = ap (λ (t : Trace S). lines_in t.state) same ∙ kept.lines;
        executor = ap (λ (t : Trace S). t.state.executor) same ∙ kept.executor;
        own =
            subst (λ (own : OwnTurn). HasReadOnce old.state.own own)
            (sym (ap (λ (t : Trace S). t.state.own) same ∙ kept.own)) (read_once old.state.own);
      }

-- the prefix of a line that is kept
no_prefix : (n x : ℕ) (xs : List ℕ) → 0 < n → [] ≡ take n (x ∷ xs) → ⊥
no_prefix zero x xs some none = omega arith
no_prefix (suc n) x xs some none = cc

no_bytes : (x : ℕ) (xs : List ℕ) → [] ≡ take line_room (x ∷ xs) → ⊥
no_bytes x xs = no_prefix line_room x xs (omega arith)

abbrev answer_by : Bool → Next
answer_by fits = cond fits next.Line next.TooLong

answer_ends : (line : List ℕ) → next.End ≡ line_answer line → ⊥
answer_ends line is = by (nat_le (length line) line_limit) refl
  where
    by : (b : Bool) → nat_le (length line) line_limit ≡ b → ⊥
    by true fits = let bad : next.End ≡ next.Line = is ∙ ap answer_by fits in let none : ⊥ = cc in none
    by false fits = let bad : next.End ≡ next.TooLong = is ∙ ap answer_by fits in let none : ⊥ = cc in none

module _ {S : Type 0} (s : SessionState S) (listens : Listens s) where
  -- a part of a line
  pub got_part : (kept bytes : List ℕ) (piece : Piece) → None ≡ next_after piece (s.part ++ bytes) → kept ≡ take line_room (s.part ++ bytes)
      → IsGot (took (after_read s) bytes piece) kept got.Nothing
  got_part kept bytes Part is keeps = (listens.at, listens.goes_on, listens.noted, keeps)
  got_part kept bytes Last is keeps = absurd cc
  got_part kept bytes Nothing is keeps = absurd cc

  -- the end of the input
  pub got_end : (kept bytes : List ℕ) (piece : Piece) → Some next.End ≡ next_after piece (s.part ++ bytes)
      → kept ≡ take line_room (s.part ++ bytes) → IsGot (took (after_read s) bytes piece) kept got.End
  got_end kept bytes Part is keeps = let none : ⊥ = cc in absurd none
  got_end kept bytes Last is keeps = absurd (answer_ends (s.part ++ bytes) cc)
  got_end kept bytes Nothing is keeps = by (s.part ++ bytes) is keeps
    where
      by : (whole : List ℕ) → Some next.End ≡ next_after Nothing whole → kept ≡ take line_room whole
          → IsGot (with_end_read (after_read s) whole) kept got.End
      by [] is keeps = (refl, refl, listens.noted, keeps ∙ take_all line_room [] (omega arith), refl)
      by (x ∷ xs) is keeps = absurd (answer_ends (x ∷ xs) cc)

  -- a line of no bytes
  pub got_empty : (kept bytes : List ℕ) (piece : Piece) → Some next.Line ≡ next_after piece (s.part ++ bytes) → kept ≡ []
      → kept ≡ take line_room (s.part ++ bytes) → IsGot (took (after_read s) bytes piece) kept got.Nothing
  got_empty kept bytes Part is none keeps = let bad : ⊥ = cc in absurd bad
  got_empty kept bytes Last is none keeps = by (s.part ++ bytes) keeps
    where
      by : (whole : List ℕ) → kept ≡ take line_room whole → IsGot (with_line_read (after_read s) whole) kept got.Nothing
      by [] keeps = (listens.at, listens.goes_on, listens.noted, keeps)
      by (x ∷ xs) keeps = absurd (no_bytes x xs (sym none ∙ keeps))
  got_empty kept bytes Nothing is none keeps = by (s.part ++ bytes) is keeps
    where
      by : (whole : List ℕ) → Some next.Line ≡ next_after Nothing whole → kept ≡ take line_room whole
          → IsGot (with_end_read (after_read s) whole) kept got.Nothing
      by [] is keeps = let bad : ⊥ = cc in absurd bad
      by (x ∷ xs) is keeps = absurd (no_bytes x xs (sym none ∙ keeps))

  -- a whole line
  pub got_line : (kept bytes : List ℕ) (piece : Piece) (n : Next) → Some n ≡ next_after piece (s.part ++ bytes) → n ≢ next.End
      → (n ≡ next.Line → kept ≢ []) → kept ≡ take line_room (s.part ++ bytes) → IsGot (took (after_read s) bytes piece) kept (got.Line n)
  got_line kept bytes Part n is goes some keeps = let bad : ⊥ = cc in absurd bad
  got_line kept bytes Last n is goes some keeps = by (s.part ++ bytes) is keeps
    where
      by : (whole : List ℕ) → Some n ≡ next_after Last whole → kept ≡ take line_room whole
          → IsGot (with_line_read (after_read s) whole) kept (got.Line n)
      by [] is keeps =
          let short : n ≡ next.Line = cc in
          absurd (some short (keeps ∙ take_all line_room [] (omega arith)))
      by (x ∷ xs) is keeps = (listens.at, listens.goes_on, refl, x ∷ xs, refl, keeps, cc)
  got_line kept bytes Nothing n is goes some keeps = by (s.part ++ bytes) is keeps
    where
      by : (whole : List ℕ) → Some n ≡ next_after Nothing whole → kept ≡ take line_room whole
          → IsGot (with_end_read (after_read s) whole) kept (got.Line n)
      by [] is keeps = let over : n ≡ next.End = cc in absurd (goes over)
      by (x ∷ xs) is keeps = (listens.at, listens.goes_on, refl, x ∷ xs, refl, keeps, cc)

  got_is : (kept bytes : List ℕ) (piece : Piece) (n : Option Next) → n ≡ next_after piece (s.part ++ bytes) → kept ≡ take line_room (s.part ++ bytes)
      → IsGot (took (after_read s) bytes piece) kept (got_of n kept)
  got_is kept bytes piece None is keeps = got_part kept bytes piece is keeps
  got_is kept bytes piece (Some next.End) is keeps = got_end kept bytes piece is keeps
  got_is [] bytes piece (Some next.Line) is keeps = got_empty [] bytes piece is refl keeps
  got_is (k ∷ ks) bytes piece (Some next.Line) is keeps =
      got_line (k ∷ ks) bytes piece next.Line is (λ over. cc) (λ short none. cc) keeps
  got_is kept bytes piece (Some next.TooLong) is keeps =
      got_line kept bytes piece next.TooLong is (λ over. cc) (λ short. let bad : ⊥ = cc in absurd bad) keeps

-- what a read gave
pub read_got : {S : Type 0} (old from new : Trace S) (kept : List ℕ) (n : Option Next) → from ≡ old → Listens old.state
    → IsReadOf {E = Failed} from new kept (Ok n) → ReadsOn old new × IsGot new.state kept (got_of n kept)
read_got {S} old from new kept n of listens (bytes, piece, is_read, is, keeps) =
    let same = is_read ∙ ap (λ (t : Trace S). then t (Took bytes piece)) of in
    let (whole, keeps_whole) =
    subst (λ (t : Trace S). (n ≡ next_after piece (t.state.part ++ bytes)) × (kept ≡ take line_room (t.state.part ++ bytes))) of (is, keeps) in (
      reads_on old new bytes piece same,
      subst (λ (t : Trace S). IsGot t.state kept (got_of n kept)) (sym same) (got_is old.state listens kept bytes piece n whole keeps_whole),
    )

-- a line was noted
pub is_noted : {S : Type 0} (old new : Trace S) (found : Result Line Refusal) (tag : LineTag) → new ≡ then old (Noted found tag)
    → IsNoted old new found
is_noted {S} old new found tag same = subst (λ (t : Trace S). IsNoted old t found) (sym same) (record {
  lasts = lasts_then old (then old (Noted found tag)) (Noted found tag) refl;
  at = refl;
  executor = refl;
  part = refl;
  ended = refl;
  found_none = refl;
  lines = map-append (λ (l : ReadLine). l.line) old.state.lines (record { line = found; tag = tag } ∷ []);
  own =
      record {
        now = refl;
        since = refl;
        end = refl;
        reads = refl;
        polls = refl;
        looked = λ is. ap (λ (b : Bool). is_held old.state.rules.mode found || b) is ∙ or_true (is_held old.state.rules.mode found);
        woken = λ is. is;
      };
  looked = λ is. ap (λ (b : Bool). b || old.state.own.looked) is;
})

pub noted_as : {S E : Type 0} (old new : Trace S) (line result : Result Line Refusal) (tag : LineTag) (given : Result Unit E)
    → OnOk given (new ≡ then old (Noted line tag)) → OnErr given (new ≡ then old (Noted (Err Memory) None)) → OnOk given (result ≡ line)
    → OnErr given (result ≡ Err Memory) → IsNoted old new result
noted_as old new line result tag (Ok done) same refused is none =
    subst (λ (found : Result Line Refusal). IsNoted old new found) (sym is) (is_noted old new line tag same)
noted_as old new line result tag (Err why) same refused is none =
    subst (λ (found : Result Line Refusal). IsNoted old new found) (sym none) (is_noted old new (Err Memory) None refused)

-- What a whole line is read as.
module _ (mode : Mode) (kept bytes : List ℕ) (keeps : kept ≡ take line_room bytes) where
  pub kept_whole : next.Line ≡ line_answer bytes → kept ≡ bytes
  kept_whole is = by (nat_le (length bytes) line_limit) refl
    where
      by : (b : Bool) → nat_le (length bytes) line_limit ≡ b → kept ≡ bytes
      by true fits = keeps ∙ take_all line_room bytes (grind (arith, nat_tests))
      by false fits = let bad : next.Line ≡ next.TooLong = is ∙ ap answer_by fits in let none : ⊥ = cc in absurd none

  pub read_whole : (found : Result Line Refusal) → next.Line ≡ line_answer bytes → IsReadAs mode kept found → IsReadAs mode bytes found
  read_whole found is reads = subst (λ (b : List ℕ). IsReadAs mode b found) (kept_whole is) reads

  pub tag_whole : (found : Result Line Refusal) (tag : LineTag) → next.Line ≡ line_answer bytes → HasTagOf mode kept found tag
      → HasTagOf mode bytes found tag
  tag_whole found tag is has = subst (λ (b : List ℕ). HasTagOf mode b found tag) (kept_whole is) has

not_fitting : (bytes : List ℕ) → next.TooLong ≡ line_answer bytes → nat_le (length bytes) line_limit ≡ false
not_fitting bytes is = by (nat_le (length bytes) line_limit) refl
  where
    by : (b : Bool) → nat_le (length bytes) line_limit ≡ b → nat_le (length bytes) line_limit ≡ false
    by true fits = let bad : next.TooLong ≡ next.Line = is ∙ ap answer_by fits in let none : ⊥ = cc in absurd none
    by false fits = fits

pub long_read : (mode : Mode) (bytes : List ℕ) → next.TooLong ≡ line_answer bytes → IsReadAs mode bytes (Err Syntax)
long_read Run bytes is = λ other.
    let long = not_fitting bytes is in
    ap (λ v. given (typed v) line_of) (too_long bytes (grind (arith, nat_tests)))
long_read Serve bytes is = λ other. (not_fitting bytes is, refl)

pub no_tag : (mode : Mode) (bytes : List ℕ) (why : Refusal) → HasTagOf mode bytes (Err why) None
no_tag Run bytes why = refl
no_tag Serve bytes why = refl

pub long_or_end : (mode : Mode) (bytes : List ℕ) (n : Next) → (n ≡ next.TooLong) ⊎ (n ≡ next.End) → n ≡ line_answer bytes
    → IsReadAs mode bytes (Err Syntax)
long_or_end mode bytes n (inl long) is = long_read mode bytes (sym long ∙ is)
long_or_end mode bytes n (inr end) is = absurd (answer_ends bytes (sym end ∙ is))
