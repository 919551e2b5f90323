-- Texts with a name and fields.
use Rattle.std.proofs.Common.{◌≡◌, ◌∙◌, ℕ, zero, suc, ◌+◌, ◌<◌, ◌≤◌, List, [], ◌∷◌, ◌++◌, length}
use Rattle.std.proofs.Common.{refl, ap, sym, subst, append_assoc, arith}
use Rattle.std.specs.Prelude.{◌↔◌, All, Bool, Contains, IsTrue, codes, false, true}
use Rattle.std.specs.Str.{IsAscii, IsUtf8}
use Rattle.std.specs.Str.Parse.{AllDigits, IsNumeral, digits_value}
use Rattle.std.proofs.lemmas.List.{length_push, same_from_push}
use Rattle.std.proofs.lemmas.List.Elements.{All-cons, All-head, All-nil, All-push, All-tail}
use Rattle.std.proofs.lemmas.Str.{IsUtf8-from_ascii}
use Rattle.std.proofs.lemmas.Str.Parse.{digit_from_value}
use Rattle.proc_files.specs.Pieces.{joined}
use Rattle.proc_files.specs.Stats.{HasName, HasNumber, HasState, IsField, IsProcess, IsStat, IsState, Lacks, Writes, close, space}
use Rattle.proc_files.specs.declared.process.Process.{Process}
use Rattle.proc_files.proofs.PieceLemmas.{joined_append}

-- a text that has a byte does not lack it
pub lacks_not : (b : ℕ) (xs ys : List ℕ) → Lacks b (xs ++ b ∷ ys) → ⊥
lacks_not b [] ys h = All-head (λ x. x ≡ b → ⊥) b ys h refl
lacks_not b (x ∷ xs) ys h = lacks_not b xs ys (All-tail (λ x. x ≡ b → ⊥) x (xs ++ b ∷ ys) h)

-- there is one way to cut a text at the first occurrence of a byte
pub same_first : (b : ℕ) (xs ys rs ss : List ℕ) → xs ++ b ∷ rs ≡ ys ++ b ∷ ss → Lacks b xs → Lacks b ys → (xs ≡ ys) × (rs ≡ ss)
same_first b [] [] rs ss e g h = (refl, cc)
same_first b [] (y ∷ ys) rs ss e g h = absurd (All-head (λ x. x ≡ b → ⊥) y ys h (cc))
same_first b (x ∷ xs) [] rs ss e g h = absurd (All-head (λ x. x ≡ b → ⊥) x xs g (cc))
same_first b (x ∷ xs) (y ∷ ys) rs ss e g h =
    let more = same_first b xs ys rs ss (cc) (All-tail (λ x. x ≡ b → ⊥) x xs g) (All-tail (λ x. x ≡ b → ⊥) y ys h) in
    (cc, more.1)

-- there is one way to cut a text at the last occurrence of a byte
pub same_last : (b : ℕ) (xs ys rs ss : List ℕ) → xs ++ b ∷ rs ≡ ys ++ b ∷ ss → Lacks b rs → Lacks b ss → (xs ≡ ys) × (rs ≡ ss)
same_last b [] [] rs ss e g h = (refl, cc)
same_last b [] (y ∷ ys) rs ss e g h = let more : rs ≡ ys ++ b ∷ ss = cc in absurd (lacks_not b ys ss (subst (Lacks b) more g))
same_last b (x ∷ xs) [] rs ss e g h = let more : ss ≡ xs ++ b ∷ rs = cc in absurd (lacks_not b xs rs (subst (Lacks b) more h))
same_last b (x ∷ xs) (y ∷ ys) rs ss e g h = let more = same_last b xs ys rs ss (cc) g h in (cc, more.1)

-- a text with a name, cut after its number
pub by_number : (text number fields : List ℕ) (h : HasName text number fields)
    → text ≡ number ++ space ∷ 40 ∷ (h.name ++ close ∷ space ∷ fields)
by_number text number fields h = h.is ∙ simp append_assoc

-- the name is found between the first space and the last parenthesis
pub name_found : (text number rest inner name end fields : List ℕ) → text ≡ number ++ space ∷ rest → Lacks space number
    → rest ≡ 40 ∷ inner → inner ≡ name ++ close ∷ end → Lacks close end → end ≡ space ∷ fields → HasName text number fields
name_found text number rest inner name end fields is first begin inside last after = record {
  name = name;
  is =
      is ∙ ap (λ l. number ++ space ∷ l) (begin ∙ ap (λ l. 40 ∷ l) (inside ∙ ap (λ l. name ++ close ∷ l) after))
      ∙ sym (simp append_assoc);
  first = first;
  last = All-tail (λ x. x ≡ close → ⊥) space fields (subst (Lacks close) after last);
}

pub no_space : (text number fields : List ℕ) → Lacks space text → HasName text number fields → ⊥
no_space text number fields none h =
    lacks_not space number (40 ∷ (h.name ++ close ∷ space ∷ fields)) (subst (Lacks space) (by_number text number fields h) none)

-- the text after the first space begins with a parenthesis and the name
pub after_number : (text n rest number fields : List ℕ) → text ≡ n ++ space ∷ rest → Lacks space n
    → (h : HasName text number fields) → rest ≡ 40 ∷ (h.name ++ close ∷ space ∷ fields)
after_number text n rest number fields is first h =
    let inner = 40 ∷ (h.name ++ close ∷ space ∷ fields) in
    (same_first space n number rest inner (sym is ∙ by_number text number fields h) first h.first).1

-- the fields have no parenthesis, nor does the space before them
fields_lack : (fields : List ℕ) → Lacks close fields → Lacks close (space ∷ fields)
fields_lack fields h = All-cons (λ x. x ≡ close → ⊥) space fields (λ e. omega (arith, e)) h

-- a text has at most one number and one text of fields
pub same_name : (text m n fields more : List ℕ) → HasName text m fields → HasName text n more → (m ≡ n) × (fields ≡ more)
same_name text m n fields more a b =
    let first = same_first space m n (40 ∷ (a.name ++ close ∷ space ∷ fields)) (40 ∷ (b.name ++ close ∷ space ∷ more))
    (sym (by_number text m fields a) ∙ by_number text n more b) a.first b.first in
    let inner : a.name ++ close ∷ space ∷ fields ≡ b.name ++ close ∷ space ∷ more = let e = first.1 in cc in
    let last = same_last close a.name b.name (space ∷ fields) (space ∷ more) inner
    (fields_lack fields a.last) (fields_lack more b.last) in
    (first.0, (let e = last.1 in cc))

-- the text after the last parenthesis is a space and the fields
pub after_name : (name inner rest fields before : List ℕ) → inner ≡ before ++ close ∷ rest → Lacks close rest
    → inner ≡ name ++ close ∷ space ∷ fields → Lacks close fields → rest ≡ space ∷ fields
after_name name inner rest fields before is last same lacks =
    (same_last close before name rest (space ∷ fields) (sym is ∙ same) last (fields_lack fields lacks)).1

-- fields followed by one more field
pub push_field : (before : List (List ℕ)) (field rest : List ℕ)
    → joined space before ++ (field ++ space ∷ rest) ≡ joined space (before ++ field ∷ []) ++ rest
push_field before field rest =
    sym (ap (λ l. l ++ rest) (joined_append space before (field ∷ [])) ∙ simp append_assoc)

-- equal texts begin with the same field
first_field : (p q : List ℕ) (ps qs : List (List ℕ)) (rs ss : List ℕ) → joined space (p ∷ ps) ++ rs ≡ joined space (q ∷ qs) ++ ss
    → All (Lacks space) (p ∷ ps) → All (Lacks space) (q ∷ qs) → (p ≡ q) × (joined space ps ++ rs ≡ joined space qs ++ ss)
first_field p q ps qs rs ss e g h =
    same_first space p q (joined space ps ++ rs) (joined space qs ++ ss)
    (sym (append_assoc p (space ∷ joined space ps) rs) ∙ e ∙ append_assoc q (space ∷ joined space qs) ss)
    (All-head (Lacks space) p ps g) (All-head (Lacks space) q qs h)

-- equal texts have the same fields, if as many are taken from both
pub same_fields : (ps qs : List (List ℕ)) (rs ss : List ℕ) → length ps ≡ length qs → joined space ps ++ rs ≡ joined space qs ++ ss
    → All (Lacks space) ps → All (Lacks space) qs → (ps ≡ qs) × (rs ≡ ss)
same_fields [] [] rs ss count e g h = (refl, e)
same_fields [] (q ∷ qs) rs ss count e g h = absurd (omega (arith, count))
same_fields (p ∷ ps) [] rs ss count e g h = absurd (omega (arith, count))
same_fields (p ∷ ps) (q ∷ qs) rs ss count e g h =
    let first = first_field p q ps qs rs ss e g h in
    let more = same_fields ps qs rs ss (omega (arith, count)) first.1
    (All-tail (Lacks space) p ps g) (All-tail (Lacks space) q qs h) in
    (cc, more.1)

-- a rest without a space after some fields has no further field
pub no_more : (ps qs : List (List ℕ)) (rs ss : List ℕ) → length ps < length qs → joined space ps ++ rs ≡ joined space qs ++ ss
    → All (Lacks space) ps → All (Lacks space) qs → Lacks space rs → ⊥
no_more [] [] rs ss count e g h none = omega (arith, count)
no_more [] (q ∷ qs) rs ss count e g h none =
    lacks_not space q (joined space qs ++ ss) (subst (Lacks space) (e ∙ append_assoc q (space ∷ joined space qs) ss) none)
no_more (p ∷ ps) [] rs ss count e g h none = omega (arith, count)
no_more (p ∷ ps) (q ∷ qs) rs ss count e g h none =
    let first = first_field p q ps qs rs ss e g h in
    no_more ps qs rs ss (omega (arith, count)) first.1 (All-tail (Lacks space) p ps g) (All-tail (Lacks space) q qs h) none

-- field n and all later fields are this rest of the text
pub record StartsHere (text : List ℕ) (n : ℕ) (rest : List ℕ) : Type 0 where
  pub before : List (List ℕ)
  pub is : text ≡ joined space before ++ rest
  pub whole : All (Lacks space) before
  pub count : 3 + length before ≡ n

pub starts : (text : List ℕ) → StartsHere text 3 text
starts text = record { before = []; is = refl; whole = All-nil (Lacks space); count = refl }

pub starts_next : (text rest field more : List ℕ) (n : ℕ) → StartsHere text n rest → rest ≡ field ++ space ∷ more
    → Lacks space field → StartsHere text (n + 1) more
starts_next text rest field more n h is lacks = record {
  before = h.before ++ field ∷ [];
  is = h.is ∙ ap (λ l. joined space h.before ++ l) is ∙ push_field h.before field more;
  whole = All-push (Lacks space) h.before field h.whole lacks;
  count = omega (arith, h.count, length_push h.before field);
}

pub field_here : (text rest field more : List ℕ) (n : ℕ) → StartsHere text n rest → rest ≡ field ++ space ∷ more
    → Lacks space field → IsField text n field
field_here text rest field more n h is lacks = record {
  before = h.before;
  rest = more;
  is = h.is ∙ ap (λ l. joined space h.before ++ l) is ∙ push_field h.before field more;
  whole = All-push (Lacks space) h.before field h.whole lacks;
  count = h.count;
}

pub no_field : (text rest field : List ℕ) (m n : ℕ) → StartsHere text m rest → m ≤ n → Lacks space rest
    → IsField text n field → ⊥
no_field text rest field m n h within none f =
    no_more h.before (f.before ++ field ∷ []) rest f.rest (omega (arith, h.count, f.count, length_push f.before field))
    (sym h.is ∙ f.is) h.whole f.whole none

-- a text has at most one field n
pub same_field : (text x y : List ℕ) (n : ℕ) → IsField text n x → IsField text n y → x ≡ y
same_field text x y n a b =
    let same = same_fields (a.before ++ x ∷ []) (b.before ++ y ∷ []) a.rest b.rest
    (omega (arith, a.count, b.count, length_push a.before x, length_push b.before y)) (sym a.is ∙ b.is) a.whole b.whole in
    (same_from_push a.before b.before x y same.0).1

-- a field that is no number gives none
pub no_number : (bits : ℕ) (text field : List ℕ) (n : ℕ) → IsField text n field → ((number : ℕ) → Writes bits field number → ⊥)
    → (number : ℕ) → HasNumber bits text n number → ⊥
no_number bits text field n is none number (other, found, writes) =
    none number (subst (λ f. Writes bits f number) (same_field text other field n found is) writes)

-- a field is at most one number
same_number : (bits : ℕ) (text : List ℕ) (n x y : ℕ) → HasNumber bits text n x → HasNumber bits text n y → x ≡ y
same_number bits text n x y (f, found, a) (g, more, b) =
    sym a.value ∙ ap (digits_value 10) (same_field text f g n found more) ∙ b.value

-- a field that is no state gives none
pub no_state : (text field digits : List ℕ) (threads : ℕ) → IsField text 3 field → IsField text 20 digits → Writes 32 digits threads
    → ((ended : Bool) → IsState field threads ended → ⊥) → (ended : Bool) → HasState text ended → ⊥
no_state text field digits threads is found writes none ended h =
    none ended (subst (λ s. IsState s threads ended) (same_field text h.state field 3 h.third is)
    (subst (λ n. IsState h.state n ended) (same_number 32 text 20 h.threads threads h.count (digits, found, writes)) h.is))

-- a process that a text describes has the number and the fields that are found in it
moved : (text number fields : List ℕ) (p : Process) → HasName text number fields → IsStat text p → IsProcess number fields p
moved text number fields p named (other, more, found, of) =
    let same = same_name text other number more fields found named in
    subst (λ n. IsProcess n fields p) same.0 (subst (λ f. IsProcess other f p) same.1 of)

pub no_process : (text number fields : List ℕ) → HasName text number fields → ((p : Process) → IsProcess number fields p → ⊥)
    → (p : Process) → IsStat text p → ⊥
no_process text number fields named none p is = none p (moved text number fields p named is)

same_bool : (P : Type 0) (a b : Bool) → IsTrue a ↔ P → IsTrue b ↔ P → a ≡ b
same_bool P false false f g = refl
same_bool P false true f g = f.1 (g.0 refl)
same_bool P true false f g = sym (g.1 (f.0 refl))
same_bool P true true f g = refl

same_state : (text : List ℕ) (x y : Bool) → HasState text x → HasState text y → x ≡ y
same_state text x y a b =
    let same = same_field text a.state b.state 3 a.third b.third in
    let count = same_number 32 text 20 a.threads b.threads a.count b.count in
    let p = a.is in
    let q = b.is in
    let letter : p.letter ≡ q.letter = let e : p.letter ∷ [] ≡ q.letter ∷ [] = sym p.is ∙ same ∙ q.is in cc in
    let ended : IsTrue x ↔ (Contains (codes "ZXx") q.letter × (b.threads ≤ 1)) =
    subst (λ n. IsTrue x ↔ (Contains (codes "ZXx") q.letter × (n ≤ 1))) count
    (subst (λ l. IsTrue x ↔ (Contains (codes "ZXx") l × (a.threads ≤ 1))) letter p.ended) in
    same_bool (Contains (codes "ZXx") q.letter × (b.threads ≤ 1)) x y ended q.ended

-- a process by its parts
abbrev process : ℕ → ℕ → ℕ → ℕ → Bool → Process
process pid parent group start has_ended =
    record { pid = pid; parent = parent; group = group; start = start; has_ended = has_ended }

-- a text describes at most one process
pub same_process : (text : List ℕ) (p q : Process) → IsStat text p → IsStat text q → p ≡ q
same_process text p q (number, fields, named, a) is =
    let b = moved text number fields q named is in
    let pid : p.pid ≡ q.pid = sym a.pid.value ∙ b.pid.value in
    let parent = same_number 32 fields 4 p.parent q.parent a.parent b.parent in
    let group = same_number 32 fields 5 p.group q.group a.group b.group in
    let start = same_number 64 fields 22 p.start q.start a.start b.start in
    let ended = same_state fields p.has_ended q.has_ended a.state b.state in
    let same : process p.pid p.parent p.group p.start p.has_ended ≡ process q.pid q.parent q.group q.start q.has_ended = cc in
    same

-- decimal digits are ASCII
digits_ascii : (ds : List ℕ) → AllDigits 10 ds → IsAscii ds
digits_ascii [] h i = omega arith
digits_ascii (c ∷ cs) h zero = let is = digit_from_value c h.0 in omega (arith, is.1)
digits_ascii (c ∷ cs) h (suc i) = digits_ascii cs h.1 i

pub numeral_utf8 : (ds : List ℕ) → IsNumeral 10 ds → IsUtf8 ds
numeral_utf8 ds h = IsUtf8-from_ascii ds (digits_ascii ds h.1)
