-- The colons outside the strings of a JSON text are as many as its keys.
use Rattle.std.proofs.Common.{◌≡◌, ℕ, suc, ◌+◌, Bool, true, false, cond, ◌&&◌, ◌||◌, ◌==◌, List, [], ◌∷◌, ◌++◌, Some, if◌then◌else◌, refl, sym, ap, ◌∙◌, subst, arith}
use Rattle.std.specs.Prelude.{⊤}
use Rattle.std.proofs.lemmas.Bool.{eqb-true}
use Rattle.json.specs.Token.{Token}
use Rattle.json.specs.Word.{is_operator, is_space}
use Rattle.json.specs.Lex.{Lexeme, token, comma, colon, Class, quote, backslash, operator, space, other, class, operator_lexeme, lex_byte, lex}
use Rattle.json.specs.Lex.{Mode, between, in_word, in_string, in_escape, Place, fresh, after_value, after_comma, after_key}
use Rattle.json.specs.Lex.{begins_colon, may_begin, may_close, if_allowed, place_token, punctuate, tokens}
use Rattle.json.specs.Json.{Json, null, boolean, number, string, array, object, Items, no_items, item, Members, no_members, member, document}
use Rattle.json.specs.Tree.{json_tokens, items_tokens, members_tokens}
use Rattle.json.proofs.Unique.Spelling.{tokens-document}
use Rattle.exec_commands.specs.KeyCounts.{colons, next_mode, is_outside}

-- ---- a byte at a time

-- this byte is a colon outside strings
abbrev pub key_here : Mode → ℕ → ℕ
key_here m x = if is_outside m && (x == 58) then 1 else 0

is_of : (q b o s : Bool) → cond q quote (cond b backslash (cond o operator (cond s space other))) ≡ operator → o ≡ true
is_of true b o s e = absurd cc
is_of false true o s e = absurd cc
is_of false false true s e = refl
is_of false false false true e = absurd cc
is_of false false false false e = absurd cc

no_colon : (a b c d e : Bool) (ls : List Lexeme) → (a || b || c || d || false || e) ≡ true
    → colons (cond a (token Token.begin_object) (cond b (token Token.end_object) (cond c (token Token.begin_array) (cond d (token Token.end_array) (cond e comma colon)))) ∷ ls) ≡ colons ls
no_colon true b c d e ls h = refl
no_colon false true c d e ls h = refl
no_colon false false true d e ls h = refl
no_colon false false false true e ls h = refl
no_colon false false false false true ls h = refl
no_colon false false false false false ls h = absurd cc

at_operator : (x : ℕ) (ls : List Lexeme) → class x ≡ operator → colons (operator_lexeme x ∷ ls) ≡ (if x == 58 then 1 else 0) + colons ls
at_operator x ls is = by (x == 58) refl
  where
    among : is_operator x ≡ true
    among = is_of (x == 34) (x == 92) (is_operator x) (is_space x) is

    by : (b : Bool) → (x == 58) ≡ b → colons (operator_lexeme x ∷ ls) ≡ (if b then 1 else 0) + colons ls
    by true e = let at : x ≡ 58 = eqb-true x 58 e in rw at (omega arith)
    by false e =
        let none : colons (operator_lexeme x ∷ ls) ≡ colons ls = no_colon (x == 123) (x == 125) (x == 91) (x == 93) (x == 44) ls
        (ap (λ b. (x == 123) || (x == 125) || (x == 91) || (x == 93) || b || (x == 44)) (sym e) ∙ among) in
        omega (arith, none)

-- a byte of another class is no colon
plain : (x : ℕ) (c : Class) → class x ≡ c → (operator ≡ c → ⊥) → (x == 58) ≡ false
plain x c is differs = by (x == 58) refl
  where
    by : (b : Bool) → (x == 58) ≡ b → b ≡ false
    by true e = let at : x ≡ 58 = eqb-true x 58 e in absurd (differs (sym (ap class at) ∙ is))
    by false e = refl

at_byte : (m : Mode) (c : Class) (x : ℕ) (xs : List ℕ) (k : Mode → List Lexeme) → class x ≡ c
    → colons (lex_byte m c x xs k) ≡ key_here m x + colons (k (next_mode m c))
at_byte between quote x xs k is = rw (plain x quote is (λ e. cc)) (omega arith)
at_byte between backslash x xs k is = rw (plain x backslash is (λ e. cc)) (omega arith)
at_byte between operator x xs k is = at_operator x (k between) is
at_byte between space x xs k is = rw (plain x space is (λ e. cc)) (omega arith)
at_byte between other x xs k is = rw (plain x other is (λ e. cc)) (omega arith)
at_byte in_word quote x xs k is = rw (plain x quote is (λ e. cc)) (omega arith)
at_byte in_word backslash x xs k is = rw (plain x backslash is (λ e. cc)) (omega arith)
at_byte in_word operator x xs k is = at_operator x (k between) is
at_byte in_word space x xs k is = rw (plain x space is (λ e. cc)) (omega arith)
at_byte in_word other x xs k is = rw (plain x other is (λ e. cc)) (omega arith)
at_byte in_string quote x xs k is = omega arith
at_byte in_string backslash x xs k is = omega arith
at_byte in_string operator x xs k is = omega arith
at_byte in_string space x xs k is = omega arith
at_byte in_string other x xs k is = omega arith
at_byte in_escape c x xs k is = omega arith

pub one_byte : (m : Mode) (x : ℕ) (xs : List ℕ) → colons (lex m (x ∷ xs)) ≡ key_here m x + colons (lex (next_mode m (class x)) xs)
unfolding lex
one_byte m x xs = at_byte m (class x) x xs (λ next. lex next xs) refl

pub no_bytes : (m : Mode) → colons (lex m []) ≡ 0
unfolding lex
no_bytes m = refl

-- ---- a token at a time

abbrev key_weight : Token → ℕ
key_weight (Token.key s) = 1
key_weight _ = 0

abbrev IsGood : Token → Type 0
IsGood Token.bad = ⊥
IsGood _ = ⊤

abbrev keys_among : List Token → ℕ
keys_among [] = 0
keys_among (t ∷ ts) = key_weight t + keys_among ts

abbrev AreGood : List Token → Type 0
AreGood [] = ⊤
AreGood (t ∷ ts) = IsGood t × AreGood ts

-- the colon that is still to come
abbrev owed : Place → ℕ
owed fresh = 0
owed after_value = 0
owed after_comma = 0
owed after_key = 1

abbrev Tallies : ℕ → Place → List Token → Type 0
Tallies n p ts = AreGood ts → n ≡ owed p + keys_among ts

begins : (p : Place) → may_begin p ≡ true → owed p ≡ 0
begins fresh e = refl
begins after_value e = refl
begins after_comma e = refl
begins after_key e = absurd cc

closes : (p : Place) → may_close p ≡ true → owed p ≡ 0
closes fresh e = refl
closes after_value e = refl
closes after_comma e = refl
closes after_key e = absurd cc

allowed : (p next : Place) (b : Bool) (t : Token) (n : ℕ) (k : Place → List Token) → (b ≡ true → owed p ≡ 0) → key_weight t ≡ owed next → Tallies n next (k next)
    → Tallies n p (if_allowed b t k next)
allowed p next true t n k none weight ih good = omega (arith, none refl, weight, ih good.1)
allowed p next false t n k none weight ih good = absurd good.0

at_token : (p : Place) (t : Token) (b : Bool) (n : ℕ) (k : Place → List Token) → ((next : Place) → Tallies n next (k next)) → Tallies n p (place_token p t b k)
at_token p Token.begin_object b n k ih = allowed p fresh (may_begin p) Token.begin_object n k (begins p) refl (ih fresh)
at_token p Token.end_object b n k ih = allowed p after_value (may_close p) Token.end_object n k (closes p) refl (ih after_value)
at_token p Token.begin_array b n k ih = allowed p fresh (may_begin p) Token.begin_array n k (begins p) refl (ih fresh)
at_token p Token.end_array b n k ih = allowed p after_value (may_close p) Token.end_array n k (closes p) refl (ih after_value)
at_token p (Token.key s) b n k ih = λ good. absurd good.0
at_token p (Token.string s) true n k ih = allowed p after_key (may_begin p) (Token.key s) n k (begins p) refl (ih after_key)
at_token p (Token.string s) false n k ih = allowed p after_value (may_begin p) (Token.string s) n k (begins p) refl (ih after_value)
at_token p (Token.number s) b n k ih = allowed p after_value (may_begin p) (Token.number s) n k (begins p) refl (ih after_value)
at_token p (Token.boolean v) b n k ih = allowed p after_value (may_begin p) (Token.boolean v) n k (begins p) refl (ih after_value)
at_token p Token.null b n k ih = allowed p after_value (may_begin p) Token.null n k (begins p) refl (ih after_value)
at_token p Token.bad b n k ih = λ good. absurd good.0

-- a text without a fault has a colon for each key
tallied : (ls : List Lexeme) (p : Place) → Tallies (colons ls) p (punctuate p ls)
unfolding punctuate
tallied [] fresh = λ good. refl
tallied [] after_value = λ good. refl
tallied [] after_comma = λ good. absurd good.0
tallied [] after_key = λ good. absurd good.0
tallied (token t ∷ ls) fresh = at_token fresh t (begins_colon ls) (colons ls) (λ next. punctuate next ls) (tallied ls)
tallied (token t ∷ ls) after_value = at_token after_value t (begins_colon ls) (colons ls) (λ next. punctuate next ls) (tallied ls)
tallied (token t ∷ ls) after_comma = at_token after_comma t (begins_colon ls) (colons ls) (λ next. punctuate next ls) (tallied ls)
tallied (token t ∷ ls) after_key = at_token after_key t (begins_colon ls) (colons ls) (λ next. punctuate next ls) (tallied ls)
tallied (comma ∷ ls) fresh = λ good. absurd good.0
tallied (comma ∷ ls) after_value = tallied ls after_comma
tallied (comma ∷ ls) after_comma = λ good. absurd good.0
tallied (comma ∷ ls) after_key = λ good. absurd good.0
tallied (colon ∷ ls) fresh = λ good. absurd good.0
tallied (colon ∷ ls) after_value = λ good. absurd good.0
tallied (colon ∷ ls) after_comma = λ good. absurd good.0
tallied (colon ∷ ls) after_key = λ good. omega (arith, tallied ls fresh good)

-- ---- the tokens of a value

-- the keys of all objects in a value
abbrev mutual
  pub keys_in : Json → ℕ
  keys_in null = 0
  keys_in (boolean b) = 0
  keys_in (number s) = 0
  keys_in (string s) = 0
  keys_in (array js) = keys_in_items js
  keys_in (object ms) = keys_in_members ms

  pub keys_in_items : Items → ℕ
  keys_in_items no_items = 0
  keys_in_items (item j js) = keys_in j + keys_in_items js

  pub keys_in_members : Members → ℕ
  keys_in_members no_members = 0
  keys_in_members (member k j ms) = suc (keys_in j) + keys_in_members ms

abbrev Holds : List Token → ℕ → Type 0
Holds ts n = AreGood ts × (keys_among ts ≡ n)

together : (ts us : List Token) (m n : ℕ) → Holds ts m → Holds us n → Holds (ts ++ us) (m + n)
together ts us m n h k = (good ts h.0, omega (arith, sum ts, h.1, k.1))
  where
    good : (ss : List Token) → AreGood ss → AreGood (ss ++ us)
    good [] g = k.0
    good (s ∷ ss) g = (g.0, good ss g.1)

    sum : (ss : List Token) → keys_among (ss ++ us) ≡ keys_among ss + keys_among us
    sum [] = omega arith
    sum (s ∷ ss) = omega (arith, sum ss)

mutual
  of_value : (j : Json) → Holds (json_tokens j) (keys_in j)
  of_value null = ((tt, tt), refl)
  of_value (boolean b) = ((tt, tt), refl)
  of_value (number s) = ((tt, tt), refl)
  of_value (string s) = ((tt, tt), refl)
  of_value (array js) = let h = of_items js in ((tt, h.0), omega (arith, h.1))
  of_value (object ms) = let h = of_members ms in ((tt, h.0), omega (arith, h.1))

  of_items : (js : Items) → Holds (items_tokens js) (keys_in_items js)
  of_items no_items = ((tt, tt), refl)
  of_items (item j js) = together _ _ _ _ (of_value j) (of_items js)

  of_members : (ms : Members) → Holds (members_tokens ms) (keys_in_members ms)
  of_members no_members = ((tt, tt), refl)
  of_members (member k j ms) = let h = together _ _ _ _ (of_value j) (of_members ms) in ((tt, h.0), omega (arith, h.1))

-- the colons of a text are the keys of its value
pub colons-document : (text : List ℕ) (j : Json) → document text ≡ Some j → colons (lex between text) ≡ keys_in j
colons-document text j e =
    let spelled : tokens text ≡ json_tokens j = tokens-document text j e in
    let h = of_value j in
    let sum : colons (lex between text) ≡ 0 + keys_among (tokens text) = tallied (lex between text) fresh (subst AreGood (sym spelled) h.0) in
    let same : keys_among (tokens text) ≡ keys_among (json_tokens j) = ap keys_among spelled in
    omega (arith, sum, same, h.1)
