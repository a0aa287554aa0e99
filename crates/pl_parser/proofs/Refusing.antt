-- What a refusal says, from where reading stopped.
use Rattle.std.proofs.Common.{◌≡◌, ℕ, ◌+◌, ◌-◌, ◌≤◌, ◌<◌, ◌==◌, ◌&&◌, ◌||◌, inl, inr, Bool, true, false, List, [], ◌∷◌, ◌++◌, length, take, drop, Option, Some, None, Result, Ok, Err, IfOk, refl, sym, ap, subst, ◌∙◌, append_assoc, arith}
use Rattle.std.proofs.lemmas.Bool.{eqb-true, eqb-false}
use Rattle.std.proofs.lemmas.List.{length-append, take-append-drop, take-take}
use Rattle.pl_base.specs.declared.pos.Pos.{Pos}
use Rattle.pl_lexer.specs.declared.tokens.Token.{Token}
use Rattle.pl_readers.specs.declared.error.Stop.{Stop}
use Rattle.pl_readers.specs.Language.{IsViable}
use Rattle.pl_readers.specs.Reader.{begins, whole}
use Rattle.pl_readers.proofs.Correct.{fine_is, err_left}
use Rattle.pl_syntax.specs.Tree.{Program}
use Rattle.pl_grammar.specs.Signs.{sign, number, token_in}
use Rattle.pl_grammar.specs.FileGrammar.{File}
use Rattle.pl_grammar.specs.FileReaders.{file, file_within}
use Rattle.pl_grammar.specs.Refusals.{NeedsMore, IsLastMinus, GoesOnWith, IsFirstRefused, IsCode, IsLeastCode, IsTooMany, NotFull, place_at, token_of_code}
use Rattle.pl_parser.specs.Answer.{StopsBehind, IsDeepMinus, EndsInDeepMinus, IsRefusal, IsSyntax, IsDeep, IsNear}
use Rattle.pl_parser.specs.declared.error.ParseError.TheVariants as errors
use Rattle.pl_parser.specs.Steps.{StopsAt, Tells, takes_last, wants_level}
use Rattle.pl_grammar.proofs.Answered.{needs_more, first_refused, left_inside, viable_before}
use Rattle.pl_grammar.proofs.Within.{whole_same, within_only, few}
use Rattle.pl_grammar.proofs.Expecting.{on-whole, on-end, on-deep, on-none}

-- a bound of as many declarations as there are tokens makes no difference
pub file_is : (depth : ℕ) (xs : List Token) → whole (file_within (length xs) depth) xs ≡ whole (file depth) xs
unfolding file file_within
file_is depth xs = refl

one_behind : (before : List Token) (t : Token) → length (before ++ t ∷ []) ≡ length before + 1
one_behind before t = length-append before (t ∷ [])

module _ (before : List Token) (code : ℕ) (v : IsViable (File 66) before) where
  abbrev tried : List Token
  tried = before ++ token_of_code code ∷ []

  stopped : (s : Stop) → whole (file 66) tried ≡ Err s → (z d : Bool) → s.left == 0 ≡ z → s.is_deep ≡ d → Tells (z || d) (GoesOnWith before code)
  stopped s e true d h g = on-end before code s e (eqb-true s.left 0 h)
  stopped s e false true h g = on-deep before code s e v g
  stopped s e false false h g = on-none before code s e v g (let n = eqb-false s.left 0 h in omega (arith, n))

  pub last_taken : (o : Option Stop) → StopsAt (whole (file 66) tried) o → Tells (takes_last o) (GoesOnWith before code)
  last_taken None r = on-whole before code r.0 r.1
  last_taken (Some s) e = stopped s e (s.left == 0) s.is_deep refl refl

-- the same of a text that is these tokens and this one
pub taken_in : (before text : List Token) (code : ℕ) → IsViable (File 66) before → text ≡ before ++ token_of_code code ∷ [] → (o : Option Stop) → StopsAt (whole (file 66) text) o → Tells (takes_last o) (GoesOnWith before code)
taken_in before text code v is o e = last_taken before code v o (subst (λ (l : List Token). StopsAt (whole (file 66) l) o) is e)

-- a stop with so many tokens left
stop_is : (s : Stop) (d : Bool) (n : ℕ) → s.is_deep ≡ d → s.left ≡ n → s ≡ record { is_deep = d; left = n }
stop_is s d n e h = ap (λ (b : Bool). record { is_deep = b; left = s.left }) e ∙ ap (λ (m : ℕ). record { is_deep = d; left = m }) h

-- where reading stopped
pub stops_behind : (xs : List Token) (s : Stop) → whole (file 64) xs ≡ Err s → (k : ℕ) → k ≡ length xs - s.left → s.left ≤ length xs → (d : Bool) → s.is_deep ≡ d → StopsBehind xs k d
stops_behind xs s e k at le d h = record { inside = omega (arith, at); read = e ∙ ap (λ (z : Stop). Err z) (stop_is s d (length xs - k) h (omega (arith, at, le))) }

no_stop : (xs : List Token) (p : Program) (k : ℕ) (d : Bool) → whole (file 64) xs ≡ Ok p → StopsBehind xs k d → ⊥
no_stop xs p k d e w = let h = sym e ∙ w.read in absurd cc

true_false : (b : Bool) → b ≡ true → b ≡ false → ⊥
true_false b e h = let x = sym e ∙ h in absurd cc

module _ (before : List Token) (t : Token) where
  abbrev named : List Token
  named = before ++ t ∷ []

  wanted_by : (s : Stop) → whole (file 64) named ≡ Err s → (d z : Bool) → s.is_deep ≡ d → s.left == 1 ≡ z → Tells (d && z) (StopsBehind named (length before) true)
  wanted_by s e true true h g =
      let left : s.left ≡ 1 = eqb-true s.left 1 g in
      stops_behind named s e (length before) (omega (arith, one_behind before t, left)) (omega (arith, one_behind before t, left)) true h
  wanted_by s e true false h g = λ w.
      let same = err_left Program s (record { is_deep = true; left = length named - length before }) (sym e ∙ w.read) in
      eqb-false s.left 1 g (ap (λ (r : Stop). r.left) same ∙ omega (arith, one_behind before t))
  wanted_by s e false z h g = λ w.
      let same = err_left Program s (record { is_deep = true; left = length named - length before }) (sym e ∙ w.read) in
      true_false s.is_deep (ap (λ (r : Stop). r.is_deep) same) h

  -- whether a token behind these wants a level
  pub level_wanted : (o : Option Stop) → StopsAt (whole (file 64) named) o → Tells (wants_level o) (StopsBehind named (length before) true)
  level_wanted None r = no_stop named r.0 (length before) true r.1
  level_wanted (Some s) e = wanted_by s e s.is_deep (s.left == 1) refl refl

-- the same of a text that is these tokens and this one
pub wanted_in : (before text : List Token) (t : Token) → text ≡ before ++ t ∷ [] → (o : Option Stop) → StopsAt (whole (file 64) text) o → Tells (wants_level o) (StopsBehind (before ++ t ∷ []) (length before) true)
wanted_in before text t is o e = level_wanted before t o (subst (λ (l : List Token). StopsAt (whole (file 64) l) o) is e)

-- a name behind the front of the tokens
module _ (tokens before : List Token) (k : ℕ) (is : before ≡ take (k + 1) tokens) (len : length before ≡ k + 1) where
  to_front : StopsBehind (before ++ token_of_code 255 ∷ []) (length before) true → StopsBehind (take (k + 1) tokens ++ token_of_code 255 ∷ []) (k + 1) true
  to_front w = subst (λ (n : ℕ). StopsBehind (take (k + 1) tokens ++ token_of_code 255 ∷ []) n true) len (subst (λ (l : List Token). StopsBehind (l ++ token_of_code 255 ∷ []) (length before) true) is w)

  from_front : StopsBehind (take (k + 1) tokens ++ token_of_code 255 ∷ []) (k + 1) true → StopsBehind (before ++ token_of_code 255 ∷ []) (length before) true
  from_front w = subst (λ (l : List Token). StopsBehind (l ++ token_of_code 255 ∷ []) (length before) true) (sym is) (subst (λ (n : ℕ). StopsBehind (take (k + 1) tokens ++ token_of_code 255 ∷ []) n true) (sym len) w)

  -- whether a minus right before no number opens the 65th level
  pub minus_told : {E : Type 0} (r : Result Bool E) → begins (token_in (sign 16)) (drop k tokens) ≡ true → begins (token_in number) (drop (k + 1) tokens) ≡ false → IfOk r (λ b. Tells b (StopsBehind (before ++ token_of_code 255 ∷ []) (length before) true)) → IfOk r (λ b. Tells b (IsDeepMinus tokens k))
  minus_told (Ok true) m n f = record { minus = m; apart = n; name = to_front f }
  minus_told (Ok false) m n f = λ w. f (from_front w.name)
  minus_told (Err x) m n f = tt

-- another token is no such minus, nor is one before a number
pub no_minus : (tokens : List Token) (k : ℕ) → begins (token_in (sign 16)) (drop k tokens) ≡ false → IsDeepMinus tokens k → ⊥
no_minus tokens k e w = true_false (begins (token_in (sign 16)) (drop k tokens)) w.minus e

pub no_apart : (tokens : List Token) (k : ℕ) → begins (token_in number) (drop (k + 1) tokens) ≡ true → IsDeepMinus tokens k → ⊥
no_apart tokens k e w = true_false (begins (token_in number) (drop (k + 1) tokens)) e w.apart

pub before_told : {E : Type 0} (tokens : List Token) (k : ℕ) (r : Result Bool E) → 0 < k → IfOk r (λ b. Tells b (IsDeepMinus tokens (k - 1))) → IfOk r (λ b. Tells b (EndsInDeepMinus tokens k))
before_told tokens k (Ok true) h f = (h, f)
before_told tokens k (Ok false) h f = λ w. f w.1
before_told tokens k (Err x) h f = tt

-- with more levels a name goes on behind such a minus
pub last_minus : (tokens : List Token) (k : ℕ) → IsDeepMinus tokens k → IsLastMinus tokens k
last_minus tokens k w =
    let text = take (k + 1) tokens ++ token_of_code 255 ∷ [] in
    record { minus = w.minus; apart = w.apart; more = subst (NeedsMore text) (omega (arith, w.name.inside)) (needs_more text (record { is_deep = true; left = length text - (k + 1) }) w.name.read refl) }

module _ (xs : List Token) (s : Stop) (few_are : NotFull xs) (e : whole (file_within 4096 64) xs ≡ Err s) where
  stops : whole (file 64) xs ≡ Err s
  stops = whole_same xs few_are ∙ e

  pub stop_deep : s.is_deep ≡ true → NeedsMore xs (length xs - s.left)
  stop_deep d = needs_more xs s stops d

  pub stop_refused : s.is_deep ≡ false → IsFirstRefused xs (length xs - s.left)
  stop_refused d = first_refused xs s stops d

  pub stop_inside : s.left ≤ length xs
  stop_inside = left_inside xs s stops

  pub stop_viable : IsViable (File 66) (take (length xs - s.left) xs)
  stop_viable = viable_before xs s stops

  pub stop_near : (k : ℕ) → k ≡ length xs - s.left → IsNear xs k
  stop_near k at = subst (λ (j : ℕ). IsViable (File 66) (take j xs)) (sym at) stop_viable

-- what stands before the last of some tokens that are near is near
before_near : (xs : List Token) (k : ℕ) → IsNear xs k → IsNear xs (k - 1)
before_near xs k v =
    let fewer : take (k - 1) (take k xs) ≡ take (k - 1) xs = take-take (k - 1) k xs (omega arith) in
    let all : take k xs ≡ take (k - 1) xs ++ drop (k - 1) (take k xs) = sym (take-append-drop (k - 1) (take k xs)) ∙ ap (λ (l : List Token). l ++ drop (k - 1) (take k xs)) fewer in
    (drop (k - 1) (take k xs) ++ v.0, v.1, subst (File 66 v.1) (ap (λ (l : List Token). l ++ v.0) all ∙ append_assoc (take (k - 1) xs) (drop (k - 1) (take k xs)) v.0) v.2)

module _ (xs : List Token) (s : Stop) (few_are : NotFull xs) (e : whole (file_within 4096 64) xs ≡ Err s) (k : ℕ) (at : k ≡ length xs - s.left) where
  near : IsNear xs k
  near = stop_near xs s few_are e k at

  stopped_here : (d : Bool) → s.is_deep ≡ d → StopsBehind xs k d
  stopped_here d h = stops_behind xs s (whole_same xs few_are ∙ e) k at (stop_inside xs s few_are e) d h

  module _ (p : Pos) (place : p ≡ place_at xs k) (apart : EndsInDeepMinus xs k → ⊥) where
    pub refusal_deep : s.is_deep ≡ true → IsDeep xs p
    refusal_deep d = record {
      k = k;
      place = place;
      opens = inl (stopped_here true d, apart);
      more = inl (subst (NeedsMore xs) (sym at) (stop_deep xs s few_are e d));
      near = near;
      few = few xs few_are;
    }

    pub refusal_syntax : (before : List Token) (n : ℕ) → s.is_deep ≡ false → before ≡ take k xs → IsCode n × (n ≤ 255) → IsLeastCode before n → IsSyntax xs p n
    refusal_syntax before n d is code least = record {
      k = k;
      place = place;
      first = subst (IsFirstRefused xs) (sym at) (stop_refused xs s few_are e d);
      stops = (stopped_here false d, apart);
      code = code;
      least = subst (λ (l : List Token). IsLeastCode l n) is least;
      near = near;
      few = few xs few_are;
    }

  pub refusal_minus : EndsInDeepMinus xs k → (p : Pos) → p ≡ place_at xs (k - 1) → IsDeep xs p
  refusal_minus m p place = record {
    k = k - 1;
    place = place;
    opens = inr (s.is_deep, subst (λ (j : ℕ). StopsBehind xs j s.is_deep) (omega (arith, m.0)) (stopped_here s.is_deep refl), m.1);
    more = inr (last_minus xs (k - 1) m.1);
    near = before_near xs k near;
    few = few xs few_are;
  }

pub front_viable : (xs : List Token) (s : Stop) → NotFull xs → whole (file_within 4096 64) xs ≡ Err s → (k : ℕ) → k ≡ length xs - s.left → (before : List Token) → before ≡ take k xs → IsViable (File 66) before
front_viable xs s few_are e k at before is = subst (IsViable (File 66)) (sym is) (stop_near xs s few_are e k at)

pub refusal_many : (xs : List Token) (k : ℕ) → IsTooMany xs k → (p : Pos) → p ≡ place_at xs k → IsRefusal xs (errors.TooMany p)
refusal_many xs k m p place = (k, place, m)

-- tokens that were refused are no program
pub none_of : (xs : List Token) (s : Stop) (p : Program) → whole (file_within 4096 64) xs ≡ Err s → File 64 p xs → length p.decls ≤ 4096 → ⊥
none_of xs s p e f le = let h = within_only xs p f le in absurd cc

pub one_of : (xs : List Token) (p q : Program) → whole (file_within 4096 64) xs ≡ Ok q → File 64 p xs → length p.decls ≤ 4096 → q ≡ p
one_of xs p q e f le = fine_is q p (sym e ∙ within_only xs p f le)
