-- What is printed of an expression is lexed as its pieces.
use Rattle.std.proofs.Common.{◌≡◌, ℕ, suc, nat_lt, Bool, true, false, List, [], ◌∷◌, ◌++◌, refl, sym, subst, append_assoc}
use Rattle.std.specs.Prelude.{ℤ, pos, negsuc, ◌==◌, not, if◌then◌else◌}
use Rattle.std.proofs.lemmas.Bool.{and_parts, and_from}
use Rattle.pl_syntax.specs.Tree as t
use Rattle.pl_syntax.specs.Tree.{Expr}
use Rattle.pl_print.specs.ExprText.{tightness, left_place, right_place}
use Rattle.pl_printed.proofs.Laid.{Piece, Gap, Line, Mark, Named, Count, sign_of, enclosed, laid, laid_int}
use Rattle.pl_printed.proofs.Touching.{is_word, joins, ends_word, ends_number, may_touch, touching, closes}

-- what may stand behind any text: it begins with what closes
abbrev pub Behind : List Piece → Type 0
Behind [] = ⊥
Behind (q ∷ qs) = (closes q ≡ true) × (touching (q ∷ qs) ≡ true)

-- a text that begins with what may stand behind a symbol
abbrev pub Opens : List Piece → Type 0
Opens [] = ⊥
Opens (q ∷ qs) = joins q ≡ false

-- pieces that are apart, whatever closes them
pub record Neat (ps : List Piece) : Type 0 where
  pub opens : Opens ps
  pub apart : (rest : List Piece) → Behind rest → touching (ps ++ rest) ≡ true

pub closed_word : (q : Piece) → closes q ≡ true → ends_word q ≡ true
closed_word Gap e = refl
closed_word Line e = refl
closed_word (Mark n) e = (and_parts (not (is_word n)) (not (joins (Mark n))) e).0
closed_word (Named x) e = absurd cc
closed_word (Count n) e = absurd cc

closed_number : (q : Piece) → closes q ≡ true → ends_number q ≡ true
closed_number Gap e = refl
closed_number Line e = refl
closed_number (Mark n) e = refl
closed_number (Named x) e = absurd cc
closed_number (Count n) e = absurd cc

closed_symbol : (q : Piece) → closes q ≡ true → not (joins q) ≡ true
closed_symbol Gap e = refl
closed_symbol Line e = refl
closed_symbol (Mark n) e = (and_parts (not (is_word n)) (not (joins (Mark n))) e).1
closed_symbol (Named x) e = absurd cc
closed_symbol (Count n) e = absurd cc

sign_closed : (b : Bool) (q : Piece) → closes q ≡ true → (if b then ends_word q else not (joins q)) ≡ true
sign_closed true q e = closed_word q e
sign_closed false q e = closed_symbol q e

-- all pieces may stand before what closes
pub before_closing : (p q : Piece) → closes q ≡ true → may_touch p q ≡ true
before_closing Gap q e = refl
before_closing Line q e = refl
before_closing (Mark n) q e = sign_closed (is_word n) q e
before_closing (Named x) q e = closed_word q e
before_closing (Count n) q e = closed_number q e

-- one piece more in front of what closes
pub push_closed : (p : Piece) (rest : List Piece) → Behind rest → touching (p ∷ rest) ≡ true
push_closed p [] b = absurd b
push_closed p (q ∷ qs) b = and_from (may_touch p q) (touching (q ∷ qs)) (before_closing p q b.0) b.1

pub one_neat : (p : Piece) → joins p ≡ false → Neat (p ∷ [])
one_neat p h = record { opens = h; apart = λ rest b. push_closed p rest b }

pub symbol_touch : (n : ℕ) (q : Piece) → is_word n ≡ false → joins q ≡ false → may_touch (Mark n) q ≡ true
symbol_touch n q w j = rw (w, j) refl

-- a symbol in front of a neat text
symbol_front : (n : ℕ) (ps rest : List Piece) → is_word n ≡ false → Opens ps → touching (ps ++ rest) ≡ true → touching (Mark n ∷ (ps ++ rest)) ≡ true
symbol_front n [] rest w o h = absurd o
symbol_front n (q ∷ ps) rest w o h = and_from (may_touch (Mark n) q) (touching (q ∷ (ps ++ rest))) (symbol_touch n q w o) h

pub gap_front : (ps : List Piece) → touching ps ≡ true → touching (Gap ∷ ps) ≡ true
gap_front [] h = refl
gap_front (q ∷ ps) h = h

gap_behind : (ps : List Piece) → touching ps ≡ true → Behind (Gap ∷ ps)
gap_behind ps h = (refl, gap_front ps h)

opens-append : (ps rest : List Piece) → Opens ps → Opens (ps ++ rest)
opens-append [] rest o = absurd o
opens-append (q ∷ ps) rest o = o

bracket_neat : (ps : List Piece) → Neat ps → Neat (Mark 0 ∷ (ps ++ Mark 1 ∷ []))
bracket_neat ps n = record {
  opens = refl;
  apart = λ rest b.
      let closed : Behind (Mark 1 ∷ rest) = (refl, push_closed (Mark 1) rest b) in
      let inner : touching (ps ++ (Mark 1 ∷ rest)) ≡ true = n.apart (Mark 1 ∷ rest) closed in
      let all = symbol_front 0 ps (Mark 1 ∷ rest) refl n.opens inner in
      subst (λ (z : List Piece). touching (Mark 0 ∷ z) ≡ true) (sym (append_assoc ps (Mark 1 ∷ []) rest)) all;
}

pub enclosed_neat : (q : Bool) (ps : List Piece) → Neat ps → Neat (enclosed q ps)
enclosed_neat true ps n = bracket_neat ps n
enclosed_neat false ps n = n

minus_neat : (ps : List Piece) → Neat ps → Neat (Mark 16 ∷ ps)
minus_neat ps n = record { opens = refl; apart = λ rest b. symbol_front 16 ps rest refl n.opens (n.apart rest b) }

not_neat : (ps : List Piece) → Neat ps → Neat (Mark 51 ∷ Gap ∷ ps)
not_neat ps n = record { opens = refl; apart = λ rest b. push_closed (Mark 51) (Gap ∷ (ps ++ rest)) (gap_behind (ps ++ rest) (n.apart rest b)) }

between_neat : (o : ℕ) (xs ys : List Piece) → Neat xs → Neat ys → Neat (xs ++ (Gap ∷ Mark o ∷ Gap ∷ ys))
between_neat o xs ys n m = record {
  opens = opens-append xs (Gap ∷ Mark o ∷ Gap ∷ ys) n.opens;
  apart = λ rest b.
      let last = push_closed (Mark o) (Gap ∷ (ys ++ rest)) (gap_behind (ys ++ rest) (m.apart rest b)) in
      let all = n.apart (Gap ∷ Mark o ∷ Gap ∷ (ys ++ rest)) (gap_behind (Mark o ∷ Gap ∷ (ys ++ rest)) last) in
      subst (λ (z : List Piece). touching z ≡ true) (sym (append_assoc xs (Gap ∷ Mark o ∷ Gap ∷ ys) rest)) all;
}

int_neat : (p : ℕ) (n : ℤ) → Neat (laid_int p n)
int_neat p (pos n) = enclosed_neat (p == 7) (Count n ∷ []) (one_neat (Count n) refl)
int_neat p (negsuc n) = minus_neat (Count (suc n) ∷ []) (one_neat (Count (suc n)) refl)

-- the pieces of an expression are apart
pub neat : (p : ℕ) (e : Expr) → Neat (laid p e)
neat p (t.Int at n) = int_neat p n
neat p (t.Truth at true) = one_neat (Mark 52) refl
neat p (t.Truth at false) = one_neat (Mark 53) refl
neat p (t.Null at) = one_neat (Mark 54) refl
neat p (t.Var at x) = one_neat (Named x) refl
neat p (t.Neg at e) = minus_neat (laid 7 e) (neat 7 e)
neat p (t.Not at e) = not_neat (laid 6 e) (neat 6 e)
neat p (t.Bin at o a b) =
    enclosed_neat (nat_lt (tightness o) p) (laid (left_place o) a ++ (Gap ∷ Mark (sign_of o) ∷ Gap ∷ laid (right_place o) b))
    (between_neat (sign_of o) (laid (left_place o) a) (laid (right_place o) b) (neat (left_place o) a) (neat (right_place o) b))
