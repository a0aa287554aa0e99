-- Texts that are put together of their parts: what is owed of the whole is computed from what each part is.
use Rattle.std.proofs.Common.{◌≡◌, ◌∙◌, ℕ, ◌^◌, ◌<◌, ◌&&◌, Bool, true, false, List, [], ◌∷◌, ◌++◌, refl, sym, ap, subst, append_assoc, append-nil}
use Rattle.std.specs.Prelude.{nat_lt, not, if◌then◌else◌, codes, decimal, pos}
use Rattle.std.proofs.lemmas.Bool.{and_parts, and_from, ltb-true}
use Rattle.pl_lexer.specs.Proper.{IsName}
use Rattle.pl_lexer.specs.declared.tokens.Kind.{Kind}
use Rattle.pl_lexer.specs.declared.tokens.Kind.TheVariants as k
use Rattle.pl_syntax.specs.Tree.{Name}
use Rattle.pl_printed.proofs.Laid.{Piece, Gap, Line, Mark, Named, Count, kinds}
use Rattle.pl_printed.proofs.Spelled.{sign_text, bytes}
use Rattle.pl_printed.proofs.Touching.{is_word, joins, ends_word, may_touch, touching, closes, AreProper}
use Rattle.pl_printed.proofs.Parts.{kinds-append}
use Rattle.pl_printed.proofs.Texts.{bytes-append}
use Rattle.pl_printed.proofs.Touch.{Behind, Opens, Neat, push_closed}

-- a text, with the pieces of which it is
pub record Text (text : List ℕ) : Type 0 where
  pub pieces : List Piece
  pub spelled : bytes pieces ≡ text
  pub proper : AreProper pieces
  pub neat : Neat pieces

-- a text that is empty or begins with what closes any text
pub record Clause (text : List ℕ) : Type 0 where
  pub pieces : List Piece
  pub spelled : bytes pieces ≡ text
  pub proper : AreProper pieces
  pub keeps : (rest : List Piece) → Behind rest → Behind (pieces ++ rest)

-- a part of a text
pub data Member : Type 0 where
  gap : Member
  line : Member
  mark : (n : ℕ) → Member
  named : (x : Name) (h : IsName x) → Member
  count : (n : ℕ) (h : n < 2 ^ 127) → Member
  part : (text : List ℕ) (t : Text text) → Member
  clause : (text : List ℕ) (c : Clause text) → Member

abbrev pub pieces_of : List Member → List Piece
pieces_of [] = []
pieces_of (gap ∷ ms) = Gap ∷ pieces_of ms
pieces_of (line ∷ ms) = Line ∷ pieces_of ms
pieces_of (mark n ∷ ms) = Mark n ∷ pieces_of ms
pieces_of (named x h ∷ ms) = Named x ∷ pieces_of ms
pieces_of (count n h ∷ ms) = Count n ∷ pieces_of ms
pieces_of (part text t ∷ ms) = t.pieces ++ pieces_of ms
pieces_of (clause text c ∷ ms) = c.pieces ++ pieces_of ms

abbrev pub text_of : List Member → List ℕ
text_of [] = []
text_of (gap ∷ ms) = codes " " ++ text_of ms
text_of (line ∷ ms) = codes "\n" ++ text_of ms
text_of (mark n ∷ ms) = sign_text n ++ text_of ms
text_of (named x h ∷ ms) = x ++ text_of ms
text_of (count n h ∷ ms) = decimal n ++ text_of ms
text_of (part text t ∷ []) = text
text_of (part text t ∷ m ∷ ms) = text ++ text_of (m ∷ ms)
text_of (clause text c ∷ []) = text
text_of (clause text c ∷ m ∷ ms) = text ++ text_of (m ∷ ms)

abbrev pub kinds_in : List Member → List Kind
kinds_in [] = []
kinds_in (gap ∷ ms) = kinds_in ms
kinds_in (line ∷ ms) = kinds_in ms
kinds_in (mark n ∷ ms) = k.Sign n ∷ kinds_in ms
kinds_in (named x h ∷ ms) = k.Word x ∷ kinds_in ms
kinds_in (count n h ∷ ms) = k.Number (pos n) ∷ kinds_in ms
kinds_in (part text t ∷ []) = kinds t.pieces
kinds_in (part text t ∷ m ∷ ms) = kinds t.pieces ++ kinds_in (m ∷ ms)
kinds_in (clause text c ∷ []) = kinds c.pieces
kinds_in (clause text c ∷ m ∷ ms) = kinds c.pieces ++ kinds_in (m ∷ ms)

-- a piece that may stand where the member may: a number stands for any text, and a blank for any clause
abbrev pub front : Member → Piece
front gap = Gap
front line = Line
front (mark n) = Mark n
front (named x h) = Named x
front (count n h) = Count n
front (part text t) = Count 0
front (clause text c) = Gap

-- whether a sign is in the list
abbrev pub is_known : Member → Bool
is_known (mark n) = nat_lt n 101
is_known _ = true

-- whether n may stand behind m
abbrev pub meets : Member → Member → Bool
meets (part text t) n = closes (front n)
meets (clause text c) n = closes (front n)
meets m n = may_touch (front m) (front n)

abbrev pub links : List Member → Bool
links [] = true
links (m ∷ []) = is_known m
links (m ∷ n ∷ ms) = is_known m && (meets m n && links (n ∷ ms))

-- whether a text may begin with the member
abbrev pub opens_with : Member → Bool
opens_with (clause text c) = false
opens_with m = not (joins (front m))

-- whether the members make a text
abbrev pub fine : List Member → Bool
fine [] = false
fine (m ∷ ms) = opens_with m && links (m ∷ ms)

-- whether they make a clause
abbrev pub closing : List Member → Bool
closing [] = true
closing (m ∷ ms) = closes (front m) && links (m ∷ ms)

-- ---- pieces that are apart

number_sign : (b : Bool) (q : Piece) → joins q ≡ false → (if b then false else true) ≡ true → (if b then ends_word q else not (joins q)) ≡ true
number_sign true q j e = absurd cc
number_sign false q j e = rw j refl

-- where a number may stand any text may
number_touch : (p q : Piece) → joins q ≡ false → may_touch p (Count 0) ≡ true → may_touch p q ≡ true
number_touch Gap q j e = refl
number_touch Line q j e = refl
number_touch (Mark n) q j e = number_sign (is_word n) q j e
number_touch (Named x) q j e = absurd cc
number_touch (Count n) q j e = absurd cc

text_touch : (p : Piece) (ps xs : List Piece) → Opens ps → may_touch p (Count 0) ≡ true → touching (ps ++ xs) ≡ true → touching (p ∷ (ps ++ xs)) ≡ true
text_touch p [] xs o e h = absurd o
text_touch p (q ∷ ps) xs o e h = and_from (may_touch p q) (touching (q ∷ (ps ++ xs))) (number_touch p q o e) h

-- pieces that may stand wherever q may
record Leads (q : Piece) (zs : List Piece) : Type 0 where
  touch : (p : Piece) → may_touch p q ≡ true → touching (p ∷ zs) ≡ true
  behind : closes q ≡ true → Behind zs

leads_piece : (q : Piece) (zs : List Piece) → touching (q ∷ zs) ≡ true → Leads q (q ∷ zs)
leads_piece q zs h = record { touch = λ p e. and_from (may_touch p q) (touching (q ∷ zs)) e h; behind = λ e. (e, h) }

leads_text : (text : List ℕ) (t : Text text) (zs : List Piece) → Behind zs → Leads (Count 0) (t.pieces ++ zs)
leads_text text t zs b = record { touch = λ p e. text_touch p t.pieces zs t.neat.opens e (t.neat.apart zs b); behind = λ e. absurd (let h : false ≡ true = e in cc) }

leads_clause : (text : List ℕ) (c : Clause text) (zs : List Piece) → Behind zs → Leads Gap (c.pieces ++ zs)
leads_clause text c zs b = let d = c.keeps zs b in record { touch = λ p e. push_closed p (c.pieces ++ zs) d; behind = λ e. d }

-- what has to stand behind a member
abbrev Follow : Member → List Piece → Type 0
Follow (part text t) zs = Behind zs
Follow (clause text c) zs = Behind zs
Follow m zs = touching (front m ∷ zs) ≡ true

one_more : (m : Member) (ms : List Member) (rest : List Piece) → Follow m (pieces_of ms ++ rest) → Leads (front m) (pieces_of (m ∷ ms) ++ rest)
one_more gap ms rest f = leads_piece Gap (pieces_of ms ++ rest) f
one_more line ms rest f = leads_piece Line (pieces_of ms ++ rest) f
one_more (mark n) ms rest f = leads_piece (Mark n) (pieces_of ms ++ rest) f
one_more (named x h) ms rest f = leads_piece (Named x) (pieces_of ms ++ rest) f
one_more (count n h) ms rest f = leads_piece (Count n) (pieces_of ms ++ rest) f
one_more (part text t) ms rest f = subst (λ (z : List Piece). Leads (Count 0) z) (sym (append_assoc t.pieces (pieces_of ms) rest)) (leads_text text t (pieces_of ms ++ rest) f)
one_more (clause text c) ms rest f = subst (λ (z : List Piece). Leads Gap z) (sym (append_assoc c.pieces (pieces_of ms) rest)) (leads_clause text c (pieces_of ms ++ rest) f)

at_end : (m : Member) (rest : List Piece) → Behind rest → Follow m rest
at_end gap rest b = push_closed Gap rest b
at_end line rest b = push_closed Line rest b
at_end (mark n) rest b = push_closed (Mark n) rest b
at_end (named x h) rest b = push_closed (Named x) rest b
at_end (count n h) rest b = push_closed (Count n) rest b
at_end (part text t) rest b = b
at_end (clause text c) rest b = b

follows : (m n : Member) (zs : List Piece) → meets m n ≡ true → Leads (front n) zs → Follow m zs
follows gap n zs e l = l.touch Gap e
follows line n zs e l = l.touch Line e
follows (mark j) n zs e l = l.touch (Mark j) e
follows (named x h) n zs e l = l.touch (Named x) e
follows (count j h) n zs e l = l.touch (Count j) e
follows (part text t) n zs e l = l.behind e
follows (clause text c) n zs e l = l.behind e

leads : (m : Member) (ms : List Member) → links (m ∷ ms) ≡ true → (rest : List Piece) → Behind rest → Leads (front m) (pieces_of (m ∷ ms) ++ rest)
leads m [] e rest b = one_more m [] rest (at_end m rest b)
leads m (n ∷ ms) e rest b =
    let a = and_parts (is_known m) (meets m n && links (n ∷ ms)) e in
    let c = and_parts (meets m n) (links (n ∷ ms)) a.1 in
    one_more m (n ∷ ms) rest (follows m n (pieces_of (n ∷ ms) ++ rest) c.0 (leads n ms c.1 rest b))

behind_gap : (zs : List Piece) → touching (Gap ∷ zs) ≡ true → touching zs ≡ true
behind_gap [] h = refl
behind_gap (q ∷ qs) h = h

opens_append : (ps rest : List Piece) → Opens ps → Opens (ps ++ rest)
opens_append [] rest o = absurd o
opens_append (q ∷ ps) rest o = o

not_true : (b : Bool) → not b ≡ true → b ≡ false
not_true true e = absurd cc
not_true false e = refl

opens_of : (m : Member) (ms : List Member) → opens_with m ≡ true → Opens (pieces_of (m ∷ ms))
opens_of gap ms e = refl
opens_of line ms e = refl
opens_of (mark n) ms e = not_true (joins (Mark n)) e
opens_of (named x h) ms e = refl
opens_of (count n h) ms e = refl
opens_of (part text t) ms e = opens_append t.pieces (pieces_of ms) t.neat.opens
opens_of (clause text c) ms e = absurd cc

neat_of : (ms : List Member) → fine ms ≡ true → Neat (pieces_of ms)
neat_of [] e = absurd cc
neat_of (m ∷ ms) e =
    let a = and_parts (opens_with m) (links (m ∷ ms)) e in
    record {
      opens = opens_of m ms a.0;
      apart = λ rest b. behind_gap (pieces_of (m ∷ ms) ++ rest) ((leads m ms a.1 rest b).touch Gap refl);
    }

keeps_of : (ms : List Member) → closing ms ≡ true → (rest : List Piece) → Behind rest → Behind (pieces_of ms ++ rest)
keeps_of [] e rest b = b
keeps_of (m ∷ ms) e rest b =
    let a = and_parts (closes (front m)) (links (m ∷ ms)) e in
    (leads m ms a.1 rest b).behind a.0

-- ---- pieces that are proper

linked : (m : Member) (ms : List Member) → links (m ∷ ms) ≡ true → (is_known m ≡ true) × (links ms ≡ true)
linked m [] e = (e, refl)
linked m (n ∷ ms) e =
    let a = and_parts (is_known m) (meets m n && links (n ∷ ms)) e in
    (a.0, (and_parts (meets m n) (links (n ∷ ms)) a.1).1)

pub proper-append : (ps qs : List Piece) → AreProper ps → AreProper qs → AreProper (ps ++ qs)
proper-append [] qs h i = i
proper-append (p ∷ ps) qs h i = (h.0, proper-append ps qs h.1 i)

proper_one : (m : Member) (ms : List Member) → is_known m ≡ true → AreProper (pieces_of ms) → AreProper (pieces_of (m ∷ ms))
proper_one gap ms e i = (tt, i)
proper_one line ms e i = (tt, i)
proper_one (mark n) ms e i = (ltb-true n 101 e, i)
proper_one (named x h) ms e i = (h, i)
proper_one (count n h) ms e i = (h, i)
proper_one (part text t) ms e i = proper-append t.pieces (pieces_of ms) t.proper i
proper_one (clause text c) ms e i = proper-append c.pieces (pieces_of ms) c.proper i

proper_of : (ms : List Member) → links ms ≡ true → AreProper (pieces_of ms)
proper_of [] e = tt
proper_of (m ∷ ms) e = let l = linked m ms e in proper_one m ms l.0 (proper_of ms l.1)

-- ---- their text and their kinds

spelled_of : (ms : List Member) → bytes (pieces_of ms) ≡ text_of ms
spelled_of [] = refl
spelled_of (gap ∷ ms) = ap (λ (z : List ℕ). codes " " ++ z) (spelled_of ms)
spelled_of (line ∷ ms) = ap (λ (z : List ℕ). codes "\n" ++ z) (spelled_of ms)
spelled_of (mark n ∷ ms) = ap (λ (z : List ℕ). sign_text n ++ z) (spelled_of ms)
spelled_of (named x h ∷ ms) = ap (λ (z : List ℕ). x ++ z) (spelled_of ms)
spelled_of (count n h ∷ ms) = ap (λ (z : List ℕ). decimal n ++ z) (spelled_of ms)
spelled_of (part text t ∷ []) = ap bytes (append-nil t.pieces) ∙ t.spelled
spelled_of (part text t ∷ m ∷ ms) = bytes-append t.pieces (pieces_of (m ∷ ms)) ∙ ap (λ (z : List ℕ). z ++ bytes (pieces_of (m ∷ ms))) t.spelled ∙ ap (λ (z : List ℕ). text ++ z) (spelled_of (m ∷ ms))
spelled_of (clause text c ∷ []) = ap bytes (append-nil c.pieces) ∙ c.spelled
spelled_of (clause text c ∷ m ∷ ms) = bytes-append c.pieces (pieces_of (m ∷ ms)) ∙ ap (λ (z : List ℕ). z ++ bytes (pieces_of (m ∷ ms))) c.spelled ∙ ap (λ (z : List ℕ). text ++ z) (spelled_of (m ∷ ms))

kinds_are : (ms : List Member) → kinds (pieces_of ms) ≡ kinds_in ms
kinds_are [] = refl
kinds_are (gap ∷ ms) = kinds_are ms
kinds_are (line ∷ ms) = kinds_are ms
kinds_are (mark n ∷ ms) = ap (λ (z : List Kind). k.Sign n ∷ z) (kinds_are ms)
kinds_are (named x h ∷ ms) = ap (λ (z : List Kind). k.Word x ∷ z) (kinds_are ms)
kinds_are (count n h ∷ ms) = ap (λ (z : List Kind). k.Number (pos n) ∷ z) (kinds_are ms)
kinds_are (part text t ∷ []) = ap kinds (append-nil t.pieces)
kinds_are (part text t ∷ m ∷ ms) = kinds-append t.pieces (pieces_of (m ∷ ms)) ∙ ap (λ (z : List Kind). kinds t.pieces ++ z) (kinds_are (m ∷ ms))
kinds_are (clause text c ∷ []) = ap kinds (append-nil c.pieces)
kinds_are (clause text c ∷ m ∷ ms) = kinds-append c.pieces (pieces_of (m ∷ ms)) ∙ ap (λ (z : List Kind). kinds c.pieces ++ z) (kinds_are (m ∷ ms))

-- ---- the whole

-- a text, and what its tokens are
pub record Printed (text : List ℕ) (Means : List Kind → Type 0) : Type 0 where
  pub parts : Text text
  pub means : Means (kinds parts.pieces)

-- a clause, and what its tokens are
pub record Written (text : List ℕ) (Means : List Kind → Type 0) : Type 0 where
  pub parts : Clause text
  pub means : Means (kinds parts.pieces)

pub printed_by : {Means : List Kind → Type 0} (ms : List Member) (text : List ℕ) → fine ms ≡ true → text_of ms ≡ text → Means (kinds_in ms) → Printed text Means
printed_by {Means = Means} ms text e is m = record {
  parts = record { pieces = pieces_of ms; spelled = spelled_of ms ∙ is; proper = proper_of ms (links_of ms e); neat = neat_of ms e };
  means = subst Means (sym (kinds_are ms)) m;
}
  where
    links_of : (ms : List Member) → fine ms ≡ true → links ms ≡ true
    links_of [] e = refl
    links_of (m ∷ ms) e = (and_parts (opens_with m) (links (m ∷ ms)) e).1

pub written_by : {Means : List Kind → Type 0} (ms : List Member) (text : List ℕ) → closing ms ≡ true → text_of ms ≡ text → Means (kinds_in ms) → Written text Means
written_by {Means = Means} ms text e is m = record {
  parts = record { pieces = pieces_of ms; spelled = spelled_of ms ∙ is; proper = proper_of ms (links_of ms e); keeps = keeps_of ms e };
  means = subst Means (sym (kinds_are ms)) m;
}
  where
    links_of : (ms : List Member) → closing ms ≡ true → links ms ≡ true
    links_of [] e = refl
    links_of (m ∷ ms) e = (and_parts (closes (front m)) (links (m ∷ ms)) e).1
