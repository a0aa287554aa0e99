-- Starters without breaches are those of the functions with which threads begin.
use Rattle.std.proofs.Common.{◌≡◌, ◌∙◌, sym, ap, refl, ℕ, zero, suc, ◌+◌, ◌<◌, ◌==◌, ◌&&◌, ◌||◌, Bool, true, false, cond, drop, filter, Some, List, [], ◌∷◌, length, map, arith}
use Rattle.std.specs.Cmp.{unsigned_Decides}
use Rattle.std.specs.List.{AllByRecursion, list_any}
use Rattle.std.specs.Str.{bytes_eq}
use Rattle.std.proofs.lemmas.Bool.{and_parts}
use Rattle.std.proofs.lemmas.Slice.Eq.{bytes_eq-Decides}
use Rattle.c_syntax.specs.declared.kind.CType.{CType}
use Rattle.c_syntax.specs.Tree.{Name}
use Rattle.c_forms.specs.declared.source.Head.{Head}
use Rattle.c_forms.specs.declared.source.Param.{Param}
use Rattle.c_forms.specs.declared.source.Slot.{Slot}
use Rattle.c_forms.specs.declared.source.Starter.{Starter}
use Rattle.c_forms.specs.declared.word.Number.{Number}
use Rattle.c_forms.specs.declared.word.Number.TheVariants.{Small, Long}
use Rattle.c_forms.specs.Text.{arguments_struct, starter_text}
use Rattle.c_forms.specs.Tree as w
use Rattle.c_rules.specs.Groups.{among, are_numbered, funs_starts, has_function, has_struct, same_slot, same_slots, started, starter_breaches, starters_breaches}
use Rattle.c_rules.specs.Kinds.{same_type}
use Rattle.c_rules.specs.Sorts.{Structs, number_of, unless}
use Rattle.c_rules.proofs.ExprRules.{same_is, none_both}
use Rattle.c_reader.specs.Standing.{fun_of, param_of}
use Rattle.c_reader.proofs.Breachless.{holds}
use Rattle.c_reader.proofs.Missing.{Started}
use Rattle.c_reader.proofs.Starts.{among_is}
use Rattle.c_reader.proofs.Written as written

-- ---- one starter

digits : (k : ℕ) (d : Number) → 0 < k → number_of d ≡ k → Small k ≡ d
digits k (Small n) lt e = ap Small (sym e)
digits k (Long ds) lt e = absurd (omega arith)

-- the members for the arguments
slots_are : (k : ℕ) (ss : List Slot) (ps : List Param) → 0 < k → same_slots k ss ps ≡ true → written.slots k (map param_of ps) ≡ ss
slots_are k [] [] lt h = refl
slots_are k [] (p ∷ ps) lt h = cc
slots_are k (s ∷ ss) [] lt h = cc
slots_are k (s ∷ ss) (p ∷ ps) lt h =
    let parts = and_parts (same_slot k s (Some p)) (same_slots (k + 1) ss ps) h in
    let two = and_parts (same_type s.kind p.kind) (number_of s.number == k) parts.0 in
    let e = same_is s.kind p.kind two.0 in
    let n = digits k s.number lt ((unsigned_Decides (number_of s.number) k).0 two.1) in
    ap (λ (t : CType). record { kind = t; number = Small k } ∷ written.slots (k + 1) (map param_of ps)) (sym e)
    ∙ ap (λ (d : Number). record { kind = s.kind; number = d } ∷ written.slots (k + 1) (map param_of ps)) n
    ∙ ap (λ xs. s ∷ xs) (slots_are (k + 1) ss ps (omega arith) parts.1)

-- the arguments that are taken out
numbers_are : (k : ℕ) (ns : List Number) (ps : List Param) → 0 < k → are_numbered k ns ≡ true → length ns ≡ length ps → written.numbers k (map param_of ps) ≡ ns
numbers_are k [] [] lt h l = refl
numbers_are k [] (p ∷ ps) lt h l = cc
numbers_are k (n ∷ ns) [] lt h l = cc
numbers_are k (n ∷ ns) (p ∷ ps) lt h l =
    let parts = and_parts (number_of n == k) (are_numbered (k + 1) ns) h in
    let m : length ns ≡ length ps = cc in
    ap (λ (d : Number). d ∷ written.numbers (k + 1) (map param_of ps)) (digits k n lt ((unsigned_Decides (number_of n) k).0 parts.0))
    ∙ ap (λ xs. n ∷ xs) (numbers_are (k + 1) ns ps (omega arith) parts.1 m)

-- the starter of a function with that head
abbrev pub starter_of : Head → Starter
starter_of h = record {
  structure = h.name;
  slots = written.slots 1 (map param_of h.params);
  name = h.name;
  pointer = h.name;
  copy = h.name;
  function = h.name;
  arguments = written.numbers 1 (map param_of h.params);
}

-- a starter with its parts
abbrev of_parts : Name → List Slot → Name → Name → Name → Name → List Number → Starter
of_parts structure slots name pointer copy function arguments =
    record { structure = structure; slots = slots; name = name; pointer = pointer; copy = copy; function = function; arguments = arguments }

starter_is : (s : Starter) (h : Head) → has_struct s h ≡ true → has_function s h ≡ true → starter_of h ≡ s
starter_is s h a b =
    let name : (x : Name) → bytes_eq x h.name ≡ true → h.name ≡ x = λ x e. sym ((bytes_eq-Decides x h.name).0 e) in
    let one = and_parts (bytes_eq s.structure h.name) (same_slots 1 s.slots h.params) a in
    let A = bytes_eq s.name h.name in
    let B = bytes_eq s.pointer h.name in
    let C = bytes_eq s.copy h.name in
    let D = bytes_eq s.function h.name in
    let E = are_numbered 1 s.arguments in
    let F = length s.arguments == length h.params in
    let f = and_parts (A && B && C && D && E) F b in
    let e = and_parts (A && B && C && D) E f.0 in
    let d = and_parts (A && B && C) D e.0 in
    let c = and_parts (A && B) C d.0 in
    let p = and_parts A B c.0 in
    let slots = slots_are 1 s.slots h.params (omega arith) one.1 in
    let numbers = numbers_are 1 s.arguments h.params (omega arith) e.1 ((unsigned_Decides (length s.arguments) (length h.params)).0 f.1) in
    ap (λ x. of_parts x (written.slots 1 (map param_of h.params)) h.name h.name h.name h.name (written.numbers 1 (map param_of h.params))) (name s.structure one.0)
    ∙ ap (λ x. of_parts s.structure x h.name h.name h.name h.name (written.numbers 1 (map param_of h.params))) slots
    ∙ ap (λ x. of_parts s.structure s.slots x h.name h.name h.name (written.numbers 1 (map param_of h.params))) (name s.name p.0)
    ∙ ap (λ x. of_parts s.structure s.slots s.name x h.name h.name (written.numbers 1 (map param_of h.params))) (name s.pointer p.1)
    ∙ ap (λ x. of_parts s.structure s.slots s.name s.pointer x h.name (written.numbers 1 (map param_of h.params))) (name s.copy c.1)
    ∙ ap (λ x. of_parts s.structure s.slots s.name s.pointer s.copy x (written.numbers 1 (map param_of h.params))) (name s.function d.1)
    ∙ ap (λ x. of_parts s.structure s.slots s.name s.pointer s.copy s.function x) numbers

-- ---- starters in a row

found_starter : (at place : ℕ) (s : Starter) (h : Head) (b : Bool) → has_struct s h ≡ b → cond b (unless (has_function s h) place) (at ∷ []) ≡ [] → starter_of h ≡ s
found_starter at place s h false e k = cc
found_starter at place s h true e k = starter_is s h e (holds (has_function s h) place k)

-- no head is left behind them
starters_are : (at : ℕ) (ss : List Starter) (hs : List Head) → starters_breaches at ss hs ≡ [] → drop (length ss) hs ≡ [] → map starter_of hs ≡ ss
starters_are at [] hs h none = ap (map starter_of) none
starters_are at (s ∷ ss) [] h none = cc
starters_are at (s ∷ ss) (x ∷ hs) h none =
    let place = at + length (arguments_struct s) in
    let parts = none_both (starter_breaches at s (Some x)) (starters_breaches (at + length (starter_text s)) ss hs) h in
    ap (λ (y : Starter). y ∷ map starter_of hs) (found_starter at place s x (has_struct s x) refl parts.0)
    ∙ ap (λ xs. s ∷ xs) (starters_are (at + length (starter_text s)) ss hs parts.1 none)

-- ---- none is left

-- a name that is among these has a starter
has_starter : (missing : Name → Bool) (names : List Name) (q : Name) → Started missing names → list_any (bytes_eq q) names ≡ true → missing q ≡ false
has_starter missing [] q h k = cc
has_starter missing (x ∷ names) q h k = at (bytes_eq q x) refl k (λ l. has_starter missing names q h.1 l)
  where
    at : (b : Bool) → bytes_eq q x ≡ b → (b || list_any (bytes_eq q) names) ≡ true → (list_any (bytes_eq q) names ≡ true → missing q ≡ false) → missing q ≡ false
    at true e k rest = ap missing ((bytes_eq-Decides q x).0 e) ∙ h.0
    at false e k rest = rest k

-- each of these passes the test
all_pass : (names : List Name) (fs : List w.Fun) → AllByRecursion (λ h. among names h.name ≡ true) (map (λ f. f.head) (filter (λ f. among names f.head.name) fs))
all_pass names [] = tt
all_pass names (f ∷ fs) = at (among names f.head.name) refl (all_pass names fs)
  where
    at : (b : Bool) → among names f.head.name ≡ b → AllByRecursion (λ h. among names h.name ≡ true) (map (λ f. f.head) (filter (λ f. among names f.head.name) fs)) →
        AllByRecursion (λ h. among names h.name ≡ true) (map (λ f. f.head) (cond b (f ∷ filter (λ f. among names f.head.name) fs) (filter (λ f. among names f.head.name) fs)))
    at true e h = (e, h)
    at false e h = h

all_behind : {X : Type 0} (P : X → Type 0) (n : ℕ) (xs : List X) → AllByRecursion P xs → AllByRecursion P (drop n xs)
all_behind P zero xs h = h
all_behind P (suc n) [] h = tt
all_behind P (suc n) (x ∷ xs) h = all_behind P n xs h.1

gone : (names : List Name) (hs : List Head) → AllByRecursion (λ h. among names h.name ≡ true) hs → Started (among (map (λ h. h.name) hs)) names → hs ≡ []
gone names [] h k = refl
gone names (x ∷ hs) h k =
    let left = map (λ (y : Head). y.name) (x ∷ hs) in
    let there : among left x.name ≡ true = among_is left x.name ∙ ap (λ b. b || list_any (bytes_eq x.name) (map (λ (y : Head). y.name) hs)) ((bytes_eq-Decides x.name x.name).1 refl) in
    let not_there : among left x.name ≡ false = has_starter (among left) names x.name k (sym (among_is names x.name) ∙ h.0) in
    cc

none_left : (n : ℕ) (fs : List w.Fun) → Started (among (map (λ h. h.name) (drop n (started fs)))) (funs_starts fs) → drop n (started fs) ≡ []
none_left n fs h = gone (funs_starts fs) (drop n (started fs)) (all_behind (λ x. among (funs_starts fs) x.name ≡ true) n (started fs) (all_pass (funs_starts fs) fs)) h

-- ---- the starters of functions

again : (structs : Structs) (fs : List w.Fun) → map written.starter (map (fun_of structs) fs) ≡ map starter_of (map (λ f. f.head) fs)
again structs [] = refl
again structs (f ∷ fs) = ap (λ xs. starter_of f.head ∷ xs) (again structs fs)

pub starters_again : (structs : Structs) (at : ℕ) (ss : List Starter) (fs : List w.Fun) → starters_breaches at ss (started fs) ≡ [] →
    Started (among (map (λ h. h.name) (drop (length ss) (started fs)))) (funs_starts fs) → map written.starter (map (fun_of structs) (filter (λ f. among (funs_starts fs) f.head.name) fs)) ≡ ss
starters_again structs at ss fs h k = again structs (filter (λ f. among (funs_starts fs) f.head.name) fs) ∙ starters_are at ss (started fs) h (none_left (length ss) fs k)
