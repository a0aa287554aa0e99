-- What was made grows: atoms are only added, and numbers for them can be had.
use Rattle.std.proofs.Common.{◌≡◌, ℕ, suc, ◌<◌, ◌≤◌, ◌+◌, ℤ, Bool, List, [], ◌∷◌, ◌++◌, length, get_or, Option, Some, None, Result, Ok, Err, refl, sym, subst, arith, All, append_assoc, append-nil}
use Rattle.std.proofs.lemmas.List.{length-append}
use Rattle.pl_syntax.specs.Values.{Value, Vars}
use Rattle.pl_syntax.specs.Values as v
use Rattle.pl_forms.specs.Forms.{value, IsForm}
use Rattle.pl_normal.specs.Evaluation.{number_of}
use Rattle.pl_forms.specs.declared.form.Form.{Form}
use Rattle.pl_forms.specs.declared.form.TermError.{TermError}
use Rattle.pl_forms.specs.declared.fact.Shape.{Shape}
use Rattle.pl_forms.specs.declared.fact.Fact.{Fact}
use Rattle.pl_forms.specs.Facts.{IsFact}
use Rattle.pl_forms.specs.Goals.{Goal, Truth, Plain, Both, Either, When, EachForm, GoalWithin, Says}
use Rattle.pl_forms.specs.Places.{Within}
use Rattle.pl_normal.specs.declared.scope.Binding.{Binding}
use Rattle.pl_normal.specs.Scope.{Atom}
use Rattle.pl_normal.specs.Normal.{Made, WithForm, WithGoal, put, then_form, form_goal, then_goal, plain_goal, truth_goal}
use Rattle.pl_normal.specs.Meaning.{AreOlder, EachOlder, GuardWithin, FactWithin, InOrder, Means, EachMeans, Agrees, SameBelow, Grows, FormInOrder, GoalInOrder, agreeing}
use Rattle.pl_normal.proofs.NumbersBelow.{same_all, same_then}

-- ---- what comes before an Ok

pub then_form_is : (r : Result WithForm TermError) (f : Form → Made → Result WithForm TermError) (w : WithForm) → then_form r f ≡ Ok w → (q : WithForm) × (r ≡ Ok q) × (f q.form q.made ≡ Ok w)
then_form_is (Err e) f w h = absurd cc
then_form_is (Ok q) f w h = (q, refl, h)

pub form_goal_is : (r : Result WithForm TermError) (f : Form → Made → Result WithGoal TermError) (w : WithGoal) → form_goal r f ≡ Ok w → (q : WithForm) × (r ≡ Ok q) × (f q.form q.made ≡ Ok w)
form_goal_is (Err e) f w h = absurd cc
form_goal_is (Ok q) f w h = (q, refl, h)

pub then_goal_is : (r : Result WithGoal TermError) (f : Goal → Made → Result WithGoal TermError) (w : WithGoal) → then_goal r f ≡ Ok w → (q : WithGoal) × (r ≡ Ok q) × (f q.goal q.made ≡ Ok w)
then_goal_is (Err e) f w h = absurd cc
then_goal_is (Ok q) f w h = (q, refl, h)

pub put_is : (m : Made) (r : Result Form TermError) (w : WithForm) → put m r ≡ Ok w → (f : Form) × (r ≡ Ok f) × ((record { form = f; made = m }) ≡ w)
put_is m (Err e) w h = absurd cc
put_is m (Ok f) w h = (f, refl, cc)

pub plain_goal_is : (m : Made) (s : Shape) (r : Result Form TermError) (w : WithGoal) → plain_goal m s r ≡ Ok w → (f : Form) × (r ≡ Ok f) × ((record { goal = Plain s f; made = m }) ≡ w)
plain_goal_is m s (Err e) w h = absurd cc
plain_goal_is m s (Ok f) w h = (f, refl, cc)

pub truth_goal_is : (r : Result WithForm TermError) (t : Bool) (w : WithGoal) → truth_goal r t ≡ Ok w → (q : WithForm) × (r ≡ Ok q) × ((record { goal = Truth q.form t; made = q.made }) ≡ w)
truth_goal_is (Err e) t w h = absurd cc
truth_goal_is (Ok q) t w h = (q, refl, cc)

-- ---- atoms within a longer row

pub within_more : (m n : ℕ) (f : Form) → m ≤ n → Within m f → Within n f
within_more m n f le h = λ k d lt. let q : (get_or f.parts k d).atom + 1 < m = h k d lt in omega arith

each_form : (P Q : Form → Type 0) → ((f : Form) → P f → Q f) → (goal : Goal) → EachForm P goal → EachForm Q goal
each_form P Q h (Truth b t) e = h b e
each_form P Q h (Plain s f) e = h f e
each_form P Q h (Both a b) e = (each_form P Q h a e.0, each_form P Q h b e.1)
each_form P Q h (Either a b) e = (each_form P Q h a e.0, each_form P Q h b e.1)
each_form P Q h (When k g) e = (h k e.0, each_form P Q h g e.1)

pub goal_more : (m n : ℕ) (goal : Goal) → m ≤ n → GoalWithin m goal → GoalWithin n goal
goal_more m n goal le h = each_form (Within m) (Within n) (λ f e. within_more m n f le e) goal h

guard_more : (m n : ℕ) (g : Option Form) → m ≤ n → GuardWithin m g → GuardWithin n g
guard_more m n None le h = tt
guard_more m n (Some g) le h = within_more m n g le h

pub facts_more : (m n : ℕ) (facts : List Fact) → m ≤ n → All (FactWithin m) facts → All (FactWithin n) facts
facts_more m n facts le h = λ k d lt. let q : FactWithin m (get_or facts k d) = h k d lt in (guard_more m n (get_or facts k d).guard le q.0, within_more m n (get_or facts k d).form le q.1)

-- ---- one atom more

older_last : (i : ℕ) (atoms : List Atom) (a : Atom) → EachOlder i atoms → AreOlder (i + length atoms) a.operands → EachOlder i (atoms ++ a ∷ [])
older_last i [] a h o = let e : i + length {A = Atom} [] ≡ i = omega arith in (subst (λ n. AreOlder n a.operands) e o, tt)
older_last i (b ∷ atoms) a h o = let e : i + suc (length atoms) ≡ i + 1 + length atoms = omega arith in (h.0, older_last (i + 1) atoms a h.1 (subst (λ n. AreOlder n a.operands) e o))

pub means_last : (u : ℕ → ℤ) (i : ℕ) (atoms : List Atom) (a : Atom) → EachMeans u i atoms → Means u (u (i + length atoms)) a.operands → EachMeans u i (atoms ++ a ∷ [])
means_last u i [] a h o = let e : i + length {A = Atom} [] ≡ i = omega arith in (subst (λ n. Means u (u n) a.operands) e o, tt)
means_last u i (b ∷ atoms) a h o = let e : i + suc (length atoms) ≡ i + 1 + length atoms = omega arith in (h.0, means_last u (i + 1) atoms a h.1 (subst (λ n. Means u (u n) a.operands) e o))

-- what was made, with an atom more and these facts
abbrev pub with_atom : Made → Atom → List Fact → Made
with_atom m a facts = record { atoms = m.atoms ++ a ∷ []; facts = facts }

pub one_more : (m : Made) (a : Atom) (facts : List Fact) → length (with_atom m a facts).atoms ≡ length m.atoms + 1
one_more m a facts = omega (arith, length-append m.atoms (a ∷ []))

pub order_last :
    (names : List Binding) (m : Made) (a : Atom) (facts : List Fact) → InOrder names m → AreOlder (length m.atoms) a.operands → All IsFact facts
    → All (FactWithin (length m.atoms + 1 + 1)) facts → length facts ≤ 1024 → InOrder names (with_atom m a facts)
order_last names m a facts i o are within few =
    let e : length m.atoms + 1 ≡ length (with_atom m a facts).atoms = sym (one_more m a facts) in
    let z : length m.atoms ≡ 0 + length m.atoms = omega arith in
    record {
      names_are = i.names_are;
      names_within = λ k d lt. within_more (length m.atoms + 1) (length (m.atoms ++ a ∷ []) + 1) (get_or names k d).form (omega arith) (i.names_within k d lt);
      operands = older_last 0 m.atoms a i.operands (subst (λ n. AreOlder n a.operands) z o);
      facts_are = are;
      facts_within = subst (λ n. All (FactWithin (n + 1)) facts) e within;
      few = few;
    }

-- ---- growing

pub grows_not : (names : List Binding) (m : Made) → InOrder names m → Grows names m m
grows_not names m i = record { more = []; atoms = sym (append-nil m.atoms); in_order = i }

pub grows_then : (names : List Binding) (m n k : Made) → Grows names m n → Grows names n k → Grows names m k
grows_then names m n k g h = record { more = g.more ++ h.more; atoms = rw (h.atoms, g.atoms) (append_assoc m.atoms g.more h.more); in_order = h.in_order }

pub grows_length : (names : List Binding) (m n : Made) → Grows names m n → length m.atoms ≤ length n.atoms
grows_length names m n g = rw g.atoms (omega (arith, length-append m.atoms g.more))

-- ---- numbers for what was made after, of which more is so

pub record Has (u : ℕ → ℤ) (vars : Vars) (names : List Binding) (before after : Made) (P : (ℕ → ℤ) → Type 0) : Type 0 where
  pub numbers : ℕ → ℤ
  pub same : SameBelow (length before.atoms) u numbers
  pub agrees : Agrees numbers vars names after
  pub so : P numbers

-- nothing was made
pub has_none : (u : ℕ → ℤ) (vars : Vars) (names : List Binding) (m : Made) (P : (ℕ → ℤ) → Type 0) → Agrees u vars names m → P u → Has u vars names m m P
has_none u vars names m P a p = record { numbers = u; same = same_all (length m.atoms) u; agrees = a; so = p }

pub has_so : (u : ℕ → ℤ) (vars : Vars) (names : List Binding) (m n : Made) (P Q : (ℕ → ℤ) → Type 0) → ((w : ℕ → ℤ) → P w → Q w) → Has u vars names m n P → Has u vars names m n Q
has_so u vars names m n P Q f h = record { numbers = h.numbers; same = h.same; agrees = h.agrees; so = f h.numbers h.so }

pub has_last :
    (u : ℕ → ℤ) (vars : Vars) (names : List Binding) (m n k : Made) (P Q : (ℕ → ℤ) → Type 0) → Grows names m n → Has u vars names m n P
    → ((w : ℕ → ℤ) → Agrees w vars names n → P w → Has w vars names n k Q) → Has u vars names m k Q
has_last u vars names m n k P Q g h f =
    let q = f h.numbers h.agrees h.so in
    record { numbers = q.numbers; same = same_then (length m.atoms) (length n.atoms) u h.numbers q.numbers (grows_length names m n g) h.same q.same; agrees = q.agrees; so = q.so }

-- .. and what was so before is so still
pub has_both :
    (u : ℕ → ℤ) (vars : Vars) (names : List Binding) (m n k : Made) (P Q : (ℕ → ℤ) → Type 0) → Grows names m n
    → ((w z : ℕ → ℤ) → SameBelow (length n.atoms) w z → P w → P z) → Has u vars names m n P
    → ((w : ℕ → ℤ) → Agrees w vars names n → Has w vars names n k Q) → Has u vars names m k (λ w. P w × Q w)
has_both u vars names m n k P Q g s h f =
    has_last u vars names m n k P (λ w. P w × Q w) g h (λ w a p. let q = f w a in record { numbers = q.numbers; same = q.same; agrees = q.agrees; so = (s w q.numbers q.same p, q.so) })

-- a form in order, and numbers that give it this number of the numbers before
pub record Makes (names : List Binding) (m : Made) (r : WithForm) (z : (ℕ → ℤ) → ℤ) : Type 0 where
  pub in_order : FormInOrder names m r
  pub has : (u : ℕ → ℤ) (vars : Vars) → Agrees u vars names m → Has u vars names m r.made (λ w. value w r.form ≡ z u)

pub put_makes :
    (names : List Binding) (m : Made) (r : Result Form TermError) (w : WithForm) (z : (ℕ → ℤ) → ℤ) → InOrder names m
    → ((s : Form) → r ≡ Ok s → IsForm s × Within (length m.atoms + 1) s × ((u : ℕ → ℤ) → value u s ≡ z u)) → put m r ≡ Ok w → Makes names m w z
put_makes names m r w z i f h =
    let q = put_is m r w h in
    let s = f q.0 q.1 in
    subst (λ w. Makes names m w z) q.2 (record { in_order = (grows_not names m i, s.0, s.1); has = λ u vars a. has_none u vars names m (λ n. value n q.0 ≡ z u) a (s.2 u) })

-- what a step to a form, or to a duty, does: all is in order, and there are numbers for the value that it stands for

pub record FormGoes (names : List Binding) (z : Vars → Option Value) (m : Made) (r : WithForm) : Type 0 where
  pub in_order : FormInOrder names m r
  pub has : (u : ℕ → ℤ) (vars : Vars) (w : Value) → Agrees u vars names m → z vars ≡ Some w → Has u vars names m r.made (λ n. value n r.form ≡ number_of w)

pub record GoalGoes (names : List Binding) (z : Vars → Option Value) (h : Bool) (m : Made) (r : WithGoal) : Type 0 where
  pub in_order : GoalInOrder names m r
  pub has : (u : ℕ → ℤ) (vars : Vars) (t : Bool) → Agrees u vars names m → z vars ≡ Some (v.Truth t) → Has u vars names m r.made (λ n. Says n r.goal (agreeing h t))

abbrev pub FormStep : List Binding → (Vars → Option Value) → (Made → Result WithForm TermError) → Type 0
FormStep names z f = (m : Made) (r : WithForm) → InOrder names m → f m ≡ Ok r → FormGoes names z m r

abbrev pub GoalStep : List Binding → (Vars → Option Value) → (Bool → Made → Result WithGoal TermError) → Type 0
GoalStep names z f = (h : Bool) (m : Made) (r : WithGoal) → InOrder names m → f h m ≡ Ok r → GoalGoes names z h m r
