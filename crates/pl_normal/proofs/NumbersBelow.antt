-- Numbers that are the same below n say the same of all that is of atoms below n.
use Rattle.std.proofs.Common.{◌≡◌, ℕ, suc, ◌<◌, ◌≤◌, ◌+◌, ℤ, pos, ◌+ℤ◌, ◌≤ℤ◌, Bool, true, false, cond, List, [], ◌∷◌, length, get_or, Option, Some, None, inl, inr, refl, ap, sym, subst, ◌∙◌, arith, All}
use Rattle.std.specs.Str.{bytes_eq}
use Rattle.pl_syntax.specs.Tree.{Name}
use Rattle.pl_syntax.specs.Values.{Value, Vars}
use Rattle.pl_forms.specs.declared.form.Part.{Part}
use Rattle.pl_forms.specs.declared.form.Form.{Form}
use Rattle.pl_forms.specs.declared.fact.Shape.{Shape}
use Rattle.pl_forms.specs.declared.fact.Shape.TheVariants.{Zero, Below, Differs}
use Rattle.pl_forms.specs.declared.fact.Fact.{Fact}
use Rattle.pl_forms.specs.Forms.{value, parts_value}
use Rattle.pl_forms.specs.Facts.{MeetsShape, MeetsGuard, Meets, MeetsAll}
use Rattle.pl_forms.specs.Goals.{Goal, Truth, Plain, Both, Either, When, GoalWithin, MissesShape, IsTruth, Says}
use Rattle.pl_forms.specs.Places.{Within}
use Rattle.pl_normal.specs.declared.scope.Operands.{Operands}
use Rattle.pl_normal.specs.declared.scope.Binding.{Binding}
use Rattle.pl_normal.specs.Scope.{Atom, form_of, or_older, if_named}
use Rattle.pl_normal.specs.Normal.{Made}
use Rattle.pl_normal.specs.Meaning.{AreOlder, EachOlder, GuardWithin, FactWithin, InOrder, Means, EachMeans, NameAgrees, Agrees, SameBelow}

pub same_back : (n : ℕ) (u w : ℕ → ℤ) → SameBelow n u w → SameBelow n w u
same_back n u w s = record { same = λ k lt. sym (s.same k lt) }

pub same_less : (m n : ℕ) (u w : ℕ → ℤ) → m ≤ n → SameBelow n u w → SameBelow m u w
same_less m n u w h s = record { same = λ k lt. s.same k (omega arith) }

pub same_then : (m n : ℕ) (u v w : ℕ → ℤ) → m ≤ n → SameBelow m u v → SameBelow n v w → SameBelow m u w
same_then m n u v w h s t = record { same = λ k lt. t.same k (omega arith) ∙ s.same k lt }

pub same_all : (n : ℕ) (u : ℕ → ℤ) → SameBelow n u u
same_all n u = record { same = λ k lt. refl }

parts_same : (n : ℕ) (u w : ℕ → ℤ) (ps : List Part) → All (λ p. p.atom + 1 < n + 1) ps → SameBelow n u w → parts_value w ps ≡ parts_value u ps
parts_same n u w [] h s = refl
parts_same n u w (p ∷ ps) h s =
    let lt : p.atom + 1 < n + 1 = h 0 p (omega arith) in
    let e : w p.atom ≡ u p.atom = s.same p.atom (omega arith) in
    rw (e, parts_same n u w ps (λ k d lt. h (suc k) d (omega arith)) s) refl

pub value_same : (n : ℕ) (u w : ℕ → ℤ) (f : Form) → Within (n + 1) f → SameBelow n u w → value w f ≡ value u f
value_same n u w f h s = ap (λ z. z +ℤ f.constant) (parts_same n u w f.parts h s)

shape_same : (u w : ℕ → ℤ) (s : Shape) (f : Form) → value w f ≡ value u f → MeetsShape u s f → MeetsShape w s f
shape_same u w Zero f e m = e ∙ m
shape_same u w Below f e m = subst (λ z. z ≤ℤ pos 0) (sym e) m
shape_same u w Differs f e m = λ q. m (sym e ∙ q)

misses_same : (u w : ℕ → ℤ) (s : Shape) (f : Form) → value w f ≡ value u f → MissesShape u s f → MissesShape w s f
misses_same u w Zero f e m = λ q. m (sym e ∙ q)
misses_same u w Below f e m = subst (λ z. pos 1 ≤ℤ z) (sym e) m
misses_same u w Differs f e m = e ∙ m

truth_same : (u w : ℕ → ℤ) (b : Form) (h : Bool) → value w b ≡ value u b → IsTruth u b h → IsTruth w b h
truth_same u w b true e m = e ∙ m
truth_same u w b false e m = e ∙ m

pub says_same : (n : ℕ) (u w : ℕ → ℤ) (goal : Goal) (h : Bool) → GoalWithin (n + 1) goal → SameBelow n u w → Says u goal h → Says w goal h
says_same n u w (Truth b true) h g s m = truth_same u w b h (value_same n u w b g s) m
says_same n u w (Truth b false) true g s m = truth_same u w b false (value_same n u w b g s) m
says_same n u w (Truth b false) false g s m = truth_same u w b true (value_same n u w b g s) m
says_same n u w (Plain shape f) true g s m = shape_same u w shape f (value_same n u w f g s) m
says_same n u w (Plain shape f) false g s m = misses_same u w shape f (value_same n u w f g s) m
says_same n u w (Both a b) true g s m = (says_same n u w a true g.0 s m.0, says_same n u w b true g.1 s m.1)
says_same n u w (Both a b) false g s (inl m) = inl (says_same n u w a false g.0 s m)
says_same n u w (Both a b) false g s (inr m) = inr (says_same n u w b false g.1 s m)
says_same n u w (Either a b) true g s m = λ k. says_same n u w b true g.1 s (m (says_same n w u a false g.0 (same_back n u w s) k))
says_same n u w (Either a b) false g s m = (says_same n u w a false g.0 s m.0, says_same n u w b false g.1 s m.1)
says_same n u w (When k e) true g s m = λ one. says_same n u w e true g.1 s (m (sym (value_same n u w k g.0 s) ∙ one))
says_same n u w (When k e) false g s m = (value_same n u w k g.0 s ∙ m.0, says_same n u w e false g.1 s m.1)

guard_same : (n : ℕ) (u w : ℕ → ℤ) (g : Option Form) → GuardWithin (n + 1) g → SameBelow n u w → MeetsGuard u g → MeetsGuard w g
guard_same n u w None h s m = tt
guard_same n u w (Some g) h s m = value_same n u w g h s ∙ m

fact_same : (n : ℕ) (u w : ℕ → ℤ) (f : Fact) → FactWithin (n + 1) f → SameBelow n u w → Meets u f → Meets w f
fact_same n u w f h s m = record { said = λ g. shape_same u w f.shape f.form (value_same n u w f.form h.1 s) (m.said (guard_same n w u f.guard h.0 (same_back n u w s) g)) }

pub met_same : (n : ℕ) (u w : ℕ → ℤ) (facts : List Fact) → All (FactWithin (n + 1)) facts → SameBelow n u w → MeetsAll u facts → MeetsAll w facts
met_same n u w facts h s m = λ k d lt. fact_same n u w (get_or facts k d) (h k d lt) s (m k d lt)

older_is : (P : Form → Type 0) (b : Binding) (x : Name) (o : Option Form) (f : Form) → P b.form → (o ≡ Some f → P f) → or_older o (if_named x b) ≡ Some f → P f
older_is P b x (Some g) f h k e = k e
older_is P b x None f h k e = (elim (bytes_eq x b.name) as (λ t. cond t (Some b.form) None ≡ Some f → P f) [ true ↦ λ q. let same : b.form ≡ f = cc in subst P same h | false ↦ λ q. absurd cc ]) e

-- what is so of the forms of all names is so of the one that a name has
pub form_of_is : (P : Form → Type 0) (names : List Binding) (x : Name) (f : Form) → All (λ b. P b.form) names → form_of names x ≡ Some f → P f
form_of_is P [] x f h e = absurd cc
form_of_is P (b ∷ bs) x f h e = older_is P b x (form_of bs x) f (h 0 b (omega arith)) (λ q. form_of_is P bs x f (λ k d lt. h (suc k) d (omega arith)) q) e

name_same : (n : ℕ) (u w : ℕ → ℤ) (o : Option Form) (z : Option Value) → ((f : Form) → o ≡ Some f → Within (n + 1) f) → SameBelow n u w → NameAgrees u o z → NameAgrees w o z
name_same n u w (Some f) (Some z) h s m = value_same n u w f (h f refl) s ∙ m
name_same n u w (Some f) None h s m = tt
name_same n u w None (Some z) h s m = m
name_same n u w None None h s m = tt

means_same : (i : ℕ) (u w : ℕ → ℤ) (o : Option Operands) → AreOlder i o → SameBelow i u w → w i ≡ u i → Means u (u i) o → Means w (w i) o
means_same i u w None h s e m = tt
means_same i u w (Some o) h s e m = rw (e, value_same i u w o.left h.2 s, value_same i u w o.right h.3 s) m

each_same : (n i : ℕ) (u w : ℕ → ℤ) (atoms : List Atom) → i + length atoms ≤ n → EachOlder i atoms → SameBelow n u w → EachMeans u i atoms → EachMeans w i atoms
each_same n i u w [] le h s m = tt
each_same n i u w (a ∷ atoms) le h s m =
    (means_same i u w a.operands h.0 (same_less i n u w (omega arith) s) (s.same i (omega arith)) m.0, each_same n (i + 1) u w atoms (omega arith) h.1 s m.1)

-- numbers that agree may be changed at later atoms
pub agrees_same : (u w : ℕ → ℤ) (vars : Vars) (names : List Binding) (m : Made) → InOrder names m → SameBelow (length m.atoms) u w → Agrees u vars names m → Agrees w vars names m
agrees_same u w vars names m i s a = record {
  bound = λ x. name_same (length m.atoms) u w (form_of names x) (vars x) (λ f e. form_of_is (Within (length m.atoms + 1)) names x f i.names_within e) s (a.bound x);
  opaque = each_same (length m.atoms) 0 u w m.atoms (omega arith) i.operands s a.opaque;
  facts = met_same (length m.atoms) u w m.facts i.facts_within s a.facts;
}
