-- Solved forms in the places of fresh variables.
use Rattle.std.specs.Prelude.{ℕ, zero, suc, nat_eq, nat_lt, Bool, true, false, ◌&&◌, if◌then◌else◌, List, [], ◌∷◌, length, slice_get, Option, Some, None, Result, Ok}
use Rattle.std.specs.List.{All}
use Rattle.pl_syntax.specs.declared.expr.BinOp.{BinOp}
use Rattle.pl_syntax.specs.declared.expr.BinOp.TheVariants.{Mul}
use Rattle.pl_syntax.specs.Tree.{Expr}
use Rattle.pl_syntax.specs.Plain.{plain_expr}
use Rattle.pl_forms.specs.declared.form.Part.{Part}
use Rattle.pl_forms.specs.declared.form.Form.{Form}
use Rattle.pl_forms.specs.declared.form.TermError.{TermError}
use Rattle.pl_forms.specs.Forms.{atom_form, IsForm}
use Rattle.pl_forms.specs.Steps.{plus}
use Rattle.pl_normal.specs.declared.scope.Operands.{Operands}
use Rattle.pl_normal.specs.declared.scope.Atom as atom
use Rattle.pl_normal.specs.declared.putting.Shown as putting
use Rattle.pl_normal.specs.Scope.{Atom, Origin, Opaque}
use Rattle.pl_normal.specs.Normal.{Made, WithForm, put, then_form, same_form, product, opaque}

-- the solved form of a fresh variable
abbrev pub solved_for : List ℕ → List Form → ℕ → Option Form
solved_for [] ss a = None
solved_for (k ∷ ks) [] a = None
solved_for (k ∷ ks) (s ∷ ss) a = if nat_eq k a then Some s else solved_for ks ss a

-- an atom that was numbered before all of these variables holds none of them
abbrev pub is_older : List ℕ → ℕ → Bool
is_older [] a = true
is_older (k ∷ ks) a = if nat_lt a k then is_older ks a else false

abbrev pub stays : ℕ → Made → Result WithForm TermError
stays a m = Ok (record { form = atom_form a; made = m })

-- the multiples of what stands for each atom, added one by one; each sum is held to the limits
abbrev pub put_parts : (ℕ → Made → Result WithForm TermError) → List Part → Form → Made → Result WithForm TermError
put_parts one [] f m = Ok (record { form = f; made = m })
put_parts one (p ∷ ps) f m = then_form (one p.atom m) (λ g n. then_form (put n (plus f p.coeff g)) (λ h k. put_parts one ps h k))

abbrev pub put_form : (ℕ → Made → Result WithForm TermError) → Form → Made → Result WithForm TermError
put_form one f m = put_parts one f.parts (record { parts = []; constant = f.constant }) m

-- an operation, made again of other operands
abbrev pub again : Expr → BinOp → Form → Form → Made → Result WithForm TermError
again e Mul f g m = product e f g m
again e op f g m = Ok (opaque e op f g m)

-- an atom, made again where one of its operands changed
abbrev pub changed : Bool → Expr → BinOp → Form → Form → ℕ → Made → Result WithForm TermError
changed true e op f g a m = stays a m
changed false e op f g a m = again e op f g m

-- an atom as it is printed, with its operands
pub record Shown : Type 0 where
  pub e : Expr
  pub operands : Operands

abbrev pub shown_as : Origin → Option Operands → Option Shown
shown_as (Opaque e) (Some o) = Some (record { e = e; operands = o })
shown_as origin operands = None

abbrev pub shown_atom : Option Atom → Option Shown
shown_atom None = None
shown_atom (Some a) = shown_as a.origin a.operands

-- a variable and a new boolean stay
abbrev pub put_inside : (ℕ → Made → Result WithForm TermError) → Option Shown → ℕ → Made → Result WithForm TermError
put_inside one None a m = stays a m
put_inside one (Some s) a m =
    then_form (put_form one s.operands.left m)
    (λ f n. then_form (put_form one s.operands.right n) (λ g k. changed (same_form f s.operands.left && same_form g s.operands.right) s.e s.operands.op f g a k))

abbrev pub put_solved : (ℕ → Made → Result WithForm TermError) → Option Form → ℕ → Made → Result WithForm TermError
put_solved one (Some s) a m = Ok (record { form = s; made = m })
put_solved one None a m = put_inside one (shown_atom (slice_get m.atoms a)) a m

abbrev pub put_newer : (ℕ → Made → Result WithForm TermError) → List ℕ → List Form → ℕ → Made → Result WithForm TermError
put_newer one fresh solved a m = if is_older fresh a then stays a m else put_solved one (solved_for fresh solved a) a m

-- what stands for an atom; operands within operands are entered at most so often
abbrev pub put_atom : List ℕ → List Form → ℕ → ℕ → Made → Result WithForm TermError
put_atom fresh solved zero a m = stays a m
put_atom fresh solved (suc n) a m = put_newer (λ b k. put_atom fresh solved n b k) fresh solved a m

-- operands are older than their atom, so there are no more levels than atoms
abbrev pub put_in : List ℕ → List Form → Form → Made → Result WithForm TermError
put_in fresh solved f m = put_form (λ a k. put_atom fresh solved (length m.atoms) a k) f m

-- ---- of the program's own

abbrev pub plain_shown : putting.Shown → Shown
plain_shown s = record { e = plain_expr s.e; operands = s.operands }

-- the operands of atoms are forms
abbrev pub AreForms : Option Operands → Type 0
AreForms None = Unit {0}
AreForms (Some o) = IsForm o.left × IsForm o.right

abbrev pub AllForms : List atom.Atom → Type 0
AllForms atoms = All (λ a. AreForms a.operands) atoms

abbrev pub AreShown : Option putting.Shown → Type 0
AreShown None = Unit {0}
AreShown (Some s) = IsForm s.operands.left × IsForm s.operands.right
